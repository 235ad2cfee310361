-- A call whose image was opened and whose request was read: from what the rule of its action says to what the call answers.
use Rattle.std.specs.Prelude.{ℕ, true, List, ◌≡◌, eqb, length, ◌≤◌, Some, Result, Err}
use Rattle.std.specs.Result.{IsErrAnd}
use Rattle.std.proofs.Common.{sym, ap, ◌∙◌, subst}
use Rattle.refusals.specs.Numbers.{number}
use Rattle.refusals.specs.declared.Refusal.{Refusal}
use Rattle.parts.specs.Answer.{longest, Answer, no, settle, Gave, gave_no, gave_exit}
use Rattle.parts.specs.Gather.{gather_of}
use Rattle.parts.specs.declared.Part.{Part}
use Rattle.parts.specs.declared.Lengths.{Lengths}
use Rattle.state.specs.Records.{State, valid_context}
use Rattle.state.specs.Setters.{set_revision}
use Rattle.machine.specs.Actions.{Outcome, Transition, rejected, accepted, decide}
use Rattle.machine.specs.Machine.{act, apply}
use Rattle.machine.proofs.ApplyLaws.{apply_accepts, apply_rejects}
use Rattle.image.specs.Contents.{answer}
use Rattle.image.specs.Layout.{decode_image, Formed}
use Rattle.image.specs.ImageParts.{tables_of, joined}
use Rattle.image.specs.Opened.{Shows, Holds}
use Rattle.image.specs.Front.{front_of, contents_over_limit}
use Rattle.image.proofs.FrontLaws.{image-shown, limits_shown}
use Rattle.image.specs.declared.Contents.{Contents}
use Rattle.requests.specs.Request.{decode_request, encode_request, WithinRequest}
use Rattle.requests.specs.Outcome.{encode_outcome}
use Rattle.requests.specs.Meaning.{context_of, faults_of, action_of, request_of}
use Rattle.requests.specs.Positions.{request_in}
use Rattle.requests.specs.declared.Request.{Request as RequestAt}
use Rattle.entries.specs.Bytes.{settled, apply_bytes}
use Rattle.next.specs.Emit.{Emitted}
use Rattle.next.specs.Outcome.{outcome_bytes}
use Rattle.next.specs.declared.Call.{Call}
use Rattle.next.specs.declared.PublicationOutcome.{PublicationOutcome}
use Rattle.requests.specs.declared.PublicationAction.{PublicationAction}

-- what `apply` knows when it calls a transition: the image's state, in whatever form it was read; that the contents hold it;
-- the request's value; and that format and context passed
pub record Ready (x : List ℕ) (c : Contents) (q : List ℕ) (r : RequestAt) : Type 0 where
  pub state : State
  pub reads : decode_image x ≡ Some state
  pub formed : Formed state
  pub holds : Holds x c state
  pub short : length x ≤ longest
  pub asked : decode_request q ≡ answer (request_of q r)
  pub request_is : q ≡ encode_request (request_of q r)
  pub placed : r ≡ request_in q
  pub within : WithinRequest (request_of q r)
  pub format : eqb state.format_version 1 ≡ true
  pub valid : valid_context (context_of r.context) ≡ true

-- a call that asks for an action
abbrev pub asking : Call → PublicationAction → RequestAt
asking call a = record { context = call.context; faults = call.faults; action = a }

abbrev pub Asks : Call → PublicationAction → Type 0
Asks call a = Ready call.image.now call.contents.now call.request.now (asking call a)

-- what it answered, lent d and e, and what it left in them
abbrev pub Answers : Call → (d e : List ℕ) → Result Lengths Refusal → (d' e' : List ℕ) → Type 0
Answers call d e r d' e' = Gave (apply_bytes call.image.now call.request.now (length d) (length e)) d e r d' e'

module _ {x : List ℕ} {c : Contents} {q : List ℕ} {r : RequestAt} (ready : Ready x c q r) where
  -- what the rule of the action decides
  abbrev pub ruled : Transition
  ruled = decide (act ready.state (action_of q r.action) (context_of r.context) (faults_of r.faults))

  answered : (room outcome_room : ℕ) → apply_bytes x q room outcome_room ≡ settled room outcome_room (answer (apply ready.state (action_of q r.action) (context_of r.context) (faults_of r.faults)))
  unfolding apply_bytes
  answered room outcome_room = rw (ready.reads, ready.asked)

  rejected_as : (n room outcome_room : ℕ) → ruled ≡ rejected n → apply_bytes x q room outcome_room ≡ no n
  rejected_as n room outcome_room h =
      answered room outcome_room ∙ ap (λ (t : Transition). settled room outcome_room (answer t))
      (apply_rejects ready.state (action_of q r.action) (context_of r.context) (faults_of r.faults) ready.format ready.valid n h)

  pub refused : {d e : List ℕ} (n : Refusal) → ruled ≡ rejected (number n) → Gave (apply_bytes x q (length d) (length e)) d e (Err n) d e
  refused {d} {e} n h = gave_no n (rejected_as (number n) (length d) (length e) h)

  -- at the exit of a `?`, where p is the error that it makes
  pub refused_exit : {d e : List ℕ} {p : Result Lengths Refusal} (n : Refusal) → IsErrAnd p (λ y. y ≡ n) → ruled ≡ rejected (number n) → Gave (apply_bytes x q (length d) (length e)) d e p d e
  refused_exit {d} {e} n k h = gave_exit n k (rejected_as (number n) (length d) (length e) h)

  pub done : {d e d' e' : List ℕ} {p : Result Lengths Refusal} (t : State) (o : Outcome) (from : List ℕ) (c' : Contents) (body : List Part) (stored : List ℕ) (told : PublicationOutcome) → ruled ≡ accepted t o
      → Shows from c' (set_revision (context_of r.context).position t)
      → gather_of x q body ≡ joined (tables_of t)
      → outcome_bytes stored q told ≡ encode_outcome o
      → Emitted x q body d e d' e' p (contents_over_limit c') (front_of from c') (outcome_bytes stored q told)
      → Gave (apply_bytes x q (length d) (length e)) d e p d' e'
  done {d} {e} {d'} {e'} {p} t o from c' body stored told h sh b w g =
      subst (λ (a : Answer). Gave a d e p d' e')
      (sym (answered (length d) (length e)
      ∙ ap (λ (u : Transition). settled (length d) (length e) (answer u)) (apply_accepts ready.state (action_of q r.action) (context_of r.context) (faults_of r.faults) ready.format ready.valid t o h)
      ∙ (λ i. settle (sym (limits_shown sh) i) (sym (image-shown sh (gather_of x q body) b) i) (sym w i) (length d) (length e))))
      g
