-- From an image that was opened and a request that was read to what `apply` calls a transition with.
use Rattle.std.specs.Prelude.{ℕ, true, false, List, ◌≡◌, eqb, length, None, Some, Result, Ok, Err}
use Rattle.std.specs.Result.{IsErrAnd}
use Rattle.std.proofs.Common.{sym, ap, ◌∙◌, subst}
use borrow.Author.Tests.{eq-eqb, ne_eqb}
use Rattle.refusals.specs.Numbers.{number}
use Rattle.refusals.specs.declared.Refusal.{Refusal}
use Rattle.refusals.specs.declared.Refusal.TheVariants.{NotAnImage, InvalidRequest}
use Rattle.parts.specs.Answer.{Gave, gave_no, gave_exit}
use Rattle.parts.specs.Digits.{Bytes}
use Rattle.parts.specs.declared.Lengths.{Lengths}
use Rattle.state.specs.Records.{State, AuthorityContext, PublicationAuthorityFaults, valid_context}
use Rattle.machine.specs.Actions.{Action, Transition, rejected, decide}
use Rattle.machine.specs.Machine.{rule, stamp, apply}
use Rattle.image.specs.Contents.{answer, refusal}
use Rattle.image.specs.Layout.{decode_image}
use Rattle.image.specs.Opened.{OpenedAs}
use Rattle.image.specs.declared.Contents.{Contents}
use Rattle.requests.specs.Request.{decode_request, encode_request, WithinRequest}
use Rattle.requests.proofs.RequestLaws.{request-written}
use Rattle.requests.specs.Meaning.{context_of, faults_of, action_of, request_of}
use Rattle.requests.specs.Positions.{request_in, parsed_in}
use Rattle.requests.specs.declared.PublicationAction.{PublicationAction}
use Rattle.requests.specs.declared.Request.{Request as RequestAt}
use Rattle.entries.specs.Bytes.{settled, apply_bytes}
use Rattle.next.specs.Call.{Ready, Asks}
use Rattle.next.specs.declared.Call.{Call}

-- before format and context are tested
pub record Asked (x : List ℕ) (c : Contents) (q : List ℕ) (r : RequestAt) : Type 0 where
  pub opened : OpenedAs x c
  pub asked : decode_request q ≡ answer (request_of q r)
  pub request_is : q ≡ encode_request (request_of q r)
  pub placed : r ≡ request_in q
  pub within : WithinRequest (request_of q r)

pub asked_of : (x q : List ℕ) (c : Contents) (r : RequestAt) → OpenedAs x c → Bytes q → answer (request_of q r) ≡ decode_request q → Ok r ≡ parsed_in q (decode_request q) → Asked x c q r
asked_of x q c r o bq d p =
    let (w, v) = request-written q (request_of q r) bq (sym d) in
    let z : ◌≡◌ {A = Result RequestAt ℕ} (Ok r) (Ok (request_in q)) = p ∙ ap (parsed_in q) (sym d) in
    record { opened = o; asked = sym d; request_is = w; placed = cc; within = v }

-- 40, and the faults of a request
pub no-image : {d e : List ℕ} {p : Result Lengths Refusal} (x q : List ℕ) (n : Refusal) → IsErrAnd p (λ y. y ≡ n) → n ≡ NotAnImage → decode_image x ≡ None → Gave (apply_bytes x q (length d) (length e)) d e p d e
unfolding apply_bytes
no-image x q n k i h = gave_exit n k (rw (i, h))

pub no-request : {d e : List ℕ} {p : Result Lengths Refusal} (x q : List ℕ) (s : State) (n : Refusal) → IsErrAnd p (λ y. y ≡ n) → decode_image x ≡ Some s → decode_request q ≡ refusal (number n)
    → Gave (apply_bytes x q (length d) (length e)) d e p d e
unfolding apply_bytes
no-request x q s n k h r = gave_exit n k (rw (h, r))

-- ---- format and context

module _ (s : State) (a : Action) (c : AuthorityContext) (f : PublicationAuthorityFaults) where
  apply-format : eqb s.format_version 1 ≡ false → apply s a c f ≡ rejected 2
  unfolding apply rule decide stamp
  apply-format h = simp h

  apply-context : eqb s.format_version 1 ≡ true → valid_context c ≡ false → apply s a c f ≡ rejected 2
  unfolding apply rule decide stamp
  apply-context h k = simp (h, k)

module _ {x : List ℕ} {c : Contents} {q : List ℕ} {r : RequestAt} (a : Asked x c q r) where
  rejects : {d e : List ℕ} → apply a.opened.state (action_of q r.action) (context_of r.context) (faults_of r.faults) ≡ rejected 2
      → Gave (apply_bytes x q (length d) (length e)) d e (Err InvalidRequest) d e
  unfolding apply_bytes
  rejects {d} {e} h = gave_no InvalidRequest (rw (a.opened.reads, a.asked) (ap (λ (t : Transition). settled (length d) (length e) (answer t)) h))

  version-is : a.opened.state.format_version ≡ c.format_version
  version-is = sym a.opened.holds.shows.version

  pub other_format : {d e : List ℕ} → (c.format_version ≡ 1 → ⊥) → Gave (apply_bytes x q (length d) (length e)) d e (Err InvalidRequest) d e
  other_format h = rejects (apply-format a.opened.state (action_of q r.action) (context_of r.context) (faults_of r.faults) (ne_eqb a.opened.state.format_version 1 (λ z. h (sym version-is ∙ z))))

  module _ (h : c.format_version ≡ 1) where
    format : eqb a.opened.state.format_version 1 ≡ true
    format = eq-eqb a.opened.state.format_version 1 (version-is ∙ h)

    pub no-generation : {d e : List ℕ} → r.context.generation ≡ 0 → Gave (apply_bytes x q (length d) (length e)) d e (Err InvalidRequest) d e
    unfolding valid_context
    no-generation g = rejects (apply-context a.opened.state (action_of q r.action) (context_of r.context) (faults_of r.faults) format (simp (eq-eqb r.context.generation 0 g)))

    pub no_index : {d e : List ℕ} → (r.context.generation ≡ 0 → ⊥) → r.context.position.index ≡ 0 → Gave (apply_bytes x q (length d) (length e)) d e (Err InvalidRequest) d e
    unfolding valid_context
    no_index g i = rejects (apply-context a.opened.state (action_of q r.action) (context_of r.context) (faults_of r.faults) format (simp (ne_eqb r.context.generation 0 g, eq-eqb r.context.position.index 0 i)))

    pub ready_of : (r.context.generation ≡ 0 → ⊥) → (r.context.position.index ≡ 0 → ⊥) → Ready x c q r
    unfolding valid_context
    ready_of g i = record {
      state = a.opened.state;
      reads = a.opened.reads;
      formed = a.opened.formed;
      holds = a.opened.holds;
      short = a.opened.short;
      asked = a.asked;
      request_is = a.request_is;
      placed = a.placed;
      within = a.within;
      format = format;
      valid = simp (ne_eqb r.context.generation 0 g, ne_eqb r.context.position.index 0 i);
    }

-- the action by its case
pub with_action : (call : Call) (a : PublicationAction) → Asks call a → (k : PublicationAction) → a ≡ k → Asks call k
with_action call a r k e = subst (λ (k : PublicationAction). Asks call k) e r
