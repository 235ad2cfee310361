-- DEMAND 2: the entries over bytes answer as the machine over maps does, on every state, request and token that the layout can
-- hold, fault flags included; and what is written is read back.
use Rattle.std.specs.Prelude.{ℕ, ◌≤◌, Bool, not, List, [], leb, Option, None, Some, Result, Ok, Err}
use Rattle.std.proofs.Common.{arith, ap, ◌∙◌, subst}
use Rattle.std.proofs.Math.Path.{◌≡◌, refl}
use Rattle.std.proofs.Math.Bool.{true, false, cond}
use Rattle.std.proofs.Math.ListN.{length}
use Rattle.parts.specs.Answer.{Answer, no, yes, image_of, longest, settle, settle-yes, written_of, laid_over}
use Rattle.parts.specs.Over.{over, over_none}
use Rattle.parts.specs.Digits.{Bytes}
use Rattle.state.specs.Maps.{is_some}
use Rattle.state.specs.Records.{State, default, SnapshotLeaseToken}
use Rattle.machine.specs.Actions.{Outcome, Transition, rejected, accepted}
use Rattle.machine.specs.Machine.{apply, validate}
use Rattle.machine.proofs.FormedLaws.{default-formed}
use Rattle.fields.specs.Format.{Within}
use Rattle.image.specs.Body.{roomy}
use Rattle.image.specs.Contents.{answer}
use Rattle.image.specs.Shapes.{lease, lease_parts}
use Rattle.image.specs.Layout.{bodies, each, state_parts, encode_image, decode_image, Formed, Imaged}
use Rattle.image.proofs.LayoutLaws.{decodes_back, formed-read, bytes-image}
use Rattle.image.specs.Edges.{Measured}
use Rattle.image.proofs.EdgeLaws.{E1}
use Rattle.requests.specs.Request.{Request, encode_request, encode_token, WithinRequest}
use Rattle.requests.specs.Outcome.{encode_outcome, decode_outcome}
use Rattle.requests.proofs.RequestLaws.{request-back, request-written, token_back}
use Rattle.requests.proofs.OutcomeLaws.{outcome-back, outcome_is_bytes}
use Rattle.entries.specs.Bytes.{◌>>=◌, or_40, settled, status, apply_bytes, validate_bytes, test_bytes, default_bytes}
use Rattle.entries.proofs.Sized.{image_texts, formed_of}
use Rattle.entries.proofs.Kept.{apply-kept}
use Rattle.entries.proofs.Ways.{Took}

-- what was written, read again
pub record ReadAgain (next : State) (outcome : Outcome) (x y : List ℕ) : Type 0 where
  pub formed : Imaged next
  pub image_bytes : Bytes x
  pub image_is : decode_image x ≡ Some next
  pub outcome_is_bytes : Bytes y
  pub outcome_is : decode_outcome y ≡ answer outcome

-- the next state and the outcome fit
pub record Room (room outcome_room : ℕ) (next : State) (outcome : Outcome) : Type 0 where
  pub tables : roomy bodies (state_parts next).1 ≡ true
  pub longest_is : length (encode_image next) ≤ longest
  pub image_room : length (encode_image next) ≤ room
  pub outcome_fits : length (encode_outcome outcome) ≤ outcome_room

read_again : (s : State) (q : Request) → Formed s → WithinRequest q → (next : State) (o : Outcome) → apply s q.action q.context q.faults ≡ accepted next o
    → roomy bodies (state_parts next).1 ≡ true → length (encode_image next) ≤ longest → ReadAgain next o (encode_image next) (encode_outcome o)
read_again s q f w next o e r l =
    let k = apply-kept s q f w next o e in
    let g : Imaged next = record { fitting = formed_of next k.0 r; size = l } in
    record { formed = g; image_bytes = bytes-image next g; image_is = decodes_back next g; outcome_is_bytes = outcome_is_bytes o k.1; outcome_is = outcome-back o k.1 }

module _ (s : State) (f : Imaged s) where
  module _ (q : Request) (w : WithinRequest q) (room outcome_room : ℕ) where
    abbrev transition : Transition
    transition = apply s q.action q.context q.faults

    abbrev A : Answer
    A = apply_bytes (encode_image s) (encode_request q) room outcome_room

    -- every answer is that of the machine, with the tests of room after it
    pub apply_agrees : A ≡ settled room outcome_room (answer transition)
    unfolding apply_bytes
    apply_agrees = rw (decodes_back s f, request-back q w)

    pub rejected_agrees : (n : ℕ) → transition ≡ rejected n → A ≡ no n
    rejected_agrees n e = apply_agrees ∙ ap (λ (t : Transition). settled room outcome_room (answer t)) e

    -- where they fit: status 0, the next state and the outcome
    pub accepted_agrees : (next : State) (o : Outcome) → transition ≡ accepted next o → Room room outcome_room next o
        → (A ≡ yes (encode_image next) (encode_outcome o)) × ReadAgain next o (encode_image next) (encode_outcome o)
    accepted_agrees next o e r = (
      apply_agrees ∙ ap (λ (t : Transition). settled room outcome_room (answer t)) e
          ∙ ap (λ (b : Bool). settle (not b) (encode_image next) (encode_outcome o) room outcome_room) r.tables
          ∙ settle-yes (encode_image next) (encode_outcome o) room outcome_room r.longest_is r.image_room r.outcome_fits,
      read_again s q f.fitting w next o e r.tables r.longest_is,
    )

  pub validate_agrees : (t : SnapshotLeaseToken) → Within lease (lease_parts t) → validate_bytes (encode_image s) (encode_token t) ≡ validate s t
  unfolding validate_bytes
  validate_agrees t w = rw (decodes_back s f, token_back t w)

  pub test_agrees : test_bytes (encode_image s) ≡ 0
  unfolding test_bytes
  test_agrees = rw (decodes_back s f)

-- 0 just for images
pub test-is : (image : List ℕ) → test_bytes image ≡ cond (is_some (decode_image image)) 0 40
unfolding test_bytes
test-is image = go (decode_image image)
  where
    go : (o : Option State) → status (◌>>=◌ (or_40 o) (λ s. answer 0)) ≡ cond (is_some o) 0 40
    go None = refl
    go (Some s) = refl

-- ANY BYTES that are accepted: what a call wrote is read again
pub took_again : (image request : List ℕ) (room outcome_room : ℕ) (x y : List ℕ) → Bytes image → Bytes request → (t : Took image request room outcome_room x y) → ReadAgain t.call.next t.call.outcome x y
took_again image request room outcome_room x y bi br t =
    let c = t.call in
    let f : Formed c.now = formed-read image c.now bi c.holds in
    let w : WithinRequest c.asked = (request-written request c.asked br c.reads).1 in
    let z = read_again c.now c.asked f w c.next c.outcome c.applies t.roomy-is t.size in
    subst (ReadAgain c.next c.outcome x) t.outcome_is (subst (λ (l : List ℕ). ReadAgain c.next c.outcome l (encode_outcome c.outcome)) t.image_is z)

-- THE DEFAULT IMAGE
default-roomy : roomy bodies (state_parts default).1 ≡ true
unfolding roomy each
default-roomy = refl

default-length : length (encode_image default) ≡ 157
default-length = ap (λ (m : Measured). m.0) E1

pub default_has_image : Imaged default
default_has_image = record { fitting = formed_of default (default-formed image_texts) default-roomy; size = omega (arith, default-length) }

-- what is written, as the answer of a call that lends one slice
abbrev pub written_as : Answer → Result ℕ ℕ
written_as (no n) = Err n
written_as (yes x y) = Ok (length x)

-- as `write` of the parts answers and leaves it in a lent slice d
module _ (d : List ℕ) where
  pub default-written : written_of d (encode_image default) ≡ written_as (default_bytes (length d))
  unfolding default_bytes
  default-written = go (leb (length (encode_image default)) (length d))
    where
      go : (b : Bool) → ◌≡◌ {A = Result ℕ ℕ} (cond b (Ok (length (encode_image default))) (Err 45)) (written_as (cond b (yes (encode_image default) []) (no 45)))
      go true = refl
      go false = refl

  pub default-laid : laid_over d (encode_image default) ≡ over d 0 (image_of (default_bytes (length d)))
  unfolding default_bytes
  default-laid = go (leb (length (encode_image default)) (length d))
    where
      go : (b : Bool) → cond b (over d 0 (encode_image default)) d ≡ over d 0 (image_of (cond b (yes (encode_image default) []) (no 45)))
      go true = refl
      go false = over_none d 0
