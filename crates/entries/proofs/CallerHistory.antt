-- DEMAND 3: the claims hold of the calls as their caller holds them. Each call leaves and tells just what its answer says, so they are
-- the claims of the answers.
-- Assumes nothing.
use Rattle.std.specs.Prelude.{ℕ, ◌≡◌, refl, Bool, true, false, List, eqb, length, take, Result}
use Rattle.std.proofs.Common.{sym, ap, ◌∙◌, subst, eqb-true}
use Rattle.std.proofs.Math.Seq.{take-append_seam}
use Rattle.refusals.specs.declared.Refusal.{Refusal}
use Rattle.parts.specs.Answer.{Answer, no, yes, told_of, Gave}
use Rattle.parts.specs.declared.Lengths.{Lengths}
use Rattle.parts.specs.Over.{over}
use Rattle.state.specs.Records.{default}
use Rattle.machine.specs.Ledger.{Event}
use Rattle.machine.specs.Claims.{Always}
use Rattle.image.specs.Layout.{encode_image}
use Rattle.entries.proofs.Ways.{no_zero}
use Rattle.entries.specs.Caller.{Call, reply, Seen, seen, left, event, heard, over_bytes, caller}
use Rattle.entries.specs.ByteHistory.{left_by, heard_by, bytes}
use Rattle.entries.proofs.ByteHistoryLaws.{byte_history}

-- WHAT THE CONTRACT of `transition::apply` ensures is what the caller sees.
pub contract_seen : (A : Answer) (c : Call) (r : Result Lengths Refusal) (next outcome : List ℕ) → Gave A c.next c.outcome r next outcome
    → ◌≡◌ {A = Seen} (record { answered = told_of r; next = next; outcome = outcome }) (seen A c)
contract_seen A c r next outcome g = λ i. record { answered = g.answer i; next = g.image i; outcome = g.outcome i }

-- THE FIRST BYTES of a slice that x was laid over are x
front : (d x : List ℕ) → take (length x) (over d 0 x) ≡ x
unfolding over
front d x = take-append_seam x _

module _ (x : List ℕ) (c : Call) where
  refuses : (n : ℕ) → reply x c ≡ no n → eqb n 0 ≡ false
  refuses n h = by (eqb n 0) refl
    where
      by : (b : Bool) → eqb n 0 ≡ b → eqb n 0 ≡ false
      by false e = e
      by true e = absurd (no_zero x c.request (length c.next) (length c.outcome) (h ∙ ap no (eqb-true n 0 e)))

  -- what is left and heard is what the answer says
  same_left : (A : Answer) → reply x c ≡ A → left x (seen A c) ≡ left_by x A
  same_left (no n) h = rw (refuses n h)
  same_left (yes a b) h = front c.next a

  same-heard : (A : Answer) → reply x c ≡ A → heard c.request (seen A c) ≡ heard_by c.request A
  same-heard (no n) h = rw (refuses n h)
  same-heard (yes a b) h = ap (event c.request) (front c.outcome b)

pub caller_history : Always caller (encode_image default)
caller_history =
    let leaves : bytes.call ≡ caller.call = λ i x c. sym (same_left x c (reply x c) refl) i in
    let tells : bytes.told ≡ caller.told = λ i x c. sym (same-heard x c (reply x c) refl) i in
    subst (λ (call : List ℕ → Call → List ℕ). Always (over_bytes call caller.told) (encode_image default)) leaves
    (subst (λ (told : List ℕ → Call → Event). Always (over_bytes bytes.call told) (encode_image default)) tells byte_history)
