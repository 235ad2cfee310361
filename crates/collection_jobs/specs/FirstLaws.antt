-- Tests that another function decides, and then more.
use Rattle.std.specs.Prelude.{ℕ, true, false, not, List, [], ◌∷◌, ◌++◌, ◌≡◌, refl, eqb, Result}
use Rattle.std.specs.Result.{IsErrAnd}
use Rattle.std.proofs.Common.{sym}
use Rattle.std.proofs.lemmas.Result.{err_from_is_err_and}
use Rattle.std.proofs.lemmas.Bool.{eqb-false, not-true}
use Rattle.refusals.specs.Numbers.{number, told}
use Rattle.refusals.specs.declared.Refusal.{Refusal as Reason}
use Rattle.refusals.proofs.NumberLaws.{number-nonzero}
use Rattle.machine.specs.Tests.{Refusal, ◌when◌, first_of}
use Rattle.machine.proofs.TestLaws.{Provided, provided}

-- no status is 0: with literals, tt
abbrev Statuses : List Refusal → Type 0
Statuses [] = Unit {0}
Statuses ((n when b) ∷ ts) = Provided (not (eqb n 0)) (Statuses ts)

stops : (ts us : List Refusal) (n : ℕ) → n ≡ first_of ts → (n ≡ 0 → ⊥) → n ≡ first_of (ts ++ us)
unfolding first_of
stops [] us n e h = absurd (h e)
stops ((m when true) ∷ ts) us n e h = e
stops ((m when false) ∷ ts) us n e h = stops ts us n e h

-- at the exit of a `?`, where p is the error that it makes
pub first_stops : {A : Type 0} (p : Result A Reason) (ts us : List Refusal) (r : Reason) → IsErrAnd p (λ y. y ≡ r) → number r ≡ first_of ts → told p ≡ first_of (ts ++ us)
first_stops p ts us r k e = let (y, i, j) = err_from_is_err_and p k in rw (i, j) (stops ts us (number r) e (number-nonzero r))

pub first_past : (ts us : List Refusal) → Statuses ts → 0 ≡ first_of ts → first_of us ≡ first_of (ts ++ us)
unfolding first_of
first_past [] us w e = refl
first_past ((m when true) ∷ ts) us w e = absurd (eqb-false m 0 (not-true (eqb m 0) (provided (not (eqb m 0)) (Statuses ts) w).0) (sym e))
first_past ((m when false) ∷ ts) us w e = first_past ts us (provided (not (eqb m 0)) (Statuses ts) w).1 e
