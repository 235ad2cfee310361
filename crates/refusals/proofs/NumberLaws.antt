-- No reason to refuse has the number 0, which is acceptance.
use Rattle.std.proofs.Common.{◌≡◌, arith}
use Rattle.refusals.specs.Numbers.{number}
use Rattle.refusals.specs.declared.Refusal.{Refusal}

pub number-nonzero : (e : Refusal) → number e ≡ 0 → ⊥
number-nonzero e h = grind arith
