-- The number of an answer tells which answer it is: what is unread has one of 40 or more, and the other answers have 0 to 4.
use Rattle.std.specs.Prelude.{◌≤◌, ◌≡◌, Result, Err}
use Rattle.std.proofs.Common.{arith}
use Rattle.refusals.specs.declared.Refusal.{Refusal}
use Rattle.validation.specs.Errors.{number, told}
use Rattle.validation.specs.declared.SnapshotLeaseValidationError.{SnapshotLeaseValidationError}
use Rattle.validation.specs.declared.SnapshotLeaseValidationError.TheVariants.{Unread}

pub one-answer : (a b : Result (Unit {0}) SnapshotLeaseValidationError) → ((r : Refusal) → a ≡ Err (Unread r) → 40 ≤ number (Unread r)) → ((r : Refusal) → b ≡ Err (Unread r) → 40 ≤ number (Unread r)) → told a ≡ told b → a ≡ b
one-answer a b h k e = grind arith
