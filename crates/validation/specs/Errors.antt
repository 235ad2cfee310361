-- The number of each reason why a lease token is not the active one, and what a call tells by number.
use Rattle.std.specs.Prelude.{ℕ, Result, Ok, Err}
use Rattle.refusals.specs.Numbers as refusals
use Rattle.validation.specs.declared.SnapshotLeaseValidationError.{SnapshotLeaseValidationError}
use Rattle.validation.specs.declared.SnapshotLeaseValidationError.TheVariants.{AuthorityFormatInvalid, LeaseMissing, TokenMismatch, LeaseExpired, Unread}

abbrev pub number : SnapshotLeaseValidationError → ℕ
number AuthorityFormatInvalid = 1
number LeaseMissing = 2
number TokenMismatch = 3
number LeaseExpired = 4
number (Unread r) = refusals.number r

-- 0 where the token is the active one
abbrev pub told : {A : Type 0} → Result A SnapshotLeaseValidationError → ℕ
told (Ok v) = 0
told (Err e) = number e
