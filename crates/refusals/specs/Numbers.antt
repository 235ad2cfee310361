-- The number of each reason to refuse, and what a call that may refuse answers, with the number in place of the reason.
use Rattle.std.specs.Prelude.{ℕ, Result, Ok, Err}
use Rattle.refusals.specs.declared.Refusal.{Refusal}
use Rattle.refusals.specs.declared.Refusal.TheVariants.{InvalidRequest, PublicationExists, PublicationIntentMissing, PublicationIntentMismatch, CrossGenerationIntent, RootCompareFailed, PinCompareFailed, RootIntentEpochChanged, ObjectDeletionReserved, ObjectNamedByIntent, DeleteReservationExists, DeleteReservationMissing, CrossGenerationDeletePermit, DeletePlanMismatch, CommittedFrontierRetreated, RetentionPolicyEpochMismatch, RetentionPolicyUnconfigured, SnapshotBelowFloor, SnapshotAheadOfFrontier, LeaseExists, LeaseMissing, LeaseEpochMismatch, LeaseDeadlineInvalid, LeaseClockMismatch, LeaseClockRetreated, RangeMapEpochRetreated, RangeMapEpochMismatch, CollectionJobExists, CollectionJobMissing, CollectionJobMismatch, CollectionConflict, CollectionFloorInvalid, CollectionFrontierMismatch, CollectionReceiptMismatch, CollectionRootCompareFailed, NotAnImage, Malformed, OverLimit, NotUtf8, TableFull, NoRoom, NoOutcomeRoom}

abbrev pub number : Refusal → ℕ
number InvalidRequest = 2
number PublicationExists = 3
number PublicationIntentMissing = 4
number PublicationIntentMismatch = 5
number CrossGenerationIntent = 6
number RootCompareFailed = 7
number PinCompareFailed = 8
number RootIntentEpochChanged = 9
number ObjectDeletionReserved = 10
number ObjectNamedByIntent = 11
number DeleteReservationExists = 12
number DeleteReservationMissing = 13
number CrossGenerationDeletePermit = 14
number DeletePlanMismatch = 15
number CommittedFrontierRetreated = 16
number RetentionPolicyEpochMismatch = 17
number RetentionPolicyUnconfigured = 18
number SnapshotBelowFloor = 19
number SnapshotAheadOfFrontier = 20
number LeaseExists = 21
number LeaseMissing = 22
number LeaseEpochMismatch = 23
number LeaseDeadlineInvalid = 24
number LeaseClockMismatch = 25
number LeaseClockRetreated = 26
number RangeMapEpochRetreated = 27
number RangeMapEpochMismatch = 28
number CollectionJobExists = 29
number CollectionJobMissing = 30
number CollectionJobMismatch = 31
number CollectionConflict = 32
number CollectionFloorInvalid = 33
number CollectionFrontierMismatch = 34
number CollectionReceiptMismatch = 35
number CollectionRootCompareFailed = 36
number NotAnImage = 40
number Malformed = 41
number OverLimit = 42
number NotUtf8 = 43
number TableFull = 44
number NoRoom = 45
number NoOutcomeRoom = 46

-- the value, or the number of the refusal
abbrev pub numbered : {A : Type 0} → Result A Refusal → Result A ℕ
numbered (Ok v) = Ok v
numbered (Err e) = Err (number e)

-- the number that is told: 0 where nothing refuses
abbrev pub told : {A : Type 0} → Result A Refusal → ℕ
told (Ok v) = 0
told (Err e) = number e
