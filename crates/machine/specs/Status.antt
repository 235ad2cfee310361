-- PublicationCommandStatus: the numbers, in declared order.
use Rattle.std.specs.Prelude.{ℕ}

abbrev pub Accepted : ℕ
Accepted = 0

abbrev pub GenerationFenced : ℕ
GenerationFenced = 1

abbrev pub InvalidRequest : ℕ
InvalidRequest = 2

abbrev pub PublicationExists : ℕ
PublicationExists = 3

abbrev pub PublicationIntentMissing : ℕ
PublicationIntentMissing = 4

abbrev pub PublicationIntentMismatch : ℕ
PublicationIntentMismatch = 5

abbrev pub CrossGenerationIntent : ℕ
CrossGenerationIntent = 6

abbrev pub RootCompareFailed : ℕ
RootCompareFailed = 7

abbrev pub PinCompareFailed : ℕ
PinCompareFailed = 8

abbrev pub RootIntentEpochChanged : ℕ
RootIntentEpochChanged = 9

abbrev pub ObjectDeletionReserved : ℕ
ObjectDeletionReserved = 10

abbrev pub ObjectNamedByIntent : ℕ
ObjectNamedByIntent = 11

abbrev pub DeleteReservationExists : ℕ
DeleteReservationExists = 12

abbrev pub DeleteReservationMissing : ℕ
DeleteReservationMissing = 13

abbrev pub CrossGenerationDeletePermit : ℕ
CrossGenerationDeletePermit = 14

abbrev pub DeletePlanMismatch : ℕ
DeletePlanMismatch = 15

abbrev pub CommittedFrontierRetreated : ℕ
CommittedFrontierRetreated = 16

abbrev pub RetentionPolicyEpochMismatch : ℕ
RetentionPolicyEpochMismatch = 17

abbrev pub RetentionPolicyUnconfigured : ℕ
RetentionPolicyUnconfigured = 18

abbrev pub SnapshotBelowFloor : ℕ
SnapshotBelowFloor = 19

abbrev pub SnapshotAheadOfFrontier : ℕ
SnapshotAheadOfFrontier = 20

abbrev pub LeaseExists : ℕ
LeaseExists = 21

abbrev pub LeaseMissing : ℕ
LeaseMissing = 22

abbrev pub LeaseEpochMismatch : ℕ
LeaseEpochMismatch = 23

abbrev pub LeaseDeadlineInvalid : ℕ
LeaseDeadlineInvalid = 24

abbrev pub LeaseClockMismatch : ℕ
LeaseClockMismatch = 25

abbrev pub LeaseClockRetreated : ℕ
LeaseClockRetreated = 26

abbrev pub RangeMapEpochRetreated : ℕ
RangeMapEpochRetreated = 27

abbrev pub RangeMapEpochMismatch : ℕ
RangeMapEpochMismatch = 28

abbrev pub CollectionJobExists : ℕ
CollectionJobExists = 29

abbrev pub CollectionJobMissing : ℕ
CollectionJobMissing = 30

abbrev pub CollectionJobMismatch : ℕ
CollectionJobMismatch = 31

abbrev pub CollectionConflict : ℕ
CollectionConflict = 32

abbrev pub CollectionFloorInvalid : ℕ
CollectionFloorInvalid = 33

abbrev pub CollectionFrontierMismatch : ℕ
CollectionFrontierMismatch = 34

abbrev pub CollectionReceiptMismatch : ℕ
CollectionReceiptMismatch = 35

abbrev pub CollectionRootCompareFailed : ℕ
CollectionRootCompareFailed = 36
