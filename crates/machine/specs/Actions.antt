-- What a call asks, what it answers, and the chains of tests in between.
use Rattle.std.specs.Prelude.{ℕ, List, Bool, true, false, Option, None, Some}
use Rattle.state.specs.Maps.{Text}
use Rattle.state.specs.Records.{ObjectIdentity, ObjectReference, PublicationIntent, SnapshotClosure, SnapshotLeaseToken, CollectionJobToken, CollectionReceipt, DeletePermit, State}

-- PublicationAction
pub data Action : Type 0 where
  ObserveCommittedFrontier : (committed-frontier : ℕ) → Action
  SetRetentionWindow : (expected-policy-epoch retention_window : ℕ) → Action
  ObserveRangeMapEpoch : (range_map_epoch : ℕ) → Action
  ConfigureCollectionRoot : (expected : Option Text) (destination_root : Text) → Action
  AcquireLease : (lease_id tenant_id : Text) (snapshot_version : ℕ) (owner purpose : Text) (deadline_tick : ℕ) (closure : SnapshotClosure) → Action
  RenewLease : (lease_id : Text) (expected-lease-epoch new-deadline-tick : ℕ) → Action
  ReleaseLease : (lease_id : Text) (expected-lease-epoch : ℕ) → Action
  AdvanceLeaseClock : (expected-tick next-tick : ℕ) → Action
  PrepareCollection : (job_id : Text) (frozen_floor : ℕ) (input_manifest : ObjectReference) (destination_root : Text) (range_map_epoch expected_collected_through : ℕ) (output_namespace : Text) → Action
  PublishCollection : (receipt : CollectionReceipt) → Action
  AbandonCollection : (token : CollectionJobToken) → Action
  Prepare : (publication-id : Text) (intent : PublicationIntent) → Action
  Publish : (publication-id destination_root : Text) (expected_prior_root : Option ObjectReference) (manifest : ObjectReference) → Action
  Pin : (pin-id : Text) (expected : Option ObjectReference) (manifest : ObjectReference) → Action
  Unpin : (pin-id : Text) (expected : ObjectReference) → Action
  ReserveDelete : (plan_id : Text) (mark-epoch : ℕ) (key : Text) (identity : ObjectIdentity) → Action
  RetireDelete : (permit : DeletePermit) → Action

-- PublicationOutcome
pub data Outcome : Type 0 where
  Applied : Outcome
  DeleteReserved : (permit : DeletePermit) → Outcome
  LeaseAcquired : (token : SnapshotLeaseToken) → Outcome
  LeaseRenewed : (token : SnapshotLeaseToken) → Outcome
  LeasesExpired : (lease-ids : List Text) → Outcome
  CollectionPrepared : (token : CollectionJobToken) → Outcome
  CollectionPublished : (receipt : CollectionReceipt) → Outcome

-- PublicationTransition, with the state that `&mut self` leaves; a rejection leaves it as it was
pub data Transition : Type 0 where
  rejected : (status : ℕ) → Transition
  accepted : (next : State) (outcome : Outcome) → Transition

-- A CHAIN OF TESTS, as data. It is written by `do`, one line to a test of the Rust:
-- `refuse n if b` answers n where b holds, and else goes on; `x ← found o else n` answers n where o is none.
pub data Rule : Type 1 where
  refuse_or : (status : ℕ) (test : Bool) (rest : Rule) → Rule
  find_or : {A : Type 0} → (status : ℕ) (value : Option A) (rest : A → Rule) → Rule
  accept : (next : State) (outcome : Outcome) → Rule

unfoldable pub decide : Rule → Transition
decide (refuse_or n true r) = rejected n
decide (refuse_or n false r) = decide r
decide (find_or n None k) = rejected n
decide (find_or n (Some x) k) = decide (k x)
decide (accept s o) = accepted s o

pub data Test : Type 0 where
  refuse◌if◌ : ℕ → Bool → Test

pub data Lookup (A : Type 0) : Type 0 where
  found◌else◌ : Option A → ℕ → Lookup A

infix 10 refuse◌if◌
infix 10 found◌else◌
abbrev pub ◌>>◌ : Test → Rule → Rule
◌>>◌ (refuse n if b) r = refuse_or n b r

abbrev pub ◌>>=◌ : {A : Type 0} → Lookup A → (A → Rule) → Rule
◌>>=◌ (found o else n) k = find_or n o k
