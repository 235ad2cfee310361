-- WELL-FORMED STATES: each map ascends strictly; leases, jobs and permits stand under their own id or key; every number fits
-- its width; and every text and set passes a test that is left open here. The machine makes no new text, so any test is kept:
-- that sets ascend, for states of the Rust; the limits and UTF-8 too, for states of an image.
use Rattle.std.specs.Prelude.{ℕ, ◌<◌, ◌^◌, ◌≡◌, List, Option, None, Some}
use Rattle.state.specs.Maps.{Text, Map, Every}
use Rattle.state.specs.Sorted.{Each}
use Rattle.state.specs.Sorted.{Ascending, Rising}
use Rattle.state.specs.Sort.{Pairs, Differ}
use Rattle.state.specs.Records.{AuthorityPosition, AuthorityContext, RevisionToken, ObjectIdentity, ObjectReference, PublicationIntent, PreparedPublication, SnapshotClosure, SnapshotLeaseToken, CollectionJobToken, CollectionReceipt, DeletePermit, State}
use Rattle.machine.specs.Actions.{Action, ObserveCommittedFrontier, SetRetentionWindow, ObserveRangeMapEpoch, ConfigureCollectionRoot, AcquireLease, RenewLease, ReleaseLease, AdvanceLeaseClock, PrepareCollection, PublishCollection, AbandonCollection, Prepare, Publish, Pin, Unpin, ReserveDelete, RetireDelete, Outcome, Applied, DeleteReserved, LeaseAcquired, LeaseRenewed, LeasesExpired, CollectionPrepared, CollectionPublished}

-- the open tests: of object keys and namespaces, of every other text, and of a set of object keys
pub record Texts : Type 1 where
  pub Key : Text → Type 0
  pub Name : Text → Type 0
  pub Keys : List Text → Type 0

-- what the Rust's types ask: nothing of a text, and that a set ascends strictly
abbrev pub rust_texts : Texts
rust_texts = record { Key = λ t. Unit {0}; Name = λ t. Unit {0}; Keys = Rising None }

abbrev pub Number : ℕ → Type 0
Number n = n < 2 ^ 64

abbrev pub Maybe : {A : Type 0} → (A → Type 0) → Option A → Type 0
Maybe P None = Unit {0}
Maybe P (Some x) = P x

pub record Table {A : Type 0} (P : Text → A → Type 0) (m : Map A) : Type 0 where
  pub ascending : Ascending m
  pub each : Each P m

-- one fact after the other, nested to the right as the fields of a format are
infixr 30 ◌⊗◌
abbrev pub ◌⊗◌ : Type 0 → Type 0 → Type 0
A ⊗ B = A × B

abbrev pub PositionFits : AuthorityPosition → Type 0
PositionFits p = Number p.term ⊗ Number p.index

abbrev pub ContextFits : AuthorityContext → Type 0
ContextFits c = Number c.generation ⊗ PositionFits c.position

-- the numbers of a state
pub record Numbers (format_version root_intent_epoch observed_commit_frontier retention_policy_epoch policy_floor minimum_readable_version physically_collected_through lease_clock_tick lease_epoch range_map_epoch : ℕ) : Type 0 where
  pub format_version_fits : format_version < 2 ^ 32
  pub root_intent_epoch_fits : root_intent_epoch < 2 ^ 64
  pub observed_commit_frontier_fits : observed_commit_frontier < 2 ^ 64
  pub retention_policy_epoch_fits : retention_policy_epoch < 2 ^ 64
  pub policy_floor_fits : policy_floor < 2 ^ 64
  pub minimum_readable_version_fits : minimum_readable_version < 2 ^ 64
  pub physically_collected_through_fits : physically_collected_through < 2 ^ 64
  pub lease_clock_tick_fits : lease_clock_tick < 2 ^ 64
  pub lease_epoch_fits : lease_epoch < 2 ^ 64
  pub range_map_epoch_fits : range_map_epoch < 2 ^ 64

module _ (T : Texts) where
  -- THE RECORDS, field by field
  abbrev pub RevisionFits : RevisionToken → Type 0
  RevisionFits r = Maybe T.Name r.e_tag ⊗ Maybe T.Name r.version

  abbrev pub IdentityFits : ObjectIdentity → Type 0
  IdentityFits i = RevisionFits i.revision ⊗ Number i.length ⊗ T.Name i.sha256

  -- of a kind nothing is asked
  abbrev pub ReferenceFits : ObjectReference → Type 0
  ReferenceFits r = Unit {0} ⊗ T.Key r.key ⊗ Number r.length ⊗ T.Name r.sha256

  abbrev pub IntentFits : PublicationIntent → Type 0
  IntentFits i = T.Keys i.object_keys ⊗ ReferenceFits i.manifest ⊗ T.Name i.destination_root ⊗ Maybe ReferenceFits i.expected_prior_root

  abbrev pub PreparedFits : PreparedPublication → Type 0
  PreparedFits p = Number p.owner_generation ⊗ IntentFits p.intent

  abbrev pub ClosureFits : SnapshotClosure → Type 0
  ClosureFits c = ReferenceFits c.manifest ⊗ T.Keys c.object_keys

  abbrev pub LeaseFits : SnapshotLeaseToken → Type 0
  LeaseFits t =
      T.Name t.lease_id ⊗ T.Name t.tenant_id ⊗ Number t.snapshot_version ⊗ Number t.lease_epoch ⊗ T.Name t.owner
      ⊗ T.Name t.purpose ⊗ Number t.deadline_tick ⊗ ClosureFits t.closure ⊗ Number t.owner_generation ⊗ PositionFits t.authority_position

  abbrev pub JobFits : CollectionJobToken → Type 0
  JobFits j =
      T.Name j.job_id ⊗ Number j.owner_generation ⊗ PositionFits j.authority_position ⊗ Number j.frozen_floor ⊗ ReferenceFits j.input_manifest
      ⊗ T.Name j.destination_root ⊗ Number j.range_map_epoch ⊗ Number j.expected_collected_through ⊗ T.Key j.output_namespace

  abbrev pub ReceiptFits : CollectionReceipt → Type 0
  ReceiptFits r = JobFits r.token ⊗ ReferenceFits r.output_manifest ⊗ T.Keys r.object_keys

  abbrev pub PermitFits : DeletePermit → Type 0
  PermitFits p = T.Key p.key ⊗ IdentityFits p.identity ⊗ T.Name p.plan_id ⊗ Number p.owner_generation ⊗ PositionFits p.authority_position

  -- what stands in each map, under which key
  abbrev pub IntentAt : Text → PreparedPublication → Type 0
  IntentAt k v = T.Name k × PreparedFits v

  abbrev pub ReferenceAt : Text → ObjectReference → Type 0
  ReferenceAt k v = T.Name k × ReferenceFits v

  abbrev pub PermitAt : Text → DeletePermit → Type 0
  PermitAt k v = (v.key ≡ k) × PermitFits v

  abbrev pub LeaseAt : Text → SnapshotLeaseToken → Type 0
  LeaseAt k v = (v.lease_id ≡ k) × LeaseFits v

  abbrev pub JobAt : Text → CollectionJobToken → Type 0
  JobAt k v = (v.job_id ≡ k) × JobFits v

  pub record Formed (s : State) : Type 0 where
    pub numbers : Numbers s.format_version s.root_intent_epoch s.observed_commit_frontier s.retention_policy_epoch s.policy_floor s.minimum_readable_version s.physically_collected_through s.lease_clock_tick s.lease_epoch s.range_map_epoch
    pub revision : PositionFits s.revision
    pub retention_window : Maybe Number s.retention_window
    pub collection_root : Maybe T.Name s.collection_root
    pub intents : Table IntentAt s.intents
    pub roots : Table ReferenceAt s.roots
    pub pins : Table ReferenceAt s.pins
    pub deletion_reservations : Table PermitAt s.deletion_reservations
    pub leases : Table LeaseAt s.leases
    pub collection_jobs : Table JobAt s.collection_jobs

  -- a request, and an outcome; no id of ended leases stands twice
  abbrev pub ActionFits : Action → Type 0
  ActionFits (ObserveCommittedFrontier n) = Number n
  ActionFits (SetRetentionWindow e w) = Number e ⊗ Number w
  ActionFits (ObserveRangeMapEpoch e) = Number e
  ActionFits (ConfigureCollectionRoot x r) = Maybe T.Name x ⊗ T.Name r
  ActionFits (AcquireLease id t v o p d c) = T.Name id ⊗ T.Name t ⊗ Number v ⊗ T.Name o ⊗ T.Name p ⊗ Number d ⊗ ClosureFits c
  ActionFits (RenewLease id e d) = T.Name id ⊗ Number e ⊗ Number d
  ActionFits (ReleaseLease id e) = T.Name id ⊗ Number e
  ActionFits (AdvanceLeaseClock e n) = Number e ⊗ Number n
  ActionFits (PrepareCollection id f m r e x ns) = T.Name id ⊗ Number f ⊗ ReferenceFits m ⊗ T.Name r ⊗ Number e ⊗ Number x ⊗ T.Key ns
  ActionFits (PublishCollection r) = ReceiptFits r
  ActionFits (AbandonCollection t) = JobFits t
  ActionFits (Prepare id i) = T.Name id ⊗ IntentFits i
  ActionFits (Publish id r x m) = T.Name id ⊗ T.Name r ⊗ Maybe ReferenceFits x ⊗ ReferenceFits m
  ActionFits (Pin id x m) = T.Name id ⊗ Maybe ReferenceFits x ⊗ ReferenceFits m
  ActionFits (Unpin id x) = T.Name id ⊗ ReferenceFits x
  ActionFits (ReserveDelete p e k i) = T.Name p ⊗ Number e ⊗ T.Key k ⊗ IdentityFits i
  ActionFits (RetireDelete p) = PermitFits p

  abbrev pub OutcomeFits : Outcome → Type 0
  OutcomeFits Applied = Unit {0}
  OutcomeFits (DeleteReserved p) = PermitFits p
  OutcomeFits (LeaseAcquired t) = LeaseFits t
  OutcomeFits (LeaseRenewed t) = LeaseFits t
  OutcomeFits (LeasesExpired ids) = Every T.Name ids ⊗ Pairs Differ ids
  OutcomeFits (CollectionPrepared t) = JobFits t
  OutcomeFits (CollectionPublished r) = ReceiptFits r
