-- `apply` and `validate_active_snapshot_lease` of the Rust, over plain maps: one definition to a function, its tests in its order. What
-- the change requests add to them is said where it is defined.
-- Where the Rust has `test && !faults.f` the flag stands first, so that the test computes away when the flag is known.
use Rattle.std.specs.Prelude.{ℕ, List, Bool, false, not, cond, ◌&&◌, ◌||◌, leb, ltb, eqb, Option, None, Some}
use Rattle.state.specs.Maps.{Text, same, same_option, is_empty, is_some, contains, starts_with, ends_with_byte, any, lookup, has_key, any_value}
use Rattle.state.specs.Records.{AuthorityPosition, AuthorityContext, ObjectIdentity, ObjectReference, PublicationIntent, PreparedPublication, SnapshotClosure, SnapshotLeaseToken, CollectionJobToken, CollectionReceipt, DeletePermit, PublicationAuthorityFaults, State, reference_eq, lease_eq, job_eq, permit_eq, is_manifest, names, valid_context, valid_identity, valid_reference, valid_intent, valid_closure, valid_receipt}
use Rattle.state.specs.Setters.{set_revision}
use Rattle.machine.specs.Status.{InvalidRequest, PublicationExists, PublicationIntentMissing, PublicationIntentMismatch, CrossGenerationIntent, RootCompareFailed, PinCompareFailed, RootIntentEpochChanged, ObjectDeletionReserved, ObjectNamedByIntent, DeleteReservationExists, DeleteReservationMissing, CrossGenerationDeletePermit, DeletePlanMismatch, CommittedFrontierRetreated, RetentionPolicyEpochMismatch, RetentionPolicyUnconfigured, SnapshotBelowFloor, SnapshotAheadOfFrontier, LeaseExists, LeaseMissing, LeaseEpochMismatch, LeaseDeadlineInvalid, LeaseClockMismatch, LeaseClockRetreated, RangeMapEpochRetreated, RangeMapEpochMismatch, CollectionJobExists, CollectionJobMissing, CollectionJobMismatch, CollectionConflict, CollectionFloorInvalid, CollectionFrontierMismatch, CollectionReceiptMismatch, CollectionRootCompareFailed}
use Rattle.machine.specs.Actions.{Action, ObserveCommittedFrontier, SetRetentionWindow, ObserveRangeMapEpoch, ConfigureCollectionRoot, AcquireLease, RenewLease, ReleaseLease, AdvanceLeaseClock, PrepareCollection, PublishCollection, AbandonCollection, Prepare, Publish, Pin, Unpin, ReserveDelete, RetireDelete, Applied, DeleteReserved, LeaseAcquired, LeaseRenewed, LeasesExpired, CollectionPrepared, CollectionPublished, Transition, rejected, accepted, Rule, accept, decide, refuse◌if◌, found◌else◌, ◌>>◌, ◌>>=◌}
use Rattle.machine.specs.Next.{frontier_observed, window_set, range_map_observed, root_configured, new_lease, renewed_lease, acquired, renewed, released, expired, clock_advanced, new_job, collection_prepared, collection_published, collection_abandoned, intent_prepared, root_published, pinned, unpinned, new_permit, reserved, retired}

unfoldable pub observe_committed_frontier : State → ℕ → Rule
observe_committed_frontier s committed-frontier = do
  refuse InvalidRequest if eqb committed-frontier 0
  refuse CommittedFrontierRetreated if ltb committed-frontier s.observed_commit_frontier
  accept (frontier_observed s committed-frontier) Applied

unfoldable pub set_retention_window : State → ℕ → ℕ → Rule
set_retention_window s expected-policy-epoch window = do
  refuse RetentionPolicyEpochMismatch if not (eqb expected-policy-epoch s.retention_policy_epoch)
  accept (window_set s window) Applied

unfoldable pub observe_range_map_epoch : State → ℕ → Rule
observe_range_map_epoch s range_map_epoch = do
  refuse InvalidRequest if eqb range_map_epoch 0
  refuse RangeMapEpochRetreated if ltb range_map_epoch s.range_map_epoch
  accept (range_map_observed s range_map_epoch) Applied

unfoldable pub configure_collection_root : State → Option Text → Text → Rule
configure_collection_root s expected destination_root = do
  refuse InvalidRequest if is_empty destination_root
  refuse InvalidRequest if not (has_key destination_root s.roots)
  refuse CollectionRootCompareFailed if not (same_option same s.collection_root expected)
  refuse CollectionConflict if not (is_empty s.collection_jobs)
  accept (root_configured s destination_root) Applied

-- A key of the set is reserved for deletion. The Rust asks it of a publication and of a receipt; request K3 asks it of a lease, after
-- all that the Rust asks, and under any fault flags.
abbrev pub any_reserved : State → List Text → Bool
any_reserved s keys = any (λ key. has_key key s.deletion_reservations) keys

unfoldable pub acquire_lease : State → Text → Text → ℕ → Text → Text → ℕ → SnapshotClosure → AuthorityContext → PublicationAuthorityFaults → Rule
acquire_lease s lease_id tenant_id snapshot_version owner purpose deadline_tick closure context faults = do
  refuse InvalidRequest if is_empty lease_id
  refuse InvalidRequest if is_empty tenant_id
  refuse InvalidRequest if eqb snapshot_version 0
  refuse InvalidRequest if is_empty owner
  refuse InvalidRequest if is_empty purpose
  refuse InvalidRequest if not (valid_closure closure)
  refuse RetentionPolicyUnconfigured if not (is_some s.retention_window)
  refuse LeaseExists if has_key lease_id s.leases
  refuse SnapshotBelowFloor if not faults.accept_backdated_lease && ltb snapshot_version s.minimum_readable_version
  refuse SnapshotAheadOfFrontier if ltb s.observed_commit_frontier snapshot_version
  refuse LeaseDeadlineInvalid if leb deadline_tick s.lease_clock_tick
  refuse ObjectDeletionReserved if any_reserved s closure.object_keys
  let token = new_lease s lease_id tenant_id snapshot_version owner purpose deadline_tick closure context
  accept (acquired s lease_id token faults.omit_lease_root_epoch) (LeaseAcquired token)

unfoldable pub renew_lease : State → Text → ℕ → ℕ → AuthorityContext → PublicationAuthorityFaults → Rule
renew_lease s lease_id expected-lease-epoch new-deadline-tick context faults = do
  existing ← found lookup lease_id s.leases else LeaseMissing
  refuse LeaseEpochMismatch if not (eqb existing.lease_epoch expected-lease-epoch)
  refuse LeaseDeadlineInvalid if leb new-deadline-tick s.lease_clock_tick
  refuse LeaseDeadlineInvalid if leb new-deadline-tick existing.deadline_tick
  refuse ObjectDeletionReserved if any_reserved s existing.closure.object_keys
  let token = renewed_lease s existing new-deadline-tick context
  accept (renewed s lease_id token faults.omit_lease_root_epoch) (LeaseRenewed token)

unfoldable pub release_lease : State → Text → ℕ → PublicationAuthorityFaults → Rule
release_lease s lease_id expected-lease-epoch faults = do
  existing ← found lookup lease_id s.leases else LeaseMissing
  refuse LeaseEpochMismatch if not (eqb existing.lease_epoch expected-lease-epoch)
  accept (released s lease_id faults.omit_lease_root_epoch) Applied

unfoldable pub advance_lease_clock : State → ℕ → ℕ → PublicationAuthorityFaults → Rule
advance_lease_clock s expected-tick next-tick faults = do
  refuse LeaseClockMismatch if not (eqb expected-tick s.lease_clock_tick)
  refuse LeaseClockRetreated if leb next-tick expected-tick
  accept (clock_advanced s next-tick faults.omit_lease_root_epoch) (LeasesExpired (expired s next-tick))

-- a job in the way of another: its root, or a namespace of which one begins with the other
unfoldable pub conflicts : Text → Text → CollectionJobToken → Bool
conflicts destination_root output_namespace job =
    same job.destination_root destination_root
    || same job.output_namespace output_namespace
    || starts_with job.output_namespace output_namespace
    || starts_with output_namespace job.output_namespace

unfoldable pub prepare_collection : State → Text → ℕ → ObjectReference → Text → ℕ → ℕ → Text → AuthorityContext → PublicationAuthorityFaults → Rule
prepare_collection s job_id frozen_floor input_manifest destination_root range_map_epoch expected_collected_through output_namespace context faults = do
  refuse InvalidRequest if is_empty job_id
  refuse InvalidRequest if eqb frozen_floor 0
  refuse InvalidRequest if not (is_manifest input_manifest)
  refuse InvalidRequest if not (valid_reference input_manifest)
  refuse InvalidRequest if is_empty destination_root
  refuse InvalidRequest if eqb range_map_epoch 0
  refuse InvalidRequest if is_empty output_namespace
  refuse InvalidRequest if not (ends_with_byte 47 output_namespace)
  refuse CollectionJobExists if has_key job_id s.collection_jobs
  refuse CollectionConflict if any_value (conflicts destination_root output_namespace) s.collection_jobs
  refuse RangeMapEpochMismatch if not faults.ignore_collection_range_epoch && not (eqb range_map_epoch s.range_map_epoch)
  refuse CollectionRootCompareFailed if not (same_option same s.collection_root (Some destination_root))
  refuse CollectionFrontierMismatch if not (eqb expected_collected_through s.physically_collected_through)
  refuse CollectionFloorInvalid if leb frozen_floor s.physically_collected_through
  refuse CollectionFloorInvalid if ltb s.minimum_readable_version frozen_floor
  refuse RootCompareFailed if not faults.ignore_collection_input_root && not (same_option reference_eq (lookup destination_root s.roots) (Some input_manifest))
  let token = new_job job_id frozen_floor input_manifest destination_root range_map_epoch expected_collected_through output_namespace context
  accept (collection_prepared s token faults.advance_collection_without_publication) (CollectionPrepared token)

unfoldable pub publish_collection : State → CollectionReceipt → ℕ → PublicationAuthorityFaults → Rule
publish_collection s receipt generation faults = do
  refuse InvalidRequest if not (valid_receipt receipt)
  refuse InvalidRequest if reference_eq receipt.output_manifest receipt.token.input_manifest
  prepared ← found lookup receipt.token.job_id s.collection_jobs else CollectionJobMissing
  refuse CollectionReceiptMismatch if not (job_eq prepared receipt.token)
  refuse CrossGenerationIntent if not (eqb prepared.owner_generation generation)
  refuse RangeMapEpochMismatch if not faults.ignore_collection_range_epoch && not (eqb prepared.range_map_epoch s.range_map_epoch)
  refuse CollectionRootCompareFailed if not (same_option same s.collection_root (Some prepared.destination_root))
  refuse CollectionFrontierMismatch if not (eqb prepared.expected_collected_through s.physically_collected_through)
  refuse RootCompareFailed if not faults.ignore_collection_input_root && not (same_option reference_eq (lookup prepared.destination_root s.roots) (Some prepared.input_manifest))
  refuse ObjectDeletionReserved if any_reserved s receipt.object_keys
  accept (collection_published s prepared receipt.output_manifest) (CollectionPublished receipt)

unfoldable pub abandon_collection : State → CollectionJobToken → ℕ → Rule
abandon_collection s token generation = do
  prepared ← found lookup token.job_id s.collection_jobs else CollectionJobMissing
  refuse CollectionJobMismatch if not (job_eq prepared token)
  refuse CrossGenerationIntent if not (eqb token.owner_generation generation)
  accept (collection_abandoned s token.job_id) Applied

unfoldable pub prepare : State → Text → PublicationIntent → ℕ → PublicationAuthorityFaults → Rule
prepare s publication-id intent owner_generation faults = do
  refuse InvalidRequest if is_empty publication-id
  refuse InvalidRequest if not (valid_intent intent)
  refuse PublicationExists if has_key publication-id s.intents
  refuse ObjectDeletionReserved if not faults.ignore_delete_reservation && any_reserved s intent.object_keys
  accept (intent_prepared s publication-id (record { owner_generation = owner_generation; intent = intent })) Applied

-- the guard of `publish` on the stored intent
unfoldable pub intent_matches : Text → Option ObjectReference → ObjectReference → PreparedPublication → Bool
intent_matches destination_root expected_prior_root manifest prepared =
    reference_eq prepared.intent.manifest manifest
    && same prepared.intent.destination_root destination_root
    && same_option reference_eq prepared.intent.expected_prior_root expected_prior_root
    && contains manifest.key prepared.intent.object_keys

-- a stored record fails a test
abbrev pub fails : {A : Type 0} → (A → Bool) → Option A → Bool
fails test None = false
fails test (Some x) = not (test x)

unfoldable pub publish : State → Text → Text → Option ObjectReference → ObjectReference → ℕ → PublicationAuthorityFaults → Rule
publish s publication-id destination_root expected_prior_root manifest generation faults = do
  refuse InvalidRequest if is_empty publication-id
  refuse InvalidRequest if is_empty destination_root
  refuse InvalidRequest if not (is_manifest manifest)
  refuse InvalidRequest if not (valid_reference manifest)
  let prepared = lookup publication-id s.intents
  refuse PublicationIntentMismatch if fails (intent_matches destination_root expected_prior_root manifest) prepared
  refuse CrossGenerationIntent if not faults.allow_cross_generation_intent && fails (λ p. eqb p.owner_generation generation) prepared
  refuse PublicationIntentMissing if not faults.publish_without_intent && not (is_some prepared)
  refuse RootCompareFailed if not faults.ignore_root_compare && not (same_option reference_eq (lookup destination_root s.roots) expected_prior_root)
  accept (root_published s publication-id destination_root manifest) Applied

unfoldable pub pin : State → Text → Option ObjectReference → ObjectReference → Rule
pin s pin-id expected manifest = do
  refuse InvalidRequest if is_empty pin-id
  refuse InvalidRequest if not (is_manifest manifest)
  refuse InvalidRequest if not (valid_reference manifest)
  refuse PinCompareFailed if not (same_option reference_eq (lookup pin-id s.pins) expected)
  accept (pinned s pin-id manifest) Applied

unfoldable pub unpin : State → Text → ObjectReference → Rule
unpin s pin-id expected = do
  refuse InvalidRequest if is_empty pin-id
  refuse InvalidRequest if not (valid_reference expected)
  refuse PinCompareFailed if not (same_option reference_eq (lookup pin-id s.pins) (Some expected))
  accept (unpinned s pin-id) Applied

unfoldable pub reserve_delete : State → Text → ℕ → Text → ObjectIdentity → AuthorityContext → PublicationAuthorityFaults → Rule
reserve_delete s plan_id mark-epoch key identity context faults = do
  refuse InvalidRequest if is_empty plan_id
  refuse InvalidRequest if is_empty key
  refuse InvalidRequest if not (valid_identity identity)
  refuse RootIntentEpochChanged if not faults.ignore_root_epoch && not (eqb mark-epoch s.root_intent_epoch)
  refuse ObjectNamedByIntent if any_value (λ prepared. contains key prepared.intent.object_keys) s.intents
  refuse ObjectNamedByIntent if any_value (λ lease. names lease.closure key) s.leases
  refuse ObjectNamedByIntent if any_value (λ job. same job.input_manifest.key key || starts_with key job.output_namespace) s.collection_jobs
  refuse DeleteReservationExists if has_key key s.deletion_reservations
  let permit = new_permit key identity plan_id context
  accept (reserved s permit) (DeleteReserved permit)

unfoldable pub retire_delete : State → DeletePermit → ℕ → PublicationAuthorityFaults → Rule
retire_delete s permit generation faults = do
  reservation ← found lookup permit.key s.deletion_reservations else DeleteReservationMissing
  refuse CrossGenerationDeletePermit if not (eqb permit.owner_generation generation)
  let exact = permit_eq reservation permit
  let weak-match = faults.retire_by_plan_key_only && same reservation.plan_id permit.plan_id && same reservation.key permit.key
  refuse DeletePlanMismatch if not exact && not weak-match
  accept (retired s permit.key) Applied

-- the `match` of `apply`
unfoldable pub act : State → Action → AuthorityContext → PublicationAuthorityFaults → Rule
act s (ObserveCommittedFrontier committed-frontier) c f = observe_committed_frontier s committed-frontier
act s (SetRetentionWindow expected-policy-epoch window) c f = set_retention_window s expected-policy-epoch window
act s (ObserveRangeMapEpoch range_map_epoch) c f = observe_range_map_epoch s range_map_epoch
act s (ConfigureCollectionRoot expected destination_root) c f = configure_collection_root s expected destination_root
act s (AcquireLease id tenant version owner purpose deadline closure) c f = acquire_lease s id tenant version owner purpose deadline closure c f
act s (RenewLease id epoch deadline) c f = renew_lease s id epoch deadline c f
act s (ReleaseLease id epoch) c f = release_lease s id epoch f
act s (AdvanceLeaseClock expected next) c f = advance_lease_clock s expected next f
act s (PrepareCollection job floor input root range expected namespace) c f = prepare_collection s job floor input root range expected namespace c f
act s (PublishCollection receipt) c f = publish_collection s receipt c.generation f
act s (AbandonCollection token) c f = abandon_collection s token c.generation
act s (Prepare id intent) c f = prepare s id intent c.generation f
act s (Publish id root prior manifest) c f = publish s id root prior manifest c.generation f
act s (Pin id expected manifest) c f = pin s id expected manifest
act s (Unpin id expected) c f = unpin s id expected
act s (ReserveDelete plan epoch key identity) c f = reserve_delete s plan epoch key identity c f
act s (RetireDelete permit) c f = retire_delete s permit c.generation f

unfoldable pub rule : State → Action → AuthorityContext → PublicationAuthorityFaults → Rule
rule s action context faults = do
  refuse InvalidRequest if not (eqb s.format_version 1)
  refuse InvalidRequest if not (valid_context context)
  act s action context faults

-- acceptance, and it alone, sets the revision
unfoldable pub stamp : AuthorityPosition → Transition → Transition
stamp p (rejected n) = rejected n
stamp p (accepted s o) = accepted (set_revision p s) o

unfoldable pub apply : State → Action → AuthorityContext → PublicationAuthorityFaults → Transition
apply s action context faults = stamp context.position (decide (rule s action context faults))

-- validate_active_snapshot_lease: 0 is Ok, 1 to 4 the errors in declared order
unfoldable pub validate_found : State → SnapshotLeaseToken → Option SnapshotLeaseToken → ℕ
validate_found s token None = 2
validate_found s token (Some active) = cond (lease_eq active token) (cond (leb token.deadline_tick s.lease_clock_tick) 4 0) 3

unfoldable pub validate : State → SnapshotLeaseToken → ℕ
validate s token = cond (eqb s.format_version 1) (validate_found s token (lookup token.lease_id s.leases)) 1
