-- What each acceptance makes: the tokens and the permit that it gives, and the next state, each under one name.
-- `revision` is set by `apply` itself.
use Rattle.std.specs.Prelude.{ℕ, suc, ◌-◌, ◌^◌, min, max, List, [], ◌∷◌, map, Bool, cond, ◌&&◌, ◌||◌, leb, ltb, eqb, Option, None, Some}
use Rattle.state.specs.Maps.{Text, Entry, Map, ◌⟼◌, key_of, before, insert, remove, remove_all, entries_where}
use Rattle.state.specs.Sort.{sort}
use Rattle.state.specs.Records.{AuthorityContext, ObjectIdentity, ObjectReference, PreparedPublication, SnapshotClosure, SnapshotLeaseToken, CollectionJobToken, DeletePermit, State}
use Rattle.state.specs.Setters.{set_root_intent_epoch, set_intents, set_roots, set_pins, set_deletion_reservations, set_observed_commit_frontier, set_retention_window, set_retention_policy_epoch, set_policy_floor, set_minimum_readable_version, set_physically_collected_through, set_lease_clock_tick, set_lease_epoch, set_leases, set_range_map_epoch, set_collection_root, set_collection_jobs}

-- saturating_add(1)
abbrev pub top : ℕ
top = 2 ^ 64 - 1

unfoldable pub up : ℕ → ℕ
up n = min (suc n) top

-- A next state is written as the Rust's assignments, in its order: `s ▸ f ▸ g` is g (f s).
infixl 5 ◌▸◌
abbrev pub ◌▸◌ : State → (State → State) → State
◌▸◌ s f = f s

-- A case of the Rust stands inside the field that it changes, so that every other field computes.
abbrev pub bump_root : State → State
bump_root s = set_root_intent_epoch (up s.root_intent_epoch) s

abbrev pub bump_root_unless : Bool → State → State
bump_root_unless omit s = set_root_intent_epoch (cond omit s.root_intent_epoch (up s.root_intent_epoch)) s

-- RECOMPUTE_READ_FLOOR
-- the smallest of `floor` and the leased versions
unfoldable pub oldest : ℕ → Map SnapshotLeaseToken → ℕ
oldest floor [] = floor
oldest floor ((id ⟼ lease) ∷ m) = min lease.snapshot_version (oldest floor m)

unfoldable pub policy_for : Option ℕ → (frontier old : ℕ) → ℕ
policy_for None frontier old = old
policy_for (Some window) frontier old = max old (frontier - window)

unfoldable pub readable_for : Option ℕ → (policy : ℕ) (leases : Map SnapshotLeaseToken) (old : ℕ) → ℕ
readable_for None policy leases old = old
readable_for (Some window) policy leases old = max old (oldest policy leases)

abbrev pub recompute_read_floor : State → State
recompute_read_floor s =
    let policy = policy_for s.retention_window s.observed_commit_frontier s.policy_floor in
    s
    ▸ set_policy_floor policy
    ▸ set_minimum_readable_version (readable_for s.retention_window policy s.leases s.minimum_readable_version)

-- FRONTIER, WINDOW, RANGE MAP, COLLECTION ROOT
abbrev pub frontier_observed : State → ℕ → State
frontier_observed s frontier =
    s
    ▸ set_observed_commit_frontier frontier
    ▸ recompute_read_floor

abbrev pub window_set : State → ℕ → State
window_set s window =
    s
    ▸ set_retention_window (Some window)
    ▸ set_retention_policy_epoch (up s.retention_policy_epoch)
    ▸ recompute_read_floor

abbrev pub range_map_observed : State → ℕ → State
range_map_observed s epoch = s ▸ set_range_map_epoch epoch

abbrev pub root_configured : State → Text → State
root_configured s root =
    s
    ▸ set_collection_root (Some root)
    ▸ bump_root

-- LEASES: `omit` is the flag omit_lease_root_epoch
abbrev pub new_lease : State → Text → Text → ℕ → Text → Text → ℕ → SnapshotClosure → AuthorityContext → SnapshotLeaseToken
new_lease s lease_id tenant_id snapshot_version owner purpose deadline_tick closure context = record {
  lease_id = lease_id;
  tenant_id = tenant_id;
  snapshot_version = snapshot_version;
  lease_epoch = up s.lease_epoch;
  owner = owner;
  purpose = purpose;
  deadline_tick = deadline_tick;
  closure = closure;
  owner_generation = context.generation;
  authority_position = context.position;
}

abbrev pub renewed_lease : State → SnapshotLeaseToken → ℕ → AuthorityContext → SnapshotLeaseToken
renewed_lease s existing new-deadline-tick context = record {
  lease_id = existing.lease_id;
  tenant_id = existing.tenant_id;
  snapshot_version = existing.snapshot_version;
  lease_epoch = up s.lease_epoch;
  owner = existing.owner;
  purpose = existing.purpose;
  deadline_tick = new-deadline-tick;
  closure = existing.closure;
  owner_generation = context.generation;
  authority_position = context.position;
}

abbrev pub acquired : State → Text → SnapshotLeaseToken → (omit : Bool) → State
acquired s id token omit =
    s
    ▸ set_lease_epoch (up s.lease_epoch)
    ▸ set_leases (insert id token s.leases)
    ▸ bump_root_unless omit
    ▸ recompute_read_floor

-- the floor stays as it is
abbrev pub renewed : State → Text → SnapshotLeaseToken → (omit : Bool) → State
renewed s id token omit =
    s
    ▸ set_lease_epoch (up s.lease_epoch)
    ▸ set_leases (insert id token s.leases)
    ▸ bump_root_unless omit

abbrev pub released : State → Text → (omit : Bool) → State
released s id omit =
    s
    ▸ set_leases (remove id s.leases)
    ▸ set_lease_epoch (up s.lease_epoch)
    ▸ bump_root_unless omit
    ▸ recompute_read_floor

-- a tick reaches the deadline of a lease
abbrev pub ends_by : ℕ → SnapshotLeaseToken → Bool
ends_by tick lease = leb lease.deadline_tick tick

-- a lease ran out before another: by deadline, then by epoch, then by id
unfoldable pub ran_out_before : Entry SnapshotLeaseToken → Entry SnapshotLeaseToken → Bool
ran_out_before (i ⟼ a) (j ⟼ b) =
    ltb a.deadline_tick b.deadline_tick
    || (eqb a.deadline_tick b.deadline_tick && (ltb a.lease_epoch b.lease_epoch
    || (eqb a.lease_epoch b.lease_epoch && before i j)))

-- the leases that a tick ends, in the order in which they ran out
abbrev pub ended : ℕ → Map SnapshotLeaseToken → Map SnapshotLeaseToken
ended next-tick leases = sort ran_out_before (entries_where (ends_by next-tick) leases)

abbrev pub expired : State → ℕ → List Text
expired s next-tick = map key_of (ended next-tick s.leases)

-- an epoch moves only if a lease ended
unfoldable pub moved : List Text → ℕ → ℕ
moved [] n = n
moved (id ∷ ids) n = up n

abbrev pub clock_advanced : State → ℕ → (omit : Bool) → State
clock_advanced s next-tick omit =
    let ids = expired s next-tick in
    s
    ▸ set_lease_clock_tick next-tick
    ▸ set_leases (remove_all ids s.leases)
    ▸ set_lease_epoch (moved ids s.lease_epoch)
    ▸ set_root_intent_epoch (cond omit s.root_intent_epoch (moved ids s.root_intent_epoch))
    ▸ recompute_read_floor

-- COLLECTION: `early` is the flag advance_collection_without_publication
abbrev pub new_job : Text → ℕ → ObjectReference → Text → ℕ → ℕ → Text → AuthorityContext → CollectionJobToken
new_job job_id frozen_floor input_manifest destination_root range_map_epoch expected_collected_through output_namespace context = record {
  job_id = job_id;
  owner_generation = context.generation;
  authority_position = context.position;
  frozen_floor = frozen_floor;
  input_manifest = input_manifest;
  destination_root = destination_root;
  range_map_epoch = range_map_epoch;
  expected_collected_through = expected_collected_through;
  output_namespace = output_namespace;
}

abbrev pub collection_prepared : State → CollectionJobToken → (early : Bool) → State
collection_prepared s job early =
    s
    ▸ set_collection_jobs (insert job.job_id job s.collection_jobs)
    ▸ set_physically_collected_through (cond early job.frozen_floor s.physically_collected_through)
    ▸ bump_root

abbrev pub collection_published : State → CollectionJobToken → (output_manifest : ObjectReference) → State
collection_published s job output_manifest =
    s
    ▸ set_roots (insert job.destination_root output_manifest s.roots)
    ▸ set_physically_collected_through job.frozen_floor
    ▸ set_collection_jobs (remove job.job_id s.collection_jobs)
    ▸ bump_root

abbrev pub collection_abandoned : State → Text → State
collection_abandoned s job_id =
    s
    ▸ set_collection_jobs (remove job_id s.collection_jobs)
    ▸ bump_root

-- PUBLICATION AND PINS
abbrev pub intent_prepared : State → Text → PreparedPublication → State
intent_prepared s id prepared =
    s
    ▸ set_intents (insert id prepared s.intents)
    ▸ bump_root

abbrev pub root_published : State → Text → Text → ObjectReference → State
root_published s id root manifest =
    s
    ▸ set_roots (insert root manifest s.roots)
    ▸ set_intents (remove id s.intents)
    ▸ bump_root

abbrev pub pinned : State → Text → ObjectReference → State
pinned s id manifest =
    s
    ▸ set_pins (insert id manifest s.pins)
    ▸ bump_root

abbrev pub unpinned : State → Text → State
unpinned s id =
    s
    ▸ set_pins (remove id s.pins)
    ▸ bump_root

-- DELETION: the root epoch stays as it is
abbrev pub new_permit : Text → ObjectIdentity → Text → AuthorityContext → DeletePermit
new_permit key identity plan_id context = record {
  key = key;
  identity = identity;
  plan_id = plan_id;
  owner_generation = context.generation;
  authority_position = context.position;
}

abbrev pub reserved : State → DeletePermit → State
reserved s permit = s ▸ set_deletion_reservations (insert permit.key permit s.deletion_reservations)

abbrev pub retired : State → Text → State
retired s key = s ▸ set_deletion_reservations (remove key s.deletion_reservations)
