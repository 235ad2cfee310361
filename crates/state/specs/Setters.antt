-- One setter to a field. antt has no record update: a setter writes the state anew, its fields in the declared order,
-- with `x` in the place of the old value.
use Rattle.std.specs.Prelude.{ℕ, ◌≡◌, refl, Option}
use Rattle.state.specs.Maps.{Text, Map}
use Rattle.state.specs.Records.{AuthorityPosition, ObjectReference, PreparedPublication, SnapshotLeaseToken, CollectionJobToken, DeletePermit, State}

abbrev pub state : ℕ → AuthorityPosition → ℕ → Map PreparedPublication → Map ObjectReference → Map ObjectReference → Map DeletePermit
    → ℕ → Option ℕ → ℕ → ℕ → ℕ → ℕ → ℕ → ℕ → Map SnapshotLeaseToken → ℕ → Option Text → Map CollectionJobToken → State
state a b c d e f g h i j k l m n o p q r s = record {
  format_version = a;
  revision = b;
  root_intent_epoch = c;
  intents = d;
  roots = e;
  pins = f;
  deletion_reservations = g;
  observed_commit_frontier = h;
  retention_window = i;
  retention_policy_epoch = j;
  policy_floor = k;
  minimum_readable_version = l;
  physically_collected_through = m;
  lease_clock_tick = n;
  lease_epoch = o;
  leases = p;
  range_map_epoch = q;
  collection_root = r;
  collection_jobs = s;
}

abbrev pub set_revision : AuthorityPosition → State → State
set_revision x s = state
    s.format_version x s.root_intent_epoch s.intents s.roots s.pins s.deletion_reservations
    s.observed_commit_frontier s.retention_window s.retention_policy_epoch s.policy_floor
    s.minimum_readable_version s.physically_collected_through s.lease_clock_tick s.lease_epoch
    s.leases s.range_map_epoch s.collection_root s.collection_jobs

abbrev pub set_root_intent_epoch : ℕ → State → State
set_root_intent_epoch x s = state
    s.format_version s.revision x s.intents s.roots s.pins s.deletion_reservations
    s.observed_commit_frontier s.retention_window s.retention_policy_epoch s.policy_floor
    s.minimum_readable_version s.physically_collected_through s.lease_clock_tick s.lease_epoch
    s.leases s.range_map_epoch s.collection_root s.collection_jobs

abbrev pub set_intents : Map PreparedPublication → State → State
set_intents x s = state
    s.format_version s.revision s.root_intent_epoch x s.roots s.pins s.deletion_reservations
    s.observed_commit_frontier s.retention_window s.retention_policy_epoch s.policy_floor
    s.minimum_readable_version s.physically_collected_through s.lease_clock_tick s.lease_epoch
    s.leases s.range_map_epoch s.collection_root s.collection_jobs

abbrev pub set_roots : Map ObjectReference → State → State
set_roots x s = state
    s.format_version s.revision s.root_intent_epoch s.intents x s.pins s.deletion_reservations
    s.observed_commit_frontier s.retention_window s.retention_policy_epoch s.policy_floor
    s.minimum_readable_version s.physically_collected_through s.lease_clock_tick s.lease_epoch
    s.leases s.range_map_epoch s.collection_root s.collection_jobs

abbrev pub set_pins : Map ObjectReference → State → State
set_pins x s = state
    s.format_version s.revision s.root_intent_epoch s.intents s.roots x s.deletion_reservations
    s.observed_commit_frontier s.retention_window s.retention_policy_epoch s.policy_floor
    s.minimum_readable_version s.physically_collected_through s.lease_clock_tick s.lease_epoch
    s.leases s.range_map_epoch s.collection_root s.collection_jobs

abbrev pub set_deletion_reservations : Map DeletePermit → State → State
set_deletion_reservations x s = state
    s.format_version s.revision s.root_intent_epoch s.intents s.roots s.pins x
    s.observed_commit_frontier s.retention_window s.retention_policy_epoch s.policy_floor
    s.minimum_readable_version s.physically_collected_through s.lease_clock_tick s.lease_epoch
    s.leases s.range_map_epoch s.collection_root s.collection_jobs

abbrev pub set_observed_commit_frontier : ℕ → State → State
set_observed_commit_frontier x s = state
    s.format_version s.revision s.root_intent_epoch s.intents s.roots s.pins s.deletion_reservations
    x s.retention_window s.retention_policy_epoch s.policy_floor
    s.minimum_readable_version s.physically_collected_through s.lease_clock_tick s.lease_epoch
    s.leases s.range_map_epoch s.collection_root s.collection_jobs

abbrev pub set_retention_window : Option ℕ → State → State
set_retention_window x s = state
    s.format_version s.revision s.root_intent_epoch s.intents s.roots s.pins s.deletion_reservations
    s.observed_commit_frontier x s.retention_policy_epoch s.policy_floor
    s.minimum_readable_version s.physically_collected_through s.lease_clock_tick s.lease_epoch
    s.leases s.range_map_epoch s.collection_root s.collection_jobs

abbrev pub set_retention_policy_epoch : ℕ → State → State
set_retention_policy_epoch x s = state
    s.format_version s.revision s.root_intent_epoch s.intents s.roots s.pins s.deletion_reservations
    s.observed_commit_frontier s.retention_window x s.policy_floor
    s.minimum_readable_version s.physically_collected_through s.lease_clock_tick s.lease_epoch
    s.leases s.range_map_epoch s.collection_root s.collection_jobs

abbrev pub set_policy_floor : ℕ → State → State
set_policy_floor x s = state
    s.format_version s.revision s.root_intent_epoch s.intents s.roots s.pins s.deletion_reservations
    s.observed_commit_frontier s.retention_window s.retention_policy_epoch x
    s.minimum_readable_version s.physically_collected_through s.lease_clock_tick s.lease_epoch
    s.leases s.range_map_epoch s.collection_root s.collection_jobs

abbrev pub set_minimum_readable_version : ℕ → State → State
set_minimum_readable_version x s = state
    s.format_version s.revision s.root_intent_epoch s.intents s.roots s.pins s.deletion_reservations
    s.observed_commit_frontier s.retention_window s.retention_policy_epoch s.policy_floor
    x s.physically_collected_through s.lease_clock_tick s.lease_epoch
    s.leases s.range_map_epoch s.collection_root s.collection_jobs

abbrev pub set_physically_collected_through : ℕ → State → State
set_physically_collected_through x s = state
    s.format_version s.revision s.root_intent_epoch s.intents s.roots s.pins s.deletion_reservations
    s.observed_commit_frontier s.retention_window s.retention_policy_epoch s.policy_floor
    s.minimum_readable_version x s.lease_clock_tick s.lease_epoch
    s.leases s.range_map_epoch s.collection_root s.collection_jobs

abbrev pub set_lease_clock_tick : ℕ → State → State
set_lease_clock_tick x s = state
    s.format_version s.revision s.root_intent_epoch s.intents s.roots s.pins s.deletion_reservations
    s.observed_commit_frontier s.retention_window s.retention_policy_epoch s.policy_floor
    s.minimum_readable_version s.physically_collected_through x s.lease_epoch
    s.leases s.range_map_epoch s.collection_root s.collection_jobs

abbrev pub set_lease_epoch : ℕ → State → State
set_lease_epoch x s = state
    s.format_version s.revision s.root_intent_epoch s.intents s.roots s.pins s.deletion_reservations
    s.observed_commit_frontier s.retention_window s.retention_policy_epoch s.policy_floor
    s.minimum_readable_version s.physically_collected_through s.lease_clock_tick x
    s.leases s.range_map_epoch s.collection_root s.collection_jobs

abbrev pub set_leases : Map SnapshotLeaseToken → State → State
set_leases x s = state
    s.format_version s.revision s.root_intent_epoch s.intents s.roots s.pins s.deletion_reservations
    s.observed_commit_frontier s.retention_window s.retention_policy_epoch s.policy_floor
    s.minimum_readable_version s.physically_collected_through s.lease_clock_tick s.lease_epoch
    x s.range_map_epoch s.collection_root s.collection_jobs

abbrev pub set_range_map_epoch : ℕ → State → State
set_range_map_epoch x s = state
    s.format_version s.revision s.root_intent_epoch s.intents s.roots s.pins s.deletion_reservations
    s.observed_commit_frontier s.retention_window s.retention_policy_epoch s.policy_floor
    s.minimum_readable_version s.physically_collected_through s.lease_clock_tick s.lease_epoch
    s.leases x s.collection_root s.collection_jobs

abbrev pub set_collection_root : Option Text → State → State
set_collection_root x s = state
    s.format_version s.revision s.root_intent_epoch s.intents s.roots s.pins s.deletion_reservations
    s.observed_commit_frontier s.retention_window s.retention_policy_epoch s.policy_floor
    s.minimum_readable_version s.physically_collected_through s.lease_clock_tick s.lease_epoch
    s.leases s.range_map_epoch x s.collection_jobs

abbrev pub set_collection_jobs : Map CollectionJobToken → State → State
set_collection_jobs x s = state
    s.format_version s.revision s.root_intent_epoch s.intents s.roots s.pins s.deletion_reservations
    s.observed_commit_frontier s.retention_window s.retention_policy_epoch s.policy_floor
    s.minimum_readable_version s.physically_collected_through s.lease_clock_tick s.lease_epoch
    s.leases s.range_map_epoch s.collection_root x

-- A setter changes its own field alone: to set what is there changes nothing, and what is set is there.
pub set_same : (s : State) →
    (set_revision s.revision s ≡ s) ×
    (set_root_intent_epoch s.root_intent_epoch s ≡ s) ×
    (set_intents s.intents s ≡ s) ×
    (set_roots s.roots s ≡ s) ×
    (set_pins s.pins s ≡ s) ×
    (set_deletion_reservations s.deletion_reservations s ≡ s) ×
    (set_observed_commit_frontier s.observed_commit_frontier s ≡ s) ×
    (set_retention_window s.retention_window s ≡ s) ×
    (set_retention_policy_epoch s.retention_policy_epoch s ≡ s) ×
    (set_policy_floor s.policy_floor s ≡ s) ×
    (set_minimum_readable_version s.minimum_readable_version s ≡ s) ×
    (set_physically_collected_through s.physically_collected_through s ≡ s) ×
    (set_lease_clock_tick s.lease_clock_tick s ≡ s) ×
    (set_lease_epoch s.lease_epoch s ≡ s) ×
    (set_leases s.leases s ≡ s) ×
    (set_range_map_epoch s.range_map_epoch s ≡ s) ×
    (set_collection_root s.collection_root s ≡ s) ×
    (set_collection_jobs s.collection_jobs s ≡ s)
set_same s = (refl, refl, refl, refl, refl, refl, refl, refl, refl, refl, refl, refl, refl, refl, refl, refl, refl, refl)

pub set_there : (s : State) (n : ℕ) (p : AuthorityPosition) (i : Map PreparedPublication) (r : Map ObjectReference) (d : Map DeletePermit) (w : Option ℕ) (l : Map SnapshotLeaseToken) (t : Option Text) (j : Map CollectionJobToken) →
    ((set_revision p s).revision ≡ p) ×
    ((set_root_intent_epoch n s).root_intent_epoch ≡ n) ×
    ((set_intents i s).intents ≡ i) ×
    ((set_roots r s).roots ≡ r) ×
    ((set_pins r s).pins ≡ r) ×
    ((set_deletion_reservations d s).deletion_reservations ≡ d) ×
    ((set_observed_commit_frontier n s).observed_commit_frontier ≡ n) ×
    ((set_retention_window w s).retention_window ≡ w) ×
    ((set_retention_policy_epoch n s).retention_policy_epoch ≡ n) ×
    ((set_policy_floor n s).policy_floor ≡ n) ×
    ((set_minimum_readable_version n s).minimum_readable_version ≡ n) ×
    ((set_physically_collected_through n s).physically_collected_through ≡ n) ×
    ((set_lease_clock_tick n s).lease_clock_tick ≡ n) ×
    ((set_lease_epoch n s).lease_epoch ≡ n) ×
    ((set_leases l s).leases ≡ l) ×
    ((set_range_map_epoch n s).range_map_epoch ≡ n) ×
    ((set_collection_root t s).collection_root ≡ t) ×
    ((set_collection_jobs j s).collection_jobs ≡ j)
set_there s n p i r d w l t j = (refl, refl, refl, refl, refl, refl, refl, refl, refl, refl, refl, refl, refl, refl, refl, refl, refl, refl)
