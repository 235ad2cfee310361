-- The contents after a change of leases, and the state that they show.
use Rattle.std.specs.Prelude.{ℕ, ◌≤◌, List, ◌≡◌, set}
use Rattle.std.proofs.Common.{ap, ◌∙◌}
use Rattle.state.specs.Maps.{Map}
use Rattle.state.specs.Records.{SnapshotLeaseToken, State}
use Rattle.state.specs.Setters.{set_revision, set_root_intent_epoch, set_policy_floor, set_minimum_readable_version, set_lease_clock_tick, set_lease_epoch, set_leases}
use Rattle.image.specs.Layout.{leases, with_map}
use Rattle.image.specs.ImageParts.{tables_of, measures}
use Rattle.image.specs.Opened.{measures_in, Shows, Holds}
use Rattle.image.specs.Front.{Small}
use Rattle.image.specs.TableLaws.{index}
use Rattle.image.specs.declared.Table.{Table}
use Rattle.image.specs.declared.Contents.{Contents}
use Rattle.machine.specs.Next.{◌▸◌, oldest, policy_for, readable_for}
use Rattle.requests.specs.Meaning.{position_of}
use Rattle.requests.specs.declared.AuthorityContext.{AuthorityContext}
use Rattle.next.specs.Kept.{number_is}
use Rattle.next.specs.ShownLaws.{small-table}
use Rattle.floor.specs.Floors.{readable_for_window, readable-is}

-- the contents with the numbers that a change of leases sets, and with the table t of leases
abbrev pub leased : Contents → AuthorityContext → (root-epoch policy readable clock epoch : ℕ) → (t : Table) → Contents
leased c x root-epoch policy readable clock epoch t =
    let n = c.scalars in
    record {
      format_version = c.format_version;
      scalars = record {
        term = x.position.term;
        index = x.position.index;
        root_intent_epoch = root-epoch;
        observed_commit_frontier = n.observed_commit_frontier;
        retention_window = n.retention_window;
        retention_policy_epoch = n.retention_policy_epoch;
        policy_floor = policy;
        minimum_readable_version = readable;
        physically_collected_through = n.physically_collected_through;
        lease_clock_tick = clock;
        lease_epoch = epoch;
        range_map_epoch = n.range_map_epoch;
        collection_root = n.collection_root;
      };
      tables = set c.tables (index leases) t;
    }

-- the same of a state
abbrev leases_set : State → Map SnapshotLeaseToken → (root-epoch policy readable clock epoch : ℕ) → State
leases_set s m root-epoch policy readable clock epoch =
    s
    ▸ set_leases m
    ▸ set_lease_epoch epoch
    ▸ set_root_intent_epoch root-epoch
    ▸ set_lease_clock_tick clock
    ▸ set_policy_floor policy
    ▸ set_minimum_readable_version readable

-- the numbers that are set, by their places in the list
abbrev numbers_after : List ℕ → AuthorityContext → (root-epoch policy readable clock epoch : ℕ) → List ℕ
numbers_after l x root-epoch policy readable clock epoch =
    set (set (set (set (set (set (set l 0 x.position.term) 1 x.position.index) 2 root-epoch) 5 policy) 6 readable) 8 clock) 9 epoch

-- THE STATE THAT THEY SHOW, with the map m of leases
module _ {x : List ℕ} {c : Contents} {s : State} (h : Holds x c s) (a : AuthorityContext) (m : Map SnapshotLeaseToken) {root-epoch policy readable clock epoch : ℕ} (t : Table)
    (e : measures_in (set c.tables (index leases) t) ≡ measures (tables_of (with_map leases m s)))
    {root-epoch' clock' epoch' : ℕ} (er : root-epoch ≡ root-epoch') (ek : clock ≡ clock') (ee : epoch ≡ epoch')
  where
    pub leases-shown : {policy' readable' : ℕ} → policy ≡ policy' → readable ≡ readable' → Shows x (leased c a root-epoch policy readable clock epoch t) (set_revision (position_of a.position) (leases_set s m root-epoch' policy' readable' clock' epoch'))
    leases-shown p r = record {
      version = h.shows.version;
      numbers = λ i. numbers_after (h.shows.numbers i) a (er i) (p i) (r i) (ek i) (ee i);
      window = h.shows.window;
      root = h.shows.root;
      root_size = h.shows.root_size;
      tables = e;
    }

    -- with the floors recomputed
    pub recomputed : {candidate : ℕ}
        → policy ≡ policy_for c.scalars.retention_window c.scalars.observed_commit_frontier c.scalars.policy_floor
        → candidate ≡ oldest policy m
        → readable ≡ readable_for_window c.scalars.retention_window candidate c.scalars.minimum_readable_version
        → Shows x (leased c a root-epoch policy readable clock epoch t) (set_revision (position_of a.position)
        (leases_set s m root-epoch' (policy_for s.retention_window s.observed_commit_frontier s.policy_floor)
        (readable_for s.retention_window (policy_for s.retention_window s.observed_commit_frontier s.policy_floor) m s.minimum_readable_version) clock' epoch'))
    recomputed {candidate} p k r =
        let floor : ℕ = policy_for s.retention_window s.observed_commit_frontier s.policy_floor in
        let p' : policy ≡ floor = p ∙ (λ i. policy_for (h.shows.window i) (number_is h 3 i) (number_is h 5 i)) in
        leases-shown p'
        (r ∙ (λ i. readable_for_window (h.shows.window i) ((k ∙ ap (λ (v : ℕ). oldest v m) p') i) (number_is h 6 i)) ∙ readable-is s.retention_window floor m s.minimum_readable_version)

pub small-leases : {c : Contents} → Small c → (a : AuthorityContext) {root-epoch policy readable clock epoch : ℕ} (t : Table) → t.size ≤ 1000000 → Small (leased c a root-epoch policy readable clock epoch t)
small-leases k a t h = let u = small-table k (index leases) t h in record { root = k.root; tables = u.tables }
