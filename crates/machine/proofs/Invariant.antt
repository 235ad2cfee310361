-- What every moment of a history keeps, and that each call keeps it.
-- Assumes nothing.
use Rattle.std.specs.Prelude.{ℕ, suc, ◌≤◌, ◌<◌, ◌-◌, min, max, ◌≡◌, List, [], ◌∷◌, cond, Option, None, Some}
use Rattle.std.proofs.Math.Path.{refl}
use Rattle.std.proofs.Common.{ap, ◌∙◌}
use Rattle.std.proofs.Math.Bool.{Bool, false}
use native.Mathlib.Omega.{arith}
use borrow.Author.Tests.{ltb-false, leb-false, eqb-true, not-false}
use Rattle.state.specs.Maps.{Text, Map, ◌⟼◌, same, is_some, lookup, has_key, remove_all}
use Rattle.state.proofs.MapLaws.{no_way, option_clash, is_none, by_test, lookup-remove_all, found-insert, found-remove, any_value_false, none_contained, keys_where_has}
use Rattle.state.proofs.SortLaws.{rearranged_any}
use Rattle.state.specs.Records.{AuthorityContext, no_faults, State, SnapshotClosure, SnapshotLeaseToken, CollectionJobToken, ObjectReference, PublicationIntent, CollectionReceipt, DeletePermit, ObjectIdentity, names}
use Rattle.state.specs.Setters.{set_deletion_reservations, set_lease_clock_tick, set_lease_epoch, set_leases}
use Rattle.machine.specs.Status.{ObjectDeletionReserved, ObjectNamedByIntent, CommittedFrontierRetreated, SnapshotBelowFloor, SnapshotAheadOfFrontier, LeaseExists, LeaseDeadlineInvalid, LeaseClockMismatch, LeaseClockRetreated, CollectionFloorInvalid, CollectionFrontierMismatch}
use Rattle.machine.specs.Actions.{Action, ObserveCommittedFrontier, SetRetentionWindow, ObserveRangeMapEpoch, ConfigureCollectionRoot, AcquireLease, RenewLease, ReleaseLease, AdvanceLeaseClock, PrepareCollection, PublishCollection, AbandonCollection, Prepare, Publish, Pin, Unpin, ReserveDelete, RetireDelete, Outcome}
use Rattle.machine.specs.Next.{top, up, oldest, policy_for, readable_for, ends_by, moved, expired}
use Rattle.machine.specs.Machine.{observe_committed_frontier, set_retention_window, observe_range_map_epoch, configure_collection_root, acquire_lease, renew_lease, release_lease, advance_lease_clock, prepare_collection, publish_collection, abandon_collection, prepare, publish, pin, unpin, reserve_delete, retire_delete, act, any_reserved}
use Rattle.machine.proofs.ApplyLaws.{Ends}
use Rattle.machine.proofs.ExpiredLaws.{expired_rearranged}
use Rattle.machine.specs.Ledger.{took, gives, Lease, Ledger, note}
use Rattle.machine.specs.Claims.{Five, five_of, Rises, Ordered, Unreserved}
use Rattle.machine.proofs.LedgerLaws.{Linked, raise, linked-live, begin-linked, renew-linked, end-linked, end_all-linked}

-- THE CORE of a state: what the claims rest on. Most actions leave it as it is, by computation.
pub record Core : Type 0 where
  pub format : ℕ
  pub five : Five
  pub epoch : ℕ
  pub reservations : Map DeletePermit
  pub leases : Map SnapshotLeaseToken
  pub jobs : Map CollectionJobToken

abbrev pub core : State → Core
core s = record { format = s.format_version; five = five_of s; epoch = s.lease_epoch; reservations = s.deletion_reservations; leases = s.leases; jobs = s.collection_jobs }

-- each over just what it uses, so that it still holds, by computation, where others change
pub record LeaseOk (readable frontier clock : ℕ) (reservations : Map DeletePermit) (id : Text) (t : SnapshotLeaseToken) : Type 0 where
  pub own_id : t.lease_id ≡ id
  pub above : readable ≤ t.snapshot_version
  pub below : t.snapshot_version ≤ frontier
  pub in_time : clock < t.deadline_tick
  pub unreserved : Unreserved reservations t.closure

pub record JobOk (readable : ℕ) (id : Text) (j : CollectionJobToken) : Type 0 where
  pub forward : j.expected_collected_through < j.frozen_floor
  pub read : j.frozen_floor ≤ readable

pub record Good (s : Core) : Type 0 where
  pub format_1 : s.format ≡ 1
  pub ordered : Ordered s.five
  pub lease_ok : (id : Text) (t : SnapshotLeaseToken) → lookup id s.leases ≡ Some t → LeaseOk s.five.readable s.five.frontier s.five.clock s.reservations id t
  pub job_ok : (id : Text) (j : CollectionJobToken) → lookup id s.jobs ≡ Some j → JobOk s.five.readable id j

-- RESERVED KEYS: what the test of a lease's keys tells
pub none-reserved : (s : State) (c : SnapshotClosure) → any_reserved s c.object_keys ≡ false → Unreserved s.deletion_reservations c
none-reserved s c free key p at = none_contained (λ k. has_key k s.deletion_reservations) c.object_keys key free (ap is_some at)

-- THE FLOOR
pub oldest_floor : (n : ℕ) (m : Map SnapshotLeaseToken) → oldest n m ≤ n
unfolding oldest
oldest_floor n [] = omega arith
oldest_floor n ((k ⟼ v) ∷ m) = omega (arith, oldest_floor n m)

oldest-lease : (n : ℕ) (m : Map SnapshotLeaseToken) (k : Text) (v : SnapshotLeaseToken) → lookup k m ≡ Some v → oldest n m ≤ v.snapshot_version
unfolding oldest lookup
oldest-lease n [] k v h = option_clash h
oldest-lease n ((j ⟼ w) ∷ m) k v h = by_test (λ b. cond b (Some w) (lookup k m) ≡ Some v → min w.snapshot_version (oldest n m) ≤ v.snapshot_version) (same k j)
    (λ _ z. let q : w ≡ v = cc in rw q (omega arith))
    (λ _ z. omega (arith, oldest-lease n m k v z)) h

pub rises_trans : {a b c : Five} → Rises a b → Rises b c → Rises a c
rises_trans p q = omega arith

pub rises_refl : {a : Five} → Rises a a
rises_refl = omega arith

-- WHAT EVERY MOMENT KEEPS: n is the number of calls before it
pub record Inv (n : ℕ) (s : Core) (L : Ledger) : Type 0 where
  pub good : Good s
  pub linked : Linked s.leases s.epoch L
  pub count : s.epoch ≤ n

pub record Kept (n : ℕ) (s : Core) (s' : Core) (L' : Ledger) : Type 0 where
  pub inv : Inv (suc n) s' L'
  pub rises : Rises s.five s'.five

quiet : {n : ℕ} {s : Core} {L : Ledger} → Inv n s L → Kept n s s L
quiet i = record { inv = record { good = i.good; linked = i.linked; count = omega arith }; rises = rises_refl }

-- what the new floor, `policy'` and `readable'`, is to the old one
record Floor (policy policy' readable readable' frontier : ℕ) (leases : Map SnapshotLeaseToken) : Type 0 where
  policy_up : policy ≤ policy'
  policy_in : policy' ≤ frontier
  readable_up : readable ≤ readable'
  readable_in : readable' ≤ policy'
  readable_lease : (id : Text) (t : SnapshotLeaseToken) → lookup id leases ≡ Some t → readable ≤ t.snapshot_version → readable' ≤ t.snapshot_version

floor : (o : Option ℕ) (frontier policy readable : ℕ) (leases : Map SnapshotLeaseToken) → readable ≤ policy → policy ≤ frontier
    → Floor policy (policy_for o frontier policy) readable (readable_for o (policy_for o frontier policy) leases readable) frontier leases
unfolding policy_for readable_for
floor None frontier policy readable leases h k = record { policy_up = omega arith; policy_in = k; readable_up = omega arith; readable_in = h; readable_lease = λ id t q l. l }
floor (Some w) frontier policy readable leases h k =
    let p = max policy (frontier - w) in let low = oldest_floor p leases in
    record { policy_up = omega arith; policy_in = omega arith; readable_up = omega arith; readable_in = omega arith; readable_lease = λ id t q l. let b = oldest-lease p leases id t q in omega arith }

abbrev refloor : Option ℕ → Core → Core
refloor o s =
    let policy = policy_for o s.five.frontier s.five.policy in
    record { format = s.format; five = record { frontier = s.five.frontier; policy = policy; readable = readable_for o policy s.leases s.five.readable; collected = s.five.collected; clock = s.five.clock }; epoch = s.epoch; reservations = s.reservations; leases = s.leases; jobs = s.jobs }

floored : {n : ℕ} {s₀ : Core} {L : Ledger} (o : Option ℕ) (s : Core) → Kept n s₀ s L → Kept n s₀ (refloor o s) L
floored o s k =
    let g = k.inv.good in
    let ord = g.ordered in
    let rise = k.rises in
    let f = floor o s.five.frontier s.five.policy s.five.readable s.leases (omega arith) (omega arith) in
    record {
      inv = record {
        good = record {
          format_1 = g.format_1;
          ordered = omega arith;
          lease_ok = λ id t h. let l = g.lease_ok id t h in record { own_id = l.own_id; above = f.readable_lease id t h l.above; below = l.below; in_time = l.in_time; unreserved = l.unreserved };
          job_ok = λ id j h. let j-ok = g.job_ok id j h in record { forward = j-ok.forward; read = omega arith };
        };
        linked = k.inv.linked;
        count = k.inv.count;
      };
      rises = omega arith;
    }

-- THE LEASE EPOCH, which no more than n calls have moved
moved_up : (ids : List Text) (e n : ℕ) → e ≤ n → n < top → (e ≤ moved ids e) × (moved ids e ≤ suc n)
unfolding moved up
moved_up [] e n h l = omega arith
moved_up (id ∷ ids) e n h l = omega arith

up_next : (e n : ℕ) → e ≤ n → n < top → up e ≡ suc e
unfolding up
up_next e n h l = omega arith

-- a permit in an outcome names no key of a live lease
abbrev pub Permits : Ledger → Option DeletePermit → Type 0
Permits L None = Unit {0}
Permits L (Some p) = (id : Text) (l : Lease) → lookup id L.live ≡ Some l → names l.closure p.key ≡ false

-- the tests that the invariant rests on
abbrev pub relied : List ℕ
relied =
    ObjectDeletionReserved ∷ ObjectNamedByIntent ∷ CommittedFrontierRetreated ∷ SnapshotBelowFloor ∷ SnapshotAheadOfFrontier ∷ LeaseExists ∷ LeaseDeadlineInvalid
    ∷ LeaseClockMismatch ∷ LeaseClockRetreated ∷ CollectionFloorInvalid ∷ CollectionFrontierMismatch ∷ []

-- an action that issues none
infixr 1 plain◌
plain◌ : {K : Type 0} → K → K × Unit {0}
plain k = (k, tt)

-- EACH ACTION
module _ {n : ℕ} (few : n < top) {L : Ledger} (s : State) (i : Inv n (core s) L) where
  -- what the acceptances of an action keep
  abbrev pub Keeps : Action → State → Outcome → Type 0
  Keeps a s' o = Kept n (core s) (core s') (note (took (Some a) (Some o)) L) × Permits L (gives (Some o)).permit

  frontier_keeps : (f : ℕ) → Ends relied (Keeps (ObserveCommittedFrontier f)) (observe_committed_frontier s f)
  unfolding observe_committed_frontier
  frontier_keeps f = λ up. plain floored _ _ (
      let g = i.good in let ord = g.ordered in let le : s.observed_commit_frontier ≤ f = ltb-false _ _ up in
      record {
        inv = record {
          good = record { format_1 = g.format_1; ordered = omega arith; lease_ok = λ id t h. let l = g.lease_ok id t h in record { own_id = l.own_id; above = l.above; below = omega arith; in_time = l.in_time; unreserved = l.unreserved }; job_ok = g.job_ok };
          linked = i.linked;
          count = omega arith;
        };
        rises = omega arith;
      })

  window_keeps : (e w : ℕ) → Ends relied (Keeps (SetRetentionWindow e w)) (set_retention_window s e w)
  unfolding set_retention_window
  window_keeps e w = plain floored _ _ (quiet i)

  range_keeps : (e : ℕ) → Ends relied (Keeps (ObserveRangeMapEpoch e)) (observe_range_map_epoch s e)
  unfolding observe_range_map_epoch
  range_keeps e = plain quiet i

  configure_keeps : (x : Option Text) (r : Text) → Ends relied (Keeps (ConfigureCollectionRoot x r)) (configure_collection_root s x r)
  unfolding configure_collection_root
  configure_keeps x r = plain quiet i

  acquire_keeps : (id tenant : Text) (v : ℕ) (owner purpose : Text) (d : ℕ) (c : SnapshotClosure) (x : AuthorityContext) → Ends relied (Keeps (AcquireLease id tenant v owner purpose d c)) (acquire_lease s id tenant v owner purpose d c x no_faults)
  unfolding acquire_lease
  acquire_keeps id tenant v owner purpose d c x = λ new low high late free. plain floored _ _ (
      let g = i.good in
      let next = up_next s.lease_epoch n i.count few in
      let above : s.minimum_readable_version ≤ v = ltb-false _ _ low in
      let below : v ≤ s.observed_commit_frontier = ltb-false _ _ high in
      let in_time : s.lease_clock_tick < d = leb-false _ _ late in
      record {
        inv = record {
          good = record { format_1 = g.format_1; ordered = g.ordered; lease_ok = found-insert (LeaseOk _ _ _ _) id _ s.leases (record { own_id = refl; above = above; below = below; in_time = in_time; unreserved = none-reserved s c free }) g.lease_ok; job_ok = g.job_ok };
          linked = begin-linked _ id v c _ i.linked (is_none _ new) (omega arith) (omega arith) (record { its_id = refl; its_version = refl; its_closure = refl; no_newer = omega arith });
          count = omega (arith, i.count);
        };
        rises = omega arith;
      })

  renew_keeps : (id : Text) (e d : ℕ) (x : AuthorityContext) → Ends relied (Keeps (RenewLease id e d)) (renew_lease s id e d x no_faults)
  unfolding renew_lease
  renew_keeps id e d x = λ old at late _ _. plain
      let g = i.good in
      let next = up_next s.lease_epoch n i.count few in
      let ok = g.lease_ok id old at in
      let in_time : s.lease_clock_tick < d = leb-false _ _ late in
      record {
        inv = record {
          good = record { format_1 = g.format_1; ordered = g.ordered; lease_ok = found-insert (LeaseOk _ _ _ _) id _ s.leases (record { own_id = ok.own_id; above = ok.above; below = ok.below; in_time = in_time; unreserved = ok.unreserved }) g.lease_ok; job_ok = g.job_ok };
          linked = renew-linked _ id old _ i.linked at (omega arith) (omega arith) (record { its_id = ok.own_id; its_version = refl; its_closure = refl; no_newer = omega arith });
          count = omega (arith, i.count);
        };
        rises = omega arith;
      }

  release_keeps : (id : Text) (e : ℕ) → Ends relied (Keeps (ReleaseLease id e)) (release_lease s id e no_faults)
  unfolding release_lease
  release_keeps id e = λ old at. plain floored _ _ (
      let g = i.good in
      let next = up_next s.lease_epoch n i.count few in
      record {
        inv = record {
          good = record { format_1 = g.format_1; ordered = g.ordered; lease_ok = found-remove (LeaseOk _ _ _ _) id s.leases g.lease_ok; job_ok = g.job_ok };
          linked = raise _ (omega arith) (end-linked id i.linked);
          count = omega (arith, i.count);
        };
        rises = omega arith;
      })

  tick_keeps : (e d : ℕ) → Ends relied (Keeps (AdvanceLeaseClock e d)) (advance_lease_clock s e d no_faults)
  unfolding advance_lease_clock
  tick_keeps e d = λ now later. plain
      let g = i.good in
      let p : SnapshotLeaseToken → Bool = ends_by d in
      let ids = expired s d in
      let m = moved_up ids s.lease_epoch n i.count few in
      let q : e ≡ s.lease_clock_tick = eqb-true _ _ (not-false _ now) in
      let r : e < d = leb-false _ _ later in
      let ticked : Core = core (set_lease_clock_tick d (set_leases (remove_all ids s.leases) (set_lease_epoch (moved ids s.lease_epoch) s))) in
      floored _ ticked (record {
        inv = record {
          good = record {
            format_1 = g.format_1;
            ordered = let o = g.ordered in omega arith;
            lease_ok = λ k t h.
                let f = lookup-remove_all ids k t s.leases h in
                let ok = g.lease_ok k t f.1 in
                let out : p t ≡ false = by_test (λ b. p t ≡ b → p t ≡ false) (p t) (λ _ y. no_way (rearranged_any (same k) (expired_rearranged s d) ∙ keys_where_has p s.leases k t f.1 y) f.0) (λ _ y. y) refl in
                record { own_id = ok.own_id; above = ok.above; below = ok.below; in_time = leb-false _ _ out; unreserved = ok.unreserved };
            job_ok = g.job_ok;
          };
          linked = raise _ m.0 (end_all-linked ids i.linked);
          count = m.1;
        };
        rises = omega arith;
      })

  collect_keeps : (id : Text) (f : ℕ) (m : ObjectReference) (r : Text) (e x : ℕ) (ns : Text) (c : AuthorityContext) → Ends relied (Keeps (PrepareCollection id f m r e x ns)) (prepare_collection s id f m r e x ns c no_faults)
  unfolding prepare_collection
  collect_keeps id f m r e x ns c = λ now after within. plain
      let g = i.good in
      let q : x ≡ s.physically_collected_through = eqb-true _ _ (not-false _ now) in
      let lo : s.physically_collected_through < f = leb-false _ _ after in
      let hi : f ≤ s.minimum_readable_version = ltb-false _ _ within in
      record {
        inv = record {
          good = record { format_1 = g.format_1; ordered = g.ordered; lease_ok = g.lease_ok; job_ok = found-insert (JobOk _) id _ s.collection_jobs (record { forward = omega arith; read = hi }) g.job_ok };
          linked = i.linked;
          count = omega (arith, i.count);
        };
        rises = omega arith;
      }

  publish_collection_keeps : (r : CollectionReceipt) (c : ℕ) → Ends relied (Keeps (PublishCollection r)) (publish_collection s r c no_faults)
  unfolding publish_collection
  publish_collection_keeps r c = λ job at now _. plain
      let g = i.good in
      let ord = g.ordered in
      let q : job.expected_collected_through ≡ s.physically_collected_through = eqb-true _ _ (not-false _ now) in
      let ok = g.job_ok _ job at in
      record {
        inv = record {
          good = record { format_1 = g.format_1; ordered = omega arith; lease_ok = g.lease_ok; job_ok = found-remove (JobOk _) _ s.collection_jobs g.job_ok };
          linked = i.linked;
          count = omega (arith, i.count);
        };
        rises = omega arith;
      }

  abandon_keeps : (t : CollectionJobToken) (c : ℕ) → Ends relied (Keeps (AbandonCollection t)) (abandon_collection s t c)
  unfolding abandon_collection
  abandon_keeps t c = λ job at. plain
      let g = i.good in
      record {
        inv = record {
          good = record { format_1 = g.format_1; ordered = g.ordered; lease_ok = g.lease_ok; job_ok = found-remove (JobOk _) _ s.collection_jobs g.job_ok };
          linked = i.linked;
          count = omega (arith, i.count);
        };
        rises = omega arith;
      }

  prepare_keeps : (id : Text) (t : PublicationIntent) (c : ℕ) → Ends relied (Keeps (Prepare id t)) (prepare s id t c no_faults)
  unfolding prepare
  prepare_keeps id t c = λ _. plain quiet i

  publish_keeps : (id r : Text) (x : Option ObjectReference) (m : ObjectReference) (c : ℕ) → Ends relied (Keeps (Publish id r x m)) (publish s id r x m c no_faults)
  unfolding publish
  publish_keeps id r x m c = plain quiet i

  pin_keeps : (id : Text) (x : Option ObjectReference) (m : ObjectReference) → Ends relied (Keeps (Pin id x m)) (pin s id x m)
  unfolding pin
  pin_keeps id x m = plain quiet i

  unpin_keeps : (id : Text) (x : ObjectReference) → Ends relied (Keeps (Unpin id x)) (unpin s id x)
  unfolding unpin
  unpin_keeps id x = plain quiet i

  -- other reservations, of which no stored lease names one
  with_reservations : (m : Map DeletePermit)
      → ((id : Text) (t : SnapshotLeaseToken) → lookup id s.leases ≡ Some t → Unreserved s.deletion_reservations t.closure → Unreserved m t.closure)
      → Kept n (core s) (core (set_deletion_reservations m s)) L
  with_reservations m free =
      let g = i.good in
      record {
        inv = record {
          good = record { format_1 = g.format_1; ordered = g.ordered; lease_ok = λ id t h. let l = g.lease_ok id t h in record { own_id = l.own_id; above = l.above; below = l.below; in_time = l.in_time; unreserved = free id t h l.unreserved }; job_ok = g.job_ok };
          linked = i.linked;
          count = omega (arith, i.count);
        };
        rises = rises_refl;
      }

  reserve_keeps : (p : Text) (e : ℕ) (k : Text) (x : ObjectIdentity) (c : AuthorityContext) → Ends relied (Keeps (ReserveDelete p e k x)) (reserve_delete s p e k x c no_faults)
  unfolding reserve_delete
  reserve_keeps p e k x c = λ _ unnamed _. (
    with_reservations _ (λ id t h. found-insert (λ key _. names t.closure key ≡ false) k _ s.deletion_reservations (any_value_false (λ u. names u.closure k) s.leases id t unnamed h)),
    λ id l h.
        let w = linked-live id l i.linked h in
        rw (← w.ok.its_closure) (any_value_false (λ t. names t.closure k) s.leases id w.token unnamed w.stored),
  )

  retire_keeps : (p : DeletePermit) (c : ℕ) → Ends relied (Keeps (RetireDelete p)) (retire_delete s p c no_faults)
  unfolding retire_delete
  retire_keeps p c = λ _ _. plain with_reservations _ (λ id t h. found-remove (λ key _. names t.closure key ≡ false) p.key s.deletion_reservations)

  pub act_keeps : (a : Action) (c : AuthorityContext) → Ends relied (Keeps a) (act s a c no_faults)
  unfolding act
  act_keeps (ObserveCommittedFrontier f) c = frontier_keeps f
  act_keeps (SetRetentionWindow e w) c = window_keeps e w
  act_keeps (ObserveRangeMapEpoch e) c = range_keeps e
  act_keeps (ConfigureCollectionRoot x r) c = configure_keeps x r
  act_keeps (AcquireLease id t v o p d k) c = acquire_keeps id t v o p d k c
  act_keeps (RenewLease id e d) c = renew_keeps id e d c
  act_keeps (ReleaseLease id e) c = release_keeps id e
  act_keeps (AdvanceLeaseClock e d) c = tick_keeps e d
  act_keeps (PrepareCollection id f m r e x ns) c = collect_keeps id f m r e x ns c
  act_keeps (PublishCollection r) c = publish_collection_keeps r c.generation
  act_keeps (AbandonCollection t) c = abandon_keeps t c.generation
  act_keeps (Prepare id t) c = prepare_keeps id t c.generation
  act_keeps (Publish id r x m) c = publish_keeps id r x m c.generation
  act_keeps (Pin id x m) c = pin_keeps id x m
  act_keeps (Unpin id x) c = unpin_keeps id x
  act_keeps (ReserveDelete p e k x) c = reserve_keeps p e k x c
  act_keeps (RetireDelete p) c = retire_keeps p c.generation
