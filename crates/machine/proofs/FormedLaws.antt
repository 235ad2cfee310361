-- `apply` keeps states well formed, under any fault flags, and its outcome fits.
-- Assumes nothing.
use Rattle.std.specs.Prelude.{ℕ, ◌<◌, ◌^◌, ◌≡◌, refl, Bool, true, false, cond, Option, None, Some}
use Rattle.std.proofs.Math.Path.{subst}
use mathlib.Core.List.{List, [], ◌∷◌}
use Rattle.std.proofs.Common.{arith}
use Rattle.state.specs.Maps.{Text, Map, insert, remove, remove_all}
use Rattle.state.proofs.MapLaws.{each-insert, each-remove, each-remove_all, each-lookup, each-keys}
use Rattle.state.proofs.SortedLaws.{insert-ascending, remove-ascending, remove_all-ascending}
use Rattle.state.proofs.SortLaws.{rearranged_back, rearranged_every}
use Rattle.state.specs.Records.{AuthorityPosition, AuthorityContext, ObjectReference, PreparedPublication, SnapshotLeaseToken, CollectionJobToken, DeletePermit, PublicationAuthorityFaults, State, default}
use Rattle.state.specs.Setters.{set_revision, set_root_intent_epoch, set_intents, set_roots, set_pins, set_deletion_reservations, set_observed_commit_frontier, set_retention_window, set_retention_policy_epoch, set_policy_floor, set_minimum_readable_version, set_physically_collected_through, set_lease_clock_tick, set_lease_epoch, set_leases, set_range_map_epoch, set_collection_root, set_collection_jobs}
use Rattle.machine.specs.Actions.{Action, ObserveCommittedFrontier, SetRetentionWindow, ObserveRangeMapEpoch, ConfigureCollectionRoot, AcquireLease, RenewLease, ReleaseLease, AdvanceLeaseClock, PrepareCollection, PublishCollection, AbandonCollection, Prepare, Publish, Pin, Unpin, ReserveDelete, RetireDelete, Outcome, accepted, decide}
use Rattle.machine.specs.Next.{up, policy_for, readable_for, ends_by, moved, expired, recompute_read_floor, bump_root, bump_root_unless}
use Rattle.machine.specs.Machine.{observe_committed_frontier, set_retention_window as set_window, observe_range_map_epoch, configure_collection_root, acquire_lease, renew_lease, release_lease, advance_lease_clock, prepare_collection, publish_collection, abandon_collection, prepare, publish, pin, unpin, reserve_delete, retire_delete, act, rule, apply}
use Rattle.machine.proofs.Invariant.{oldest_floor}
use Rattle.machine.proofs.ApplyLaws.{Ends, accepts, stamped}
use Rattle.machine.proofs.ExpiredLaws.{expired_rearranged, expired_once}
use Rattle.machine.specs.Formed.{Texts, rust_texts, Number, Maybe, Table, PositionFits, ContextFits, Numbers, ReferenceAt, IntentAt, PermitAt, LeaseAt, JobAt, Formed, ActionFits, OutcomeFits}

-- NUMBERS that the machine computes
up_fits : (n : ℕ) → up n < 2 ^ 64
unfolding up
up_fits n = omega arith

either : (b : Bool) (m n : ℕ) → m < 2 ^ 64 → n < 2 ^ 64 → cond b m n < 2 ^ 64
either true m n h k = h
either false m n h k = k

moved-fits : (ids : List Text) (n : ℕ) → n < 2 ^ 64 → moved ids n < 2 ^ 64
unfolding moved
moved-fits [] n h = h
moved-fits (id ∷ ids) n h = up_fits n

policy-fits : (o : Option ℕ) (f n : ℕ) → f < 2 ^ 64 → n < 2 ^ 64 → policy_for o f n < 2 ^ 64
unfolding policy_for
policy-fits None f n hf hn = hn
policy-fits (Some w) f n hf hn = omega arith

readable-fits : (o : Option ℕ) (p : ℕ) (m : Map SnapshotLeaseToken) (n : ℕ) → p < 2 ^ 64 → n < 2 ^ 64 → readable_for o p m n < 2 ^ 64
unfolding readable_for
readable-fits None p m n hp hn = hn
readable-fits (Some w) p m n hp hn = omega (arith, oldest_floor p m)

-- TABLES
module _ {A : Type 0} (P : Text → A → Type 0) where
  pub table-insert : (k : Text) (v : A) (m : Map A) → P k v → Table P m → Table P (insert k v m)
  table-insert k v m new t = record { ascending = insert-ascending k v m t.ascending; each = each-insert P k v m new t.each }

  pub table-remove : (k : Text) (m : Map A) → Table P m → Table P (remove k m)
  table-remove k m t = record { ascending = remove-ascending k m t.ascending; each = each-remove P k m t.each }

  pub table-remove_all : (ks : List Text) (m : Map A) → Table P m → Table P (remove_all ks m)
  table-remove_all ks m t = record { ascending = remove_all-ascending ks m t.ascending; each = each-remove_all P ks m t.each }

module _ (T : Texts) where
  -- each part in turn
  form : (s : State) → Numbers s.format_version s.root_intent_epoch s.observed_commit_frontier s.retention_policy_epoch s.policy_floor s.minimum_readable_version s.physically_collected_through s.lease_clock_tick s.lease_epoch s.range_map_epoch
      → PositionFits s.revision → Maybe Number s.retention_window → Maybe T.Name s.collection_root → Table (IntentAt T) s.intents → Table (ReferenceAt T) s.roots → Table (ReferenceAt T) s.pins
      → Table (PermitAt T) s.deletion_reservations → Table (LeaseAt T) s.leases → Table (JobAt T) s.collection_jobs → Formed T s
  form s n r w c i o p d l j = record { numbers = n; revision = r; retention_window = w; collection_root = c; intents = i; roots = o; pins = p; deletion_reservations = d; leases = l; collection_jobs = j }

  pub default-formed : Formed T default
  default-formed = form default (omega arith) (omega arith) tt tt (record { ascending = tt; each = tt }) (record { ascending = tt; each = tt }) (record { ascending = tt; each = tt }) (record { ascending = tt; each = tt }) (record { ascending = tt; each = tt }) (record { ascending = tt; each = tt })

  -- ONE LEMMA TO A SETTER, so that a proof follows the next state as it is written
  pub keep-revision : (x : AuthorityPosition) {s : State} → PositionFits x → Formed T s → Formed T (set_revision x s)
  keep-revision x h w = form _ w.numbers h w.retention_window w.collection_root w.intents w.roots w.pins w.deletion_reservations w.leases w.collection_jobs

  pub keep-root_intent_epoch : (x : ℕ) {s : State} → x < 2 ^ 64 → Formed T s → Formed T (set_root_intent_epoch x s)
  keep-root_intent_epoch x h w = let n = w.numbers in form _ (omega arith) w.revision w.retention_window w.collection_root w.intents w.roots w.pins w.deletion_reservations w.leases w.collection_jobs

  pub keep-intents : (x : Map PreparedPublication) {s : State} → Table (IntentAt T) x → Formed T s → Formed T (set_intents x s)
  keep-intents x h w = form _ w.numbers w.revision w.retention_window w.collection_root h w.roots w.pins w.deletion_reservations w.leases w.collection_jobs

  pub keep-roots : (x : Map ObjectReference) {s : State} → Table (ReferenceAt T) x → Formed T s → Formed T (set_roots x s)
  keep-roots x h w = form _ w.numbers w.revision w.retention_window w.collection_root w.intents h w.pins w.deletion_reservations w.leases w.collection_jobs

  pub keep-pins : (x : Map ObjectReference) {s : State} → Table (ReferenceAt T) x → Formed T s → Formed T (set_pins x s)
  keep-pins x h w = form _ w.numbers w.revision w.retention_window w.collection_root w.intents w.roots h w.deletion_reservations w.leases w.collection_jobs

  pub keep-deletion_reservations : (x : Map DeletePermit) {s : State} → Table (PermitAt T) x → Formed T s → Formed T (set_deletion_reservations x s)
  keep-deletion_reservations x h w = form _ w.numbers w.revision w.retention_window w.collection_root w.intents w.roots w.pins h w.leases w.collection_jobs

  pub keep-observed_commit_frontier : (x : ℕ) {s : State} → x < 2 ^ 64 → Formed T s → Formed T (set_observed_commit_frontier x s)
  keep-observed_commit_frontier x h w = let n = w.numbers in form _ (omega arith) w.revision w.retention_window w.collection_root w.intents w.roots w.pins w.deletion_reservations w.leases w.collection_jobs

  pub keep-retention_window : (x : Option ℕ) {s : State} → Maybe Number x → Formed T s → Formed T (set_retention_window x s)
  keep-retention_window x h w = form _ w.numbers w.revision h w.collection_root w.intents w.roots w.pins w.deletion_reservations w.leases w.collection_jobs

  pub keep-retention_policy_epoch : (x : ℕ) {s : State} → x < 2 ^ 64 → Formed T s → Formed T (set_retention_policy_epoch x s)
  keep-retention_policy_epoch x h w = let n = w.numbers in form _ (omega arith) w.revision w.retention_window w.collection_root w.intents w.roots w.pins w.deletion_reservations w.leases w.collection_jobs

  pub keep-policy_floor : (x : ℕ) {s : State} → x < 2 ^ 64 → Formed T s → Formed T (set_policy_floor x s)
  keep-policy_floor x h w = let n = w.numbers in form _ (omega arith) w.revision w.retention_window w.collection_root w.intents w.roots w.pins w.deletion_reservations w.leases w.collection_jobs

  pub keep-minimum_readable_version : (x : ℕ) {s : State} → x < 2 ^ 64 → Formed T s → Formed T (set_minimum_readable_version x s)
  keep-minimum_readable_version x h w = let n = w.numbers in form _ (omega arith) w.revision w.retention_window w.collection_root w.intents w.roots w.pins w.deletion_reservations w.leases w.collection_jobs

  pub keep-physically_collected_through : (x : ℕ) {s : State} → x < 2 ^ 64 → Formed T s → Formed T (set_physically_collected_through x s)
  keep-physically_collected_through x h w = let n = w.numbers in form _ (omega arith) w.revision w.retention_window w.collection_root w.intents w.roots w.pins w.deletion_reservations w.leases w.collection_jobs

  pub keep-lease_clock_tick : (x : ℕ) {s : State} → x < 2 ^ 64 → Formed T s → Formed T (set_lease_clock_tick x s)
  keep-lease_clock_tick x h w = let n = w.numbers in form _ (omega arith) w.revision w.retention_window w.collection_root w.intents w.roots w.pins w.deletion_reservations w.leases w.collection_jobs

  pub keep-lease_epoch : (x : ℕ) {s : State} → x < 2 ^ 64 → Formed T s → Formed T (set_lease_epoch x s)
  keep-lease_epoch x h w = let n = w.numbers in form _ (omega arith) w.revision w.retention_window w.collection_root w.intents w.roots w.pins w.deletion_reservations w.leases w.collection_jobs

  pub keep-leases : (x : Map SnapshotLeaseToken) {s : State} → Table (LeaseAt T) x → Formed T s → Formed T (set_leases x s)
  keep-leases x h w = form _ w.numbers w.revision w.retention_window w.collection_root w.intents w.roots w.pins w.deletion_reservations h w.collection_jobs

  pub keep-range_map_epoch : (x : ℕ) {s : State} → x < 2 ^ 64 → Formed T s → Formed T (set_range_map_epoch x s)
  keep-range_map_epoch x h w = let n = w.numbers in form _ (omega arith) w.revision w.retention_window w.collection_root w.intents w.roots w.pins w.deletion_reservations w.leases w.collection_jobs

  pub keep-collection_root : (x : Option Text) {s : State} → Maybe T.Name x → Formed T s → Formed T (set_collection_root x s)
  keep-collection_root x h w = form _ w.numbers w.revision w.retention_window h w.intents w.roots w.pins w.deletion_reservations w.leases w.collection_jobs

  pub keep-collection_jobs : (x : Map CollectionJobToken) {s : State} → Table (JobAt T) x → Formed T s → Formed T (set_collection_jobs x s)
  keep-collection_jobs x h w = form _ w.numbers w.revision w.retention_window w.collection_root w.intents w.roots w.pins w.deletion_reservations w.leases h

  module _ {s : State} (w : Formed T s) where
    floored : Formed T (recompute_read_floor s)
    floored =
        let p = policy-fits s.retention_window s.observed_commit_frontier s.policy_floor w.numbers.observed_commit_frontier_fits w.numbers.policy_floor_fits in
        keep-minimum_readable_version _ (readable-fits s.retention_window _ s.leases s.minimum_readable_version p w.numbers.minimum_readable_version_fits) (keep-policy_floor _ p w)

    bumped : Formed T (bump_root s)
    bumped = keep-root_intent_epoch _ (up_fits s.root_intent_epoch) w

    bumped_unless : (omit : Bool) → Formed T (bump_root_unless omit s)
    bumped_unless omit = keep-root_intent_epoch _ (either omit _ _ w.numbers.root_intent_epoch_fits (up_fits s.root_intent_epoch)) w

  -- a next state, and the record that its outcome holds
  both : {X Y : Type 0} → Y → (Y → X) → X × Y
  both y f = (f y, y)

  -- EACH ACTION
  module _ (s : State) (f : PublicationAuthorityFaults) (w : Formed T s) where
    abbrev Still : State → Outcome → Type 0
    Still s' o = Formed T s' × OutcomeFits T o

    act-formed : (a : Action) (c : AuthorityContext) → ActionFits T a → ContextFits c → Ends [] Still (act s a c f)
    unfolding act observe_committed_frontier set_window observe_range_map_epoch configure_collection_root acquire_lease renew_lease release_lease advance_lease_clock prepare_collection publish_collection abandon_collection prepare publish pin unpin reserve_delete retire_delete
    act-formed (ObserveCommittedFrontier x) c h k = (floored (keep-observed_commit_frontier x h w), tt)
    act-formed (SetRetentionWindow e x) c h k = (floored (keep-retention_policy_epoch _ (up_fits s.retention_policy_epoch) (keep-retention_window (Some x) h.1 w)), tt)
    act-formed (ObserveRangeMapEpoch e) c h k = (keep-range_map_epoch e h w, tt)
    act-formed (ConfigureCollectionRoot x r) c h k = (bumped (keep-collection_root (Some r) h.1 w), tt)
    act-formed (AcquireLease id t v o p d q) c h k =
        let r = h.1.1 in
        let x = r.1.1 in
        both (h.0, (h.1.0, (r.0, (up_fits s.lease_epoch, (r.1.0, (x.0, (x.1.0, (x.1.1, k)))))))) (λ new.
        floored (bumped_unless (keep-leases _ (table-insert (LeaseAt T) id _ s.leases (refl, new) w.leases) (keep-lease_epoch _ (up_fits s.lease_epoch) w)) f.omit_lease_root_epoch))
    act-formed (RenewLease id e d) c h k = λ old at.
        let o = each-lookup (LeaseAt T) id old s.leases w.leases.each at in
        let r = o.1.1 in
        let x = r.1.1.1 in
        both (o.1.0, (r.0, (r.1.0, (up_fits s.lease_epoch, (x.0, (x.1.0, (h.1.1, (x.1.1.1.0, k)))))))) (λ new.
        bumped_unless (keep-leases _ (table-insert (LeaseAt T) id _ s.leases (o.0, new) w.leases) (keep-lease_epoch _ (up_fits s.lease_epoch) w)) f.omit_lease_root_epoch)
    act-formed (ReleaseLease id e) c h k = λ _ _.
        (floored (bumped_unless (keep-lease_epoch _ (up_fits s.lease_epoch) (keep-leases _ (table-remove (LeaseAt T) id s.leases w.leases) w)) f.omit_lease_root_epoch), tt)
    act-formed (AdvanceLeaseClock e d) c h k =
        let ids = expired s d in
        let root = either f.omit_lease_root_epoch _ _ w.numbers.root_intent_epoch_fits (moved-fits ids s.root_intent_epoch w.numbers.root_intent_epoch_fits) in (
          floored (keep-root_intent_epoch _ root (keep-lease_epoch _ (moved-fits ids s.lease_epoch w.numbers.lease_epoch_fits) (keep-leases _ (table-remove_all (LeaseAt T) ids s.leases w.leases) (keep-lease_clock_tick d h.1 w)))),
          (
            rearranged_every T.Name (rearranged_back (expired_rearranged s d)) (each-keys (LeaseAt T) T.Name (ends_by d) (λ j t g. subst T.Name g.0 g.1.0) s.leases w.leases.each),
            expired_once s d w.leases.ascending,
          ),
        )
    act-formed (PrepareCollection id n m r e x ns) c h k =
        both (h.0, (k.0, (k.1, h.1))) (λ new.
        bumped (keep-physically_collected_through _ (either f.advance_collection_without_publication _ _ h.1.0 w.numbers.physically_collected_through_fits) (keep-collection_jobs _ (table-insert (JobAt T) id _ s.collection_jobs (refl, new) w.collection_jobs) w)))
    act-formed (PublishCollection r) c h k = λ job at.
        let j = (each-lookup (JobAt T) _ job s.collection_jobs w.collection_jobs.each at).1.1.1.1 in
        (bumped (keep-collection_jobs _ (table-remove (JobAt T) _ s.collection_jobs w.collection_jobs) (keep-physically_collected_through _ j.0 (keep-roots _ (table-insert (ReferenceAt T) _ _ s.roots (j.1.1.0, h.1.0) w.roots) w))), h)
    act-formed (AbandonCollection t) c h k = λ _ _. (bumped (keep-collection_jobs _ (table-remove (JobAt T) _ s.collection_jobs w.collection_jobs) w), tt)
    act-formed (Prepare id t) c h k = (bumped (keep-intents _ (table-insert (IntentAt T) id _ s.intents (h.0, (k.0, h.1)) w.intents) w), tt)
    act-formed (Publish id r x m) c h k =
        (bumped (keep-intents _ (table-remove (IntentAt T) id s.intents w.intents) (keep-roots _ (table-insert (ReferenceAt T) r m s.roots (h.1.0, h.1.1.1) w.roots) w)), tt)
    act-formed (Pin id x m) c h k = (bumped (keep-pins _ (table-insert (ReferenceAt T) id m s.pins (h.0, h.1.1) w.pins) w), tt)
    act-formed (Unpin id x) c h k = (bumped (keep-pins _ (table-remove (ReferenceAt T) id s.pins w.pins) w), tt)
    act-formed (ReserveDelete p e x i) c h k =
        both (h.1.1.0, (h.1.1.1, (h.0, k))) (λ new.
        keep-deletion_reservations _ (table-insert (PermitAt T) x _ s.deletion_reservations (refl, new) w.deletion_reservations) w)
    act-formed (RetireDelete p) c h k = λ _ _. (keep-deletion_reservations _ (table-remove (PermitAt T) p.key s.deletion_reservations w.deletion_reservations) w, tt)

  -- From any well_formed state, under any fault flags: what a fitting request is accepted with is well formed and fits.
  pub apply-formed : (s : State) (a : Action) (c : AuthorityContext) (f : PublicationAuthorityFaults) → Formed T s → ActionFits T a → ContextFits c
      → (s' : State) (o : Outcome) → apply s a c f ≡ accepted s' o → Formed T s' × OutcomeFits T o
  unfolding apply rule
  apply-formed s a c f w h k = stamped (λ s' o. Formed T s' × OutcomeFits T o) c.position (decide (rule s a c f)) (λ s₁ o₁ q.
      let z = accepts [] (Still s f w) (rule s a c f) (act-formed s f w a c h k) s₁ o₁ q in
      (keep-revision c.position k.1 z.0, z.1))

-- so of the values of the Rust's types
pub apply_well_formed : (s : State) (a : Action) (c : AuthorityContext) (f : PublicationAuthorityFaults) → Formed rust_texts s → ActionFits rust_texts a → ContextFits c
    → (s' : State) (o : Outcome) → apply s a c f ≡ accepted s' o → Formed rust_texts s' × OutcomeFits rust_texts o
apply_well_formed = apply-formed rust_texts
