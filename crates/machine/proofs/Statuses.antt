-- Which numbers `apply` rejects with: 2 to 36, so never 1.
-- Assumes nothing.
use Rattle.std.specs.Prelude.{ℕ, ◌≤◌, ◌≡◌, Bool, true, false, ◌&&◌, leb, None, Some}
use Rattle.std.proofs.Common.{leb-true}
use Rattle.text.specs.SameLaws.{and_left, and_right}
use Rattle.state.specs.Records.{AuthorityPosition, AuthorityContext, PublicationAuthorityFaults, State}
use Rattle.machine.specs.Actions.{Action, ObserveCommittedFrontier, SetRetentionWindow, ObserveRangeMapEpoch, ConfigureCollectionRoot, AcquireLease, RenewLease, ReleaseLease, AdvanceLeaseClock, PrepareCollection, PublishCollection, AbandonCollection, Prepare, Publish, Pin, Unpin, ReserveDelete, RetireDelete, Transition, rejected, accepted, Rule, refuse_or, find_or, accept, decide}
use Rattle.machine.specs.Machine.{observe_committed_frontier, set_retention_window, observe_range_map_epoch, configure_collection_root, acquire_lease, renew_lease, release_lease, advance_lease_clock, prepare_collection, publish_collection, abandon_collection, prepare, publish, pin, unpin, reserve_delete, retire_delete, act, rule, stamp, apply}
use Rattle.machine.proofs.ApplyLaws.{not_rejected}
use Rattle.machine.proofs.TestLaws.{Provided, provided}

abbrev known : ℕ → Bool
known n = leb 2 n && leb n 36

-- by computation, so that no proof counts tests
abbrev Statuses : Rule → Type 0
Statuses (refuse_or n b r) = Provided (known n) (Statuses r)
Statuses (find_or {A = A} n x k) = Provided (known n) ((v : A) → Statuses (k v))
Statuses (accept s o) = Unit {0}

act-statuses : (s : State) (a : Action) (c : AuthorityContext) (f : PublicationAuthorityFaults) → Statuses (act s a c f)
unfolding act observe_committed_frontier set_retention_window observe_range_map_epoch configure_collection_root acquire_lease renew_lease release_lease advance_lease_clock prepare_collection publish_collection abandon_collection prepare publish pin unpin reserve_delete retire_delete
act-statuses s (ObserveCommittedFrontier n) c f = tt
act-statuses s (SetRetentionWindow e n) c f = tt
act-statuses s (ObserveRangeMapEpoch e) c f = tt
act-statuses s (ConfigureCollectionRoot x r) c f = tt
act-statuses s (AcquireLease id t v o p d k) c f = tt
act-statuses s (RenewLease id e d) c f = λ v. tt
act-statuses s (ReleaseLease id e) c f = λ v. tt
act-statuses s (AdvanceLeaseClock e n) c f = tt
act-statuses s (PrepareCollection id n m r e x ns) c f = tt
act-statuses s (PublishCollection r) c f = λ v. tt
act-statuses s (AbandonCollection t) c f = λ v. tt
act-statuses s (Prepare id t) c f = tt
act-statuses s (Publish id r x m) c f = tt
act-statuses s (Pin id x m) c f = tt
act-statuses s (Unpin id x) c f = tt
act-statuses s (ReserveDelete p e k x) c f = tt
act-statuses s (RetireDelete p) c f = λ v. tt

decide-status : (r : Rule) → Statuses r → (n : ℕ) → decide r ≡ rejected n → known n ≡ true
unfolding decide
decide-status (refuse_or x true r) h n e = let q : x ≡ n = cc in rw (← q) (provided (known x) _ h).0
decide-status (refuse_or x false r) h n e = decide-status r (provided (known x) _ h).1 n e
decide-status (find_or x None k) h n e = let q : x ≡ n = cc in rw (← q) (provided (known x) _ h).0
decide-status (find_or x (Some v) k) h n e = decide-status (k v) ((provided (known x) _ h).1 v) n e
decide-status (accept s o) h n e = not_rejected e

stamp-status : (p : AuthorityPosition) (t : Transition) (n : ℕ) → stamp p t ≡ rejected n → t ≡ rejected n
unfolding stamp
stamp-status p (rejected x) n e = e
stamp-status p (accepted s o) n e = not_rejected e

pub apply-status : (s : State) (a : Action) (c : AuthorityContext) (f : PublicationAuthorityFaults) (n : ℕ) → apply s a c f ≡ rejected n → (2 ≤ n) × (n ≤ 36)
unfolding apply rule
apply-status s a c f n e =
    let k : known n ≡ true = decide-status (rule s a c f) (act-statuses s a c f) n (stamp-status c.position (decide (rule s a c f)) n e) in
    (leb-true 2 n (and_left (leb 2 n) (leb n 36) k), leb-true n 36 (and_right (leb 2 n) (leb n 36) k))
