-- From a state that has an image, a request within the limits is accepted with a well_formed state, and an outcome within the
-- limits, under any fault flags.
use Rattle.std.specs.Prelude.{◌≤◌, ◌≡◌, [], length}
use Rattle.std.proofs.Common.{arith}
use Rattle.state.specs.Records.{AuthorityContext, PublicationAuthorityFaults, State}
use Rattle.machine.specs.Actions.{Action, ObserveCommittedFrontier, SetRetentionWindow, ObserveRangeMapEpoch, ConfigureCollectionRoot, AcquireLease, RenewLease, ReleaseLease, AdvanceLeaseClock, PrepareCollection, PublishCollection, AbandonCollection, Prepare, Publish, Pin, Unpin, ReserveDelete, RetireDelete, Outcome, Applied, DeleteReserved, LeaseAcquired, LeaseRenewed, LeasesExpired, CollectionPrepared, CollectionPublished, accepted, decide}
use Rattle.machine.proofs.ApplyLaws.{Ends, accepts, stamped}
use Rattle.machine.proofs.ExpiredLaws.{expired-few}
use Rattle.machine.specs.Machine.{observe_committed_frontier, set_retention_window, observe_range_map_epoch, configure_collection_root, acquire_lease, renew_lease, release_lease, advance_lease_clock, prepare_collection, publish_collection, abandon_collection, prepare, publish, pin, unpin, reserve_delete, retire_delete, act, rule, apply}
use Rattle.machine.specs.Formed.{ActionFits, OutcomeFits, Formed as WellFormed}
use Rattle.machine.proofs.FormedLaws.{apply-formed}
use Rattle.image.specs.Layout.{most_leases, each, Formed}
use Rattle.image.proofs.ImagePartLaws.{length-each}
use Rattle.requests.specs.Request.{Request, WithinAction, WithinRequest}
use Rattle.requests.specs.Outcome.{WithinOutcome}
use Rattle.entries.proofs.Sized.{image_texts, prior_fits, well_formed}

action-fits : (a : Action) → WithinAction a → ActionFits image_texts a
action-fits (ObserveCommittedFrontier n) h = h
action-fits (SetRetentionWindow e n) h = h
action-fits (ObserveRangeMapEpoch e) h = h
action-fits (ConfigureCollectionRoot x r) h = h
action-fits (AcquireLease id t v o p d c) h = h
action-fits (RenewLease id e d) h = h
action-fits (ReleaseLease id e) h = h
action-fits (AdvanceLeaseClock e n) h = h
action-fits (PrepareCollection id f m r e x ns) h = h
action-fits (PublishCollection r) h = h
action-fits (AbandonCollection t) h = h
action-fits (Prepare id i) h = (h.0, (h.1.0, (h.1.1.0, (h.1.1.1.0, prior_fits i.expected_prior_root h.1.1.1.1))))
action-fits (Publish id r x m) h = (h.0, (h.1.0, (prior_fits x h.1.1.0, h.1.1.1)))
action-fits (Pin id x m) h = (h.0, (prior_fits x h.1.0, h.1.1))
action-fits (Unpin id x) h = h
action-fits (ReserveDelete p e k i) h = h
action-fits (RetireDelete p) h = h

-- THE IDS OF LEASES THAT END: no more than there are leases
abbrev Few : State → Outcome → Type 0
Few s (LeasesExpired ids) = length ids ≤ length s.leases
Few s Applied = Unit {0}
Few s (DeleteReserved p) = Unit {0}
Few s (LeaseAcquired t) = Unit {0}
Few s (LeaseRenewed t) = Unit {0}
Few s (CollectionPrepared t) = Unit {0}
Few s (CollectionPublished r) = Unit {0}

act-few : (s : State) (a : Action) (c : AuthorityContext) (f : PublicationAuthorityFaults) → Ends [] (λ s' o. Few s o) (act s a c f)
unfolding act observe_committed_frontier set_retention_window observe_range_map_epoch configure_collection_root acquire_lease renew_lease release_lease advance_lease_clock prepare_collection publish_collection abandon_collection prepare publish pin unpin reserve_delete retire_delete
act-few s (ObserveCommittedFrontier n) c f = tt
act-few s (SetRetentionWindow e n) c f = tt
act-few s (ObserveRangeMapEpoch e) c f = tt
act-few s (ConfigureCollectionRoot x r) c f = tt
act-few s (AcquireLease id t v o p d q) c f = tt
act-few s (RenewLease id e d) c f = λ _ _. tt
act-few s (ReleaseLease id e) c f = λ _ _. tt
act-few s (AdvanceLeaseClock e n) c f = expired-few s n
act-few s (PrepareCollection id n m r e x ns) c f = tt
act-few s (PublishCollection r) c f = λ _ _. tt
act-few s (AbandonCollection t) c f = λ _ _. tt
act-few s (Prepare id t) c f = tt
act-few s (Publish id r x m) c f = tt
act-few s (Pin id x m) c f = tt
act-few s (Unpin id x) c f = tt
act-few s (ReserveDelete p e x i) c f = tt
act-few s (RetireDelete p) c f = λ _ _. tt

apply-few : (s : State) (a : Action) (c : AuthorityContext) (f : PublicationAuthorityFaults) (s' : State) (o : Outcome) → apply s a c f ≡ accepted s' o → Few s o
unfolding apply rule
apply-few s a c f = stamped (λ s' o. Few s o) c.position (decide (rule s a c f)) (λ s₁ o₁ q. accepts [] (λ s' o. Few s o) (rule s a c f) (act-few s a c f) s₁ o₁ q)

outcome-within : (s : State) (o : Outcome) → length s.leases ≤ most_leases → OutcomeFits image_texts o → Few s o → WithinOutcome o
outcome-within s Applied l h k = tt
outcome-within s (DeleteReserved p) l h k = h
outcome-within s (LeaseAcquired t) l h k = h
outcome-within s (LeaseRenewed t) l h k = h
outcome-within s (LeasesExpired ids) l h k = record { count = omega arith; each = h.0 }
outcome-within s (CollectionPrepared t) l h k = h
outcome-within s (CollectionPublished r) l h k = h

pub apply-kept : (s : State) (q : Request) → Formed s → WithinRequest q → (s' : State) (o : Outcome) → apply s q.action q.context q.faults ≡ accepted s' o → WellFormed image_texts s' × WithinOutcome o
apply-kept s q f w s' o e =
    let l : length (each (λ e. _) s.leases) ≤ most_leases = f.fits.1.1.1.1.1.0.count in
    let few : length s.leases ≤ most_leases = rw length-each at l in
    let g = apply-formed image_texts s q.action q.context q.faults (well_formed s f) (action-fits q.action w.1) w.0 s' o e in
    (g.0, outcome-within s o few g.1 (apply-few s q.action q.context q.faults s' o e))
