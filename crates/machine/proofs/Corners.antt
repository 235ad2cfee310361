-- The corners that the scope paper and the requests name, each as a theorem of the definitions.
-- Assumes nothing.
use Rattle.std.specs.Prelude.{ℕ, ◌-◌, ◌^◌, ◌≡◌, true, false, Option, None, Some}
use Rattle.std.proofs.Math.Path.{refl}
use mathlib.Core.List.{List, [], ◌∷◌}
use Rattle.std.proofs.Math.Bool.{cond}
use Rattle.std.proofs.Math.Dec.{eqb}
use Rattle.text.specs.SameLaws.{prefix_refl}
use Rattle.state.specs.Maps.{Text, is_empty, starts_with, lookup}
use Rattle.state.proofs.MapLaws.{by_test, lookup_insert_same}
use Rattle.state.specs.Records.{AuthorityContext, ObjectIdentity, ObjectReference, PreparedPublication, SnapshotClosure, SnapshotLeaseToken, DeletePermit, PublicationAuthorityFaults, State, every, revision_eq, is_manifest, valid_context, valid_reference}
use Rattle.machine.specs.Status.{ObjectDeletionReserved}
use Rattle.machine.specs.Actions.{Action, Outcome, LeaseAcquired, LeaseRenewed, LeasesExpired, rejected, accepted, decide}
use Rattle.machine.specs.Next.{up, expired, moved}
use Rattle.machine.specs.Machine.{acquire_lease, renew_lease, release_lease, advance_lease_clock, intent_matches, publish, reserve_delete, retire_delete, stamp, rule, apply}
use Rattle.machine.proofs.ApplyLaws.{Accepts, accepts, stamped}
use Rattle.machine.specs.Claims.{Unreserved}
use Rattle.machine.proofs.Invariant.{none-reserved}

-- Epochs stop at 2^64 - 1.
pub epochs_stop : up (2 ^ 64 - 1) ≡ 2 ^ 64 - 1
unfolding up
epochs_stop = refl

-- a token of this id, version and closure, with the epoch next to that of s, which is then the epoch of s'
pub record Given (s : State) (id : Text) (v : ℕ) (q : SnapshotClosure) (t : SnapshotLeaseToken) (s' : State) : Type 0 where
  pub its_id : t.lease_id ≡ id
  pub its_version : t.snapshot_version ≡ v
  pub its_closure : t.closure ≡ q
  pub its_epoch : t.lease_epoch ≡ up s.lease_epoch
  pub next_epoch : s'.lease_epoch ≡ up s.lease_epoch

module _ (s : State) (c : AuthorityContext) (f : PublicationAuthorityFaults) where
  -- ReserveDelete and RetireDelete leave root_intent_epoch.
  abbrev SameRootEpoch : State → Outcome → Type 0
  SameRootEpoch s' o = s'.root_intent_epoch ≡ s.root_intent_epoch

  pub reserve_same_epoch : (plan : Text) (mark : ℕ) (key : Text) (i : ObjectIdentity) → Accepts SameRootEpoch (reserve_delete s plan mark key i c f)
  unfolding reserve_delete
  reserve_same_epoch plan mark key i = accepts [] _ _ refl

  pub retire_same_epoch : (p : DeletePermit) → Accepts SameRootEpoch (retire_delete s p c.generation f)
  unfolding retire_delete
  retire_same_epoch p = accepts [] _ _ (λ _ _. refl)

  -- Renewal does not recompute the floor.
  pub renew_same_floor : (id : Text) (epoch deadline : ℕ) → Accepts (λ s' o. (s'.policy_floor ≡ s.policy_floor) × (s'.minimum_readable_version ≡ s.minimum_readable_version)) (renew_lease s id epoch deadline c f)
  unfolding renew_lease
  renew_same_floor id epoch deadline = accepts [] _ _ (λ _ _. (refl, refl))

  -- An accepted AcquireLease gives the token of the request's id, version and closure, and the next state has it under the id. A
  -- renewal gives the one of the lease that it finds.
  pub acquire-gives : (id tenant : Text) (v : ℕ) (owner purpose : Text) (d : ℕ) (q : SnapshotClosure)
      → Accepts (λ s' o. (t : SnapshotLeaseToken) × (o ≡ LeaseAcquired t) × (lookup id s'.leases ≡ Some t) × Given s id v q t s') (acquire_lease s id tenant v owner purpose d q c f)
  unfolding acquire_lease
  acquire-gives id tenant v owner purpose d q = accepts [] _ _
      (_, refl, lookup_insert_same id _ s.leases, record { its_id = refl; its_version = refl; its_closure = refl; its_epoch = refl; next_epoch = refl })

  pub renew-gives : (id : Text) (epoch deadline : ℕ)
      → Accepts (λ s' o. (l t : SnapshotLeaseToken) × (lookup id s.leases ≡ Some l) × (o ≡ LeaseRenewed t) × (lookup id s'.leases ≡ Some t) × Given s l.lease_id l.snapshot_version l.closure t s') (renew_lease s id epoch deadline c f)
  unfolding renew_lease
  renew-gives id epoch deadline = accepts [] _ _ (λ l at.
      (l, _, at, refl, lookup_insert_same id _ s.leases, record { its_id = refl; its_version = refl; its_closure = refl; its_epoch = refl; next_epoch = refl }))

  -- Under any fault flags: an accepted AcquireLease names no reserved key, and neither does the lease that a renewal finds.
  pub acquire-unreserved : (id tenant : Text) (v : ℕ) (owner purpose : Text) (d : ℕ) (q : SnapshotClosure)
      → Accepts (λ s' o. Unreserved s.deletion_reservations q) (acquire_lease s id tenant v owner purpose d q c f)
  unfolding acquire_lease
  acquire-unreserved id tenant v owner purpose d q = accepts (ObjectDeletionReserved ∷ []) _ _ (λ free. none-reserved s q free)

  pub renew-unreserved : (id : Text) (epoch deadline : ℕ)
      → Accepts (λ s' o. (l : SnapshotLeaseToken) × (lookup id s.leases ≡ Some l) × Unreserved s.deletion_reservations l.closure) (renew_lease s id epoch deadline c f)
  unfolding renew_lease
  renew-unreserved id epoch deadline = accepts (ObjectDeletionReserved ∷ []) _ _ (λ l at free. (l, at, none-reserved s l.closure free))

  -- A lease that ends moves the epoch: by its release, or by a clock that lists it. A clock that lists none leaves it.
  pub release_raises : (id : Text) (epoch : ℕ) → Accepts (λ s' o. s'.lease_epoch ≡ up s.lease_epoch) (release_lease s id epoch f)
  unfolding release_lease
  release_raises id epoch = accepts [] _ _ (λ _ _. refl)

  pub clock_raises : (expected next : ℕ)
      → Accepts (λ s' o. (ids : List Text) × (o ≡ LeasesExpired ids) × (s'.lease_epoch ≡ cond (is_empty ids) s.lease_epoch (up s.lease_epoch))) (advance_lease_clock s expected next f)
  unfolding advance_lease_clock moved
  clock_raises expected next = accepts [] _ _ (expired s next, refl, moves (expired s next))
    where
      moves : (ids : List Text) → moved ids s.lease_epoch ≡ cond (is_empty ids) s.lease_epoch (up s.lease_epoch)
      moves [] = refl
      moves (id ∷ ids) = refl

  -- Publish tests mismatch before generation: an intent that does not match is 5 whatever its generation.
  pub mismatch_first : (id root : Text) (prior : Option ObjectReference) (m : ObjectReference) (p : PreparedPublication)
      → is_empty id ≡ false → is_empty root ≡ false → is_manifest m ≡ true → valid_reference m ≡ true
      → lookup id s.intents ≡ Some p → intent_matches root prior m p ≡ false → decide (publish s id root prior m c.generation f) ≡ rejected 5
  unfolding publish decide
  mismatch_first id root prior m p h₁ h₂ h₃ h₄ at e = simp (h₁, h₂, h₃, h₄, at, e)

  -- RetireDelete tests the generation of the shown permit before equality.
  pub generation-first : (p q : DeletePermit) → lookup p.key s.deletion_reservations ≡ Some q → eqb p.owner_generation c.generation ≡ false
      → decide (retire_delete s p c.generation f) ≡ rejected 14
  unfolding retire_delete decide
  generation-first p q at e = simp (at, e)

  -- Acceptance sets the revision; a rejection has no next state.
  pub accepted-revision : (a : Action) (s' : State) (o : Outcome) → apply s a c f ≡ accepted s' o → s'.revision ≡ c.position
  unfolding apply
  accepted-revision a = stamped (λ s' o. s'.revision ≡ c.position) c.position (decide (rule s a c f)) (λ _ _ _. refl)

  -- A format other than 1 is 2, and so is a context that is not valid.
  pub other_format : (a : Action) → eqb s.format_version 1 ≡ false → apply s a c f ≡ rejected 2
  unfolding apply rule decide stamp
  other_format a e = simp e

  pub invalid_context : (a : Action) → valid_context c ≡ false → apply s a c f ≡ rejected 2
  unfolding apply rule decide stamp
  invalid_context a e = by_test (λ b. eqb s.format_version 1 ≡ b → apply s a c f ≡ rejected 2) (eqb s.format_version 1) (λ _ q. simp (q, e)) (λ _ q. simp q) refl

-- A key equal to the namespace passes.
pub key_is_namespace : (k : Text) → starts_with k k ≡ true
key_is_namespace k = prefix_refl k

-- An absent e_tag is not an empty one.
pub absent_not_empty : (v : Option Text) → revision_eq (record { e_tag = None; version = v }) (record { e_tag = Some []; version = v }) ≡ false
unfolding revision_eq every
absent_not_empty v = refl
