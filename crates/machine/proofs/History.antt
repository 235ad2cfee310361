-- DEMAND 3, the theorem: the claims hold of every two moments of every list of fewer than 2^64 - 1 calls, of any machine that
-- follows `apply` and `validate`; and so of the machine over plain maps.
-- Assumes nothing.
use Rattle.std.specs.Prelude.{ℕ, suc, ◌+◌, ◌≤◌, ◌<◌, ◌↔◌, leb, eqb, length, take, drop, Option, None, Some}
use Rattle.std.proofs.Math.Path.{◌≡◌, refl, ap}
use Rattle.std.proofs.Common.{sym, ◌∙◌, subst, arith, length-take, take-add}
use mathlib.Core.List.Memᴰ
use mathlib.Core.List.{List, [], ◌∷◌, ◌++◌, Memᴰ}
use Rattle.std.proofs.Math.Bool.{cond}
use borrow.Author.Tests.{eq-eqb, lt-leb}
use Rattle.state.specs.Maps.{Text, lookup, map_values}
use Rattle.state.proofs.MapLaws.{option_clash, by_test}
use Rattle.state.specs.Records.{AuthorityContext, no_faults, State, default, SnapshotLeaseToken, lease_eq}
use Rattle.state.proofs.RecordLaws.{lease_sound, lease_refl}
use Rattle.machine.specs.Actions.{Action, Outcome, Transition, rejected, accepted, decide}
use Rattle.machine.specs.Next.{top}
use Rattle.machine.specs.Machine.{rule, apply, validate_found, validate}
use Rattle.machine.proofs.ApplyLaws.{Ends, accepts, stamped}
use Rattle.machine.specs.Ledger.{Event, refused, took, Gift, gives, issued, Lease, Ledger, empty, renew_found, tokens_of, end, end_all, Says, begins, renews, releases, ticks, nothing, says, record_said, note, after, Last}
use Rattle.machine.specs.Claims.{Machine, image, events, ledger, five_of, Rises, Claims, Always, Call, answered, left, said, maps}
use Rattle.machine.proofs.LedgerLaws.{linked-live, linked_some}
use Rattle.machine.proofs.Invariant.{core, rises_trans, rises_refl, Inv, Kept, Permits, relied, Keeps, act_keeps}

-- A MACHINE THAT FOLLOWS `apply` and `validate`: a refusal of any kind changes nothing; an acceptance is that of `apply`, with no fault
-- flag, of what was asked and with what was answered, both of which can be read.
pub record Accepted (s : State) (asked : Option Action) (answered : Option Outcome) (s' : State) : Type 0 where
  pub action : Action
  pub context : AuthorityContext
  pub outcome : Outcome
  pub asks : asked ≡ Some action
  pub answers : answered ≡ Some outcome
  pub applies : apply s action context no_faults ≡ accepted s' outcome

abbrev pub Step : State → Event → State → Type 0
Step s refused s' = s ≡ s'
Step s (took asked answered) s' = Accepted s asked answered s'

pub record Follows (M : Machine) : Type 0 where
  pub each_call : (x : M.Image) (s : State) → M.Holds x s → (r : M.Request) → (s' : State) × Step s (M.told x r) s' × M.Holds (M.call x r) s'
  -- validation of an image is that of the state that it holds
  pub validation : (x : M.Image) (s : State) → M.Holds x s → (t : M.Token)
      → (M.check x t ≡ 0) ↔ ((u : SnapshotLeaseToken) × (M.spells t ≡ Some u) × (validate s u ≡ 0))

-- ONE CALL
module _ {n : ℕ} (few : n < top) {L : Ledger} (s : State) (i : Inv n (core s) L) (a : Action) (c : AuthorityContext) where
  rule_keeps : Ends relied (Keeps few s i a) (rule s a c no_faults)
  unfolding rule
  rule_keeps = act_keeps few s i a c

  apply_keeps : (s' : State) (o : Outcome) → apply s a c no_faults ≡ accepted s' o → Keeps few s i a s' o
  unfolding apply
  apply_keeps s' o e = stamped (Keeps few s i a) c.position (decide (rule s a c no_faults)) (λ s₁ o₁ q. accepts relied (Keeps few s i a) (rule s a c no_faults) rule_keeps s₁ o₁ q) s' o e

step_keeps : (n : ℕ) (L : Ledger) (s : State) → n < top → Inv n (core s) L → (e : Event) (s' : State) → Step s e s' → Kept n (core s) (core s') (note e L) × Permits L (issued e)
step_keeps n L s few i refused s' q = (subst (λ (x : State). Kept n (core s) (core x) L) q (record { inv = record { good = i.good; linked = i.linked; count = omega (arith, i.count) }; rises = rises_refl }), tt)
step_keeps n L s few i (took a o) s' q = rw (q.asks, q.answers) (apply_keeps few s i q.action q.context s' q.outcome q.applies)

start : Inv 0 (core default) empty
unfolding lookup map_values
start = record {
  good = record { format_1 = refl; ordered = omega arith; lease_ok = λ id t h. option_clash h; job_ok = λ id j h. option_clash h };
  linked = record { same_leases = refl; tokens_ok = λ id l h. option_clash h; no_newer = λ t m. elim m [ ]; older = λ t m. elim m [ ] };
  count = omega arith;
}

-- TOKENS
module _ {n : ℕ} (s : State) {L : Ledger} (i : Inv n (core s) L) where
  validates-last : (t : SnapshotLeaseToken) → validate s t ≡ 0 → Last t L
  unfolding validate validate_found
  validates-last t h = by_test (λ b. cond b (validate_found s t (lookup t.lease_id s.leases)) 1 ≡ 0 → Last t L) (eqb s.format_version 1)
      (λ _ e. go (lookup t.lease_id s.leases) refl e)
      (λ _ (e : ◌≡◌ {A = ℕ} 1 0). absurd (omega arith)) h
    where
      go : (o : Option SnapshotLeaseToken) → lookup t.lease_id s.leases ≡ o → validate_found s t o ≡ 0 → Last t L
      go None q e = absurd (omega arith)
      go (Some a) q e = by_test (λ b. lease_eq a t ≡ b → ◌≡◌ {A = ℕ} (cond b (cond (leb t.deadline_tick s.lease_clock_tick) 4 0) 3) 0 → Last t L) (lease_eq a t)
          (λ _ z _. let f = linked_some t.lease_id a i.linked q in
          record { id = t.lease_id; lease = f.0; earlier = f.2.earlier; live_now = f.1; is_last = f.2.is_last ∙ ap (λ (x : SnapshotLeaseToken). x ∷ f.2.earlier) (f.3 ∙ lease_sound a t z) })
          (λ _ _ (w : ◌≡◌ {A = ℕ} 3 0). absurd (omega arith)) refl e

  -- the token that the state holds for the lease of a last one is that one
  stored : (t : SnapshotLeaseToken) (w : Last t L) → lookup t.lease_id s.leases ≡ Some t
  stored t w =
      let h = linked-live w.id w.lease i.linked w.live_now in
      let p : h.token ≡ t = one h.token h.earlier h.is_last in
      subst (λ (x : SnapshotLeaseToken). lookup x.lease_id s.leases ≡ Some x) p (ap (λ (x : Text). lookup x s.leases) h.ok.its_id ∙ h.stored)
    where
      one : (u : SnapshotLeaseToken) (us : List SnapshotLeaseToken) → w.lease.tokens ≡ u ∷ us → u ≡ t
      one u us q = cc w.is_last

  last-validates : (t : SnapshotLeaseToken) → Last t L → validate s t ≡ 0
  unfolding validate validate_found
  last-validates t w =
      let here = stored t w in
      let time : s.lease_clock_tick < t.deadline_tick = (i.good.lease_ok t.lease_id t here).in_time in
      rw (eq-eqb s.format_version 1 i.good.format_1, here, lease_refl t, lt-leb t.deadline_tick s.lease_clock_tick time) refl

  ended_never : (t : SnapshotLeaseToken) → Memᴰ t L.ended → validate s t ≡ 0 → ⊥
  ended_never t m h = let q : t.lease_epoch < t.lease_epoch = i.linked.older t m t (stored t (validates-last t h)) in omega arith

-- WHAT HAS ENDED STAYS SO
module _ {t : SnapshotLeaseToken} where
  end_all-ended : (ids : List Text) (L : Ledger) → Memᴰ t L.ended → Memᴰ t (end_all ids L).ended
  unfolding end_all
  end_all-ended [] L m = m
  end_all-ended (id ∷ ids) L m = end_all-ended ids (end id L) (Memᴰ.append_right (tokens_of (lookup id L.live)) m)

  renew-ended : (id : Text) (o : Option Lease) (u : Option SnapshotLeaseToken) (L : Ledger) → Memᴰ t L.ended → Memᴰ t (renew_found id o u L).ended
  renew-ended id None u L m = m
  renew-ended id (Some l) u L m = m

  said-ended : (x : Says) (g : Gift) (L : Ledger) → Memᴰ t L.ended → Memᴰ t (record_said x g L).ended
  said-ended (begins id v c) g L m = m
  said-ended (renews id) g L m = renew-ended id (lookup id L.live) g.token L m
  said-ended (releases id) g L m = Memᴰ.append_right (tokens_of (lookup id L.live)) m
  said-ended ticks g L m = end_all-ended g.ids L m
  said-ended nothing g L m = m

  after-ended : (es : List Event) (L : Ledger) → Memᴰ t L.ended → Memᴰ t (after L es).ended
  after-ended [] L m = m
  after-ended (refused ∷ es) L m = after-ended es L m
  after-ended (took a o ∷ es) L m = after-ended es (note (took a o) L) (said-ended (says a) (gives o) L m)

-- MANY CALLS
module _ (M : Machine) where
  image-append : (rs qs : List M.Request) (x : M.Image) → image M x (rs ++ qs) ≡ image M (image M x rs) qs
  image-append [] qs x = refl
  image-append (r ∷ rs) qs x = image-append rs qs (M.call x r)

  events-append : (rs qs : List M.Request) (x : M.Image) (L : Ledger) → after L (events M x (rs ++ qs)) ≡ after (after L (events M x rs)) (events M (image M x rs) qs)
  events-append [] qs x L = refl
  events-append (r ∷ rs) qs x L = events-append rs qs (M.call x r) (note (M.told x r) L)

module _ (M : Machine) (f : Follows M) where
  -- what a list of calls leaves, from a state that keeps the invariant; m is at least the number of all calls
  record Ran (m : ℕ) (s : State) (x' : M.Image) (L' : Ledger) : Type 0 where
    state : State
    holds : M.Holds x' state
    inv : Inv m (core state) L'
    rises : Rises (five_of s) (five_of state)

  ran : (rs : List M.Request) (n m : ℕ) (x : M.Image) (s : State) (L : Ledger) → n + length rs ≤ m → m < top → M.Holds x s → Inv n (core s) L
      → Ran m s (image M x rs) (after L (events M x rs))
  ran [] n m x s L fits few h i = record { state = s; holds = h; inv = record { good = i.good; linked = i.linked; count = omega (arith, i.count) }; rises = rises_refl }
  ran (r ∷ rs) n m x s L fits few h i =
      let p = f.each_call x s h r in
      let k = (step_keeps n L s (omega arith) i (M.told x r) p.0 p.1).0 in
      let z = ran rs (suc n) m (M.call x r) p.0 (note (M.told x r) L) (omega arith) few p.2 k.inv in
      record { state = z.state; holds = z.holds; inv = z.inv; rises = rises_trans k.rises z.rises }

  -- the claims, from the invariant at both moments
  claims : {n m : ℕ} {s₁ : State} {L₁ : Ledger} (x₂ : M.Image) (s₂ : State) (L₂ : Ledger) → m < top → Inv n (core s₁) L₁ → M.Holds x₂ s₂ → Inv m (core s₂) L₂ → Rises (five_of s₁) (five_of s₂)
      → ((t : SnapshotLeaseToken) → Memᴰ t L₁.ended → Memᴰ t L₂.ended) → Claims M s₁ L₁ x₂ s₂ L₂
  claims {m = m} x₂ s₂ L₂ few i₁ h i r stays = record {
    never_fall = r;
    ordered₁ = i₁.good.ordered;
    ordered₂ = i.good.ordered;
    in_range = λ id l q.
        let h = linked-live id l i.linked q in
        let ok = i.good.lease_ok id h.token h.stored in
        let v = h.ok.its_version in omega arith;
    no_permit = λ id l q c p e.
        let z = f.each_call x₂ s₂ h c in
        let k : Permits L₂ (issued (M.told x₂ c)) = (step_keeps m L₂ s₂ few i (M.told x₂ c) z.0 z.1).1 in
        subst (Permits L₂) e k id l q;
    unreserved = λ id l q.
        let h = linked-live id l i.linked q in
        let free = (i.good.lease_ok id h.token h.stored).unreserved in
        λ key p at. rw (← h.ok.its_closure) (free key p at);
    validates = λ t.
        let e = f.validation x₂ s₂ h t in
        (λ q. let z = e.0 q in (z.0, z.1, validates-last s₂ i z.0 z.2), λ w. e.1 (w.0, w.1, last-validates s₂ i w.0 w.2));
    never_again = λ t u spelt ended q.
        let z = (f.validation x₂ s₂ h t).0 q in
        let p : z.0 ≡ u = some_inj (sym z.1 ∙ spelt) in
        ended_never s₂ i u (stays u ended) (subst (λ (y : SnapshotLeaseToken). validate s₂ y ≡ 0) p z.2);
  }
    where
      some_inj : {a b : SnapshotLeaseToken} → Some a ≡ Some b → a ≡ b
      some_inj e = cc

  pub history : (x : M.Image) → M.Holds x default → Always M x
  history x h rs few i j fits =
      let before = take i rs in
      let between = take j (drop i rs) in
      let n : length before ≤ i = simp length-take (omega arith) in
      let m : length between ≤ j = simp length-take (omega arith) in
      let a = ran before 0 i x default empty (omega arith) (omega arith) h start in
      let b = ran between i (i + j) (image M x before) a.state (ledger M x before) (omega arith) (omega arith) a.holds a.inv in
      let p : take (i + j) rs ≡ before ++ between = take-add i j rs in
      rw (p, image-append M before between x, events-append M before between x empty)
      (a.state, b.state, a.holds, b.holds, claims _ b.state _ (omega arith) a.inv b.holds b.inv b.rises (λ t. after-ended (events M (image M x before) between) (ledger M x before)))

-- OVER PLAIN MAPS
answered_steps : (s : State) (r : Call) (t : Transition) → answered s r ≡ t → Step s (said r.action t) (left s t)
answered_steps s r (rejected n) q = refl
answered_steps s r (accepted s' o) q = record { action = r.action; context = r.context; outcome = o; asks = refl; answers = refl; applies = q }

own_token : (s : State) (t : SnapshotLeaseToken) → (validate s t ≡ 0) ↔ ((u : SnapshotLeaseToken) × (Some t ≡ Some u) × (validate s u ≡ 0))
own_token s t = (λ q. (t, refl, q), λ z. let p : t ≡ z.0 = cc z.1 in rw p z.2)

map_follows : Follows maps
map_follows = record {
  each_call = λ x s h r. subst (λ (y : State). (s' : State) × Step y (maps.told x r) s' × (maps.call x r ≡ s')) h (maps.call x r, answered_steps x r (answered x r) refl, refl);
  validation = λ x s h t. subst (λ (y : State). (validate x t ≡ 0) ↔ ((u : SnapshotLeaseToken) × (Some t ≡ Some u) × (validate y u ≡ 0))) h (own_token x t);
}

pub map_history : Always maps default
map_history = history maps map_follows default refl
