-- The ids of the leases that a tick ends: those that the Rust lists by id, each once, strictly ascending by deadline, epoch and id.
-- Assumes nothing.
use Rattle.std.specs.Prelude.{ℕ, ◌≤◌, ◌<◌, ◌≡◌, refl, Bool, true, false, ◌&&◌, ◌||◌, List, ltb, eqb, length}
use Rattle.std.proofs.Math.Decide.{dec_lt}
use Rattle.std.proofs.Common.{arith, sym, ap, ◌∙◌, subst, lt-ltb, eq-eqb, ltb-true, eqb-true}
use Rattle.std.proofs.lemmas.List.{length-map}
use Rattle.text.specs.Order.{order_of}
use Rattle.text.proofs.OrderLaws.{flip, order_flip, order_refl, order_trans}
use Rattle.std.specs.declared.cmp.Ordering.{Ordering}
use Rattle.std.specs.declared.cmp.Ordering.TheVariants.{Less, Equal, Greater}
use Rattle.state.specs.Maps.{Text, Entry, ◌⟼◌, key_of, value_of, before, entries_where, keys_where}
use Rattle.state.proofs.MapLaws.{by_test, no_way, is_less_true}
use Rattle.state.specs.Sorted.{Ascending, InOrder}
use Rattle.state.proofs.SortedLaws.{in_order}
use Rattle.state.specs.Sort.{Rearranged, Pairs, Differ}
use Rattle.state.proofs.SortLaws.{rearranged_back, rearranged_length, rearranged_map, rearranged_pairs, pairs_map, pairs_weaker, select-few, pairs_select, sort_rearranged, Apart, Before, sort-ascends}
use Rattle.state.specs.Records.{SnapshotLeaseToken, State}
use Rattle.machine.specs.Next.{ends_by, ran_out_before, ended, expired}

-- A LEASE RAN OUT BEFORE ANOTHER, by one of three
pub data Sooner (d e : ℕ) (i : Text) (d' e' : ℕ) (j : Text) : Type 0 where
  by_deadline : d < d' → Sooner d e i d' e' j
  by_epoch : d ≡ d' → e < e' → Sooner d e i d' e' j
  by_id : d ≡ d' → e ≡ e' → order_of i j ≡ Less → Sooner d e i d' e' j

or_right : (a b : Bool) → b ≡ true → (a || b) ≡ true
or_right true b e = refl
or_right false b e = e

module _ (d e : ℕ) (i : Text) (d' e' : ℕ) (j : Text) where
  abbrev same_deadline : Bool
  same_deadline = ltb e e' || (eqb e e' && before i j)

  abbrev test : Bool
  test = ltb d d' || (eqb d d' && same_deadline)

  told-epoch : d ≡ d' → same_deadline ≡ true → Sooner d e i d' e' j
  told-epoch p h =
      by_test (λ b. ltb e e' ≡ b → (b || (eqb e e' && before i j)) ≡ true → Sooner d e i d' e' j) (ltb e e')
      (λ _ q _. by_epoch p (ltb-true e e' q))
      (λ _ _ k. by_test (λ b. eqb e e' ≡ b → (b && before i j) ≡ true → Sooner d e i d' e' j) (eqb e e')
      (λ _ q z. by_id p (eqb-true e e' q) (is_less_true (order_of i j) z)) (λ _ _ z. no_way z refl) refl k) refl h

  told : test ≡ true → Sooner d e i d' e' j
  told h =
      by_test (λ b. ltb d d' ≡ b → (b || (eqb d d' && same_deadline)) ≡ true → Sooner d e i d' e' j) (ltb d d')
      (λ _ q _. by_deadline (ltb-true d d' q))
      (λ _ _ k. by_test (λ b. eqb d d' ≡ b → (b && same_deadline) ≡ true → Sooner d e i d' e' j) (eqb d d')
      (λ _ q z. told-epoch (eqb-true d d' q) z) (λ _ _ z. no_way z refl) refl k) refl h

  tested : Sooner d e i d' e' j → test ≡ true
  tested (by_deadline w) = rw (lt-ltb d d' w)
  tested (by_epoch p w) = or_right (ltb d d') (eqb d d' && same_deadline) (rw (eq-eqb d d' p, lt-ltb e e' w))
  tested (by_id p q z) = or_right (ltb d d') (eqb d d' && same_deadline) (rw (eq-eqb d d' p) (or_right (ltb e e') (eqb e e' && before i j) (rw (eq-eqb e e' q, z))))

  -- of two whose ids differ, one ran out before the other
  either_way : (order_of i j ≡ Equal → ⊥) → test ≡ false → Sooner d' e' j d e i
  either_way n h = by_numbers (dec_lt d d') (dec_lt d' d) (dec_lt e e') (dec_lt e' e)
    where
      by_ids : d ≡ d' → e ≡ e' → (o : Ordering) → order_of i j ≡ o → Sooner d' e' j d e i
      by_ids p q Less z = no_way (tested (by_id p q z)) h
      by_ids p q Equal z = absurd (n z)
      by_ids p q Greater z = by_id (sym p) (sym q) (order_flip i j ∙ ap flip z)

      by_numbers : Dec (d < d') → Dec (d' < d) → Dec (e < e') → Dec (e' < e) → Sooner d' e' j d e i
      by_numbers (yes a) b c f = no_way (tested (by_deadline a)) h
      by_numbers (no a) (yes b) c f = by_deadline b
      by_numbers (no a) (no b) (yes c) f = no_way (tested (by_epoch (omega arith) c)) h
      by_numbers (no a) (no b) (no c) (yes f) = by_epoch (omega arith) f
      by_numbers (no a) (no b) (no c) (no f) = by_ids (omega arith) (omega arith) (order_of i j) refl

-- THE ORDER IS TOTAL where ids differ, whatever deadlines and epochs are, and what is before one lease is before all that follow it
pub total : (x y : Entry SnapshotLeaseToken) → (order_of (key_of x) (key_of y) ≡ Equal → ⊥) → Apart ran_out_before x y
unfolding ran_out_before
total (i ⟼ a) (j ⟼ b) n h =
    tested b.deadline_tick b.lease_epoch j a.deadline_tick a.lease_epoch i (either_way a.deadline_tick a.lease_epoch i b.deadline_tick b.lease_epoch j n h)

passed_on : (d₁ e₁ : ℕ) (i₁ : Text) (d₂ e₂ : ℕ) (i₂ : Text) (d₃ e₃ : ℕ) (i₃ : Text) → Sooner d₁ e₁ i₁ d₂ e₂ i₂ → Sooner d₂ e₂ i₂ d₃ e₃ i₃ → Sooner d₁ e₁ i₁ d₃ e₃ i₃
passed_on d₁ e₁ i₁ d₂ e₂ i₂ d₃ e₃ i₃ (by_deadline w) (by_deadline v) = by_deadline (omega arith)
passed_on d₁ e₁ i₁ d₂ e₂ i₂ d₃ e₃ i₃ (by_deadline w) (by_epoch p v) = by_deadline (omega arith)
passed_on d₁ e₁ i₁ d₂ e₂ i₂ d₃ e₃ i₃ (by_deadline w) (by_id p q v) = by_deadline (omega arith)
passed_on d₁ e₁ i₁ d₂ e₂ i₂ d₃ e₃ i₃ (by_epoch p w) (by_deadline v) = by_deadline (omega arith)
passed_on d₁ e₁ i₁ d₂ e₂ i₂ d₃ e₃ i₃ (by_epoch p w) (by_epoch q v) = by_epoch (omega arith) (omega arith)
passed_on d₁ e₁ i₁ d₂ e₂ i₂ d₃ e₃ i₃ (by_epoch p w) (by_id q r v) = by_epoch (omega arith) (omega arith)
passed_on d₁ e₁ i₁ d₂ e₂ i₂ d₃ e₃ i₃ (by_id p q z) (by_deadline v) = by_deadline (omega arith)
passed_on d₁ e₁ i₁ d₂ e₂ i₂ d₃ e₃ i₃ (by_id p q z) (by_epoch r v) = by_epoch (omega arith) (omega arith)
passed_on d₁ e₁ i₁ d₂ e₂ i₂ d₃ e₃ i₃ (by_id p q z) (by_id r u v) = by_id (omega arith) (omega arith) (order_trans i₁ i₂ i₃ z v)

pub trans : (x y z : Entry SnapshotLeaseToken) → Before ran_out_before x y → Before ran_out_before y z → Before ran_out_before x z
unfolding ran_out_before
trans (i ⟼ a) (j ⟼ b) (k ⟼ c) h g =
    tested a.deadline_tick a.lease_epoch i c.deadline_tick c.lease_epoch k
    (passed_on _ _ i b.deadline_tick b.lease_epoch j _ _ k
    (told a.deadline_tick a.lease_epoch i b.deadline_tick b.lease_epoch j h)
    (told b.deadline_tick b.lease_epoch j c.deadline_tick c.lease_epoch k g))

not_equal : (o : Ordering) → o ≡ Less → o ≡ Equal → ⊥
not_equal o h e = let z : ◌≡◌ {A = ℕ} 0 1 = cc in omega arith

less_differ : (i j : Text) → order_of i j ≡ Less → Differ i j
less_differ i j h e = not_equal (order_of i j) h (subst (λ (k : Text). order_of i k ≡ Equal) e (order_refl i))

abbrev pub RanOut : Entry SnapshotLeaseToken → Entry SnapshotLeaseToken → Type 0
RanOut (i ⟼ a) (j ⟼ b) = Sooner a.deadline_tick a.lease_epoch i b.deadline_tick b.lease_epoch j

-- the test tells just this
pub ran_out : (x y : Entry SnapshotLeaseToken) → ran_out_before x y ≡ true → RanOut x y
unfolding ran_out_before
ran_out (i ⟼ a) (j ⟼ b) h = told a.deadline_tick a.lease_epoch i b.deadline_tick b.lease_epoch j h

pub ran_out_told : (x y : Entry SnapshotLeaseToken) → RanOut x y → ran_out_before x y ≡ true
unfolding ran_out_before
ran_out_told (i ⟼ a) (j ⟼ b) r = tested a.deadline_tick a.lease_epoch i b.deadline_tick b.lease_epoch j r

-- THE IDS THAT A TICK ENDS
module _ (s : State) (tick : ℕ) where
  -- the list that the Rust gives, in the order of ids
  abbrev pub listed_by_id : List Text
  listed_by_id = keys_where (ends_by tick) s.leases

  -- THEY ARE THOSE OF THE RUST, each as often
  pub expired_rearranged : Rearranged (expired s tick) listed_by_id
  expired_rearranged = rearranged_map key_of (sort_rearranged ran_out_before (entries_where (ends_by tick) s.leases))

  pub expired-count : length (expired s tick) ≡ length (entries_where (ends_by tick) s.leases)
  expired-count = length-map (ended tick s.leases) key_of ∙ rearranged_length (sort_rearranged ran_out_before (entries_where (ends_by tick) s.leases))

  pub expired-few : length (expired s tick) ≤ length s.leases
  expired-few = omega (arith, expired-count, select-few (λ (e : Entry SnapshotLeaseToken). ends_by tick (value_of e)) s.leases)

  module _ (up : Ascending s.leases) where
    due_in_order : Pairs InOrder (entries_where (ends_by tick) s.leases)
    due_in_order = pairs_select (λ (e : Entry SnapshotLeaseToken). ends_by tick (value_of e)) InOrder s.leases (in_order s.leases up)

    -- EACH ONCE
    pub expired_once : Pairs Differ (expired s tick)
    expired_once =
        rearranged_pairs Differ (λ i j n e. n (sym e)) (rearranged_back expired_rearranged)
        (pairs_map key_of Differ (entries_where (ends_by tick) s.leases)
        (pairs_weaker InOrder (λ x y. Differ (key_of x) (key_of y)) (λ x y. less_differ (key_of x) (key_of y)) (entries_where (ends_by tick) s.leases) due_in_order))

    -- THEY ASCEND STRICTLY by deadline, epoch and id: each ran out before all that stand behind it
    pub expired-ascends : Pairs RanOut (ended tick s.leases)
    expired-ascends = pairs_weaker (Before ran_out_before) RanOut ran_out (ended tick s.leases) (sort-ascends ran_out_before trans (entries_where (ends_by tick) s.leases)
        (pairs_weaker InOrder (Apart ran_out_before) (λ x y h. total x y (not_equal (order_of (key_of x) (key_of y)) h)) (entries_where (ends_by tick) s.leases) due_in_order))
