-- Where a key stands in a map: what is ahead of it, at it and behind it. A change of the map is a splice there.
-- Assumes nothing.
use Rattle.std.specs.Prelude.{◌≡◌, Bool, false, Option, None, Some}
use Rattle.std.proofs.Math.Path.{refl, ap}
use Rattle.std.proofs.Common.{sym, ◌∙◌, subst}
use Rattle.std.proofs.Math.Bool.{cond}
use mathlib.Core.List.{List, [], ◌∷◌, ◌++◌, map}
use Rattle.text.specs.Order.{order_of}
use Rattle.text.proofs.OrderLaws.{flip, order_flip, order_equal}
use Rattle.text.specs.SameLaws.{same_refl}
use Rattle.std.specs.declared.cmp.Ordering.TheVariants.{Less, Equal, Greater}
use Rattle.state.specs.Maps.{Text, same, Every, select, side, Map, ◌⟼◌, key_of, lookup, insert, remove, remove_all, entries_where, keys_where}
use Rattle.state.proofs.MapLaws.{by_test, less_differs, greater_differs, equal_same}
use Rattle.state.specs.Sorted.{Below, Ascending}
use Rattle.state.proofs.SortedLaws.{below_trans}
use Rattle.state.specs.Sort.{Rearranged, none as no_keys, keep, swap, then}

module _ {A : Type 0} (k : Text) where
  unfoldable pub ahead : Map A → Map A
  ahead [] = []
  ahead ((j ⟼ w) ∷ m) = side (order_of k j) [] [] ((j ⟼ w) ∷ ahead m)

  unfoldable pub at : Map A → Map A
  at [] = []
  at ((j ⟼ w) ∷ m) = side (order_of k j) [] ((j ⟼ w) ∷ []) (at m)

  unfoldable pub behind : Map A → Map A
  behind [] = []
  behind ((j ⟼ w) ∷ m) = side (order_of k j) ((j ⟼ w) ∷ m) m (behind m)

  pub split_is : (m : Map A) → m ≡ ahead m ++ (at m ++ behind m)
  unfolding ahead at behind
  split_is [] = refl
  split_is ((j ⟼ w) ∷ m) =
      elim (order_of k j) as (λ o. (j ⟼ w) ∷ m ≡ side o [] [] ((j ⟼ w) ∷ ahead m) ++ (side o [] ((j ⟼ w) ∷ []) (at m) ++ side o ((j ⟼ w) ∷ m) m (behind m)))
      [ Less ↦ refl | Equal ↦ refl | Greater ↦ ap (λ (l : Map A). (j ⟼ w) ∷ l) (split_is m) ]

  pub insert-is : (v : A) (m : Map A) → insert k v m ≡ ahead m ++ (k ⟼ v) ∷ behind m
  unfolding ahead behind insert
  insert-is v [] = refl
  insert-is v ((j ⟼ w) ∷ m) =
      elim (order_of k j) as (λ o. side o ((k ⟼ v) ∷ (j ⟼ w) ∷ m) ((k ⟼ v) ∷ m) ((j ⟼ w) ∷ insert k v m) ≡ side o [] [] ((j ⟼ w) ∷ ahead m) ++ (k ⟼ v) ∷ side o ((j ⟼ w) ∷ m) m (behind m))
      [ Less ↦ refl | Equal ↦ refl | Greater ↦ ap (λ (l : Map A). (j ⟼ w) ∷ l) (insert-is v m) ]

  remove-below : (m : Map A) → Below k m → Ascending m → remove k m ≡ m
  unfolding remove
  remove-below [] b a = refl
  remove-below ((j ⟼ w) ∷ m) b a = rw (less_differs k j b) (ap (λ (l : Map A). (j ⟼ w) ∷ l) (remove-below m (below_trans k j m b a.0) a.1))

  remove-head : (w : A) (m : Map A) → Below k m → Ascending m → remove k ((k ⟼ w) ∷ m) ≡ m
  unfolding remove
  remove-head w m b a = rw (same_refl k) (remove-below m b a)

  pub remove-is : (m : Map A) → Ascending m → remove k m ≡ ahead m ++ behind m
  unfolding ahead behind remove
  remove-is [] a = refl
  remove-is ((j ⟼ w) ∷ m) a =
      (elim (order_of k j) as (λ o. order_of k j ≡ o → cond (same k j) (remove k m) ((j ⟼ w) ∷ remove k m) ≡ side o [] [] ((j ⟼ w) ∷ ahead m) ++ side o ((j ⟼ w) ∷ m) m (behind m)) [
        | Less ↦ λ e. rw (less_differs k j e) (ap (λ (l : Map A). (j ⟼ w) ∷ l) (remove-below m (below_trans k j m e a.0) a.1))
        | Equal ↦ λ e. rw (equal_same k j e) (remove-below m (subst (λ (x : Text). Below x m) (sym (order_equal k j e)) a.0) a.1)
        | Greater ↦ λ e. rw (greater_differs k j e) (ap (λ (l : Map A). (j ⟼ w) ∷ l) (remove-is m a.1))
      ]) refl

  abbrev pub first_value : Map A → Option A
  first_value [] = None
  first_value ((j ⟼ w) ∷ m) = Some w

  lookup-below : (m : Map A) → Below k m → Ascending m → lookup k m ≡ None
  unfolding lookup
  lookup-below [] b a = refl
  lookup-below ((j ⟼ w) ∷ m) b a = rw (less_differs k j b) (lookup-below m (below_trans k j m b a.0) a.1)

  pub lookup-is : (m : Map A) → Ascending m → lookup k m ≡ first_value (at m)
  unfolding at lookup
  lookup-is [] a = refl
  lookup-is ((j ⟼ w) ∷ m) a =
      (elim (order_of k j) as (λ o. order_of k j ≡ o → cond (same k j) (Some w) (lookup k m) ≡ first_value (side o [] ((j ⟼ w) ∷ []) (at m))) [
        | Less ↦ λ e. rw (less_differs k j e) (lookup-below m (below_trans k j m e a.0) a.1)
        | Equal ↦ λ e. rw (equal_same k j e)
        | Greater ↦ λ e. rw (greater_differs k j e) (lookup-is m a.1)
      ]) refl

-- MANY REMOVED AT ONCE: the keys of the entries that a test picks
unfoldable pub without : {A : Type 0} → (A → Bool) → Map A → Map A
without p [] = []
without p ((k ⟼ v) ∷ m) = cond (p v) (without p m) ((k ⟼ v) ∷ without p m)

module _ {A : Type 0} (p : A → Bool) where
  keys-above : (j : Text) (m : Map A) → Below j m → Ascending m → Every (λ i. same i j ≡ false) (keys_where p m)
  unfolding select
  keys-above j [] b a = tt
  keys-above j ((i ⟼ v) ∷ m) b a =
      by_test (λ t. Every (λ i. same i j ≡ false) (map key_of (cond t ((i ⟼ v) ∷ entries_where p m) (entries_where p m)))) (p v)
      (λ _. (greater_differs i j (order_flip j i ∙ ap flip b), keys-above j m (below_trans j i m b a.0) a.1)) (λ _. keys-above j m (below_trans j i m b a.0) a.1)

  remove_all-skip : (ks : List Text) (j : Text) (w : A) (m : Map A) → Every (λ i. same i j ≡ false) ks → remove_all ks ((j ⟼ w) ∷ m) ≡ (j ⟼ w) ∷ remove_all ks m
  unfolding remove_all remove
  remove_all-skip [] j w m h = refl
  remove_all-skip (i ∷ ks) j w m h = rw h.0 (remove_all-skip ks j w (remove i m) h.1)

  pub remove_all-is : (m : Map A) → Ascending m → remove_all (keys_where p m) m ≡ without p m
  unfolding select without remove_all remove
  remove_all-is [] a = refl
  remove_all-is ((j ⟼ w) ∷ m) a =
      by_test (λ t. remove_all (map key_of (cond t ((j ⟼ w) ∷ entries_where p m) (entries_where p m))) ((j ⟼ w) ∷ m) ≡ cond t (without p m) ((j ⟼ w) ∷ without p m)) (p w)
      (λ _. ap (remove_all (keys_where p m)) (remove-head j w m a.0 a.1) ∙ remove_all-is m a.1)
      (λ _. remove_all-skip (keys_where p m) j w m (keys-above j m a.0 a.1) ∙ ap (λ (l : Map A). (j ⟼ w) ∷ l) (remove_all-is m a.1))

-- in whatever order the keys stand
module _ {A : Type 0} where
  remove_turned : (i k : Text) (m : Map A) → remove i (remove k m) ≡ remove k (remove i m)
  unfolding remove
  remove_turned i k [] = refl
  remove_turned i k ((j ⟼ w) ∷ m) =
      by_test (λ a. same i j ≡ a → remove i (cond (same k j) (remove k m) ((j ⟼ w) ∷ remove k m)) ≡ remove k (cond a (remove i m) ((j ⟼ w) ∷ remove i m))) (same i j)
      (λ _ e. by_test (λ b. remove i (cond b (remove k m) ((j ⟼ w) ∷ remove k m)) ≡ remove k (remove i m)) (same k j)
      (λ _. remove_turned i k m) (λ _. rw e (remove_turned i k m)))
      (λ _ e. by_test (λ b. same k j ≡ b → remove i (cond b (remove k m) ((j ⟼ w) ∷ remove k m)) ≡ cond b (remove k (remove i m)) ((j ⟼ w) ∷ remove k (remove i m))) (same k j)
      (λ _ _. remove_turned i k m) (λ _ _. rw e (ap (λ (l : Map A). (j ⟼ w) ∷ l) (remove_turned i k m))) refl) refl

  pub remove_all_rearranged : {ks js : List Text} → Rearranged ks js → (m : Map A) → remove_all ks m ≡ remove_all js m
  unfolding remove_all
  remove_all_rearranged no_keys m = refl
  remove_all_rearranged (keep k r) m = remove_all_rearranged r (remove k m)
  remove_all_rearranged (swap i k ks) m = ap (remove_all ks) (remove_turned k i m)
  remove_all_rearranged (then r q) m = remove_all_rearranged r m ∙ remove_all_rearranged q m
