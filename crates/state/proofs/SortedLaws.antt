-- Strictly ascending maps: `insert` and `remove` keep them so, and any two entries stand in order.
-- Assumes nothing.
use Rattle.std.specs.Prelude.{◌≡◌, cond}
use Rattle.std.proofs.Math.Path.{refl, ap}
use Rattle.std.proofs.Common.{sym, ◌∙◌, subst}
use mathlib.Core.List.{List, [], ◌∷◌}
use Rattle.text.specs.Order.{order_of}
use Rattle.text.proofs.OrderLaws.{flip, order_flip, order_equal, order_trans}
use Rattle.std.specs.declared.cmp.Ordering.TheVariants.{Less, Equal, Greater}
use Rattle.state.specs.Maps.{Text, same, Every, side, Map, ◌⟼◌, insert, remove, remove_all}
use Rattle.state.proofs.MapLaws.{by_test}
use Rattle.state.specs.Sort.{Pairs}
use Rattle.state.specs.Sorted.{Below, Ascending, InOrder}

module _ {A : Type 0} where
  pub below_trans : (k j : Text) (m : Map A) → order_of k j ≡ Less → Below j m → Below k m
  below_trans k j [] h b = tt
  below_trans k j ((i ⟼ v) ∷ m) h b = order_trans k j i h b

  below-remove : (k j : Text) (m : Map A) → Below k m → Ascending m → Below k (remove j m)
  unfolding remove
  below-remove k j [] b s = tt
  below-remove k j ((i ⟼ v) ∷ m) b s = by_test (λ t. Below k (cond t (remove j m) ((i ⟼ v) ∷ remove j m))) (same j i)
      (λ _. below-remove k j m (below_trans k i m b s.0) s.1) (λ _. b)

  pub remove-ascending : (j : Text) (m : Map A) → Ascending m → Ascending (remove j m)
  unfolding remove
  remove-ascending j [] s = tt
  remove-ascending j ((i ⟼ v) ∷ m) s = by_test (λ t. Ascending (cond t (remove j m) ((i ⟼ v) ∷ remove j m))) (same j i)
      (λ _. remove-ascending j m s.1) (λ _. (below-remove i j m s.0 s.1, remove-ascending j m s.1))

  pub remove_all-ascending : (js : List Text) (m : Map A) → Ascending m → Ascending (remove_all js m)
  unfolding remove_all
  remove_all-ascending [] m s = s
  remove_all-ascending (j ∷ js) m s = remove_all-ascending js (remove j m) (remove-ascending j m s)

  below-insert : (i k : Text) (v : A) (m : Map A) → order_of i k ≡ Less → Below i m → Below i (insert k v m)
  unfolding insert
  below-insert i k v [] h b = h
  below-insert i k v ((j ⟼ w) ∷ m) h b = elim (order_of k j) as (λ o. Below i (side o ((k ⟼ v) ∷ (j ⟼ w) ∷ m) ((k ⟼ v) ∷ m) ((j ⟼ w) ∷ insert k v m))) [ Less ↦ h | Equal ↦ h | Greater ↦ b ]

  pub insert-ascending : (k : Text) (v : A) (m : Map A) → Ascending m → Ascending (insert k v m)
  unfolding insert
  insert-ascending k v [] s = (tt, tt)
  insert-ascending k v ((j ⟼ w) ∷ m) s = (elim (order_of k j) as (λ o. order_of k j ≡ o → Ascending (side o ((k ⟼ v) ∷ (j ⟼ w) ∷ m) ((k ⟼ v) ∷ m) ((j ⟼ w) ∷ insert k v m))) [
    | Less ↦ λ e. (e, s)
    | Equal ↦ λ e. (subst (λ (x : Text). Below x m) (sym (order_equal k j e)) s.0, s.1)
    | Greater ↦ λ e. (below-insert j k v m (order_flip k j ∙ ap flip e) s.0, insert-ascending k v m s.1)
  ]) refl

module _ {A : Type 0} where
  above-all : (k : Text) (v : A) (m : Map A) → Below k m → Ascending m → Every (InOrder (k ⟼ v)) m
  above-all k v [] b s = tt
  above-all k v ((j ⟼ w) ∷ m) b s = (b, above-all k v m (below_trans k j m b s.0) s.1)

  pub in_order : (m : Map A) → Ascending m → Pairs InOrder m
  in_order [] s = tt
  in_order ((k ⟼ v) ∷ m) s = (above-all k v m s.0 s.1, in_order m s.1)
