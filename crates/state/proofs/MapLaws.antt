-- Laws of texts and maps. None of them needs the order of the keys.
-- Assumes nothing.
use Rattle.std.specs.Prelude.{ℕ, ◌≡◌, Bool, true, false, ◌||◌, Option, None, Some}
use Rattle.std.proofs.Math.Path.{refl, ap}
use Rattle.std.proofs.Common.{sym, ◌∙◌, subst, arith}
use mathlib.Core.List.{List, [], ◌∷◌, map}
use Rattle.std.proofs.Math.Bool.{cond}
use Rattle.text.specs.Order.{order_of}
use Rattle.text.proofs.OrderLaws.{order_equal, order_refl}
use Rattle.text.specs.SameLaws.{same_refl, same_true, same_of_eq}
use Rattle.std.specs.declared.cmp.Ordering.{Ordering}
use Rattle.std.specs.declared.cmp.Ordering.TheVariants.{Less, Equal, Greater}
use Rattle.state.specs.Maps.{Text, same, is_less, Every, any, contains, select, is_some, side, Map, ◌⟼◌, key_of, lookup, insert, remove, remove_all, any_value, entries_where, keys_where, map_values}
use Rattle.state.specs.Sorted.{Found, Each}

-- TESTS
pub no_way {ℓ} : {A : Type ℓ} {x : Bool} → x ≡ true → x ≡ false → A
no_way p q = let z : ◌≡◌ {A = ℕ} 0 1 = cc in absurd (omega arith)

pub option_clash {ℓ} : {A : Type 0} {B : Type ℓ} {x : A} → ◌≡◌ {A = Option A} None (Some x) → B
option_clash p = let z : ◌≡◌ {A = ℕ} 0 1 = cc in absurd (omega arith)

pub is_none : {A : Type 0} (o : Option A) → is_some o ≡ false → o ≡ None
is_none None e = refl
is_none (Some x) e = cc

-- a test's two cases, with the equation in hand
pub by_test {ℓ} : (P : Bool → Type ℓ) (b : Bool) → (b ≡ true → P true) → (b ≡ false → P false) → P b
by_test P true f g = f refl
by_test P false f g = g refl

both_false : (a b : Bool) → (a || b) ≡ false → (a ≡ false) × (b ≡ false)
both_false true b e = no_way refl e
both_false false b e = (refl, e)

pub is_less_true : (o : Ordering) → is_less o ≡ true → o ≡ Less
is_less_true Less e = refl
is_less_true Equal e = no_way e refl
is_less_true Greater e = no_way e refl

-- ORDER AND EQUALITY AGREE
equal_order : (a b : Text) → a ≡ b → order_of a b ≡ Equal
equal_order a b e = rw e (order_refl b)

pub less_differs : (a b : Text) → order_of a b ≡ Less → same a b ≡ false
less_differs a b e = by_test (λ t. same a b ≡ t → t ≡ false) (same a b) (λ _ q. cc (equal_order a b (same_true a b q))) (λ _ _. refl) refl

pub greater_differs : (a b : Text) → order_of a b ≡ Greater → same a b ≡ false
greater_differs a b e = by_test (λ t. same a b ≡ t → t ≡ false) (same a b) (λ _ q. cc (equal_order a b (same_true a b q))) (λ _ _. refl) refl

pub equal_same : (a b : Text) → order_of a b ≡ Equal → same a b ≡ true
equal_same a b e = same_of_eq a b (order_equal a b e)

-- LOOKUP
module _ {A : Type 0} where
  pub lookup_insert_same : (k : Text) (v : A) (m : Map A) → lookup k (insert k v m) ≡ Some v
  unfolding lookup insert
  lookup_insert_same k v [] = rw (same_refl k)
  lookup_insert_same k v ((j ⟼ w) ∷ m) = (elim (order_of k j) as (λ o. order_of k j ≡ o → lookup k (side o ((k ⟼ v) ∷ (j ⟼ w) ∷ m) ((k ⟼ v) ∷ m) ((j ⟼ w) ∷ insert k v m)) ≡ Some v) [
    | Less ↦ λ e. rw (same_refl k)
    | Equal ↦ λ e. rw (same_refl k)
    | Greater ↦ λ e. rw (greater_differs k j e) (lookup_insert_same k v m)
  ]) refl

  pub lookup_insert_other : (i k : Text) (v : A) (m : Map A) → same i k ≡ false → lookup i (insert k v m) ≡ lookup i m
  unfolding lookup insert
  lookup_insert_other i k v [] h = rw h
  lookup_insert_other i k v ((j ⟼ w) ∷ m) h = (elim (order_of k j) as (λ o. order_of k j ≡ o → lookup i (side o ((k ⟼ v) ∷ (j ⟼ w) ∷ m) ((k ⟼ v) ∷ m) ((j ⟼ w) ∷ insert k v m)) ≡ lookup i ((j ⟼ w) ∷ m)) [
    | Less ↦ λ e. rw h
    | Equal ↦ λ e. let p : k ≡ j = order_equal k j e in rw (← p, h)
    | Greater ↦ λ e. ap (λ (r : Option A). cond (same i j) (Some w) r) (lookup_insert_other i k v m h)
  ]) refl

  pub lookup_remove_same : (k : Text) (m : Map A) → lookup k (remove k m) ≡ None
  unfolding lookup remove
  lookup_remove_same k [] = refl
  lookup_remove_same k ((j ⟼ w) ∷ m) = by_test (λ b. lookup k (cond b (remove k m) ((j ⟼ w) ∷ remove k m)) ≡ None) (same k j)
      (λ e. lookup_remove_same k m)
      (λ e. rw e (lookup_remove_same k m))

  pub lookup_remove_other : (i k : Text) (m : Map A) → same i k ≡ false → lookup i (remove k m) ≡ lookup i m
  unfolding lookup remove
  lookup_remove_other i k [] h = refl
  lookup_remove_other i k ((j ⟼ w) ∷ m) h = by_test (λ b. lookup i (cond b (remove k m) ((j ⟼ w) ∷ remove k m)) ≡ lookup i ((j ⟼ w) ∷ m)) (same k j)
      (λ e. let p : k ≡ j = same_true k j e in rw (← p, h) (lookup_remove_other i k m h))
      (λ e. ap (λ (r : Option A). cond (same i j) (Some w) r) (lookup_remove_other i k m h))

  -- what is still found was there, under another key than the removed one
  pub lookup-remove : (i k : Text) (v : A) (m : Map A) → lookup i (remove k m) ≡ Some v → (same i k ≡ false) × (lookup i m ≡ Some v)
  lookup-remove i k v m h = by_test (λ b. same i k ≡ b → (same i k ≡ false) × (lookup i m ≡ Some v)) (same i k)
      (λ e q. let p : i ≡ k = same_true i k e in option_clash (sym (lookup_remove_same k m) ∙ (rw p at h)))
      (λ e q. (q, sym (lookup_remove_other i k m q) ∙ h)) refl

  pub lookup-remove_all : (ks : List Text) (i : Text) (v : A) (m : Map A) → lookup i (remove_all ks m) ≡ Some v → (contains i ks ≡ false) × (lookup i m ≡ Some v)
  unfolding remove_all any
  lookup-remove_all [] i v m h = (refl, h)
  lookup-remove_all (k ∷ ks) i v m h =
      let r = lookup-remove_all ks i v (remove k m) h in
      let q = lookup-remove i k v m r.1 in
      (rw q.0 r.0, q.1)

  pub any_value_false : (p : A → Bool) (m : Map A) (k : Text) (v : A) → any_value p m ≡ false → lookup k m ≡ Some v → p v ≡ false
  unfolding lookup any_value
  any_value_false p [] k v e h = option_clash h
  any_value_false p ((j ⟼ w) ∷ m) k v e h =
      let neither = both_false (p w) (any_value p m) e in
      by_test (λ b. cond b (Some w) (lookup k m) ≡ Some v → p v ≡ false) (same k j)
      (λ _ z. let q : w ≡ v = cc in rw (← q) neither.0)
      (λ _ z. any_value_false p m k v neither.1 z) h

  pub keys_where_has : (p : A → Bool) (m : Map A) (k : Text) (v : A) → lookup k m ≡ Some v → p v ≡ true → contains k (keys_where p m) ≡ true
  unfolding lookup select any
  keys_where_has p [] k v h t = option_clash h
  keys_where_has p ((j ⟼ w) ∷ m) k v h t =
      by_test (λ b. cond b (Some w) (lookup k m) ≡ Some v → contains k (map key_of (cond (p w) ((j ⟼ w) ∷ entries_where p m) (entries_where p m))) ≡ true) (same k j)
      (λ e z. let q : w ≡ v = cc in rw (q, t, e))
      (λ e z. by_test (λ b. contains k (map key_of (cond b ((j ⟼ w) ∷ entries_where p m) (entries_where p m))) ≡ true) (p w)
      (λ _. rw e (keys_where_has p m k v z t))
      (λ _. keys_where_has p m k v z t)) h

-- a key that passes a test is not among keys of which none does
pub none_contained : (p : Text → Bool) (ks : List Text) (k : Text) → any p ks ≡ false → p k ≡ true → contains k ks ≡ false
unfolding any
none_contained p [] k e h = refl
none_contained p (j ∷ ks) k e h =
    let neither = both_false (p j) (any p ks) e in
    by_test (λ b. same k j ≡ b → (b || contains k ks) ≡ false) (same k j)
    (λ _ q. no_way (ap p (sym (same_true k j q)) ∙ h) neither.0)
    (λ _ _. none_contained p ks k neither.1 h) refl

-- A PROPERTY OF WHAT IS FOUND
module _ {A : Type 0} (P : Text → A → Type 0) where
  pub found-insert : (k : Text) (v : A) (m : Map A) → P k v → Found P m → Found P (insert k v m)
  found-insert k v m new old i w h = by_test (λ b. same i k ≡ b → P i w) (same i k)
      (λ _ q. let p : i ≡ k = same_true i k q in
      let z : lookup k (insert k v m) ≡ Some w = rw p at h in
      let r : v ≡ w = some_inj (sym (lookup_insert_same k v m) ∙ z) in
      subst (λ (x : Text). P x w) (sym p) (subst (P k) r new))
      (λ _ q. old i w (sym (lookup_insert_other i k v m q) ∙ h)) refl
    where
      some_inj : {x y : A} → Some x ≡ Some y → x ≡ y
      some_inj e = cc

  pub found-remove : (k : Text) (m : Map A) → Found P m → Found P (remove k m)
  found-remove k m old i w h = old i w (lookup-remove i k w m h).1

  pub found-remove_all : (ks : List Text) (m : Map A) → Found P m → Found P (remove_all ks m)
  found-remove_all ks m old i w h = old i w (lookup-remove_all ks i w m h).1

-- A PROPERTY OF EACH ENTRY
module _ {A : Type 0} (P : Text → A → Type 0) where
  pub each-insert : (k : Text) (v : A) (m : Map A) → P k v → Each P m → Each P (insert k v m)
  unfolding insert
  each-insert k v [] new old = (new, tt)
  each-insert k v ((j ⟼ w) ∷ m) new old =
      elim (order_of k j) as (λ o. Each P (side o ((k ⟼ v) ∷ (j ⟼ w) ∷ m) ((k ⟼ v) ∷ m) ((j ⟼ w) ∷ insert k v m))) [
        | Less ↦ (new, old)
        | Equal ↦ (new, old.1)
        | Greater ↦ (old.0, each-insert k v m new old.1)
      ]

  pub each-remove : (k : Text) (m : Map A) → Each P m → Each P (remove k m)
  unfolding remove
  each-remove k [] old = tt
  each-remove k ((j ⟼ w) ∷ m) old = by_test (λ t. Each P (cond t (remove k m) ((j ⟼ w) ∷ remove k m))) (same k j)
      (λ _. each-remove k m old.1) (λ _. (old.0, each-remove k m old.1))

  pub each-remove_all : (ks : List Text) (m : Map A) → Each P m → Each P (remove_all ks m)
  unfolding remove_all
  each-remove_all [] m old = old
  each-remove_all (k ∷ ks) m old = each-remove_all ks (remove k m) (each-remove k m old)

  pub each-lookup : (k : Text) (v : A) (m : Map A) → Each P m → lookup k m ≡ Some v → P k v
  unfolding lookup
  each-lookup k v [] old h = option_clash h
  each-lookup k v ((j ⟼ w) ∷ m) old h = by_test (λ t. same k j ≡ t → cond t (Some w) (lookup k m) ≡ Some v → P k v) (same k j)
      (λ _ q e. let p : k ≡ j = same_true k j q in let r : w ≡ v = cc in rw (p, ← r) old.0)
      (λ _ _ e. each-lookup k v m old.1 e) refl h

  -- a property of the keys that a test picks
  pub each-keys : (Q : Text → Type 0) (p : A → Bool) → ((k : Text) (v : A) → P k v → Q k) → (m : Map A) → Each P m → Every Q (keys_where p m)
  unfolding select
  each-keys Q p f [] h = tt
  each-keys Q p f ((k ⟼ v) ∷ m) h = by_test (λ b. Every Q (map key_of (cond b ((k ⟼ v) ∷ entries_where p m) (entries_where p m)))) (p v)
      (λ _. (f k v h.0, each-keys Q p f m h.1)) (λ _. each-keys Q p f m h.1)

-- MAPPED VALUES
module _ {A B : Type 0} (f : A → B) where
  pub map-insert : (k : Text) (v : A) (m : Map A) → map_values f (insert k v m) ≡ insert k (f v) (map_values f m)
  unfolding map_values insert
  map-insert k v [] = refl
  map-insert k v ((j ⟼ w) ∷ m) =
      elim (order_of k j) as (λ o. map_values f (side o ((k ⟼ v) ∷ (j ⟼ w) ∷ m) ((k ⟼ v) ∷ m) ((j ⟼ w) ∷ insert k v m)) ≡ side o ((k ⟼ f v) ∷ (j ⟼ f w) ∷ map_values f m) ((k ⟼ f v) ∷ map_values f m) ((j ⟼ f w) ∷ insert k (f v) (map_values f m))) [
        | Less ↦ refl
        | Equal ↦ refl
        | Greater ↦ ap (λ (r : Map B). (j ⟼ f w) ∷ r) (map-insert k v m)
      ]

  pub map-remove : (k : Text) (m : Map A) → map_values f (remove k m) ≡ remove k (map_values f m)
  unfolding map_values remove
  map-remove k [] = refl
  map-remove k ((j ⟼ w) ∷ m) = by_test (λ b. map_values f (cond b (remove k m) ((j ⟼ w) ∷ remove k m)) ≡ cond b (remove k (map_values f m)) ((j ⟼ f w) ∷ remove k (map_values f m))) (same k j)
      (λ _. map-remove k m)
      (λ _. ap (λ (r : Map B). (j ⟼ f w) ∷ r) (map-remove k m))

  pub lookup-map : (k : Text) (m : Map A) (v : A) → lookup k m ≡ Some v → lookup k (map_values f m) ≡ Some (f v)
  unfolding map_values lookup
  lookup-map k [] v h = option_clash h
  lookup-map k ((j ⟼ w) ∷ m) v h = by_test (λ b. cond b (Some w) (lookup k m) ≡ Some v → cond b (Some (f w)) (lookup k (map_values f m)) ≡ Some (f v)) (same k j)
      (λ _ z. let q : w ≡ v = cc in ap (λ (x : A). Some (f x)) q)
      (λ _ z. lookup-map k m v z) h

  pub lookup_unmap : (k : Text) (m : Map A) (u : B) → lookup k (map_values f m) ≡ Some u → (v : A) × (lookup k m ≡ Some v) × (u ≡ f v)
  unfolding map_values lookup
  lookup_unmap k [] u h = option_clash h
  lookup_unmap k ((j ⟼ w) ∷ m) u h = by_test (λ b. cond b (Some (f w)) (lookup k (map_values f m)) ≡ Some u → (v : A) × (cond b (Some w) (lookup k m) ≡ Some v) × (u ≡ f v)) (same k j)
      (λ _ z. (w, refl, cc))
      (λ _ z. lookup_unmap k m u z) h
