-- Properties of maps: of what is found, of each entry, and strictly ascending keys.
use Rattle.std.specs.Prelude.{◌≡◌, Option, None, Some}
use mathlib.Core.List.{List, [], ◌∷◌}
use Rattle.text.specs.Order.{order_of}
use Rattle.std.specs.declared.cmp.Ordering.TheVariants.{Less}
use Rattle.state.specs.Maps.{Text, Entry, Map, ◌⟼◌, key_of, lookup}

abbrev pub Below : {A : Type 0} → Text → Map A → Type 0
Below k [] = Unit {0}
Below k ((j ⟼ w) ∷ m) = order_of k j ≡ Less

abbrev pub Ascending : {A : Type 0} → Map A → Type 0
Ascending [] = Unit {0}
Ascending ((k ⟼ v) ∷ m) = Below k m × Ascending m

-- texts, each above the one before
abbrev pub Rising : Option Text → List Text → Type 0
Rising j [] = Unit {0}
Rising None (k ∷ ks) = Rising (Some k) ks
Rising (Some j) (k ∷ ks) = (order_of j k ≡ Less) × Rising (Some k) ks

-- ANY TWO ENTRIES stand in the order of their keys
abbrev pub InOrder : {A : Type 0} → Entry A → Entry A → Type 0
InOrder x y = order_of (key_of x) (key_of y) ≡ Less

-- A PROPERTY OF WHAT IS FOUND
abbrev pub Found : {A : Type 0} → (Text → A → Type 0) → Map A → Type 0
Found {A} P m = (k : Text) (v : A) → lookup k m ≡ Some v → P k v

-- A PROPERTY OF EACH ENTRY
abbrev pub Each : {A : Type 0} → (Text → A → Type 0) → Map A → Type 0
Each P [] = Unit {0}
Each P ((k ⟼ v) ∷ m) = P k v × Each P m
