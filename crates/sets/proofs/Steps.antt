-- The keys of a set, one by one.
use Rattle.std.specs.List.{list_any, list_all}
use Rattle.state.specs.Maps.{any, all}
use Rattle.std.specs.Prelude.{Bool, ◌||◌, ◌&&◌, ℕ, zero, suc, ◌+◌, ◌-◌, ◌≤◌, ◌<◌, List, [], ◌∷◌, ◌≡◌, refl, length, take, drop}
use Rattle.std.proofs.Common.{arith, ap, add-one, get_or, drop_of_length-le, drop-cons}
use Rattle.fields.specs.Codes.{hop}
use Rattle.fields.specs.Rows.{text_here}
use Rattle.fields.specs.Walks.{place_of}
use Rattle.fields.proofs.WalkLaws.{to_end, rest-place, hop-rest}
use Rattle.sets.specs.Sets.{texts_of, set_of}

module _ (s : List ℕ) (at : ℕ) where
  pub set_none : length s ≤ at → set_of (drop at s) ≡ []
  unfolding set_of
  set_none h = rw (drop_of_length-le s h)

  pub set_some : at < length s → set_of (drop at s) ≡ texts_of (get_or s at 0) (take (length s - (at + 1)) (drop (at + 1) s))
  unfolding set_of
  set_some h = rw (to_end s (at + 1), drop-cons s at 0 h, add-one)

module _ (s : List ℕ) (n : ℕ) where
  pub keys_done : n ≡ 0 → texts_of n s ≡ []
  unfolding texts_of
  keys_done h = rw h

  -- where the next key starts at a place of this one's bytes
  pub keys_next : (e : ℕ) → e ≡ place_of s (hop (drop 0 s)) → (n ≡ 0 → ⊥) → texts_of n s ≡ text_here (drop 0 s) ∷ texts_of (n - 1) (take (length s - e) (drop e s))
  unfolding texts_of
  keys_next e h z = rw (to_end s e, h, rest-place (hop-rest s)) (go n z)
    where
      go : (n : ℕ) → (n ≡ 0 → ⊥) → texts_of n s ≡ text_here s ∷ texts_of (n - 1) (hop s)
      go zero z = absurd (z refl)
      go (suc n) z = let y : suc n - 1 ≡ n = omega arith in rw y

pub ruleset set_steps = (set_none, set_some, keys_done, keys_next)

-- ---- the tests of all keys

pub any_listed : {A : Type 0} (p : A → Bool) (xs : List A) → any p xs ≡ list_any p xs
unfolding any
any_listed p [] = refl
any_listed p (x ∷ xs) = ap (λ (b : Bool). p x || b) (any_listed p xs)

pub all_listed : {A : Type 0} (p : A → Bool) (xs : List A) → all p xs ≡ list_all p xs
unfolding all
all_listed p [] = refl
all_listed p (x ∷ xs) = ap (λ (b : Bool). p x && b) (all_listed p xs)
