-- The definitions of `Same` and `Utf8` as std's calls tell them.
-- Assumes nothing.
use Rattle.std.specs.Prelude.{ℕ, ◌-◌, ◌≡◌, refl, List, [], ◌∷◌, Bool, true, ◌&&◌, eqb, length, take, Option, Some, None}
use Rattle.std.proofs.Common.{sym, ap, ◌∙◌, Iter}
use native.Mathlib.Numerals.{unary_clauses}
use Rattle.std.proofs.lemmas.Fn.{fold_over, fronts, slice_gives}
use Rattle.std.proofs.lemmas.List.Recursion.{and_push}
use Rattle.std.specs.Fn.{Called}
use Rattle.std.specs.Iterator.{Drains}
use Rattle.std.specs.List.{FoldsTo, slice_get}
use Rattle.std.specs.Option.{option_eq, option_copied}
use Rattle.std.specs.Slice.Iter.{iter_rest}
use Rattle.std.specs.Str.{bytes_eq}
use denote.Param.Members.{Mut}
use denote.Ref.{Bor}
use Rattle.text.specs.Same.{same_of, prefix_of, ends_with_of}

pub same_is : (a b : List ℕ) → bytes_eq a b ≡ same_of a b
unfolding same_of
same_is [] [] = refl
same_is [] (y ∷ b) = refl
same_is (x ∷ a) [] = refl
same_is (x ∷ a) (y ∷ b) = ap (λ (t : Bool). eqb x y && t) (same_is a b)

pub prefix_is : (p s : List ℕ) → bytes_eq p (take (length p) s) ≡ prefix_of p s
unfolding prefix_of
prefix_is [] s = refl
prefix_is (x ∷ p) [] = refl
prefix_is (x ∷ p) (y ∷ s) = ap (λ (t : Bool). eqb x y && t) (prefix_is p s)

pub ends_is : (r : Option (Bor ℕ)) (y : Bor ℕ) (s : List ℕ) → option_copied r ≡ slice_get s (length s - 1) → option_eq (λ (x z : Bor ℕ). eqb x.now z.now) r (Some y) ≡ ends_with_of y.now s
unfolding ends_with_of
ends_is None y [] e = refl
ends_is (Some x) y [] e = cc
ends_is None y (z ∷ []) e = cc
ends_is (Some x) y (z ∷ []) e = cc
ends_is r y (z ∷ w ∷ s) e = let h = simp unary_clauses at e in ends_is r y (w ∷ s) (simp unary_clauses h)

-- a test of each byte by a fold, where f is the closure
module _ {F : Type 0} (g : Mut F (Bool × (Bor ℕ × Unit {0})) Bool) (f : F) (test : ℕ → Bool) (all : List ℕ → Bool)
    (none : all [] ≡ true) (more : (x : ℕ) (s : List ℕ) → all (x ∷ s) ≡ (test x && all s))
    (step : (a : Bool) (x : Bor ℕ) (b : Bool) (f' : F) → Called g f (a, (x, tt)) b f' → (b ≡ (a && test x.now)) × (f' ≡ f)) where
  pub all_told : (i : Iter ℕ) (s : List ℕ) → iter_rest i ≡ s → (r : Bool)
      → (xs : List (Bor ℕ)) × (f' : F) × Drains fronts i xs × FoldsTo {P = F × Bool} (λ p x q. Called g p.0 (p.1, (x, tt)) q.1 q.0) (f, true) xs (f', r)
      → r ≡ all s
  all_told i s e r ran =
      fold_over fronts (λ y. y.now) g (λ ys b. b ≡ all ys) f
      (λ ys a x b f' j k. let p = and_push all test none more ys x.now in let q = step a x b f' k in (cc, q.1))
      i (iter_rest i) true r (slice_gives i) (sym none) ran ∙ ap all e
