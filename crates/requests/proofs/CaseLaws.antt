-- What is read of a list of cases was written so; and what is read to the end is all of the bytes.
use Prim.Native.Nat.{ℕ, zero, suc, ◌+◌}
use native.Mathlib.Omega.{arith}
use Rattle.std.specs.Prelude.{◌≡◌}
use Rattle.std.proofs.Common.{sym, ◌∙◌}
use Rattle.std.proofs.Math.Path.{ap, subst}
use mathlib.Core.List.{List, [], ◌∷◌, ◌++◌, append-nil}
use Rattle.parts.specs.Digits.{Bytes}
use Rattle.fields.specs.Format.{Malformed, Res, ok, bad, Field, El, enc, dec, Within}
use Rattle.fields.proofs.FormatLaws.{never, bind_ok, dec-enc, enc-dec}
use Rattle.image.specs.Contents.{answer, whole}
use Rattle.requests.specs.Cases.{Case, read_case}

pub whole_is : {A : Type 0} (m : Res A) (v : A) → whole m ≡ answer v → m ≡ ok v []
unfolding whole
whole_is (ok x []) v h = let e : x ≡ v = cc in ap (λ y. ok y []) e
whole_is (ok x (b ∷ r)) v h = let z : ◌≡◌ {A = ℕ} 0 1 = cc in absurd (omega arith)
whole_is (bad e) v h = let z : ◌≡◌ {A = ℕ} 0 1 = cc in absurd (omega arith)

pub dec-all : (f : Field) (v : El f) → Within f v → dec f (enc f v) ≡ ok v []
dec-all f v h = rw append-nil at (dec-enc f v [] h)

module _ {A : Type 0} (write : A → List ℕ) (P : A → Type 0) where
  -- a case under the byte k makes what is written as that byte and its fields, and holds P
  abbrev pub Says : ℕ → Case A → Type 0
  Says k c = (v : El c.shape) → Within c.shape v → (write (c.make v) ≡ k ∷ enc c.shape v) × P (c.make v)

  abbrev pub AllSay : ℕ → List (Case A) → Type 0
  AllSay k [] = Unit {0}
  AllSay k (c ∷ cs) = Says k c × AllSay (suc k) cs

  pub case_written : (cs : List (Case A)) (n : ℕ) → AllSay n cs → (k : ℕ) (s : List ℕ) (a : A) (r : List ℕ) → Bytes s → read_case cs k s ≡ ok a r → ((k + n) ∷ s ≡ write a ++ r) × P a
  unfolding read_case
  case_written [] n g k s a r b h = absurd (never Malformed a r h)
  case_written (c ∷ cs) n g zero s a r b h =
      let (v, r₁, e₁, h₁) = bind_ok (dec c.shape s) _ a r h in
      let (i, w) = enc-dec c.shape s v r₁ b e₁ in
      let e : c.make v ≡ a = cc in
      let q : r₁ ≡ r = cc in
      let z : zero + n ≡ n = omega arith in
      let (x, y) = g.0 v w in
      subst (λ (y : A). ((zero + n) ∷ s ≡ write y ++ r) × P y) e
      (ap (λ (m : ℕ). m ∷ s) z ∙ ap (λ (l : List ℕ). n ∷ l) (i ∙ ap (λ (l : List ℕ). enc c.shape v ++ l) q) ∙ ap (λ (l : List ℕ). l ++ r) (sym x), y)
  case_written (c ∷ cs) n g (suc k) s a r b h =
      let z : suc k + n ≡ k + suc n = omega arith in
      rw z (case_written cs (suc n) g.1 k s a r b h)
