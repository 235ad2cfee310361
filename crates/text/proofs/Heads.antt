-- Texts cut into pieces of n bytes, and how many pieces at the head of two texts are the same.
-- Assumes nothing.
use Rattle.std.specs.Prelude.{ℕ, zero, suc, ◌+◌, ◌*◌, ◌/◌, ◌<◌, ◌≤◌, ◌≡◌, refl, List, [], ◌∷◌, ◌++◌, Bool, true, false, not, cond, ltb, length, get_or, take, drop, Option, Some, None, position}
use Rattle.std.proofs.Common.{arith, sym, ap, ◌∙◌}
use Rattle.std.proofs.lemmas.Bool.{ltb-false}
use Rattle.std.proofs.lemmas.List.Sums.{prefix_len-le-length}
use Rattle.std.proofs.lemmas.Slice.Eq.{bytes_eq-Decides}
use Rattle.std.proofs.lemmas.Slice.Zip.{length-zip}
use Rattle.std.proofs.Math.Seq.{take-add, drop-drop}
use Rattle.std.specs.List.{zip, prefix_len, concat}
use Rattle.std.specs.Option.{unwrap_or}
use Rattle.std.specs.Simd.{first_chunks}
use Rattle.std.specs.Str.{bytes_eq}

-- the first place at which two lists of pieces differ
abbrev pub first_off : List (List ℕ) → List (List ℕ) → Option ℕ
first_off xs ys = position (λ (p : List ℕ × List ℕ). not (bytes_eq p.0 p.1)) (zip xs ys)

-- how many are the same
abbrev run : List (List ℕ) → List (List ℕ) → ℕ
run xs ys = prefix_len (λ (p : List ℕ × List ℕ). not (not (bytes_eq p.0 p.1))) (zip xs ys)

run_same : (xs ys : List (List ℕ)) → take (run xs ys) xs ≡ take (run xs ys) ys
run_same [] ys = refl
run_same (x ∷ xs) [] = refl
run_same (x ∷ xs) (y ∷ ys) = go (bytes_eq x y) refl (run_same xs ys)
  where
    go : (t : Bool) → bytes_eq x y ≡ t → take (run xs ys) xs ≡ take (run xs ys) ys
        → take (run (x ∷ xs) (y ∷ ys)) (x ∷ xs) ≡ take (run (x ∷ xs) (y ∷ ys)) (y ∷ ys)
    go true e rec = let q : 1 + run xs ys ≡ suc (run xs ys) = omega arith in simp (e, q) (cc ((bytes_eq-Decides x y).0 e))
    go false e rec = simp e

found : (n m : ℕ) → n ≤ m → unwrap_or (cond (ltb n m) (Some n) None) m ≡ n
found n m h = go (ltb n m) refl
  where
    go : (t : Bool) → ltb n m ≡ t → unwrap_or (cond t (Some n) None) m ≡ n
    go true e = refl
    go false e = let l = ltb-false n m e in omega arith

-- ---- pieces of n bytes

module _ (n : ℕ) where
  -- the first j of them are the first j * n bytes
  joined : (j k : ℕ) (s : List ℕ) → j ≤ k → concat (take j (first_chunks n k s)) ≡ take (j * n) s
  joined zero k s h = let z : 0 * n ≡ 0 = omega arith in rw z
  joined (suc j) zero s h = absurd (omega arith)
  joined (suc j) (suc k) s h =
      let z : suc j * n ≡ n + j * n = omega arith in
      ap (λ (l : List ℕ). take n s ++ l) (joined j k (drop n s) (omega arith)) ∙ sym (take-add n (j * n) s) ∙ ap (λ (m : ℕ). take m s) (sym z)

  pub piece_at : (j k : ℕ) (s d : List ℕ) → j < k → get_or (first_chunks n k s) j d ≡ take n (drop (j * n) s)
  piece_at j zero s d h = absurd (omega arith)
  piece_at zero (suc k) s d h = let z : 0 * n ≡ 0 = omega arith in rw z
  piece_at (suc j) (suc k) s d h = let z : suc j * n ≡ n + j * n = omega arith in rw (z, ← drop-drop) (piece_at j k (drop n s) d (omega arith))

  -- up to the first that differ the bytes are the same
  pub heads_to : (a b : List ℕ) (xs ys : List (List ℕ)) (o : Option ℕ) (j : ℕ) → length a ≡ length b
      → xs ≡ first_chunks n (length a / n) a → length xs ≡ length a / n → ys ≡ first_chunks n (length b / n) b → length ys ≡ length b / n
      → o ≡ first_off xs ys → j ≡ unwrap_or o (length xs) → (j ≤ length a / n) × (take (j * n) a ≡ take (j * n) b)
  heads_to a b xs ys o j e p lp q lq f u =
      let l : length b / n ≡ length a / n = ap (λ (m : ℕ). m / n) (sym e) in
      let z : length (zip xs ys) ≡ length xs = length-zip xs ys ∙ omega arith in
      let h = prefix_len-le-length (λ (p : List ℕ × List ℕ). not (not (bytes_eq p.0 p.1))) (zip xs ys) in
      let w : j ≡ run xs ys = u ∙ ap (λ (r : Option ℕ). unwrap_or r (length xs)) f ∙ ap (unwrap_or (first_off xs ys)) (sym z) ∙ found (run xs ys) (length (zip xs ys)) h in
      let i : run xs ys ≤ length a / n = omega arith in
      rw w (
        i,
        sym (joined (run xs ys) (length a / n) a i) ∙ ap (λ (c : List (List ℕ)). concat (take (run xs ys) c)) (sym p) ∙ ap concat (run_same xs ys)
            ∙ ap (λ (c : List (List ℕ)). concat (take (run xs ys) c)) q ∙ joined (run xs ys) (length b / n) b (omega arith),
      )
