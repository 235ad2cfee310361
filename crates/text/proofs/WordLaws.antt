-- Bytes as a number, the first the highest: numbers of as many bytes stand as the bytes do.
-- Assumes nothing.
use Rattle.std.specs.Int.{w64, from_be_bytes}
use Rattle.std.specs.Prelude.{ℕ, suc, ◌+◌, ◌*◌, ◌<◌, ◌≤◌, ◌≡◌, refl, cond, List, [], ◌∷◌, ◌++◌, ltb, length, get_or, drop}
use Rattle.std.proofs.Common.{arith, sym, ap, ◌∙◌, lt-ltb, le-ltb, drop-cons, drop_of_length-le}
use Rattle.parts.specs.Digits.{Bytes}
use Rattle.text.specs.Order.{order_of}
use Rattle.text.proofs.OrderLaws.{head-less, head-same, head_more, Heads, heads, less, same, more}
use Rattle.std.specs.declared.cmp.Ordering.TheVariants.{Less, Greater}
use Rattle.text.specs.Words.{big_from, big_of}

-- what is ahead stays ahead
ahead : (m n : ℕ) (u v : List ℕ) → length u ≡ length v → Bytes u → Bytes v → m < n → big_from m u < big_from n v
unfolding big_from
ahead m n [] [] e p q h = h
ahead m n [] (y ∷ v) e p q h = absurd (omega arith)
ahead m n (x ∷ u) [] e p q h = absurd (omega arith)
ahead m n (x ∷ u) (y ∷ v) e p q h =
    let hx = p 0 in let hy = q 0 in
    ahead (256 * m + x) (256 * n + y) u v (omega arith) (λ i. p (suc i)) (λ i. q (suc i)) (omega arith)

order_from : (m : ℕ) (u v s t : List ℕ) → length u ≡ length v → Bytes u → Bytes v → (u ≡ v → ⊥) → order_of (u ++ s) (v ++ t) ≡ cond (ltb (big_from m u) (big_from m v)) Less Greater
unfolding big_from
order_from m [] [] s t e p q d = absurd (d refl)
order_from m [] (y ∷ v) s t e p q d = absurd (omega arith)
order_from m (x ∷ u) [] s t e p q d = absurd (omega arith)
order_from m (x ∷ u) (y ∷ v) s t e p q d =
    go (order_from (256 * m + x) u v s t (omega arith) (λ i. p (suc i)) (λ i. q (suc i)))
    (ahead (256 * m + x) (256 * m + y) u v (omega arith) (λ i. p (suc i)) (λ i. q (suc i)))
    (ahead (256 * m + y) (256 * m + x) v u (omega arith) (λ i. q (suc i)) (λ i. p (suc i)))
    (heads x y)
  where
    go : ((u ≡ v → ⊥) → order_of (u ++ s) (v ++ t) ≡ cond (ltb (big_from (256 * m + x) u) (big_from (256 * m + x) v)) Less Greater)
        → (256 * m + x < 256 * m + y → big_from (256 * m + x) u < big_from (256 * m + y) v)
        → (256 * m + y < 256 * m + x → big_from (256 * m + y) v < big_from (256 * m + x) u)
        → Heads x y
        → order_of (x ∷ (u ++ s)) (y ∷ (v ++ t)) ≡ cond (ltb (big_from (256 * m + x) u) (big_from (256 * m + y) v)) Less Greater
    go rec up down (less k) = let h = up (omega arith) in rw (lt-ltb (big_from (256 * m + x) u) (big_from (256 * m + y) v) h) (head-less x y (u ++ s) (v ++ t) k)
    go rec up down (same k) =
        head-same x y (u ++ s) (v ++ t) k ∙ rec (λ w. d (cc (w, k))) ∙ ap (λ (n : ℕ). cond (ltb (big_from (256 * m + x) u) (big_from (256 * m + n) v)) Less Greater) k
    go rec up down (more k) =
        let h = down (omega arith) in rw (le-ltb (big_from (256 * m + x) u) (big_from (256 * m + y) v) (omega arith)) (head_more x y (u ++ s) (v ++ t) k)

-- two texts that differ in as many first bytes stand as the numbers of these
pub order_words : (u v s t : List ℕ) → length u ≡ length v → Bytes u → Bytes v → (u ≡ v → ⊥) → order_of (u ++ s) (v ++ t) ≡ cond (ltb (big_of u) (big_of v)) Less Greater
unfolding big_of
order_words u v s t e p q d = order_from 0 u v s t e p q d

-- eight bytes as std reads them, the first the highest
module _ (s : List ℕ) where
  big_step : (m i : ℕ) → i < length s → big_from m (drop i s) ≡ big_from (256 * m + get_or s i 0) (drop (suc i) s)
  unfolding big_from
  big_step m i h = rw (drop-cons s i 0 h)

  pub big_is : length s ≡ 8 → from_be_bytes w64 s ≡ big_of s
  unfolding big_of big_from
  big_is e =
      let f : length s ≤ 8 = omega arith in
      let n : drop 8 s ≡ [] = drop_of_length-le s f in
      sym (big_step 0 0 (omega arith) ∙ big_step _ 1 (omega arith) ∙ big_step _ 2 (omega arith) ∙ big_step _ 3 (omega arith) ∙ big_step _ 4 (omega arith) ∙ big_step _ 5 (omega arith)
      ∙ big_step _ 6 (omega arith) ∙ big_step _ 7 (omega arith) ∙ ap (big_from _) n ∙ omega arith)
