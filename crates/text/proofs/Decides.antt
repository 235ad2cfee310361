-- What a comparison that stands at i shows: both texts are the same up to there, and then a word, a byte or an end decides.
-- Assumes nothing.
use Rattle.std.specs.Prelude.{ℕ, suc, ◌+◌, ◌*◌, ◌-◌, ◌/◌, ◌%◌, ◌≤◌, ◌<◌, min, ◌≡◌, List, [], ◌∷◌, ◌++◌, Bool, true, false, not, cond, ltb, length, get_or, take, drop, refl}
use Rattle.std.proofs.Common.{arith, sym, ap, ◌∙◌, lt-ltb, le-ltb, length-drop, length-take-le, drop-cons, take-take, drop_of_length-le}
use Rattle.std.proofs.Math.Seq.{take-add}
use Rattle.std.proofs.lemmas.Bool.{both_ways, not-true, not-false}
use Rattle.std.proofs.lemmas.List.{drop-take}
use Rattle.std.proofs.lemmas.Slice.Eq.{bytes_eq-Decides}
use Rattle.std.specs.Simd.{first_chunks}
use Rattle.std.specs.Str.{bytes_eq}
use Rattle.parts.specs.Digits.{Bytes}
use Rattle.parts.specs.DigitLaws.{bytes_drop, bytes_take}
use Rattle.text.specs.Order.{order_of, steps_of}
use Rattle.text.proofs.OrderLaws.{Heads, heads, less, same, more, head-less, head_more}
use Rattle.text.specs.SameLaws.{cut, cut_same}
use Rattle.text.proofs.StepLaws.{steps_to_word, steps_to_byte, steps_to_end}
use Rattle.text.specs.Words.{big_of}
use Rattle.text.proofs.WordLaws.{order_words}
use Rattle.text.proofs.Heads.{piece_at}
use Rattle.text.specs.declared.Compared.{Compared}
use Rattle.std.specs.declared.cmp.Ordering.{Ordering}
use Rattle.std.specs.declared.cmp.Ordering.TheVariants.{Less, Equal, Greater}

told : {o p : Ordering} {m n : ℕ} → o ≡ p → m ≡ n → ◌≡◌ {A = Compared} (record { order = o; steps = m }) (record { order = p; steps = n })
told e f = λ i. record { order = e i; steps = f i }

-- heads that differ
heads_decide : (x y : ℕ) (s t : List ℕ) → (x ≡ y → ⊥) → order_of (x ∷ s) (y ∷ t) ≡ cond (ltb x y) Less Greater
heads_decide x y s t d = go (heads x y)
  where
    go : Heads x y → order_of (x ∷ s) (y ∷ t) ≡ cond (ltb x y) Less Greater
    go (less h) = rw (lt-ltb x y h) (head-less x y s t h)
    go (same h) = absurd (d h)
    go (more h) = rw (le-ltb x y (omega arith)) (head_more x y s t h)

-- ---- the order past what both begin with

order_append : (t a b : List ℕ) → order_of (t ++ a) (t ++ b) ≡ order_of a b
unfolding order_of
order_append [] a b = refl
order_append (x ∷ t) a b = rw (le-ltb x x (omega arith)) (order_append t a b)

pub order_past : (a b : List ℕ) (i : ℕ) → take i a ≡ take i b → order_of a b ≡ order_of (drop i a) (drop i b)
order_past a b i e = cut_same order_of i a b e ∙ order_append (take i a) (drop i a) (drop i b)

module _ (a b : List ℕ) (i : ℕ) where
  pub order_long : i < length a → length b ≤ i → order_of (drop i a) (drop i b) ≡ Greater
  unfolding order_of
  order_long ha hb = rw (drop-cons a i 0, drop_of_length-le b hb)

  pub order_short : length a ≤ i → i < length b → order_of (drop i a) (drop i b) ≡ Less
  unfolding order_of
  order_short ha hb = rw (drop_of_length-le a ha, drop-cons b i 0)

  pub order_same : length a ≤ i → length b ≤ i → order_of (drop i a) (drop i b) ≡ Equal
  unfolding order_of
  order_same ha hb = rw (drop_of_length-le a ha, drop_of_length-le b hb)

-- the k-th word of the first n bytes
word_of : (s : List ℕ) (n k : ℕ) → n ≤ length s → k < n / 8 → get_or (first_chunks 8 (length (take n s) / 8) (take n s)) k [] ≡ take 8 (drop (8 * k) s)
word_of s n k h l =
    let w : length (take n s) ≡ n = length-take-le n s h in
    let z : k * 8 ≡ 8 * k = omega arith in
    let r : n ≡ 8 * k + (n - 8 * k) = omega arith in
    piece_at 8 k (length (take n s) / 8) (take n s) [] (omega arith) ∙ ap (λ (m : ℕ). take 8 (drop m (take n s))) z
    ∙ ap (λ (m : ℕ). take 8 (drop (8 * k) (take m s))) r ∙ ap (take 8) (drop-take (8 * k) (n - 8 * k) s) ∙ take-take 8 (n - 8 * k) (drop (8 * k) s) (omega arith)

module _ (a b : List ℕ) (n : ℕ) (q : n ≡ min (length a) (length b)) where
  -- ---- the first k words are the same, and xs and ys are the words of both
  module _ (k : ℕ) (h : k < n / 8) (e : take (8 * k) a ≡ take (8 * k) b) (xs ys : List (List ℕ))
      (ex : xs ≡ first_chunks 8 (length (take n a) / 8) (take n a)) (ey : ys ≡ first_chunks 8 (length (take n b) / 8) (take n b)) where
    left : get_or xs k [] ≡ take 8 (drop (8 * k) a)
    left = ap (λ (l : List (List ℕ)). get_or l k []) ex ∙ word_of a n k (omega arith) h

    right : get_or ys k [] ≡ take 8 (drop (8 * k) b)
    right = ap (λ (l : List (List ℕ)). get_or l k []) ey ∙ word_of b n k (omega arith) h

    -- one more
    pub word_on : false ≡ not (bytes_eq (get_or xs k []) (get_or ys k [])) → take (8 * (k + 1)) a ≡ take (8 * (k + 1)) b
    word_on f =
        let w = (bytes_eq-Decides (get_or xs k []) (get_or ys k [])).0 (not-false _ (sym f)) in
        let z : 8 * (k + 1) ≡ 8 * k + 8 = omega arith in
        rw (z, take-add (8 * k) 8 a, take-add (8 * k) 8 b) (cc (e, sym left ∙ w ∙ right))

    -- the next one differs
    pub word_tells : true ≡ not (bytes_eq (get_or xs k []) (get_or ys k [])) → Bytes a → Bytes b → (t : Bool) → t ≡ ltb (big_of (get_or xs k [])) (big_of (get_or ys k []))
        → ◌≡◌ {A = Compared} (record { order = cond t Less Greater; steps = k + 1 }) (record { order = order_of a b; steps = steps_of a b })
    word_tells f ba bb t et =
        let la = length-drop (8 * k) a in let lb = length-drop (8 * k) b in
        let ka : length (take 8 (drop (8 * k) a)) ≡ 8 = length-take-le 8 (drop (8 * k) a) (omega arith) in
        let kb : length (take 8 (drop (8 * k) b)) ≡ 8 = length-take-le 8 (drop (8 * k) b) (omega arith) in
        let w : take 8 (drop (8 * k) a) ≡ take 8 (drop (8 * k) b) → ⊥ =
        λ p. both_ways _ (not-true _ (sym f)) ((bytes_eq-Decides (get_or xs k []) (get_or ys k [])).1 (left ∙ p ∙ sym right)) in
        let s = steps_to_word a b (8 * k) e (omega arith) (omega arith) (omega arith) w in
        told
        (rw (et, left, right)
        (sym (order_past a b (8 * k) e ∙ cut order_of 8 (drop (8 * k) a) (drop (8 * k) b)
        ∙ order_words (take 8 (drop (8 * k) a)) (take 8 (drop (8 * k) b)) (drop 8 (drop (8 * k) a)) (drop 8 (drop (8 * k) b)) (ka ∙ sym kb) (bytes_take 8 (drop (8 * k) a) (bytes_drop (8 * k) a ba)) (bytes_take 8 (drop (8 * k) b) (bytes_drop (8 * k) b bb)) w)))
        (omega arith)

  -- ---- the first i bytes are the same
  module _ (i : ℕ) (e : take i a ≡ take i b) (s : ℕ) (es : s ≡ i / 8 + i % 8) where
    -- and the next one differs
    pub byte_tells : n - n % 8 ≤ i → i < n → (get_or a i 0 ≡ get_or b i 0 → ⊥)
        → ◌≡◌ {A = Compared} (record { order = cond (ltb (get_or a i 0) (get_or b i 0)) Less Greater; steps = s + 1 }) (record { order = order_of a b; steps = steps_of a b })
    byte_tells w h d =
        told
        (sym (order_past a b i e ∙ ap (λ (l : List ℕ). order_of l (drop i b)) (drop-cons a i 0 (omega arith)) ∙ ap (order_of (get_or a i 0 ∷ drop (suc i) a)) (drop-cons b i 0 (omega arith))
        ∙ heads_decide (get_or a i 0) (get_or b i 0) (drop (suc i) a) (drop (suc i) b) d))
        (ap (λ (m : ℕ). m + 1) es ∙ sym (steps_to_byte a b i e n q (omega arith) h d))

    -- and no more are on one side
    module _ (w : i ≡ n) where
      ended : s ≡ steps_of a b
      ended = es ∙ sym (steps_to_end a b i e (w ∙ q))

      pub end_differs : (length a ≡ length b → ⊥) → ◌≡◌ {A = Compared} (record { order = cond (ltb (length a) (length b)) Less Greater; steps = s }) (record { order = order_of a b; steps = steps_of a b })
      end_differs d = go (heads (length a) (length b))
        where
          go : Heads (length a) (length b) → ◌≡◌ {A = Compared} (record { order = cond (ltb (length a) (length b)) Less Greater; steps = s }) (record { order = order_of a b; steps = steps_of a b })
          go (less h) = told (rw (lt-ltb (length a) (length b) h) (sym (order_past a b i e ∙ order_short a b i (omega arith) (omega arith)))) ended
          go (same h) = absurd (d h)
          go (more h) = told (rw (le-ltb (length a) (length b) (omega arith)) (sym (order_past a b i e ∙ order_long a b i (omega arith) (omega arith)))) ended

      pub end_same : length a ≡ length b → ◌≡◌ {A = Compared} (record { order = Equal; steps = s }) (record { order = order_of a b; steps = steps_of a b })
      end_same h = told (sym (order_past a b i e ∙ order_same a b i (omega arith) (omega arith))) ended
