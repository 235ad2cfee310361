-- The steps of a comparison: those of words that are the same, of a word that differs, of single bytes; at most an eighth of
-- the shorter length and seven; of two texts of which one begins the other, exactly the eighth and the rest.
-- Assumes nothing.
use Rattle.std.specs.Prelude.{ℕ, zero, suc, ◌+◌, ◌*◌, ◌-◌, ◌/◌, ◌%◌, ◌≤◌, ◌<◌, min, ◌≡◌, refl, List, [], ◌∷◌, ◌++◌, Bool, true, false, cond, eqb, length, get_or, take, drop}
use Rattle.std.proofs.Common.{zero-add, arith, sym, ap, ◌∙◌, append_assoc, length-append, length-drop, take-append-drop, drop-cons, get_or-take, length-take-le, eq-eqb, ne_eqb}
use Rattle.std.proofs.lemmas.List.{take-append-le, drop-append-le}
use Rattle.std.proofs.Math.Seq.{take-append_seam, take-length}
use Rattle.text.specs.Same.{same_of}
use Rattle.text.specs.SameLaws.{same_refl, same_false, same-flip, eqb_flip, cut_same}
use Rattle.text.specs.Order.{byte_steps, word_steps, steps_of}

-- ---- what both begin with

words-past : (j m : ℕ) (p s t : List ℕ) → length p ≡ 8 * j → word_steps (j + m) (p ++ s) (p ++ t) ≡ j + word_steps m s t
unfolding word_steps
words-past zero m [] s t e = rw (zero-add m) (sym (zero-add (word_steps m s t)))
words-past zero m (x ∷ p) s t e = let z : ◌≡◌ {A = ℕ} 0 1 = omega arith in cc
words-past (suc j) m p s t e =
    let l = length-drop 8 p in
    let q : suc j + m ≡ suc (j + m) = omega arith in
    let h : 8 ≤ length p = omega arith in
    let r = words-past j m (drop 8 p) s t (omega arith) in
    rw (q, take-append-le 8 p s h, take-append-le 8 p t h, same_refl (take 8 p), drop-append-le 8 p s h, drop-append-le 8 p t h) (omega arith)

bytes_past : (p s t : List ℕ) → byte_steps (p ++ s) (p ++ t) ≡ length p + byte_steps s t
unfolding byte_steps
bytes_past [] s t = sym (zero-add (byte_steps s t))
bytes_past (x ∷ p) s t = let r = bytes_past p s t in rw (eq-eqb x x refl) (omega arith)

steps_past : (j : ℕ) (p s t : List ℕ) → length p ≡ 8 * j → steps_of (p ++ s) (p ++ t) ≡ j + steps_of s t
unfolding steps_of
steps_past j p s t e =
    let la = length-append p s in let lb = length-append p t in
    let q : min (length (p ++ s)) (length (p ++ t)) / 8 ≡ j + min (length s) (length t) / 8 = omega arith in
    rw q (words-past j (min (length s) (length t) / 8) p s t e)

-- fewer than eight are left on one side
few : (s t : List ℕ) → min (length s) (length t) < 8 → steps_of s t ≡ byte_steps s t
unfolding steps_of word_steps
few s t h = let q : min (length s) (length t) / 8 ≡ 0 = omega arith in rw q

-- behind the last whole eight, byte by byte
rest-past : (k : ℕ) (p s t : List ℕ) → k ≡ min (length (p ++ s)) (length (p ++ t)) / 8 → 8 * k ≤ length p → steps_of (p ++ s) (p ++ t) ≡ k + length p % 8 + byte_steps s t
rest-past k p s t e h =
    let la = length-append p s in let lb = length-append p t in
    let ld = length-drop (8 * k) p in
    let ls = length-append (drop (8 * k) p) s in let lt = length-append (drop (8 * k) p) t in
    let at : (l : List ℕ) → p ++ l ≡ take (8 * k) p ++ (drop (8 * k) p ++ l) =
    λ l. ap (λ (q : List ℕ). q ++ l) (sym (take-append-drop (8 * k) p)) ∙ append_assoc (take (8 * k) p) (drop (8 * k) p) l in
    ap (λ (l : List ℕ). steps_of l (p ++ t)) (at s) ∙ ap (steps_of (take (8 * k) p ++ (drop (8 * k) p ++ s))) (at t)
    ∙ steps_past k (take (8 * k) p) (drop (8 * k) p ++ s) (drop (8 * k) p ++ t) (length-take-le (8 * k) p h)
    ∙ ap (λ (m : ℕ). k + m) (few (drop (8 * k) p ++ s) (drop (8 * k) p ++ t) (omega arith) ∙ bytes_past (drop (8 * k) p) s t)
    ∙ omega arith

-- ---- up to and with the first that differ

first_word : (s t : List ℕ) → 8 ≤ length s → 8 ≤ length t → (take 8 s ≡ take 8 t → ⊥) → steps_of s t ≡ 1
unfolding steps_of word_steps
first_word s t h k d =
    let q : min (length s) (length t) / 8 ≡ suc (min (length s) (length t) / 8 - 1) = omega arith in rw (q, same_false (take 8 s) (take 8 t) d)

byte_off : (a b : List ℕ) (i : ℕ) → i < length a → i < length b → (get_or a i 0 ≡ get_or b i 0 → ⊥) → byte_steps (drop i a) (drop i b) ≡ 1
unfolding byte_steps
byte_off a b i h k d = rw (drop-cons a i 0 h, drop-cons b i 0 k) (simp (ne_eqb _ _ d))

none_left : (s t : List ℕ) → min (length s) (length t) ≡ 0 → byte_steps s t ≡ 0
unfolding byte_steps
none_left [] t e = refl
none_left (x ∷ s) [] e = refl
none_left (x ∷ s) (y ∷ t) e = let z : ◌≡◌ {A = ℕ} 0 1 = omega arith in cc

module _ (a b : List ℕ) (i : ℕ) (e : take i a ≡ take i b) where
  pub steps_to_word : i % 8 ≡ 0 → i + 8 ≤ length a → i + 8 ≤ length b → (take 8 (drop i a) ≡ take 8 (drop i b) → ⊥) → steps_of a b ≡ i / 8 + 1
  steps_to_word m h k d =
      let la = length-drop i a in let lb = length-drop i b in
      let w : length (take i a) ≡ i = length-take-le i a (omega arith) in
      cut_same steps_of i a b e ∙ steps_past (i / 8) (take i a) (drop i a) (drop i b) (omega arith) ∙ ap (λ (k : ℕ). i / 8 + k) (first_word (drop i a) (drop i b) (omega arith) (omega arith) d)

  to_rest : (n : ℕ) → n ≡ min (length a) (length b) → 8 * (n / 8) ≤ i → i ≤ n → steps_of a b ≡ i / 8 + i % 8 + byte_steps (drop i a) (drop i b)
  to_rest n q h k =
      let w : length (take i a) ≡ i = length-take-le i a (omega arith) in
      let la = length-append (take i a) (drop i a) in let lb = length-append (take i a) (drop i b) in
      let da = length-drop i a in let db = length-drop i b in
      cut_same steps_of i a b e ∙ rest-past (n / 8) (take i a) (drop i a) (drop i b) (omega arith) (omega arith) ∙ omega arith

  pub steps_to_byte : (n : ℕ) → n ≡ min (length a) (length b) → 8 * (n / 8) ≤ i → i < n → (get_or a i 0 ≡ get_or b i 0 → ⊥) → steps_of a b ≡ i / 8 + i % 8 + 1
  steps_to_byte n q h k d = to_rest n q h (omega arith) ∙ ap (λ (m : ℕ). i / 8 + i % 8 + m) (byte_off a b i (omega arith) (omega arith) d)

  pub steps_to_end : i ≡ min (length a) (length b) → steps_of a b ≡ i / 8 + i % 8
  steps_to_end q =
      let la = length-drop i a in let lb = length-drop i b in
      let z = none_left (drop i a) (drop i b) (omega arith) in
      to_rest i q (omega arith) (omega arith) ∙ omega arith

-- ---- what a user counts on

-- of two texts of which one begins the other, an eighth of the shorter one's length and the rest; the end is no step
pub steps_prefix : (a s : List ℕ) → steps_of a (a ++ s) ≡ length a / 8 + length a % 8
steps_prefix a s =
    let l = length-append a s in
    steps_to_end a (a ++ s) (length a) (take-length a ∙ sym (take-append_seam a s)) (omega arith)

pub steps_equal : (a : List ℕ) → steps_of a a ≡ length a / 8 + length a % 8
steps_equal a = steps_to_end a a (length a) refl (omega arith)

pub steps_equal_128 : (a : List ℕ) → length a ≡ 128 → steps_of a a ≡ 16
steps_equal_128 a h = let e = steps_equal a in omega arith

-- texts that differ in their first eight bytes
pub steps_first_word : (a b : List ℕ) (i : ℕ) → i < 8 → 8 ≤ length a → 8 ≤ length b → (get_or a i 0 ≡ get_or b i 0 → ⊥) → steps_of a b ≡ 1
steps_first_word a b i h ha hb d =
    first_word a b ha hb (λ e. d (sym (get_or-take 8 a i 0 h) ∙ ap (λ (l : List ℕ). get_or l i 0) e ∙ get_or-take 8 b i 0 h))

-- whichever of the two comes first
bytes-flip : (a b : List ℕ) → byte_steps a b ≡ byte_steps b a
unfolding byte_steps
bytes-flip [] [] = refl
bytes-flip [] (y ∷ b) = refl
bytes-flip (x ∷ a) [] = refl
bytes-flip (x ∷ a) (y ∷ b) = rw (eqb_flip x y, bytes-flip a b)

words-flip : (k : ℕ) (a b : List ℕ) → word_steps k a b ≡ word_steps k b a
unfolding word_steps
words-flip zero a b = bytes-flip a b
words-flip (suc k) a b = rw (same-flip (take 8 a) (take 8 b), words-flip k (drop 8 a) (drop 8 b))

pub steps_flip : (a b : List ℕ) → steps_of a b ≡ steps_of b a
unfolding steps_of
steps_flip a b =
    let q : min (length a) (length b) ≡ min (length b) (length a) = omega arith in
    rw q (words-flip (min (length b) (length a) / 8) a b)

-- at most so many
upto : (b : Bool) (m n : ℕ) → m ≤ n → cond b m 0 ≤ n
upto true m n h = h
upto false m n h = omega arith

bytes_most : (a b : List ℕ) → byte_steps a b ≤ min (length a) (length b)
unfolding byte_steps
bytes_most [] ys = omega arith
bytes_most (x ∷ xs) [] = omega arith
bytes_most (x ∷ xs) (y ∷ ys) = omega (arith, upto (eqb x y) (byte_steps xs ys) (min (length xs) (length ys)) (bytes_most xs ys))

words-most : (k : ℕ) (a b : List ℕ) → 8 * k ≤ min (length a) (length b) → word_steps k a b ≤ k + (min (length a) (length b) - 8 * k)
unfolding word_steps
words-most zero a b h = omega (arith, bytes_most a b)
words-most (suc k) a b h =
    let la = length-drop 8 a in let lb = length-drop 8 b in
    let i = words-most k (drop 8 a) (drop 8 b) (omega arith) in
    let u = upto (same_of (take 8 a) (take 8 b)) (word_steps k (drop 8 a) (drop 8 b)) (k + (min (length (drop 8 a)) (length (drop 8 b)) - 8 * k)) i in
    omega arith

pub steps_within : (a b : List ℕ) → steps_of a b ≤ min (length a) (length b) / 8 + min (length a) (length b) % 8
unfolding steps_of
steps_within a b = omega (arith, words-most (min (length a) (length b) / 8) a b (omega arith))

pub steps_most : (a b : List ℕ) → steps_of a b ≤ min (length a) (length b) / 8 + 7
steps_most a b = let h = steps_within a b in omega arith
