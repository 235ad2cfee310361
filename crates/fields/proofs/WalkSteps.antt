-- One step of each walker, for each way out of it.
use Rattle.std.specs.Prelude.{ℕ, zero, suc, ◌+◌, ◌-◌, ◌≤◌, ◌<◌, true, false, List, [], ◌∷◌, ◌≡◌, refl, length, min, take, drop, Option, Some}
use Rattle.std.proofs.Common.{arith, sym, ap, ◌∙◌, add-one, get_or, length-drop, drop_of_length-le, drop-cons, drop-drop, le-leb}
use Rattle.std.proofs.lemmas.Bool.{lt-leb}
use Rattle.fields.specs.Format.{Malformed, Res, ok, bad, bind, byte, many, read_kind, read_text, after, rows, itself}
use Rattle.fields.specs.declared.Code.{Code}
use Rattle.fields.specs.declared.Code.TheVariants.{Number}
use Rattle.fields.specs.Codes.{then_none, read_flag, step, advance, walk, forget, hop}
use Rattle.fields.specs.Walks.{place_of, Leaves, Rest}
use Rattle.fields.proofs.WalkLaws.{walk-leaves}
use Rattle.fields.specs.Rows.{text_here, walk_rows}
use Rattle.fields.proofs.RowLaws.{walk_rows-leaves}

-- ---- a byte, and many

module _ (s : List ℕ) where
  pub byte_none : length s ≡ 0 → byte s ≡ bad Malformed
  unfolding byte
  byte_none h = go s h
    where
      go : (s : List ℕ) → length s ≡ 0 → byte s ≡ bad Malformed
      go [] h = refl
      go (x ∷ s) h = absurd (omega arith)

  pub byte_some : (x : ℕ) (r : List ℕ) → s ≡ x ∷ r → byte s ≡ ok x r
  unfolding byte
  byte_some x r h = rw h

  pub many_none : (n : ℕ) → length s < n → many n s ≡ bad Malformed
  unfolding many
  many_none n h = rw (lt-leb n (length s) h)

  pub many_some : (n : ℕ) → n ≤ length s → many n s ≡ ok (take n s) (drop n s)
  unfolding many
  many_some n h = rw (le-leb n (length s) h)

-- ---- kinds and options

pub kind_failed : (s : List ℕ) (e : ℕ) → bad e ≡ byte s → read_kind s ≡ bad e
unfolding byte read_kind
kind_failed [] e h = cc
kind_failed (x ∷ s) e h = cc

pub kind_bad : (s : List ℕ) (x : ℕ) (r : List ℕ) → ok x r ≡ byte s → 2 ≤ x → read_kind s ≡ bad Malformed
unfolding byte read_kind
kind_bad [] x r e h = cc
kind_bad (zero ∷ s) x r e h = let z : x ≡ 0 = cc in absurd (omega arith)
kind_bad (suc zero ∷ s) x r e h = let z : x ≡ 1 = cc in absurd (omega arith)
kind_bad (suc (suc k) ∷ s) x r e h = refl

pub kind_some : (s : List ℕ) (x : ℕ) (r : List ℕ) → ok x r ≡ byte s → x < 2 → forget (read_kind s) ≡ ok tt r
unfolding byte read_kind
kind_some [] x r e h = cc
kind_some (zero ∷ s) x r e h = cc
kind_some (suc zero ∷ s) x r e h = cc
kind_some (suc (suc k) ∷ s) x r e h = let z : x ≡ suc (suc k) = cc in absurd (omega arith)

module _ (n : ℕ) where
  pub flag_failed : (s : List ℕ) (e : ℕ) → bad e ≡ byte s → read_flag n s ≡ bad e
  unfolding byte read_flag
  flag_failed [] e h = cc
  flag_failed (x ∷ s) e h = cc

  pub flag_absent : (s r : List ℕ) → ok 0 r ≡ byte s → read_flag n s ≡ ok n r
  unfolding byte read_flag
  flag_absent [] r h = cc
  flag_absent (zero ∷ s) r h = cc
  flag_absent (suc k ∷ s) r h = let z : 0 ≡ suc k = cc in absurd (omega arith)

  pub flag_present : (s r : List ℕ) → ok 1 r ≡ byte s → read_flag n s ≡ ok 0 r
  unfolding byte read_flag
  flag_present [] r h = cc
  flag_present (zero ∷ s) r h = let z : ◌≡◌ {A = ℕ} 1 0 = cc in absurd (omega arith)
  flag_present (suc zero ∷ s) r h = cc
  flag_present (suc (suc k) ∷ s) r h = let z : 1 ≡ suc (suc k) = cc in absurd (omega arith)

  pub flag_bad : (s : List ℕ) (x : ℕ) (r : List ℕ) → ok x r ≡ byte s → 2 ≤ x → read_flag n s ≡ bad Malformed
  unfolding byte read_flag
  flag_bad [] x r e h = cc
  flag_bad (zero ∷ s) x r e h = let z : x ≡ 0 = cc in absurd (omega arith)
  flag_bad (suc zero ∷ s) x r e h = let z : x ≡ 1 = cc in absurd (omega arith)
  flag_bad (suc (suc k) ∷ s) x r e h = refl

pub ruleset reads = (byte_none, byte_some, many_none, many_some)

pub ruleset kinds = (kind_failed, kind_bad, kind_some)

pub ruleset flags = (flag_failed, flag_absent, flag_present, flag_bad)

-- ---- loops over so many

one_less : (n i : ℕ) → i < n → n - i ≡ suc (n - (i + 1))
one_less n i h = omega arith

-- ---- texts, one after the other

abbrev pub texts_read : ℕ → ℕ → Option (List ℕ) → List ℕ → Res (Unit {0})
texts_read l n p s = forget (rows (read_text l) itself n p s)

-- a value changed on the way does not change what is left
forget-map : {A B : Type 0} (f : A → B) (m : Res A) → forget (bind m (λ v r. ok (f v) r)) ≡ forget m
forget-map f (ok v r) = refl
forget-map f (bad e) = refl

module _ (l : ℕ) (s : List ℕ) (p : Option (List ℕ)) (n i : ℕ) where
  pub texts_none : n ≤ i → texts_read l (n - i) p s ≡ ok tt s
  unfolding rows
  texts_none h = let z : n - i ≡ 0 = omega arith in rw z

  module _ (h : i < n) where
    pub texts_fault : (e : ℕ) → bad e ≡ read_text l s → texts_read l (n - i) p s ≡ bad e
    unfolding rows
    texts_fault e q = rw (one_less n i h, ← q)

    module _ (t r : List ℕ) (q : ok t r ≡ read_text l s) where
      pub texts_order : after p t ≡ false → texts_read l (n - i) p s ≡ bad Malformed
      unfolding rows
      texts_order o = rw (one_less n i h, ← q, o)

      pub texts_more : after p t ≡ true → texts_read l (n - i) p s ≡ texts_read l (n - (i + 1)) (Some t) r
      unfolding rows
      texts_more o = rw (one_less n i h, ← q, o, forget-map (λ (vs : List (List ℕ)). t ∷ vs) (rows (read_text l) itself (n - (i + 1)) (Some t) r))

-- ---- one code

pub done : {A : Type 0} (m : Res A) (r : List ℕ) → ok tt r ≡ forget m → then_none m ≡ ok 0 r
done (ok v t) r h = cc
done (bad e) r h = cc

pub failed : {A : Type 0} (m : Res A) (e : ℕ) → bad e ≡ forget m → then_none m ≡ bad e
failed (ok v t) e h = cc
failed (bad x) e h = cc

pub advance_pass : (k : ℕ) (c : Code) (s : List ℕ) → (k ≡ 0 → ⊥) → advance k c s ≡ ok (k - 1) s
unfolding advance
advance_pass zero c s j = absurd (j refl)
advance_pass (suc k) c s j = let z : suc k - 1 ≡ k = omega arith in rw z

pub advance_here : (k : ℕ) (c : Code) (s : List ℕ) → k ≡ 0 → advance k c s ≡ step c s
unfolding advance
advance_here k c s h = rw h

-- ---- a record, code by code

module _ (s : List ℕ) (k : ℕ) (cs : List Code) (i : ℕ) where
  pub walk_end : length cs ≤ i → walk k (drop i cs) s ≡ ok tt s
  unfolding walk
  walk_end h = rw (drop_of_length-le cs h)

  -- the i-th code, as a loop over a slice reads it
  abbrev code : Code
  code = get_or cs i (Number 0)

  module _ (h : i < length cs) where
    code-cons : drop i cs ≡ code ∷ drop (i + 1) cs
    code-cons = rw (drop-cons cs i (Number 0) h, add-one)

    pub walk_stop : (e : ℕ) → bad e ≡ advance k code s → walk k (drop i cs) s ≡ bad e
    unfolding walk
    walk_stop e q = rw (code-cons, ← q)

    pub walk_next : (j : ℕ) (r : List ℕ) → ok j r ≡ advance k code s → walk k (drop i cs) s ≡ walk j (drop (i + 1) cs) r
    unfolding walk
    walk_next j r q = rw (code-cons, ← q)

-- ---- rows

module _ (cs : List Code) (s : List ℕ) (p : Option (List ℕ)) (n i : ℕ) where
  pub rows_none : n ≤ i → walk_rows cs (n - i) p s ≡ ok tt s
  unfolding walk_rows
  rows_none h = let z : n - i ≡ 0 = omega arith in rw z

  module _ (h : i < n) where
    pub rows_fault : (e : ℕ) → bad e ≡ walk 0 cs s → walk_rows cs (n - i) p s ≡ bad e
    unfolding walk_rows
    rows_fault e q = rw (one_less n i h, ← q)

    module _ (r : List ℕ) (q : ok tt r ≡ walk 0 cs s) where
      pub rows_order : after p (text_here s) ≡ false → walk_rows cs (n - i) p s ≡ bad Malformed
      unfolding walk_rows
      rows_order o = rw (one_less n i h, ← q, o)

      pub rows_more : after p (text_here s) ≡ true → walk_rows cs (n - i) p s ≡ walk_rows cs (n - (i + 1)) (Some (text_here s)) r
      unfolding walk_rows
      rows_more o = rw (one_less n i h, ← q, o)

pub ruleset loops = (texts_none, texts_fault, texts_order, texts_more, walk_end, walk_stop, walk_next, rows_none, rows_fault, rows_order, rows_more)

-- ---- what is left is no longer than what there was

short : {A : Type 0} (s : List ℕ) (at : ℕ) (m : Res A) (v : A) (r : List ℕ) → Leaves (drop at s) m → ok v r ≡ m → length r ≤ length s
short s at m v r l q =
    let a : Rest (drop at s) r = l.rest v r (sym q) in
    let e : length r ≡ length (drop at s) - a.bytes = ap length a.is ∙ length-drop a.bytes (drop at s) in
    omega (arith, length-drop at s)

pub record_short : (cs : List Code) (s : List ℕ) (at : ℕ) (r : List ℕ) → ok tt r ≡ walk 0 cs (drop at s) → length r ≤ length s
record_short cs s at r q = short s at (walk 0 cs (drop at s)) tt r (walk-leaves 0 cs (drop at s)) q

pub rows_short : (cs : List Code) (n : ℕ) (p : Option (List ℕ)) (s : List ℕ) (at : ℕ) (r : List ℕ) → ok tt r ≡ walk_rows cs n p (drop at s) → length r ≤ length s
rows_short cs n p s at r q = short s at (walk_rows cs n p (drop at s)) tt r (walk_rows-leaves cs n p (drop at s)) q

-- ---- the text at a place

pub text_here_none : (s : List ℕ) (at : ℕ) → length s ≤ at → text_here (drop at s) ≡ []
unfolding text_here
text_here_none s at h = rw (drop_of_length-le s h)

pub text_here_some : (s : List ℕ) (at : ℕ) → at < length s → text_here (drop at s) ≡ take (get_or s at 0) (drop (at + 1) s)
unfolding text_here
text_here_some s at h = rw (drop-cons s at 0 h, add-one)

pub after_text_none : (s : List ℕ) (at : ℕ) → length s ≤ at → place_of s (hop (drop at s)) ≡ length s
unfolding hop
after_text_none s at h = rw (drop_of_length-le s h) (omega arith)

pub after_text_some : (s : List ℕ) (at : ℕ) → at < length s → place_of s (hop (drop at s)) ≡ min (at + 1 + get_or s at 0) (length s)
unfolding hop
after_text_some s at h = rw (drop-cons s at 0 h, add-one, drop-drop, length-drop) (omega arith)
