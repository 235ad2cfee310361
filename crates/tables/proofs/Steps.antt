-- One step of each loop at a position, for each way out of it.
use Rattle.std.specs.Prelude.{ℕ, zero, suc, ◌+◌, ◌-◌, ◌≤◌, ◌<◌, Bool, List, [], ◌∷◌, ◌≡◌, refl, length, min, take, drop, cond, eqb, None, Some}
use Rattle.std.proofs.Common.{arith, sym, ap, ◌∙◌, add-one, get_or, length-drop, drop_of_length-le, drop-cons, drop-drop, eq-eqb, ne_eqb}
use Rattle.parts.specs.Gather.{run}
use Rattle.text.specs.Order.{order_of}
use Rattle.std.specs.declared.cmp.Ordering.TheVariants.{Less, Equal, Greater}
use Rattle.fields.specs.declared.Code.{Code}
use Rattle.fields.specs.declared.Code.TheVariants.{Number}
use Rattle.fields.specs.Codes.{hop, hops, hop_set, absent_codes, past, passed, skip}
use Rattle.fields.specs.Walks.{place_of, Rest}
use Rattle.fields.proofs.WalkLaws.{to_end, drop-within, end-at, rest-place, rest_trans, rest-drop, hop-rest}
use Rattle.fields.specs.Rows.{text_here}
use Rattle.tables.specs.Skips.{left_over, past_over, skip-cons, skip-rest, after_record}
use Rattle.tables.specs.Seek.{Seen, seek, placed, row_of, found, rows_at}
use Rattle.tables.specs.SeekLaws.{SeenIn, seek_in, rest-length, row-places}
use Rattle.tables.specs.declared.Place.{Place}

-- ---- places

-- what is left at the place of a rest is the rest
at_rest : (s : List ℕ) (p : ℕ) (r : List ℕ) → Rest (drop p s) r → drop (place_of s r) s ≡ r
at_rest s p r a = rest-place (rest_trans (rest-drop p s) a)

module _ (s : List ℕ) (at : ℕ) where
  pub further_is : (n w : ℕ) → w ≡ min at (length s) → drop (w + n) s ≡ drop n (drop at s)
  further_is n w b = sym (drop-drop n w s) ∙ ap (drop n) (rw b (drop-within s at))

  pub text_is : drop (place_of s (hop (drop at s))) s ≡ hop (drop at s)
  text_is = at_rest s at (hop (drop at s)) (hop-rest (drop at s))

  pub keys_none : length s ≤ at → hop_set (drop at s) ≡ drop at s
  unfolding hop_set
  keys_none h = rw (drop_of_length-le s h)

  pub keys_some : at < length s → hop_set (drop at s) ≡ hops (get_or s at 0) (drop (at + 1) s)
  unfolding hop_set
  keys_some h = rw (drop-cons s at 0 h, add-one)

  pub absent_none : (n : ℕ) → length s ≤ at → absent_codes n (drop at s) ≡ 0
  absent_none n h = rw (drop_of_length-le s h)

  pub absent_some : (n : ℕ) → at < length s → absent_codes n (drop at s) ≡ cond (eqb (get_or s at 0) 0) n 0
  absent_some n h = rw (drop-cons s at 0 h)

-- ---- texts, one after the other

module _ (s : List ℕ) (p n i : ℕ) where
  pub hops_none : n ≤ i → hops (n - i) (drop p s) ≡ drop p s
  unfolding hops
  hops_none h = let z : n - i ≡ 0 = omega arith in rw z

  pub hops_more : i < n → hops (n - i) (drop p s) ≡ hops (n - (i + 1)) (drop (place_of s (hop (drop p s))) s)
  unfolding hops
  hops_more h = let z : n - i ≡ suc (n - (i + 1)) = omega arith in rw (z, text_is s p)

pub ruleset hop_steps = (further_is, text_is, keys_none, keys_some, absent_none, absent_some, hops_none, hops_more)

-- ---- a record, code by code

module _ (cs : List Code) (s : List ℕ) (i p k : ℕ) where
  pub skip_none : length cs ≤ i → place_of s (skip k (drop i cs) (drop p s)) ≡ min p (length s)
  unfolding skip
  skip_none h = rw (drop_of_length-le cs h, length-drop) (omega arith)

  abbrev code : Code
  code = get_or cs i (Number 0)

  pub skip_more : (q m : ℕ) → drop q s ≡ past_over k code (drop p s) → m ≡ left_over k code (drop p s) → i < length cs → skip k (drop i cs) (drop p s) ≡ skip m (drop (i + 1) cs) (drop q s)
  skip_more q m r o h =
      ap (λ (l : List Code). skip k l (drop p s)) (rw (drop-cons cs i (Number 0) h, add-one) refl)
      ∙ skip-cons k code (drop (i + 1) cs) (drop p s)
      ∙ (λ j. skip (sym o j) (drop (i + 1) cs) (sym r j))

module _ (s : List ℕ) (k : ℕ) (c : Code) where
  pub left_here : k ≡ 0 → left_over k c s ≡ passed c s
  unfolding left_over
  left_here h = rw h

  pub past_here : (r : List ℕ) → r ≡ past c s → k ≡ 0 → r ≡ past_over k c s
  unfolding past_over
  past_here r e h = rw h e

  pub left_pass : (k ≡ 0 → ⊥) → left_over k c s ≡ k - 1
  unfolding left_over
  left_pass z = go k z
    where
      go : (k : ℕ) → (k ≡ 0 → ⊥) → left_over k c s ≡ k - 1
      go zero z = absurd (z refl)
      go (suc k) z = omega arith

  pub past_pass : (k ≡ 0 → ⊥) → s ≡ past_over k c s
  unfolding past_over
  past_pass z = go k z
    where
      go : (k : ℕ) → (k ≡ 0 → ⊥) → s ≡ past_over k c s
      go zero z = absurd (z refl)
      go (suc k) z = refl

pub ruleset on_steps = (left_here, past_here, left_pass, past_pass)

pub ruleset skip_steps = (skip_none, skip_more)

-- ---- rows

module _ (cs : List Code) (id s : List ℕ) (p n i : ℕ) where
  pub seek_none : n ≤ i → p ≤ length s → placed s (seek cs (n - i) id (drop p s)) ≡ record { start = p; end = p }
  unfolding seek
  seek_none k h = let z : n - i ≡ 0 = omega arith in rw (z, end-at s p h)

  one_less : i < n → n - i ≡ suc (n - (i + 1))
  one_less h = omega arith

  module _ (k : i < n) where
    pub seek_before : order_of id (text_here (drop p s)) ≡ Less → p ≤ length s → placed s (seek cs (n - i) id (drop p s)) ≡ record { start = p; end = p }
    unfolding seek
    seek_before o h = rw (one_less k, o, end-at s p h)

    pub seek_here : order_of id (text_here (drop p s)) ≡ Equal → p ≤ length s → placed s (seek cs (n - i) id (drop p s)) ≡ record { start = p; end = place_of s (skip 0 cs (drop p s)) }
    unfolding seek
    seek_here o h = rw (one_less k, o, end-at s p h)

    pub seek_more : order_of id (text_here (drop p s)) ≡ Greater → seek cs (n - i) id (drop p s) ≡ seek cs (n - (i + 1)) id (drop (place_of s (skip 0 cs (drop p s))) s)
    unfolding seek
    seek_more o = rw (one_less k, o, at_rest s p (skip 0 cs (drop p s)) (skip-rest 0 cs (drop p s)))

pub ruleset seek_steps = (seek_none, seek_before, seek_here, seek_more, drop-within)

-- the row's part, by its place
module _ (cs : List Code) (n : ℕ) (id s : List ℕ) (at : ℕ) (p : Place) where
  abbrev seen : Seen
  seen = seek cs n id (drop at s)

  seen_in : SeenIn s seen
  seen_in = let i = seek_in cs n id (drop at s) in record { from_rest = rest_trans (rest-drop at s) i.from_rest; to_rest = i.to_rest }

  pub find_none : p ≡ placed s seen → p.start ≡ p.end → found seen ≡ None
  unfolding found
  find_none e h =
      let a = rest-length seen_in.from_rest in
      let b = rest-length seen_in.to_rest in
      let i = ap (λ (y : Place). y.start) e in
      let j = ap (λ (y : Place). y.end) e in
      let z : length seen.from ≡ length seen.to = omega arith in
      ap (λ (b : Bool). cond b None (Some (row_of seen))) (eq-eqb _ _ z)

  pub find_some : p ≡ placed s seen → (p.start ≡ p.end → ⊥) → found seen ≡ Some (run s p.start (p.end - p.start))
  unfolding found
  find_some e h =
      let i = ap (λ (y : Place). y.start) e in
      let j = ap (λ (y : Place). y.end) e in
      let z : length seen.from ≡ length seen.to → ⊥ = λ k. h (i ∙ ap (λ (m : ℕ). length s - m) k ∙ sym j) in
      ap (λ (b : Bool). cond b None (Some (row_of seen))) (ne_eqb _ _ z)
      ∙ ap (λ (r : List ℕ). Some r) (sym (ap (λ (y : Place). take (y.end - y.start) (drop y.start s)) e ∙ row-places s seen seen_in))

pub ruleset find_steps = (find_none, find_some)

-- ---- rows, one by one

module _ (cs : List Code) (s : List ℕ) (p k : ℕ) where
  pub rows_done : k ≡ 0 → rows_at cs k (drop p s) ≡ []
  unfolding rows_at
  rows_done h = rw h

  -- what is left from a row on, cut off at the end, and from where it ends
  pub rows_next : (w e : ℕ) → w ≡ min p (length s) → e ≡ place_of s (skip 0 cs (drop p s)) → (k ≡ 0 → ⊥) → rows_at cs k (drop p s) ≡ take (length s - w) (drop w s) ∷ rows_at cs (k - 1) (drop e s)
  unfolding rows_at
  rows_next w e b h z = rw (to_end s w, b, drop-within s p, h, after_record cs s p) (go k z)
    where
      go : (k : ℕ) → (k ≡ 0 → ⊥) → rows_at cs k (drop p s) ≡ drop p s ∷ rows_at cs (k - 1) (skip 0 cs (drop p s))
      go zero z = absurd (z refl)
      go (suc k) z = let y : suc k - 1 ≡ k = omega arith in rw y

pub ruleset row_steps = (rows_done, rows_next)
