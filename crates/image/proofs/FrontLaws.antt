-- The front of an image, up to its tables, from the contents: version, entries, numbers, and the two options. Where contents
-- show a state, the front and the bytes of the state's tables are its image in the form that is written.
use Rattle.std.specs.Prelude.{ℕ, suc, ◌+◌, ◌-◌, ◌≤◌, Bool, true, false, not, ◌&&◌, ◌||◌, ◌≡◌, refl, leb, ltb, take, replicate, Option, None, Some}
use native.Mathlib.Omega.{arith}
use mathlib.Core.List.{List, [], ◌∷◌, ◌++◌, append_assoc, append-nil}
use Rattle.std.proofs.Math.Path.{sym, ap}
use Rattle.std.proofs.Common.{◌∙◌, length-take, lt-ltb, le-ltb, leb-true, leb-false}
use Rattle.std.proofs.Math.ListN.{length, drop, length-append}
use Rattle.parts.specs.Digits.{digits}
use Rattle.parts.specs.DigitLaws.{length_digits}
use Rattle.parts.specs.Over.{Wrote, over, then}
use Rattle.std.proofs.lemmas.List.{length-replicate, drop-replicate}
use Rattle.std.proofs.Math.Seq.{take_at}
use Rattle.state.specs.Records.{State}
use Rattle.fields.specs.Format.{enc_option, enc_text}
use Rattle.image.specs.Body.{roomy}
use Rattle.image.specs.Contents.{version_width}
use Rattle.image.specs.Layout.{TableIn, written, first_in, mark, bodies, state_parts, rows_in, table_bodies, encode_image}
use Rattle.image.specs.ImageParts.{names_in, tables_named, tables_of, joined, Measure, measures, entries_from, numbers_of, before_window, words, scalars_bytes, header_bytes, header_measures}
use Rattle.image.proofs.ImagePartLaws.{image_is}
use Rattle.image.proofs.ImagePartLaws.{rows-count, length-entries, scalars-is}
use Rattle.image.specs.Opened.{numbers_in, root_bytes, root_start, root_width, measures_in, Shows}
use Rattle.image.specs.declared.Table.{Table}
use Rattle.image.specs.declared.Scalars.{Scalars}
use Rattle.image.specs.declared.Contents.{Contents}
use Rattle.image.specs.Front.{Small, contents_over_limit, front_of, head_of, over_any, scalars_front, scalars_size, window_width}

pub window_narrow : (w : Option ℕ) → window_width w ≤ 8
window_narrow None = omega arith
window_narrow (Some n) = omega arith

abbrev pub front_measures : Contents → List Measure
front_measures c = record { size = scalars_size c.scalars; count = mark written.scalars } ∷ measures_in c.tables

pub length-measures : (ts : List Table) → length (measures_in ts) ≡ length ts
length-measures [] = refl
length-measures (t ∷ ts) = ap suc (length-measures ts)

-- ---- WHERE CONTENTS SHOW A STATE

pub window-size : (w : Option ℕ) → length (enc_option (digits 8) w) ≡ 1 + window_width w
unfolding enc_option digits
window-size None = refl
window-size (Some n) = refl

more_than : (m n : ℕ) → ltb m n ≡ not (leb n m)
more_than m n = go (leb n m) refl
  where
    go : (b : Bool) → leb n m ≡ b → ltb m n ≡ not b
    go true e = le-ltb m n (leb-true n m e)
    go false e = lt-ltb m n (leb-false n m e)

not_both : (a b : Bool) → not a || not b ≡ not (a && b)
not_both true b = refl
not_both false b = refl

limits_are : (ts : List TableIn) (t : State) → over_any ts (measures (tables_named (names_in ts) t)) ≡ not (roomy (table_bodies ts) (rows_in ts t))
unfolding over_any roomy
limits_are [] t = refl
limits_are (n ∷ ts) t =
    (λ i. more_than n.most (sym (rows-count n.name t) i) i || limits_are ts t i) ∙ not_both (leb _ n.most) (roomy (table_bodies ts) (rows_in ts t))

four_seams : (a b c d : List ℕ) → ((a ++ b) ++ c) ++ d ≡ a ++ (b ++ (c ++ d))
four_seams a b c d = simp append_assoc

module _ {x : List ℕ} {c : Contents} {t : State} (sh : Shows x c t) where
  size_is : scalars_size c.scalars ≡ length (scalars_bytes written t)
  unfolding words
  size_is =
      let l = ap length (sym (append-nil (scalars_bytes written t)) ∙ scalars-is written.scalars t []) in
      let w = window-size t.retention_window in
      let v = ap window_width sh.window in
      let r = sh.root_size in
      sym (l ∙ simp (length-append, length_digits) (omega arith))

  measures_are : front_measures c ≡ header_measures written t
  measures_are = λ i. record { size = size_is i; count = mark written.scalars } ∷ sh.tables i

  scalars_are : words (take before_window (numbers_of t)) ++ (enc_option (digits 8) t.retention_window ++ (words (drop before_window (numbers_of t)) ++ enc_option enc_text t.collection_root))
      ≡ scalars_bytes written t
  scalars_are =
      ap (λ (l : List ℕ). words (take before_window (numbers_of t)) ++ (enc_option (digits 8) t.retention_window ++ (words (drop before_window (numbers_of t)) ++ l))) (sym (append-nil (enc_option enc_text t.collection_root)))
      ∙ sym (scalars-is written.scalars t []) ∙ append-nil (scalars_bytes written t)

  head-is : head_of c (scalars_size c.scalars) ≡ header_bytes written t
  unfolding entries_from
  head-is =
      append_assoc (digits version_width c.format_version) _ _
      ∙ ap (λ (l : List ℕ). digits version_width c.format_version ++ l) (simp append_assoc)
      ∙ (λ i. digits version_width (sh.version i) ++ entries_from written.widths (first_in written) (measures_are i))

  scalars-front : scalars_front x c.scalars ≡ scalars_bytes written t
  scalars-front =
      let n = c.scalars in
      four_seams (words (take before_window (numbers_in n))) (enc_option (digits 8) n.retention_window) (words (drop before_window (numbers_in n))) (root_bytes x n.collection_root)
      ∙ (λ i. words (take before_window (sh.numbers i)) ++ (enc_option (digits 8) (sh.window i) ++ (words (drop before_window (sh.numbers i)) ++ sh.root i)))
      ∙ scalars_are

  front-is : front_of x c ≡ header_bytes written t ++ scalars_bytes written t
  front-is = λ i. head-is i ++ scalars-front i

  -- THE NEXT IMAGE
  pub image-shown : (body : List ℕ) → body ≡ joined (tables_of t) → front_of x c ++ body ≡ encode_image t
  image-shown body e =
      ap (λ (l : List ℕ). l ++ body) front-is ∙ append_assoc (header_bytes written t) (scalars_bytes written t) body
      ∙ ap (λ (l : List ℕ). header_bytes written t ++ (scalars_bytes written t ++ l)) e ∙ sym (image_is written t)

  pub limits_shown : contents_over_limit c ≡ not (roomy bodies (state_parts t).1)
  unfolding roomy
  limits_shown = ap (over_any written.tables) sh.tables ∙ limits_are written.tables t

-- ---- SIZES
pub length-head : (c : Contents) (size : ℕ) → length c.tables ≡ 6 → length (head_of c size) ≡ 67
length-head c size six =
    let e = length-entries written.widths (first_in written + size) (measures_in c.tables) in
    let m = length-measures c.tables in
    let z : length (measures_in c.tables) ≡ 6 = m ∙ six in
    simp (length-append, length_digits, e, z)

pub length-scalars : (x : List ℕ) (n : Scalars) → length (scalars_front x n) ≤ 98 + root_width n.collection_root
unfolding words
length-scalars x n =
    let w = window_narrow n.retention_window in
    let v = window-size n.retention_window in
    let r = length-take (root_width n.collection_root) (drop (root_start n.collection_root) x) in
    simp (length-append, length_digits) (omega arith)

-- ---- LAID AT THE HEAD OF AN ARRAY
module _ (x : List ℕ) (c : Contents) (small : Small c) (six : length c.tables ≡ 6) where
  abbrev H : List ℕ
  H = head_of c (scalars_size c.scalars)

  abbrev S : List ℕ
  S = scalars_front x c.scalars

  pub front_fits : length (front_of x c) ≤ 232
  front_fits =
      let a = length-head c (scalars_size c.scalars) six in
      let b = length-scalars x c.scalars in
      let l = length-append H S in
      omega (arith, small.root)

  -- what stands there, and zeros behind it
  pub laid-front : {d₁ d₂ : List ℕ} {p r : ℕ} → Wrote (replicate 232 0) 0 H p d₁ → Wrote d₁ p S r d₂
      → (d₂ ≡ front_of x c ++ replicate (232 - length (front_of x c)) 0) × (r ≡ length (front_of x c))
  unfolding over
  laid-front {d₁} {d₂} {p} {r} w v =
      let l = length-append H S in
      let n : length (replicate {A = ℕ} 232 0) ≡ 232 = length-replicate {A = ℕ} 232 0 in
      let u : Wrote (replicate 232 0) 0 (H ++ S) r d₂ = then w v (omega (arith, front_fits)) in
      let z : 0 + length (H ++ S) ≡ length (H ++ S) = omega arith in
      (u.is ∙ ap (λ (k : ℕ). (H ++ S) ++ drop k (replicate 232 0)) z ∙ ap (λ (k : List ℕ). (H ++ S) ++ k) (drop-replicate {X = ℕ} (length (H ++ S)) 232 0), u.place ∙ z)

-- the bytes at the head of such an array
pub front-held : (f : List ℕ) {bytes : List ℕ} {n : ℕ} → bytes ≡ f ++ replicate (232 - length f) 0 → n ≡ length f → (n ≤ length bytes) × (take n bytes ≡ f)
front-held f b n =
    let l = ap length b ∙ length-append f (replicate (232 - length f) 0) in
    (omega arith, rw (b, n) (take_at f (replicate (232 - length f) 0) (length f) refl))
