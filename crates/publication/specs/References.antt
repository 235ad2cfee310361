-- References as bytes: those of a stored row after its id, and those of an option after its flag, are the same just where both
-- are absent or both hold equal references.
use Rattle.std.specs.Prelude.{ℕ, suc, ◌+◌, ◌-◌, List, [], ◌++◌, ◌≡◌, refl, length, drop, Option, None, Some}
use Rattle.std.proofs.Common.{arith, append-nil, sym, ap, ◌∙◌, length-append, length-drop}
use Rattle.std.proofs.Math.Seq.{drop-append_seam, drop-nil, take-append_seam}
use Rattle.text.specs.Same.{same_of}
use Rattle.state.specs.Maps.{Text, Map, lookup, same_option}
use Rattle.state.specs.Sorted.{Ascending}
use Rattle.state.proofs.Places.{at}
use Rattle.state.specs.Records.{State, ObjectReference, reference_eq}
use Rattle.fields.specs.Format.{Field, El, enc, enc_text, enc_option, option, all, Within}
use Rattle.fields.specs.Codes.{codes}
use Rattle.reader.specs.Records.{record_of}
use Rattle.parts.specs.Gather.{run}
use Rattle.image.specs.Body.{row}
use Rattle.image.specs.Shapes.{short, reference, reference_parts, each_option}
use Rattle.tables.specs.declared.Place.{Place}
use Rattle.image.specs.Layout.{row_of, pins, roots, Formed}
use Rattle.image.specs.Tables.{reference_row}
use Rattle.image.specs.Opened.{Holds}
use Rattle.image.specs.Stored.{Stored}
use Rattle.image.proofs.StoredLaws.{stored_in}
use Rattle.image.proofs.SameBytes.{same-reference}
use Rattle.image.proofs.OpenedLaws.{after_seam}
use Rattle.image.specs.declared.Contents.{Contents}
use Rattle.next.specs.Kept.{run-rest}
use Rattle.next.specs.Peeks.{skip-to}
use Rattle.next.specs.Edit.{Standing, absent, present, standing, run_row}
use Rattle.edits.specs.PlaceLaws.{Located, spot}

abbrev pub held : Option ObjectReference → List ℕ
held None = []
held (Some v) = enc reference (reference_parts v)

abbrev pub HeldWithin : Option ObjectReference → Type 0
HeldWithin o = Within (option reference) (each_option reference_parts o)

pub same-held : (a b : Option ObjectReference) → HeldWithin a → HeldWithin b → same_of (held a) (held b) ≡ same_option reference_eq a b
unfolding same_of enc
same-held None None h k = refl
same-held None (Some w) h k = refl
same-held (Some v) None h k = refl
same-held (Some v) (Some w) h k = same-reference v w h k

-- an option after its flag
pub option-held : (o : Option ObjectReference) → drop 1 (enc (option reference) (each_option reference_parts o)) ≡ held o
unfolding enc enc_option
option-held None = refl
option-held (Some v) = refl

-- a row after its id
pub row-rest : (n : ℕ) (f : Field) (v : El (row n f)) → drop (length v.0 + 1) (enc (row n f) v ++ []) ≡ enc f v.1
unfolding enc enc_text
row-rest n f v =
    let k : length v.0 + 1 ≡ suc (length v.0) = omega arith in
    rw (k, append-nil) (drop-append_seam v.0 (enc f v.1))

pub row-held : (k : Text) (m : Map ObjectReference) → Ascending m → drop (length k + 1) (all reference_row (at k m)) ≡ held (lookup k m)
unfolding all
row-held k m a = go (standing k m a)
  where
    go : Standing k m → drop (length k + 1) (all reference_row (at k m)) ≡ held (lookup k m)
    go (absent e l) = rw (e, l) (drop-nil (length k + 1))
    go (present v e l) = rw (e, l) (row-rest short reference (k, reference_parts v))

-- what is stored is within its format
pub held-within : (m : Map ObjectReference) → Stored short reference (row_of reference_parts) m → (k : Text) → HeldWithin (lookup k m)
held-within m st k = go (lookup k m) refl
  where
    go : (o : Option ObjectReference) → lookup k m ≡ o → HeldWithin o
    go None e = tt
    go (Some v) e = (st.found k v e).1.1

-- ---- the row of a pin or a root by its place in the image: after its id it holds just the bytes of the option
module _ {x : List ℕ} {c : Contents} {s : State} (h : Holds x c s) (f : Formed s) {k : Text} {place : Place} (o : Option ObjectReference) (within : HeldWithin o) where
  pub pin-same : Located pins x c k place → same_of (drop (length k + 1) (run x place.start (place.end - place.start))) (held o) ≡ same_option reference_eq (lookup k s.pins) o
  pin-same found =
      ap (λ (l : List ℕ). same_of (drop (length k + 1) l) (held o)) (run_row (spot h f pins found))
      ∙ ap (λ (l : List ℕ). same_of l (held o)) (row-held k s.pins (stored_in pins s f).ascending)
      ∙ same-held (lookup k s.pins) o (held-within s.pins (stored_in pins s f) k) within

  pub root-same : Located roots x c k place → same_of (drop (length k + 1) (run x place.start (place.end - place.start))) (held o) ≡ same_option reference_eq (lookup k s.roots) o
  root-same found =
      ap (λ (l : List ℕ). same_of (drop (length k + 1) l) (held o)) (run_row (spot h f roots found))
      ∙ ap (λ (l : List ℕ). same_of l (held o)) (row-held k s.roots (stored_in roots s f).ascending)
      ∙ same-held (lookup k s.roots) o (held-within s.roots (stored_in roots s f) k) within

-- ---- in a request: an option of a reference, and after it a reference to the end

abbrev pub option_at : List ℕ → ℕ → List ℕ
option_at s at = record_of (codes (option reference)) (drop at s)

-- the record that was written at the head, whatever it holds
pub record-to : (f : Field) (v : El f) (r : List ℕ) → record_of (codes f) (enc f v ++ r) ≡ enc f v
unfolding record_of
record-to f v r =
    let n : length (enc f v ++ r) - length r ≡ length (enc f v) = omega (arith, length-append (enc f v) r) in
    rw (skip-to f v r, n) (take-append_seam (enc f v) r)

module _ (q : List ℕ) (at : ℕ) (o : Option ObjectReference) (v : ObjectReference) (here : drop at q ≡ enc (option reference) (each_option reference_parts o) ++ enc reference (reference_parts v)) where
  abbrev option_bytes : List ℕ
  option_bytes = enc (option reference) (each_option reference_parts o)

  pub lengths : length q - at ≡ length option_bytes + length (held (Some v))
  lengths = sym (length-drop at q) ∙ ap length here ∙ length-append option_bytes (held (Some v))

  pub option-here : option_at q at ≡ option_bytes
  option-here = ap (record_of (codes (option reference))) here ∙ record-to (option reference) (each_option reference_parts o) (held (Some v))

  pub last-here : (m : ℕ) → m ≡ at + length option_bytes → run q m (length q) ≡ held (Some v)
  last-here m e = run-rest q (held (Some v)) m (length q) (after_seam q option_bytes (held (Some v)) at m here e) (omega arith)

  pub last-length : (m : ℕ) → m ≡ at + length option_bytes → length q - m ≡ length (held (Some v))
  last-length m e = omega (arith, lengths)
