-- The manifest that stands in a request, and the one that is stored under a root.
use Rattle.std.specs.Prelude.{ℕ, ◌+◌, ◌-◌, ◌≤◌, Bool, List, ◌++◌, ◌≡◌, length, take, drop, Some}
use Rattle.std.proofs.Common.{arith, sym, ap, ◌∙◌, length-append, length-drop}
use Rattle.text.specs.Same.{same_of}
use Rattle.parts.specs.Gather.{run}
use Rattle.state.specs.Maps.{Text, lookup, same_option}
use Rattle.state.specs.Records.{State, ObjectReference, reference_eq}
use Rattle.fields.specs.Format.{enc, Within}
use Rattle.fields.specs.Codes.{codes, skip}
use Rattle.fields.specs.Walks.{place_of}
use Rattle.tables.specs.declared.Place.{Place}
use Rattle.reader.specs.Records.{record_of}
use Rattle.reader.proofs.Steps.{record_part}
use Rattle.image.specs.Shapes.{reference, reference_parts}
use Rattle.image.specs.Layout.{roots, Formed}
use Rattle.image.specs.Opened.{Holds}
use Rattle.image.proofs.OpenedLaws.{run-to}
use Rattle.image.specs.declared.Contents.{Contents}
use Rattle.next.specs.Peeks.{skip-to}
use Rattle.edits.specs.PlaceLaws.{Located}
use Rattle.publication.specs.References.{record-to, root-same}

-- the end of a manifest
abbrev pub manifest_end : List ℕ → ℕ → ℕ
manifest_end q at = place_of q (skip 0 (codes reference) (drop at q))

-- the bytes of the manifest at a place
abbrev pub manifest_at : List ℕ → ℕ → List ℕ
manifest_at q at = record_of (codes reference) (drop at q)

-- a row's bytes after its id are those of the manifest
unfoldable pub input_stands : (row : List ℕ) → Text → List ℕ → ℕ → Bool
input_stands row root q at = same_of (drop (length root + 1) row) (manifest_at q at)

pub input-is : (row : List ℕ) (root : Text) (q : List ℕ) (at end : ℕ) → end ≡ manifest_end q at → (n : ℕ) → n ≡ end - at
    → (shown : List ℕ) → shown ≡ take n (drop at q) → same_of (drop (length root + 1) row) shown ≡ input_stands row root q at
unfolding input_stands
input-is row root q at end k n h shown w =
    ap (same_of (drop (length root + 1) row)) (w ∙ ap (λ (m : ℕ). take m (drop at q)) h ∙ record_part (codes reference) q at end k)

module _ (q : List ℕ) (at : ℕ) (m : ObjectReference) (r : List ℕ) (here : drop at q ≡ enc reference (reference_parts m) ++ r) (low : at ≤ length q) where
  pub manifest-end : manifest_end q at ≡ at + length (enc reference (reference_parts m))
  manifest-end =
      let k : skip 0 (codes reference) (drop at q) ≡ r =
      ap (skip 0 (codes reference)) here ∙ skip-to reference (reference_parts m) r in
      let l : length q - at ≡ length (enc reference (reference_parts m)) + length r = sym (length-drop at q) ∙ ap length here ∙ length-append (enc reference (reference_parts m)) r in
      ap (λ (l : List ℕ). place_of q l) k ∙ omega arith

  pub manifest-run : take (manifest_end q at - at) (drop at q) ≡ enc reference (reference_parts m)
  manifest-run = run-to q (enc reference (reference_parts m)) r at (manifest_end q at - at) here (omega (arith, manifest-end))

pub manifest-is : (q : List ℕ) (at : ℕ) (m : ObjectReference) (r : List ℕ) → drop at q ≡ enc reference (reference_parts m) ++ r → manifest_at q at ≡ enc reference (reference_parts m)
manifest-is q at m r here = ap (record_of (codes reference)) here ∙ record-to reference (reference_parts m) r

-- THE INPUT STANDS where it is what the map has under the root
pub input-stands : {x : List ℕ} {c : Contents} {s : State} → Holds x c s → Formed s → {root : Text} {place : Place} → Located roots x c root place
    → (row : List ℕ) → row ≡ run x place.start (place.end - place.start) → (key : Text) → key ≡ root
    → (q : List ℕ) (at : ℕ) (m : ObjectReference) (r : List ℕ) → drop at q ≡ enc reference (reference_parts m) ++ r → Within reference (reference_parts m)
    → input_stands row key q at ≡ same_option reference_eq (lookup root s.roots) (Some m)
unfolding input_stands
input-stands h f found row is key key-is q at m r here w =
    (λ i. same_of (drop (length (key-is i) + 1) (is i)) (manifest-is q at m r here i)) ∙ root-same h f (Some m) w found
