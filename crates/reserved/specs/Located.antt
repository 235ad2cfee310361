-- Whether a row has an id, by its bytes; on the bytes of a state's table it is whether the map has the key.
use Rattle.std.specs.Prelude.{ℕ, Bool, false, ◌||◌, ◌≡◌, length, drop}
use Rattle.std.proofs.Math.Bool.{not}
use mathlib.Core.List.{List, [], ◌∷◌, ◌++◌}
use Rattle.std.proofs.Math.Path.{refl, ap}
use Rattle.std.proofs.Common.{sym, ◌∙◌}
use Rattle.state.specs.Maps.{Text, Map, Entry, ◌⟼◌, key_of, is_empty, is_some, has_key, any}
use Rattle.state.proofs.Places.{at, first_value, lookup-is}
use Rattle.state.specs.Sorted.{Ascending}
use Rattle.state.specs.Records.{State}
use Rattle.fields.specs.Format.{all, Every, enc, enc_text}
use Rattle.fields.specs.declared.Code.{Code}
use Rattle.fields.specs.Codes.{codes}
use Rattle.tables.specs.Seek.{seek, row_of, found, unless_empty}
use Rattle.tables.specs.SeekLaws.{Hopped, found-row}
use Rattle.tables.specs.declared.TableRows.{TableRows}
use Rattle.image.specs.Shapes.{permit}
use Rattle.image.specs.Layout.{TableName, reservations, map_of, row_format, Formed}
use Rattle.image.specs.ImageParts.{row_bytes}
use Rattle.image.specs.Opened.{Holds}
use Rattle.image.proofs.StoredLaws.{find_row, stored_in}
use Rattle.image.specs.TableLaws.{table_in, behind}
use Rattle.image.proofs.TablePlaceLaws.{count-is, table_here}
use Rattle.image.specs.declared.Contents.{Contents}
use Rattle.image.specs.declared.Table.{Table}

unfoldable pub located_in : List Code → ℕ → List ℕ → Text → Bool
located_in cs n s id = is_some (found (seek cs n id s))

-- the same of some rows
abbrev pub located_of : TableRows → Text → Bool
located_of rows id = located_in rows.codes.now rows.left (drop rows.at rows.bytes.now) id

some-row : (l : List ℕ) → is_some (unless_empty l) ≡ not (is_empty l)
some-row [] = refl
some-row (x ∷ l) = refl

-- a row is never empty
abbrev NotEmpty : {A : Type 0} → (Entry A → List ℕ) → Type 0
NotEmpty {A} write = (e : Entry A) (r : List ℕ) → is_empty (write e ++ r) ≡ false

module _ {A : Type 0} (cs : List Code) (write : Entry A → List ℕ) (full : NotEmpty write) (x : List ℕ) (p : ℕ) (m : Map A) (r : List ℕ)
    (here : drop p x ≡ all write m ++ r) (ascending : Ascending m) (hops : Every (Hopped cs write key_of) m)
  where
    row-there : (l : Map A) → (k : Text) → not (is_empty (all write l)) ≡ is_some (first_value k l)
    unfolding all
    row-there [] k = refl
    row-there ((j ⟼ v) ∷ l) k = ap not (full (j ⟼ v) (all write l))

    located-is : (k : Text) → located_in cs (length m) (drop p x) k ≡ has_key k m
    unfolding located_in
    located-is k =
        ap is_some (found-row cs (length m) k (drop p x)) ∙ some-row (row_of (seek cs (length m) k (drop p x)))
        ∙ ap (λ (l : List ℕ). not (is_empty l)) (find_row cs write x p m r here hops k)
        ∙ row-there (at k m) k ∙ ap is_some (sym (lookup-is k m ascending))

row-full : (t : TableName) → NotEmpty (row_bytes t)
unfolding enc enc_text
row-full t e r = refl

-- OF A STATE'S TABLE
module _ {x : List ℕ} {c : Contents} {s : State} (h : Holds x c s) (f : Formed s) (t : TableName) where
  abbrev located : Text → Bool
  located k = located_in (codes (row_format t)) (table_in t c).count (drop (table_in t c).at x) k

  pub has_row : (k : Text) → located k ≡ has_key k (map_of t s)
  has_row k =
      ap (λ (n : ℕ). located_in (codes (row_format t)) n (drop (table_in t c).at x) k) (count-is h t)
      ∙ located-is (codes (row_format t)) (row_bytes t) (row-full t) x (table_in t c).at (map_of t s) (behind t s) (table_here h t) (stored_in t s f).ascending (stored_in t s f).hopped k

  any-row : (ks : List Text) → any located ks ≡ any (λ k. has_key k (map_of t s)) ks
  unfolding any
  any-row [] = refl
  any-row (k ∷ ks) = λ i. has_row k i || any-row ks i

-- RESERVED KEYS: those with a row in the table of reservations; of a state, those that the map has
abbrev pub reserved_in : List ℕ → Table → List Text → Bool
reserved_in x t ks = any (located_in (codes permit) t.count (drop t.at x)) ks

pub reserved-here : {x : List ℕ} {c : Contents} {s : State} → Holds x c s → Formed s → (ks : List Text)
    → reserved_in x (table_in reservations c) ks ≡ any (λ k. has_key k s.deletion_reservations) ks
reserved-here h f ks = any-row h f reservations ks
