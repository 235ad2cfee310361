-- A change by id of a table of the image, by the table's name: what stands at the place of the id, and the tables after a row is
-- put in there, or taken out.
use Rattle.parts.specs.declared.Part.{Part}
use Rattle.parts.specs.declared.Part.TheVariants.{First}
use Rattle.std.specs.Prelude.{ℕ, ◌+◌, ◌-◌, ◌≤◌, ◌<◌, cond, List, [], ◌∷◌, ◌++◌, ◌≡◌, refl, ltb, length, drop, set, None, Some}
use Rattle.std.proofs.Common.{arith, sym, ap, ◌∙◌, length-append, length-drop, ltb-true, ltb-false}
use Rattle.parts.specs.Gather.{run, gather_of}
use Rattle.state.specs.Maps.{Text, Map, Entry, ◌⟼◌, is_some, has_key, lookup, insert, remove}
use Rattle.state.proofs.MapLaws.{by_test}
use Rattle.state.specs.Records.{State}
use Rattle.fields.specs.Format.{all, enc, enc_text, Within}
use Rattle.fields.specs.Codes.{codes}
use Rattle.tables.specs.Seek.{seek, placed}
use Rattle.tables.specs.declared.Place.{Place}
use Rattle.image.specs.Layout.{TableName, Value, map_of, with_map, row_format, row_in, Formed}
use Rattle.image.specs.ImageParts.{row_bytes, tables_of, joined, measures}
use Rattle.image.specs.Opened.{measures_in, Holds}
use Rattle.image.proofs.StoredLaws.{stored_in}
use Rattle.image.specs.TableLaws.{index, table_in, tables_place, before, behind}
use Rattle.image.proofs.TablePlaceLaws.{joined_with, tables-low, size_is, count-is, table_here, around_here, table-starts, tables_with}
use Rattle.image.specs.declared.Contents.{Contents}
use Rattle.next.specs.Edit.{Spot, none-there, some_there, row-there, insert-size, remove-size, insert-count, remove-count, removed_run, inserted_run}
use Rattle.edits.specs.Changes.{after_insert, after_remove}

-- the place of an id in a table
pub record Located (t : TableName) (x : List ℕ) (c : Contents) (k : Text) (place : Place) : Type 0 where
  pub is : place ≡ placed x (seek (codes (row_format t)) (table_in t c).count k (drop (table_in t c).at x))

-- as the code finds it: by the id's bytes as they were cut out of a request
pub located_as : (t : TableName) {x : List ℕ} {c : Contents} {k : Text} {place : Place} {id : Text} → id ≡ k
    → place ≡ placed x (seek (codes (row_format t)) (table_in t c).count id (drop (table_in t c).at x)) → Located t x c k place
located_as t {x} {c} i f = record { is = f ∙ (λ j. placed x (seek (codes (row_format t)) (table_in t c).count (i j) (drop (table_in t c).at x))) }

row-long : (t : TableName) (e : Entry (Value t)) → 1 ≤ length (row_bytes t e)
unfolding enc enc_text
row-long t e = omega arith

-- a table has no more rows than bytes, and no more bytes than the image
rows-low : (t : TableName) (m : Map (Value t)) → length m ≤ length (all (row_bytes t) m)
unfolding all
rows-low t [] = omega arith
rows-low t (e ∷ m) =
    let i = rows-low t m in
    let l = length-append (row_bytes t e) (all (row_bytes t) m) in
    let k = row-long t e in
    omega arith

pub table_bounds : {x : List ℕ} {c : Contents} {s : State} → Holds x c s → (t : TableName) → ((table_in t c).size ≤ length x) × ((table_in t c).count ≤ length x)
table_bounds {x} {c} {s} h t =
    let n : length x - (table_in t c).at ≡ length (all (row_bytes t) (map_of t s)) + length (behind t s) =
    sym (length-drop (table_in t c).at x) ∙ ap length (table_here h t) ∙ length-append (all (row_bytes t) (map_of t s)) (behind t s) in
    (omega (arith, size_is h t), omega (arith, count-is h t, rows-low t (map_of t s)))

module _ {x : List ℕ} {c : Contents} {s : State} (h : Holds x c s) (f : Formed s) (t : TableName) {k : Text} {place : Place} (found : Located t x c k place) where
  abbrev m : Map (Value t)
  m = map_of t s

  pub spot : Spot (row_bytes t) x (tables_place c) (before t s) m (behind t s) k place
  spot = record {
    codes = codes (row_format t);
    table = (table_in t c).at;
    here = around_here h t;
    starts = table-starts h t;
    low = tables-low h;
    hops = (stored_in t s f).hopped;
    long = row-long t;
    ascending = (stored_in t s f).ascending;
    found = found.is ∙ ap (λ (n : ℕ). placed x (seek (codes (row_format t)) n k (drop (table_in t c).at x))) (count-is h t);
  }

  -- WHAT STANDS THERE
  pub missing : place.end ≤ place.start → lookup k m ≡ None
  missing l = (none-there spot l).1

  pub record Held : Type 0 where
    pub value : Value t
    pub looked : lookup k m ≡ Some value
    pub row : run x place.start (place.end - place.start) ≡ row_bytes t (k ⟼ value)
    pub within : Within (row_format t) (row_in t (k ⟼ value))

  pub held : place.start < place.end → Held
  held l =
      let z = some_there spot l in
      record { value = z.0; looked = z.2; row = row-there spot z.0 z.1; within = ((stored_in t s f).found k z.0 z.2).1 }

  pub known : ltb place.start place.end ≡ has_key k m
  known =
      by_test (λ b. ltb place.start place.end ≡ b → b ≡ has_key k m) (ltb place.start place.end)
      (λ _ e. sym (ap is_some (held (ltb-true _ _ e)).looked)) (λ _ e. sym (ap is_some (missing (ltb-false _ _ e)))) refl

  -- WITHOUT IT
  pub removed_shown : measures_in (set c.tables (index t) (after_remove (table_in t c) place)) ≡ measures (tables_of (with_map t (remove k m) s))
  removed_shown =
      tables_with h t (remove k m) (after_remove (table_in t c) place)
      (ap (λ (n : ℕ). n - (place.end - place.start)) (size_is h t) ∙ remove-size spot)
      (ap (λ (n : ℕ). cond (ltb place.start place.end) (n - 1) n) (count-is h t) ∙ remove-count spot)

  pub removed_tables : (q : List ℕ) (n : ℕ) → n ≡ place.start - tables_place c
      → gather_of x q (First (tables_place c) n ∷ First place.end (length x) ∷ []) ≡ joined (tables_of (with_map t (remove k m) s))
  removed_tables q n e =
      ap (λ (n : ℕ). run x (tables_place c) n ++ (run x place.end (length x) ++ [])) e ∙ removed_run spot ∙ sym (joined_with t (remove k m) s)

  -- WITH A VALUE THERE
  module _ (v : Value t) where
    pub inserted_shown : (bytes : ℕ) → bytes ≡ length (row_bytes t (k ⟼ v))
        → measures_in (set c.tables (index t) (after_insert (table_in t c) place bytes)) ≡ measures (tables_of (with_map t (insert k v m) s))
    inserted_shown bytes e =
        tables_with h t (insert k v m) (after_insert (table_in t c) place bytes)
        ((λ i. size_is h t i - (place.end - place.start) + e i) ∙ insert-size spot v)
        (ap (λ (n : ℕ). cond (ltb place.start place.end) n (n + 1)) (count-is h t) ∙ insert-count spot v)

    -- parts that gather to its row
    pub inserted_tables : (q : List ℕ) (parts : List Part) → ((ps : List Part) → gather_of x q (parts ++ ps) ≡ row_bytes t (k ⟼ v) ++ gather_of x q ps) → (n : ℕ) → n ≡ place.start - tables_place c
        → gather_of x q (First (tables_place c) n ∷ (parts ++ First place.end (length x) ∷ [])) ≡ joined (tables_of (with_map t (insert k v m) s))
    inserted_tables q parts g n e =
        (λ i. run x (tables_place c) (e i) ++ g (First place.end (length x) ∷ []) i)
        ∙ inserted_run spot v (row_bytes t (k ⟼ v)) refl ∙ sym (joined_with t (insert k v m) s)
