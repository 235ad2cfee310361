-- An image in any form, as its parts: the version, an entry to each body, the scalars, and the bytes of the tables.
-- The tables of a state are one list, so that what is said of them is said once, over the place in the list.
use Rattle.std.specs.Prelude.{ℕ, ◌+◌}
use mathlib.Core.List.{List, [], ◌∷◌, ◌++◌}
use Rattle.std.proofs.Math.ListN.{length}
use Rattle.parts.specs.Digits.{digits}
use Rattle.state.specs.Maps.{Entry}
use Rattle.state.specs.Records.{State}
use Rattle.fields.specs.Format.{enc, all}
use Rattle.image.specs.Contents.{Widths, version_width}
use Rattle.image.specs.Layout.{TableName, intents, roots, pins, reservations, leases, jobs, Value, map_of, row_format, row_in, TableIn, Form, mark, scalars_field, scalars_of, first_in}

-- THE TABLES OF A STATE: of each the bytes and the number of its rows
pub record TableBytes : Type 0 where
  pub bytes : List ℕ
  pub rows : ℕ

-- one row as bytes
abbrev pub row_bytes : (t : TableName) → Entry (Value t) → List ℕ
row_bytes t e = enc (row_format t) (row_in t e)

abbrev pub table_of : TableName → State → TableBytes
table_of t s = record { bytes = all (row_bytes t) (map_of t s); rows = length (map_of t s) }

abbrev pub names_in : List TableIn → List TableName
names_in [] = []
names_in (t ∷ ts) = t.name ∷ names_in ts

abbrev pub tables_named : List TableName → State → List TableBytes
tables_named [] s = []
tables_named (t ∷ ts) s = table_of t s ∷ tables_named ts s

-- in their order; a form has them all, or the first few
abbrev pub names : List TableName
names = intents ∷ roots ∷ pins ∷ reservations ∷ leases ∷ jobs ∷ []

abbrev pub tables_of : State → List TableBytes
tables_of s = tables_named names s

abbrev pub joined : List TableBytes → List ℕ
joined [] = []
joined (t ∷ ts) = t.bytes ++ joined ts

-- what an entry says of a body beside its place: its size and its count
pub record Measure : Type 0 where
  pub size : ℕ
  pub count : ℕ

abbrev pub measure : TableBytes → Measure
measure t = record { size = length t.bytes; count = t.rows }

abbrev pub measures : List TableBytes → List Measure
measures [] = []
measures (t ∷ ts) = measure t ∷ measures ts

-- entry after entry, each body where the one before it ends
unfoldable pub entries_from : Widths → ℕ → List Measure → List ℕ
entries_from w at [] = []
entries_from w at (m ∷ ms) = digits w.place at ++ (digits w.size m.size ++ (digits w.amount m.count ++ entries_from w (at + m.size) ms))

-- THE SCALARS: the numbers before the window and after it, each in eight bytes
abbrev pub numbers_of : State → List ℕ
numbers_of s =
    s.revision.term
    ∷ s.revision.index
    ∷ s.root_intent_epoch
    ∷ s.observed_commit_frontier
    ∷ s.retention_policy_epoch
    ∷ s.policy_floor
    ∷ s.minimum_readable_version
    ∷ s.physically_collected_through
    ∷ s.lease_clock_tick
    ∷ s.lease_epoch
    ∷ s.range_map_epoch
    ∷ []

-- so many stand before the window
abbrev pub before_window : ℕ
before_window = 4

unfoldable pub words : List ℕ → List ℕ
words [] = []
words (n ∷ ns) = digits 8 n ++ words ns

abbrev pub scalars_bytes : Form → State → List ℕ
scalars_bytes f s = enc (scalars_field f.scalars) (scalars_of f.scalars s)

-- WHERE THE TABLES BEGIN
abbrev pub tables_at : Form → State → ℕ
tables_at f s = first_in f + length (scalars_bytes f s)

-- THE IMAGE IN A FORM
module _ (f : Form) (s : State) where
  abbrev pub here : List TableBytes
  here = tables_named (names_in f.tables) s

  abbrev pub header_measures : List Measure
  header_measures = record { size = length (scalars_bytes f s); count = mark f.scalars } ∷ measures here

  abbrev pub header_bytes : List ℕ
  header_bytes = digits version_width s.format_version ++ entries_from f.widths (first_in f) header_measures
