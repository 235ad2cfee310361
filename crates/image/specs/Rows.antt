-- The rows of a table of an image, by its number: what a search in them finds, and those that are left.
use Rattle.std.specs.Prelude.{ℕ, List, ◌≡◌, drop, get_or}
use Rattle.state.specs.Maps.{Text}
use Rattle.tables.specs.Seek.{Seen, seek, rows_at, rows_left}
use Rattle.tables.specs.declared.TableRows.{TableRows}
use Rattle.image.specs.Opened.{nowhere}
use Rattle.image.specs.Placed.{row_codes}
use Rattle.image.specs.declared.Table.{Table}
use Rattle.image.specs.declared.Contents.{Contents}

abbrev pub table_of : Contents → ℕ → Table
table_of c t = get_or c.tables t nowhere

-- all rows of the table
pub record RowsOf (x : List ℕ) (c : Contents) (t : ℕ) (r : TableRows) : Type 0 where
  pub codes : r.codes.now ≡ row_codes t
  pub bytes : r.bytes.now ≡ x
  pub at : r.at ≡ (table_of c t).at
  pub left : r.left ≡ (table_of c t).count

-- what the search for a key finds
abbrev pub seen_in : List ℕ → Contents → ℕ → Text → Seen
seen_in x c t k = seek (row_codes t) (table_of c t).count k (drop (table_of c t).at x)

module _ {x : List ℕ} {c : Contents} {t : ℕ} {r : TableRows} (h : RowsOf x c t r) where
  pub rows_as : rows_left r ≡ rows_at (row_codes t) (table_of c t).count (drop (table_of c t).at x)
  rows_as = rw (h.codes, h.bytes, h.at, h.left)
