-- Where a key stands, or would stand, among rows that ascend by the text at their head.
use Rattle.std.specs.Prelude.{ℕ, zero, suc, ◌-◌, cond, eqb, List, [], ◌∷◌, length, take, drop, Option, None, Some}
use Rattle.text.specs.Order.{order_of}
use Rattle.state.specs.Maps.{Text, side, is_empty}
use Rattle.fields.specs.declared.Code.{Code}
use Rattle.fields.specs.Codes.{skip}
use Rattle.fields.specs.Walks.{place_of}
use Rattle.fields.specs.Rows.{text_here}
use Rattle.tables.specs.declared.Place.{Place}
use Rattle.tables.specs.declared.TableRows.{TableRows}

-- what is left from the row on, and after it; the same where there is no such row
pub record Seen : Type 0 where
  pub from : List ℕ
  pub to : List ℕ

abbrev pub nothing_at : List ℕ → Seen
nothing_at s = record { from = s; to = s }

unfoldable pub seek : List Code → ℕ → Text → List ℕ → Seen
seek cs zero id s = nothing_at s
seek cs (suc n) id s = side (order_of id (text_here s)) (nothing_at s) (record { from = s; to = skip 0 cs s }) (seek cs n id (skip 0 cs s))

abbrev pub placed : List ℕ → Seen → Place
placed s x = record { start = place_of s x.from; end = place_of s x.to }

-- the row's bytes
unfoldable pub row_of : Seen → List ℕ
row_of x = take (length x.from - length x.to) x.from

-- the same, if there is one
unfoldable pub found : Seen → Option Text
found x = cond (eqb (length x.from) (length x.to)) None (Some (row_of x))

-- bytes of a row, if there are any
abbrev pub unless_empty : List ℕ → Option Text
unless_empty l = cond (is_empty l) None (Some l)

-- the rows, each as what is left from it on
unfoldable pub rows_at : List Code → ℕ → List ℕ → List (List ℕ)
rows_at cs zero s = []
rows_at cs (suc n) s = s ∷ rows_at cs n (skip 0 cs s)

-- those that an iterator over rows has yet to give
abbrev pub rows_left : TableRows → List (List ℕ)
rows_left r = rows_at r.codes.now r.left (drop r.at r.bytes.now)

-- those but for the first, which start where it ends
abbrev pub after_row : TableRows → TableRows
after_row r = record { codes = r.codes; bytes = r.bytes; at = place_of r.bytes.now (skip 0 r.codes.now (drop r.at r.bytes.now)); left = r.left - 1 }
