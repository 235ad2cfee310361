-- Rows that stand before an id: the search for any later id goes over them too.
use Rattle.std.specs.Prelude.{true, false, ◌≡◌, drop, Option, None, Some}
use Rattle.text.specs.Order.{order_of}
use Rattle.std.specs.declared.cmp.Ordering.TheVariants.{Less}
use Rattle.state.specs.Maps.{Text}
use Rattle.tables.specs.Seek.{Seen, seek}
use Rattle.tables.specs.declared.TableRows.{TableRows}
use Rattle.reserved.specs.Located.{located_of}

-- what the search for an id finds in rows
abbrev pub sought : TableRows → Text → Seen
sought rows id = seek rows.codes.now rows.left id (drop rows.at rows.bytes.now)

-- of some rows these are left
pub record Passed (rows : TableRows) (id : Text) (rest : TableRows) : Type 0 where
  pub later : (k : Text) → order_of id k ≡ Less → sought rows k ≡ sought rest k

-- where a search in some rows ended: one has the id, or none has, and so many are left
abbrev pub Reached : TableRows → Text → Option TableRows → Type 0
Reached rows id None = located_of rows id ≡ true
Reached rows id (Some rest) = (located_of rows id ≡ false) × Passed rows id rest
