-- The tables of contents that hold a state, each by its name: its size and count, its bytes and what stands around them; and
-- the tables of the state with another map in its place.
use Rattle.std.specs.Prelude.{ℕ, suc, List, take, drop, get_or}
use Rattle.state.specs.Records.{State}
use Rattle.image.specs.Layout.{TableName, intents, roots, pins, reservations, leases, jobs}
use Rattle.image.specs.ImageParts.{tables_of, joined}
use Rattle.image.specs.Opened.{nowhere}
use Rattle.image.specs.declared.Table.{Table}
use Rattle.image.specs.declared.Contents.{Contents}

-- the place of a table in the list of all
abbrev pub index : TableName → ℕ
index intents = 0
index roots = 1
index pins = 2
index reservations = 3
index leases = 4
index jobs = 5

abbrev pub table_in : TableName → Contents → Table
table_in t c = get_or c.tables (index t) nowhere

-- where the tables begin
abbrev pub tables_place : Contents → ℕ
tables_place c = (table_in intents c).at

-- the bytes before a table, and those behind it
abbrev pub before : TableName → State → List ℕ
before t s = joined (take (index t) (tables_of s))

abbrev pub behind : TableName → State → List ℕ
behind t s = joined (drop (suc (index t)) (tables_of s))
