-- A table of a call's image, and the place of a row of it by its id.
use Rattle.std.specs.Prelude.{ℕ}
use Rattle.state.specs.Maps.{Text}
use Rattle.tables.specs.Seek.{placed}
use Rattle.tables.specs.declared.Place.{Place}
use Rattle.image.specs.Rows as contents
use Rattle.image.specs.declared.Table.{Table}
use Rattle.next.specs.declared.Call.{Call}

abbrev pub table_of : Call → ℕ → Table
table_of call t = contents.table_of call.contents.now t

abbrev pub place_in : Call → ℕ → Text → Place
place_in call t k = placed call.image.now (contents.seen_in call.image.now call.contents.now t k)
