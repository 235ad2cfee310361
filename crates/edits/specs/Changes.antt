-- A table after a change by id.
use Rattle.std.specs.Prelude.{ℕ, ◌+◌, ◌-◌, cond, ltb}
use Rattle.tables.specs.declared.Place.{Place}
use Rattle.image.specs.declared.Table.{Table}

abbrev pub after_insert : Table → Place → ℕ → Table
after_insert t p bytes = record { at = t.at; size = t.size - (p.end - p.start) + bytes; count = cond (ltb p.start p.end) t.count (t.count + 1) }

abbrev pub after_remove : Table → Place → Table
after_remove t p = record { at = t.at; size = t.size - (p.end - p.start); count = cond (ltb p.start p.end) (t.count - 1) t.count }
