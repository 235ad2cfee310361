-- The fields of a record, read one after the other: a cursor is the bytes and a place.
use Rattle.fields.specs.Format.{Field}
use Rattle.requests.specs.Positions.{behind}
use Rattle.requests.specs.declared.cursor.Cursor.{Cursor}

-- behind a field that starts at the cursor's place
abbrev pub beyond : Field → Cursor → Cursor
beyond f c = record c { at = behind f c.bytes.now c.at }
