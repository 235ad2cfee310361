-- The row at the place of an id: none, or one, and how long it is.
use Rattle.std.specs.Prelude.{ℕ, ◌-◌, ◌≤◌, ◌<◌, true, false, List, ◌≡◌, eqb, length, drop}
use Rattle.std.proofs.Common.{eqb-true}
use Rattle.std.proofs.lemmas.Bool.{eqb-false}
use Rattle.parts.specs.Gather.{run}
use Rattle.state.specs.Maps.{Text}
use Rattle.fields.specs.Codes.{codes}
use Rattle.tables.specs.Seek.{Seen, seek}
use Rattle.tables.specs.declared.Place.{Place}
use Rattle.image.specs.Shapes.{lease}
use Rattle.image.specs.Layout.{leases}
use Rattle.image.specs.TableLaws.{table_in}
use Rattle.image.specs.declared.Contents.{Contents}
use Rattle.next.specs.Edit.{row-none, row_some, row-size}
use Rattle.edits.specs.PlaceLaws.{Located}

module _ {x : List ℕ} {c : Contents} {k : Text} {place : Place} (found : Located leases x c k place) {row : List ℕ} (row_is : row ≡ run x place.start (place.end - place.start)) where
  abbrev sought : Seen
  sought = seek (codes lease) (table_in leases c).count k (drop (table_in leases c).at x)

  pub no_row : eqb (length row) 0 ≡ true → place.end ≤ place.start
  no_row e = row-none x sought place found.is row row_is (eqb-true _ _ e)

  pub a-row : eqb (length row) 0 ≡ false → place.start < place.end
  a-row e = row_some x sought place found.is row row_is (eqb-false _ _ e)

  pub row-long : length row ≡ place.end - place.start
  row-long = row-size x sought place found.is row row_is
