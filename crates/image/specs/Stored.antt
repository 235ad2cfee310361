-- What is stored in a state that has an image: its tables ascend, each record is within its format and under its own id, and the
-- hops over the bytes of its tables find it.
use Rattle.std.specs.Prelude.{ℕ, ◌≡◌, Some}
use Rattle.state.specs.Maps.{Text, Map, Entry, ◌⟼◌, key_of, lookup}
use Rattle.state.specs.Sorted.{Ascending}
use Rattle.state.specs.Records.{State}
use Rattle.fields.specs.Format.{Every, Field, El, enc, Within}
use Rattle.fields.specs.Codes.{codes}
use Rattle.tables.specs.SeekLaws.{Hopped}
use Rattle.image.specs.Body.{row}
use Rattle.image.specs.Layout.{TableName, map_of, id_limit, under_id, row_in}

-- ROWS OF A MAP: each entry as it is written, under its own key
module _ {A B : Type 0} (at : Entry A → Text × B) where
  abbrev pub OwnKey : Entry A → Type 0
  OwnKey e = (at e).0 ≡ key_of e

-- written by a format of rows: within it, and hopped over
module _ {A : Type 0} (n : ℕ) (f : Field) (at : Entry A → El (row n f)) where
  abbrev pub StoredAt : Text → A → Type 0
  StoredAt k v = OwnKey at (k ⟼ v) × Within (row n f) (at (k ⟼ v))

  -- what is known of a table
  pub record Stored (m : Map A) : Type 0 where
    pub ascending : Ascending m
    pub found : (k : Text) (v : A) → lookup k m ≡ Some v → OwnKey at (k ⟼ v) × Within (row n f) (at (k ⟼ v))
    pub hopped : Every (Hopped (codes (row n f)) (λ e. enc (row n f) (at e)) key_of) m

-- EVERY TABLE
abbrev pub StoredIn : TableName → State → Type 0
StoredIn t s = Stored (id_limit t) (under_id t) (row_in t) (map_of t s)
