-- What a row says of a key, by the row's bytes.
use Rattle.std.specs.Prelude.{ℕ, List, Bool, ◌||◌}
use Rattle.state.specs.Maps.{Text, same, starts_with, contains}
use Rattle.fields.specs.declared.Code.{Code}
use Rattle.fields.specs.Codes.{codes, skip}
use Rattle.fields.specs.Rows.{text_here}
use Rattle.sets.specs.Sets.{set_of}
use Rattle.image.specs.Shapes.{before_manifest_key, before_namespace}

-- the set after some fields has the key
unfoldable pub names_at : List Code → Text → List ℕ → Bool
names_at cs k r = contains k (set_of (skip 0 cs r))

-- the key of a job's input manifest is the key, or its output namespace begins it
unfoldable pub uses_at : Text → List ℕ → Bool
uses_at k r = same (text_here (skip 0 (codes before_manifest_key) r)) k || starts_with k (text_here (skip 0 (codes before_namespace) r))
