-- A stored set of keys: one count byte, then so many texts. Defined for any bytes, and the set that was read where they decode.
use Rattle.std.specs.Prelude.{ℕ, zero, suc, List, [], ◌∷◌}
use Rattle.state.specs.Maps.{Text}
use Rattle.fields.specs.Codes.{hop}
use Rattle.fields.specs.Rows.{text_here}
use Rattle.sets.specs.declared.SetKeys.{SetKeys}

-- n texts, one after the other; empty ones where the bytes end
unfoldable pub texts_of : ℕ → List ℕ → List Text
texts_of zero s = []
texts_of (suc n) s = text_here s ∷ texts_of n (hop s)

unfoldable pub set_of : List ℕ → List Text
set_of [] = []
set_of (n ∷ s) = texts_of n s

-- those that an iterator over keys has yet to give
abbrev pub keys_left : SetKeys → List Text
keys_left k = texts_of k.left k.rest.now
