-- Bytes as a number, the first the highest: numbers of as many bytes stand as the bytes do.
-- Assumes nothing.
use Rattle.std.specs.Prelude.{ℕ, ◌+◌, ◌*◌, List, [], ◌∷◌}

-- the bytes of a list behind those of a number
unfoldable pub big_from : ℕ → List ℕ → ℕ
big_from m [] = m
big_from m (x ∷ s) = big_from (256 * m + x) s

unfoldable pub big_of : List ℕ → ℕ
big_of s = big_from 0 s
