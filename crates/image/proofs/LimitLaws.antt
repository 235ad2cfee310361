-- Every limit of an image, by whole images. A row names a text, a set, a table or the image itself, and its limit: the image of a state in
-- which that has just its limit is read, and the one with a byte, member or record more is refused (so `test_bytes` gives 0 and 40).
use Rattle.std.specs.Prelude.{◌≡◌, refl, true}
use Rattle.state.specs.Maps.{all}
use Rattle.image.specs.Computes.{image_computes}
use Rattle.image.specs.Limits.{holds, table}

pub limits : all holds table ≡ true
unfolding image_computes all
limits = refl
