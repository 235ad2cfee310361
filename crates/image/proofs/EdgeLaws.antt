-- E1: the default image has 157 bytes; its scalars stand at 67 with length 90, the other six bodies at 157 with length 0.
use Rattle.std.specs.Prelude.{◌≡◌, refl}
use Rattle.parts.specs.Digits.{digits}
use Rattle.fields.specs.Format.{enc, enc_option, all}
use Rattle.image.specs.Body.{write, writes, count}
use Rattle.image.specs.Contents.{contents, encode}
use Rattle.image.specs.Layout.{each, encode_in}
use Rattle.image.specs.Edges.{default_is, default_measured}

pub E1 : default_measured ≡ default_is
unfolding encode_in encode enc digits all enc_option contents write writes count each
E1 = refl
