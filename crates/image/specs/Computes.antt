-- All that writing and reading an image computes with, under one name: what stands under `unfolding image_computes` is proved by `refl`
-- where it is closed.
use Rattle.text.specs.Order.{order_of}
use Rattle.text.specs.Same.{within}
use Rattle.text.specs.Utf8.{byte_in, char_len, chars_after, utf8}
use Rattle.parts.specs.Digits.{digits, value}
use Rattle.fields.specs.Format.{byte, many, read_number, read_kind, enc_option, read_option, enc_text, read_text, after, rows, all, read_set, enc, dec}
use Rattle.image.specs.Body.{count, write, read, writes}
use Rattle.image.specs.Contents.{contents, reads, encode, decode, whole}
use Rattle.image.specs.Layout.{each, encode_in, decode_in, read_in, decode_image}

unfoldable pub image_computes : Unit {0}
unfolding order_of within byte_in char_len chars_after utf8 digits value byte many read_number read_kind enc_option read_option enc_text
    read_text after rows all read_set enc dec count write read writes contents reads encode decode whole each encode_in
    decode_in read_in decode_image
image_computes = tt
