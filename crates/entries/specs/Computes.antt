-- All that a call on bytes computes with, under one name: what stands under `unfolding bytes_compute` is proved by `refl` where it is
-- closed.
use Rattle.machine.specs.Computes.{machine_computes}
use Rattle.text.specs.Utf8.{byte_in, char_len, chars_after, utf8}
use Rattle.parts.specs.Digits.{digits, value}
use Rattle.parts.specs.Answer.{settle}
use Rattle.parts.specs.Over.{over}
use Rattle.fields.specs.Format.{byte, many, read_number, read_kind, enc_option, read_option, enc_text, read_text, after, rows, all, read_set, enc, dec}
use Rattle.image.specs.Body.{count, write, read, writes, roomy}
use Rattle.image.specs.Contents.{contents, reads, encode, decode, whole}
use Rattle.image.specs.Layout.{each, encode_in, decode_in, read_in, decode_image}
use Rattle.requests.specs.Cases.{read_case, write_parts}
use Rattle.requests.specs.Flags.{bits_number}
use Rattle.requests.specs.Request.{read_fields, read_action, read_request, decode_request, encode_request, read_token, decode_token, encode_token}
use Rattle.requests.specs.Outcome.{enc_list, read_texts, read_list, encode_outcome, read_outcome, decode_outcome}
use Rattle.entries.specs.Bytes.{apply_bytes, validate_bytes, test_bytes, default_bytes}

unfoldable pub bytes_compute : Unit {0}
unfolding machine_computes byte_in char_len chars_after utf8 digits value settle over byte many read_number read_kind enc_option
    read_option enc_text read_text after rows all read_set enc dec count write read writes roomy contents reads encode decode
    whole each encode_in decode_in read_in decode_image read_case write_parts bits_number read_fields read_action read_request decode_request
    encode_request read_token decode_token encode_token enc_list read_texts read_list encode_outcome read_outcome decode_outcome apply_bytes
    validate_bytes test_bytes default_bytes
bytes_compute = tt
