-- Every limit of a request, a token and an outcome, by whole bytes. A row names a text or a set, and its limit: the bytes in which that has
-- just its limit are read, and those with a byte or member more are refused with 42. The flags and the action byte: the last that is
-- read, and the next.
use Rattle.std.specs.Prelude.{◌≡◌, refl, true}
use Rattle.state.specs.Maps.{all}
use Rattle.image.specs.Computes.{image_computes}
use Rattle.requests.specs.Cases.{read_case, write_parts}
use Rattle.requests.specs.Flags.{bits_number}
use Rattle.requests.specs.Request.{read_fields, read_action, read_request, decode_request, encode_request, read_token, decode_token, encode_token}
use Rattle.requests.specs.Outcome.{enc_list, read_texts, read_list, encode_outcome, read_outcome, decode_outcome}
use Rattle.requests.specs.Limits.{holds, table}

pub limits : all holds table ≡ true
unfolding image_computes all read_case write_parts bits_number read_fields read_action read_request decode_request encode_request
    read_token decode_token encode_token enc_list read_texts read_list encode_outcome read_outcome decode_outcome
limits = refl
