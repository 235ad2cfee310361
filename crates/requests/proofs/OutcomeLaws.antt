-- An outcome is read back, and its bytes are bytes.
use Rattle.std.specs.Prelude.{ℕ, ◌<◌, ◌≡◌, refl, true, List, [], ◌∷◌, ◌++◌, length}
use Rattle.std.proofs.Common.{arith, append_assoc, append-nil, le-leb}
use Rattle.parts.specs.Digits.{Bytes}
use Rattle.parts.specs.DigitLaws.{bytes-cons}
use Rattle.state.specs.Maps.{Text}
use Rattle.machine.specs.Actions.{Outcome, Applied, DeleteReserved, LeaseAcquired, LeaseRenewed, LeasesExpired, CollectionPrepared, CollectionPublished}
use Rattle.fields.specs.Format.{ok, byte, enc_text, all, Field, nothing, El, enc, TextOk, Every, Within}
use Rattle.fields.proofs.FormatLaws.{text-enc, bytes-text, bytes-all, bytes-enc, small}
use Rattle.image.specs.Contents.{answer, whole}
use Rattle.image.specs.Shapes.{short, permit, lease, job, receipt, permit_parts, lease_parts, job_parts, receipt_parts}
use Rattle.image.specs.Layout.{most_leases}
use Rattle.requests.proofs.CaseLaws.{dec-all}
use Rattle.requests.specs.Outcome.{enc_list, read_texts, read_list, ListOk, encode_outcome, WithinOutcome, read_outcome, decode_outcome}

texts_back : (limit : ℕ) (ts : List Text) (rest : List ℕ) → Every (TextOk limit) ts → read_texts limit (length ts) (all enc_text ts ++ rest) ≡ ok ts rest
unfolding read_texts all
texts_back limit [] rest h = refl
texts_back limit (t ∷ ts) rest h = rw (append_assoc, text-enc limit t (all enc_text ts ++ rest) h.0, texts_back limit ts rest h.1)

list_back : (most limit : ℕ) (ts : List Text) → ListOk most limit ts → read_list most limit (enc_list ts) ≡ ok ts []
unfolding read_list enc_list byte
list_back most limit ts h = rw (le-leb (length ts) most h.count) (rw append-nil at (texts_back limit ts [] h.each))

pub outcome-back : (o : Outcome) → WithinOutcome o → decode_outcome (encode_outcome o) ≡ answer o
unfolding decode_outcome encode_outcome byte read_outcome whole
outcome-back Applied h = refl
outcome-back (DeleteReserved p) h = rw (dec-all permit (permit_parts p) h)
outcome-back (LeaseAcquired t) h = rw (dec-all lease (lease_parts t) h)
outcome-back (LeaseRenewed t) h = rw (dec-all lease (lease_parts t) h)
outcome-back (LeasesExpired ids) h = rw (list_back most_leases short ids h)
outcome-back (CollectionPrepared t) h = rw (dec-all job (job_parts t) h)
outcome-back (CollectionPublished r) h = rw (dec-all receipt (receipt_parts r) h)

tagged : (n : ℕ) (f : Field) (v : El f) → n < 256 → small f ≡ true → Within f v → Bytes (n ∷ enc f v)
tagged n f v l k h = bytes-cons n (enc f v) l (bytes-enc f k v h)

list_bytes : (most limit : ℕ) (ts : List Text) → most < 256 → limit < 256 → ListOk most limit ts → Bytes (enc_list ts)
unfolding enc_list
list_bytes most limit ts l k h =
    bytes-cons (length ts) (all enc_text ts) (omega (arith, h.count)) (bytes-all enc_text (TextOk limit) (λ t w. bytes-text limit t k w) ts h.each)

pub outcome_is_bytes : (o : Outcome) → WithinOutcome o → Bytes (encode_outcome o)
unfolding encode_outcome small enc
outcome_is_bytes Applied h = tagged 0 nothing tt (omega arith) refl h
outcome_is_bytes (DeleteReserved p) h = tagged 1 permit (permit_parts p) (omega arith) refl h
outcome_is_bytes (LeaseAcquired t) h = tagged 2 lease (lease_parts t) (omega arith) refl h
outcome_is_bytes (LeaseRenewed t) h = tagged 3 lease (lease_parts t) (omega arith) refl h
outcome_is_bytes (LeasesExpired ids) h = bytes-cons 4 (enc_list ids) (omega arith) (list_bytes most_leases short ids (omega arith) (omega arith) h)
outcome_is_bytes (CollectionPrepared t) h = tagged 5 job (job_parts t) (omega arith) refl h
outcome_is_bytes (CollectionPublished r) h = tagged 6 receipt (receipt_parts r) (omega arith) refl h
