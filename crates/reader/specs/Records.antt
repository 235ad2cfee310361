-- The record of some codes at the head of any bytes, as far as the skip walk goes; and the records of a table, row by row.
use Rattle.std.specs.Prelude.{ℕ, ◌-◌, List, [], ◌∷◌, ◌++◌, map, ◌≡◌, refl, length, take}
use Rattle.std.proofs.Common.{arith, append_assoc, append-nil, sym, ap, ◌∙◌, length-append}
use Rattle.std.proofs.Math.Seq.{take-append_seam}
use Rattle.parts.specs.Digits.{Bytes}
use Rattle.fields.specs.Format.{ok, all, Field, El, enc, dec, Every, Within}
use Rattle.fields.proofs.FormatLaws.{dec-enc, enc-dec}
use Rattle.fields.specs.declared.Code.{Code}
use Rattle.fields.specs.Codes.{codes, skip}
use Rattle.fields.proofs.CodeLaws.{skip-dec}
use Rattle.tables.specs.Seek.{rows_at}

unfoldable pub record_of : List Code → List ℕ → List ℕ
record_of cs s = take (length s - length (skip 0 cs s)) s

-- ON BYTES THAT DECODE the skip walk leaves what reading leaves, and the record is the bytes of the value
pub skip_read : (f : Field) (s : List ℕ) (v : El f) (r : List ℕ) → dec f s ≡ ok v r → skip 0 (codes f) s ≡ r
unfolding skip
skip_read f s v r h = ap (λ (cs : List Code). skip 0 cs s) (sym (append-nil (codes f))) ∙ skip-dec f [] s v r h

pub skip-enc : (f : Field) (v : El f) (rest : List ℕ) → Within f v → skip 0 (codes f) (enc f v ++ rest) ≡ rest
skip-enc f v rest w = skip_read f (enc f v ++ rest) v rest (dec-enc f v rest w)

pub record_enc : (f : Field) (v : El f) (rest : List ℕ) → Within f v → record_of (codes f) (enc f v ++ rest) ≡ enc f v
unfolding record_of
record_enc f v rest w =
    let q : length (enc f v ++ rest) - length rest ≡ length (enc f v) = omega (arith, length-append (enc f v) rest) in
    rw (skip-enc f v rest w, q) (take-append_seam (enc f v) rest)

pub record_read : (f : Field) (s : List ℕ) (v : El f) (r : List ℕ) → Bytes s → dec f s ≡ ok v r → record_of (codes f) s ≡ enc f v
record_read f s v r b h = let (i, w) = enc-dec f s v r b h in ap (record_of (codes f)) i ∙ record_enc f v r w

-- THE RECORDS OF A TABLE, row by row, are the bytes of its values
pub records_enc : (f : Field) (vs : List (El f)) (rest : List ℕ) → Every (Within f) vs → map (record_of (codes f)) (rows_at (codes f) (length vs) (all (enc f) vs ++ rest)) ≡ map (enc f) vs
unfolding rows_at all
records_enc f [] rest w = refl
records_enc f (v ∷ vs) rest w =
    rw (append_assoc (enc f v) (all (enc f) vs) rest, record_enc f v (all (enc f) vs ++ rest) w.0, skip-enc f v (all (enc f) vs ++ rest) w.0, records_enc f vs rest w.1)
