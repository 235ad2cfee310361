-- The laws of a body: what is written is read back, and what is read is as it would be written.
use Rattle.std.specs.Prelude.{ℕ, Bool, true, ◌&&◌, List, [], ◌∷◌, ◌++◌, ◌≡◌, refl, length, leb, eqb, None}
use Rattle.std.proofs.Common.{arith, sym, le-leb, eq-eqb, leb-true, eqb-true}
use Rattle.parts.specs.Digits.{Bytes}
use Rattle.parts.specs.DigitLaws.{bytes-append}
use Rattle.fields.specs.Format.{Malformed, OverLimit, ok, enc, dec, Within}
use Rattle.fields.proofs.FormatLaws.{check-ok, bytes-all, bytes-enc, small, and_true, rows-enc, rows_ok, dec-enc, enc-dec}
use Rattle.image.specs.Body.{Body, one, table, row, id, Held, count, write, read, Fits, Helds, FitsAll, writes}

pub body_enc : (b : Body) (v : Held b) (rest : List ℕ) → Fits b v → read b (count b v) (write b v ++ rest) ≡ ok v rest
unfolding read count write
body_enc (one k f) v rest h = rw (eq-eqb k k refl) (dec-enc f v rest h)
body_enc (table m n f) v rest h =
    rw (le-leb (length v) m h.count, rows-enc (dec (row n f)) (enc (row n f)) (Within (row n f)) id (dec-enc (row n f)) v None rest h.each h.ascending)

pub record BodyOk (b : Body) (k : ℕ) (s : List ℕ) (v : Held b) (r : List ℕ) : Type 0 where
  pub is : s ≡ write b v ++ r
  pub its_count : count b v ≡ k
  pub fits : Fits b v

pub body_ok : (b : Body) (k : ℕ) (s : List ℕ) (v : Held b) (r : List ℕ) → Bytes s → read b k s ≡ ok v r → BodyOk b k s v r
unfolding read count write
body_ok (one a f) k s v r b h =
    let (c, h₁) = check-ok (eqb k a) Malformed (dec f s) v r h in
    let (i, w) = enc-dec f s v r b h₁ in
    record { is = i; its_count = sym (eqb-true k a c); fits = w }
body_ok (table m n f) k s v r b h =
    let (c, h₁) = check-ok (leb k m) OverLimit _ v r h in
    let w = rows_ok (dec (row n f)) (enc (row n f)) (Within (row n f)) id (enc-dec (row n f)) k None s v r b h₁ in
    let l : length v ≡ k = w.count in
    record { is = w.is; its_count = l; fits = record { count = omega (arith, leb-true k m c); each = w.each; ascending = w.ascending } }

-- WHAT IS WRITTEN IS BYTES

abbrev pub small_body : Body → Bool
small_body (one k f) = small f
small_body (table m n f) = small (row n f)

unfoldable pub small_bodies : List Body → Bool
small_bodies [] = true
small_bodies (b ∷ bs) = small_body b && small_bodies bs

bytes-write : (b : Body) (v : Held b) → small_body b ≡ true → Fits b v → Bytes (write b v)
unfolding write
bytes-write (one a f) v k h = bytes-enc f k v h
bytes-write (table m n f) v k h = bytes-all (enc (row n f)) (Within (row n f)) (bytes-enc (row n f) k) v h.each

pub bytes-writes : (bs : List Body) (v : Helds bs) → small_bodies bs ≡ true → FitsAll bs v → Bytes (writes bs v)
unfolding writes small_bodies
bytes-writes [] v k h = λ i. omega arith
bytes-writes (b ∷ bs) v k h =
    let (k₀, k₁) = and_true (small_body b) (small_bodies bs) k in
    bytes-append (write b v.0) (writes bs v.1) (bytes-write b v.0 k₀ h.0) (bytes-writes bs v.1 k₁ h.1)
