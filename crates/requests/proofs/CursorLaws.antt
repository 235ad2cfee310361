-- The fields of a record, read one after the other.
use Rattle.std.specs.Prelude.{ℕ, suc, ◌≡◌, ◌+◌, ◌*◌, ◌≤◌, ◌<◌, min, Bool, true, false, cond, List, [], ◌∷◌, leb, length, take, drop, get_or, refl}
use Rattle.std.proofs.Common.{add-one, ap, sym, ◌∙◌, arith, length-drop, get_or-drop}
use Rattle.std.proofs.Math.ListN.{drop_of_length-le, get_or-eq_default}
use Rattle.std.proofs.Math.Seq.{drop-cons}
use borrow.Author.Tests.{ne_eqb, leb-true, leb-false}
use Rattle.parts.specs.Digits.{value}
use Rattle.fields.specs.Format.{Field, number, kind, option, ◌▹◌}
use Rattle.fields.specs.Codes.{codes, skip, past, passed, hop}
use Rattle.fields.specs.declared.Code.{Code}
use Rattle.tables.specs.Skips.{skip-rest}
use Rattle.image.specs.Shapes.{key, name}
use Rattle.requests.specs.Positions.{behind}
use Rattle.requests.specs.Cursors.{beyond}
use Rattle.requests.proofs.PositionLaws.{behind_both}
use Rattle.requests.proofs.PositionMeaning.{first_byte}
use Rattle.requests.specs.declared.cursor.Cursor.{Cursor}

pub beyond_both : (f g : Field) (c : Cursor) → beyond (f ▹ g) c ≡ beyond g (beyond f c)
beyond_both f g c = ap (λ (p : ℕ). record c { at = p }) (behind_both f c.bytes.now c.at g)

-- a text is passed over by its length, whatever its limit
pub beyond_key : (c : Cursor) → beyond key c ≡ beyond name c
unfolding behind skip past
beyond_key c = refl

-- a rest of no bytes
skip-nothing : (cs : List Code) → length (skip 0 cs []) ≡ 0
skip-nothing cs =
    let r = skip-rest 0 cs [] in
    omega (arith, ap length r.is, length-drop {A = ℕ} r.bytes [])

-- past as many codes as there are
skip-all : (cs : List Code) (s : List ℕ) → skip (length cs) cs s ≡ s
unfolding skip
skip-all [] s = refl
skip-all (c ∷ cs) s = skip-all cs s

skip-absent : (f : Field) (s : List ℕ) → skip 0 (codes (option f)) (0 ∷ s) ≡ s
unfolding skip past passed
skip-absent f s = skip-all (codes f) s

skip-present : (f : Field) (x : ℕ) (s : List ℕ) → (x ≡ 0 → ⊥) → skip 0 (codes (option f)) (x ∷ s) ≡ skip 0 (codes f) s
unfolding skip past passed
skip-present f x s h = ap (λ (b : Bool). skip (cond b (length (codes f)) 0) (codes f) s) (ne_eqb x 0 h)

-- SO MANY BYTES FURTHER, and no further than the end
module _ (s : List ℕ) (p : ℕ) where
  pub behind_number : (n : ℕ) → behind (number n) s p ≡ min (p + n) (length s)
  unfolding behind skip past
  behind_number n = omega (arith, length-drop n (drop p s), length-drop p s)

  pub behind_kind : behind kind s p ≡ min (p + 1) (length s)
  unfolding behind skip past
  behind_kind = omega (arith, length-drop 1 (drop p s), length-drop p s)

  pub behind_name : behind name s p ≡ min (min (p + 1) (length s) + get_or s p 0) (length s)
  unfolding behind skip past hop
  behind_name = go (leb (length s) p) refl
    where
      go : (b : Bool) → leb (length s) p ≡ b → behind name s p ≡ min (min (p + 1) (length s) + get_or s p 0) (length s)
      go true e = let h : length s ≤ p = leb-true _ _ e in rw (drop_of_length-le s h) (omega arith)
      go false e =
          let h : p < length s = leb-false _ _ e in
          rw (drop-cons s p 0 h) (omega (arith, length-drop (get_or s p 0) (drop (suc p) s), length-drop (suc p) s))

  -- AN OPTION: absent, it is its byte; else its value stands behind the byte
  pub behind_absent : (f : Field) → get_or s p 0 ≡ 0 → behind (option f) s p ≡ min (p + 1) (length s)
  unfolding behind skip past passed
  behind_absent f z = go (leb (length s) p) refl
    where
      go : (b : Bool) → leb (length s) p ≡ b → behind (option f) s p ≡ min (p + 1) (length s)
      go true e = let h : length s ≤ p = leb-true _ _ e in rw (drop_of_length-le s h) (omega (arith, skip-nothing (codes f)))
      go false e =
          let h : p < length s = leb-false _ _ e in
          rw (drop-cons s p 0 h, z, skip-absent) (omega (arith, length-drop (suc p) s))

  module _ (z : get_or s p 0 ≡ 0 → ⊥) where
    -- a byte other than 0 stands before the end
    pub reach : p < length s
    reach = go (leb (length s) p) refl
      where
        go : (b : Bool) → leb (length s) p ≡ b → p < length s
        go true e = absurd (z (get_or-eq_default s 0 (leb-true (length s) p e)))
        go false e = leb-false (length s) p e

    pub behind_byte : behind kind s p ≡ p + 1
    behind_byte = omega (arith, behind_kind, reach)

    pub behind_present : (f : Field) → behind (option f) s p ≡ behind f s (p + 1)
    unfolding behind skip past passed
    behind_present f = rw (add-one, drop-cons s p 0 reach, skip-present f (get_or s p 0) (drop (suc p) s) z)

-- the number of two bytes; 0 stands past the end
next-byte : (s : List ℕ) (p : ℕ) → get_or s (p + 1) 0 ≡ get_or s (behind kind s p) 0
next-byte s p = go (leb (length s) (p + 1)) refl
  where
    go : (b : Bool) → leb (length s) (p + 1) ≡ b → get_or s (p + 1) 0 ≡ get_or s (behind kind s p) 0
    go true e =
        let h : length s ≤ p + 1 = leb-true _ _ e in
        get_or-eq_default s 0 h ∙ sym (get_or-eq_default s 0 (omega (arith, behind_kind s p)))
    go false e =
        let h : p + 1 < length s = leb-false _ _ e in
        let z : p + 1 ≡ behind kind s p = omega (arith, behind_kind s p) in
        ap (λ (q : ℕ). get_or s q 0) z

pub two_bytes : (s : List ℕ) (p : ℕ) → value (take 2 (drop p s)) ≡ get_or s p 0 + 256 * get_or s (behind kind s p) 0
unfolding value
two_bytes s p = go (drop p s) ∙ (λ i. first_byte s p i + 256 * (get_or-drop p s 1 0 ∙ next-byte s p) i)
  where
    go : (x : List ℕ) → value (take 2 x) ≡ get_or x 0 0 + 256 * get_or x 1 0
    go [] = refl
    go (a ∷ []) = refl
    go (a ∷ b ∷ x) = omega arith

pub ruleset cursor_laws = (beyond_both, beyond_key, behind_number, behind_kind, behind_name, behind_absent, behind_byte, behind_present, two_bytes)
