-- A stored set of keys: one count byte, then so many texts. Defined for any bytes, and the set that was read where they decode.
use Rattle.std.specs.Prelude.{ℕ, zero, suc, List, ◌∷◌, ◌++◌, ◌≡◌, leb, Option, None, Some}
use Rattle.std.proofs.Common.{ap, ◌∙◌}
use Rattle.state.specs.Maps.{Text}
use Rattle.fields.specs.Format.{Malformed, OverLimit, ok, byte, read_text, after, rows, itself, read_set, set, enc, Within, dec}
use Rattle.fields.proofs.FormatLaws.{bind_ok, check-ok, byte-ok, dec-enc}
use Rattle.fields.proofs.CodeLaws.{text-rest}
use Rattle.fields.proofs.RowLaws.{text_here-read}
use Rattle.sets.specs.Sets.{set_of, texts_of}

texts_of-read : (n k : ℕ) (p : Option Text) (s : List ℕ) (ts : List Text) (r : List ℕ) → rows (read_text n) itself k p s ≡ ok ts r → texts_of k s ≡ ts
unfolding rows texts_of
texts_of-read n zero p s ts r h = cc
texts_of-read n (suc k) p s ts r h =
    let (v, r₁, e₁, h₁) = bind_ok (read_text n s) _ ts r h in
    let (a, h₂) = check-ok (after p v) Malformed _ ts r h₁ in
    let (ws, r₂, e₂, h₃) = bind_ok (rows (read_text n) itself k (Some v) r₁) _ ts r h₂ in
    let e : v ∷ ws ≡ ts = cc in
    rw (text_here-read n s v r₁ e₁, text-rest n s v r₁ e₁) (ap (λ (us : List Text). v ∷ us) (texts_of-read n k (Some v) r₁ ws r₂ e₂) ∙ e)

-- THE SET THAT WAS READ, on bytes that decode
pub set_of-read : (m n : ℕ) (s : List ℕ) (ts : List Text) (r : List ℕ) → read_set m n s ≡ ok ts r → set_of s ≡ ts
unfolding read_set set_of
set_of-read m n s ts r h =
    let (k, r₁, e₁, h₁) = bind_ok (byte s) _ ts r h in
    let (c, h₂) = check-ok (leb k m) OverLimit _ ts r h₁ in
    rw (byte-ok s k r₁ e₁) (texts_of-read n k None r₁ ts r h₂)

-- and the set that was written
pub set_of-enc : (m n : ℕ) (ts : List Text) (rest : List ℕ) → Within (set m n) ts → set_of (enc (set m n) ts ++ rest) ≡ ts
unfolding dec
set_of-enc m n ts rest w = set_of-read m n (enc (set m n) ts ++ rest) ts rest (dec-enc (set m n) ts rest w)
