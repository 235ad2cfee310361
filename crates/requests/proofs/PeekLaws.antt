-- A field read without checks, for bytes that were checked before: the value that was read, on bytes that decode.
use Rattle.std.specs.Prelude.{ℕ, zero, suc, ◌≡◌, refl, List, [], ◌∷◌, leb, length, take, drop, Option, Some}
use Rattle.std.proofs.Common.{sym, ap, ◌∙◌, append-nil}
use Rattle.parts.specs.Digits.{value}
use Rattle.state.specs.Records.{ObjectKind}
use Rattle.fields.specs.Format.{Malformed, Res, ok, many, read_number, read_kind, read_option, Field, nothing, number, kind, text, option, set, ◌▹◌, El, dec}
use Rattle.fields.proofs.FormatLaws.{never, bind_ok, check-ok}
use Rattle.fields.specs.declared.Code.{Code}
use Rattle.fields.specs.Codes.{codes, skip}
use Rattle.fields.proofs.CodeLaws.{skip-dec}
use Rattle.fields.proofs.RowLaws.{text_here-read}
use Rattle.sets.proofs.SetLaws.{set_of-read}
use Rattle.requests.specs.Peek.{peek, peek_kind, peek_option}

-- THE VALUE THAT WAS READ, on bytes that decode
many_is : (n : ℕ) (s t r : List ℕ) → many n s ≡ ok t r → take n s ≡ t
unfolding many
many_is n s t r h = let (b, e) = check-ok (leb n (length s)) Malformed (ok (take n s) (drop n s)) t r h in cc

kind-is : (s : List ℕ) (v : ObjectKind) (r : List ℕ) → read_kind s ≡ ok v r → peek_kind s ≡ v
unfolding read_kind peek_kind
kind-is [] v r h = absurd (never Malformed v r h)
kind-is (zero ∷ s) v r h = cc
kind-is (suc zero ∷ s) v r h = cc
kind-is (suc (suc k) ∷ s) v r h = absurd (never Malformed v r h)

option_is : {A : Type 0} (item : List ℕ → Res A) (look : List ℕ → A) → ((s : List ℕ) (v : A) (r : List ℕ) → item s ≡ ok v r → look s ≡ v)
    → (s : List ℕ) (o : Option A) (r : List ℕ) → read_option item s ≡ ok o r → peek_option look s ≡ o
unfolding read_option peek_option
option_is item look g [] o r h = absurd (never Malformed o r h)
option_is item look g (zero ∷ s) o r h = cc
option_is item look g (suc zero ∷ s) o r h =
    let (v, r₁, e₁, h₁) = bind_ok (item s) _ o r h in
    let q : Some v ≡ o = cc in
    ap Some (g s v r₁ e₁) ∙ q
option_is item look g (suc (suc k) ∷ s) o r h = absurd (never Malformed o r h)

pub skip_field : (f : Field) (s : List ℕ) (v : El f) (r : List ℕ) → dec f s ≡ ok v r → skip 0 (codes f) s ≡ r
unfolding skip
skip_field f s v r h = ap (λ (cs : List Code). skip zero cs s) (sym (append-nil (codes f))) ∙ skip-dec f [] s v r h

pub peek-dec : (f : Field) (s : List ℕ) (v : El f) (r : List ℕ) → dec f s ≡ ok v r → peek f s ≡ v
unfolding peek dec read_number
peek-dec nothing s v r h = refl
peek-dec (number k) s v r h =
    let (t, r₁, e₁, h₁) = bind_ok (many k s) _ v r h in
    let q : value t ≡ v = cc in
    ap value (many_is k s t r₁ e₁) ∙ q
peek-dec kind s v r h = kind-is s v r h
peek-dec (text n) s v r h = text_here-read n s v r h
peek-dec (option f) s v r h = option_is (dec f) (peek f) (peek-dec f) s v r h
peek-dec (set m n) s v r h = set_of-read m n s v r h
peek-dec (f ▹ g) s v r h =
    let (x, r₁, e₁, h₁) = bind_ok (dec f s) _ v r h in
    let (y, r₂, e₂, h₂) = bind_ok (dec g r₁) _ v r h₁ in
    let q : ◌≡◌ {A = El (f ▹ g)} (x, y) v = cc in
    (λ i. (peek-dec f s x r₁ e₁ i, (ap (peek g) (skip_field f s x r₁ e₁) ∙ peek-dec g r₁ y r₂ e₂) i)) ∙ q
