-- Rows, one after the other, each with a text at its head that stands after the one before it.
use Rattle.std.specs.Prelude.{ℕ, zero, suc, Bool, true, false, List, ◌∷◌, ◌++◌, ◌≡◌, refl, Option, Some}
use Rattle.std.proofs.Common.{sym, ap, ◌∙◌}
use Rattle.std.proofs.Math.Seq.{take-append_seam}
use Rattle.state.specs.Maps.{Text}
use Rattle.fields.specs.Format.{Malformed, Res, ok, bad, bind, check, read_text, after, rows, Field, text, ◌▹◌, El, dec, enc_text}
use Rattle.fields.proofs.FormatLaws.{never, bind_ok, text-shape}
use Rattle.fields.specs.declared.Code.{Code}
use Rattle.fields.specs.Codes.{codes, walk, forget}
use Rattle.fields.proofs.CodeLaws.{walk-codes, bind-same}
use Rattle.fields.specs.Walks.{Rest, Leaves}
use Rattle.fields.proofs.WalkLaws.{rest-is, rest_all, rest_trans, walk-leaves}
use Rattle.fields.specs.Rows.{text_here, walk_rows}

pub text_here-read : (n : ℕ) (s t r : List ℕ) → read_text n s ≡ ok t r → text_here s ≡ t
unfolding text_here
text_here-read n s t r h = ap text_here (text-shape n s t r h) ∙ take-append_seam t r

pub text-there : (t r : List ℕ) → text_here (enc_text t ++ r) ≡ t
unfolding text_here enc_text
text-there t r = take-append_seam t r

-- the row's text is the one that was read
pub row-text : (n : ℕ) (f : Field) (s : List ℕ) (v : El (text n ▹ f)) (r : List ℕ) → dec (text n ▹ f) s ≡ ok v r → text_here s ≡ v.0
unfolding dec
row-text n f s v r h =
    let (t, r₁, e₁, h₁) = bind_ok (read_text n s) _ v r h in
    let (w, r₂, e₂, h₂) = bind_ok (dec f r₁) _ v r h₁ in
    text_here-read n s t r₁ e₁ ∙ (let q : ◌≡◌ {A = El (text n ▹ f)} (t, w) v = cc in ap (λ (x : El (text n ▹ f)). x.0) q)

pub bind-forget : {A B : Type 0} (m : Res A) (k : List ℕ → Res B) → bind (forget m) (λ _ r. k r) ≡ bind m (λ _ r. k r)
bind-forget (ok v r) k = refl
bind-forget (bad e) k = refl

pub forget-bind : {A B : Type 0} (m : Res A) (k : A → List ℕ → Res B) → forget (bind m k) ≡ bind m (λ v r. forget (k v r))
forget-bind (ok v r) k = refl
forget-bind (bad e) k = refl

forget-row : {A : Type 0} (b : Bool) (m : Res (List A)) (v : A) → check b Malformed (forget m) ≡ forget (check b Malformed (bind m (λ vs r. ok (v ∷ vs) r)))
forget-row true (ok vs r) v = refl
forget-row true (bad e) v = refl
forget-row false m v = refl

-- THE WALK OVER ROWS IS `rows`, with the values forgotten
pub walk_rows-is : (n : ℕ) (f : Field) (k : ℕ) (p : Option Text) (s : List ℕ) → walk_rows (codes (text n ▹ f)) k p s ≡ forget (rows (dec (text n ▹ f)) (λ v. v.0) k p s)
unfolding walk_rows rows
walk_rows-is n f zero p s = refl
walk_rows-is n f (suc k) p s =
    ap (λ (m : Res (Unit {0})). bind m (λ _ r. check (after p (text_here s)) Malformed (walk_rows (codes (text n ▹ f)) k (Some (text_here s)) r))) (walk-codes (text n ▹ f) s)
    ∙ bind-forget (dec (text n ▹ f) s) _
    ∙ bind-same (dec (text n ▹ f) s) _ _ (λ v r h.
    ap (λ (t : Text). check (after p t) Malformed (walk_rows (codes (text n ▹ f)) k (Some t) r)) (row-text n f s v r h)
    ∙ ap (check (after p v.0) Malformed) (walk_rows-is n f k (Some v.0) r)
    ∙ forget-row (after p v.0) (rows (dec (text n ▹ f)) (λ v. v.0) k (Some v.0) r) v)
    ∙ sym (forget-bind (dec (text n ▹ f) s) _)

check-leaves : (s r : List ℕ) (b : Bool) (m : Res (Unit {0})) → Rest s r → Leaves r m → Leaves s (check b Malformed m)
check-leaves s r true m a l = record { rest = λ v t h. rest_trans a (l.rest v t h) }
check-leaves s r false m a l = record { rest = λ v t h. absurd (never Malformed v t h) }

pub walk_rows-leaves : (cs : List Code) (n : ℕ) (p : Option Text) (s : List ℕ) → Leaves s (walk_rows cs n p s)
unfolding walk_rows
walk_rows-leaves cs zero p s = record { rest = λ v r h. let q : s ≡ r = cc in rest-is q (rest_all s) }
walk_rows-leaves cs (suc n) p s = go (walk 0 cs s) (walk-leaves 0 cs s) (λ r. walk_rows-leaves cs n (Some (text_here s)) r)
  where
    go : (m : Res (Unit {0})) → Leaves s m → ((r : List ℕ) → Leaves r (walk_rows cs n (Some (text_here s)) r)) → Leaves s (bind m (λ _ r. check (after p (text_here s)) Malformed (walk_rows cs n (Some (text_here s)) r)))
    go (ok u r) l f = check-leaves s r (after p (text_here s)) _ (l.rest u r refl) (f r)
    go (bad e) l f = record { rest = λ v r h. absurd (never e v r h) }
