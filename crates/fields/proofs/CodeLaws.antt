-- A format as a flat list of codes, for a loop. The checked walk finds the first fault as `dec` does; the skip walk hops to where `dec` ends.
use Rattle.std.specs.Prelude.{ℕ, zero, suc, ◌≡◌, refl, List, [], ◌∷◌, ◌++◌, leb, length, take, drop, Option, None, Some}
use Rattle.std.proofs.Common.{sym, ap, ◌∙◌, append_assoc, append-nil}
use Rattle.text.specs.Utf8.{utf8}
use Rattle.fields.specs.Format.{Malformed, OverLimit, NotUtf8, Res, ok, bad, bind, byte, many, read_number, read_kind, read_option, read_text, after, rows, itself, read_set, Field, nothing, number, kind, text, option, set, ◌▹◌, El, dec}
use Rattle.fields.proofs.FormatLaws.{never, bind_ok, check-ok, byte-ok}
use Rattle.fields.specs.declared.Code.{Code}
use Rattle.fields.specs.declared.Code.TheVariants.{Maybe}
use Rattle.fields.specs.Codes.{advance, codes, forget, hop, hop_set, hops, passed, past, read_flag, skip, step, walk}

pub bind-same : {A B : Type 0} (m : Res A) (k l : A → List ℕ → Res B) → ((v : A) (r : List ℕ) → m ≡ ok v r → k v r ≡ l v r) → bind m k ≡ bind m l
bind-same (ok v r) k l h = h v r refl
bind-same (bad e) k l h = refl

pub bind-bind : {A B C : Type 0} (m : Res A) (k : A → List ℕ → Res B) (l : B → List ℕ → Res C) → bind (bind m k) l ≡ bind m (λ v r. bind (k v r) l)
bind-bind (ok v r) k l = refl
bind-bind (bad e) k l = refl

walk-past : (ds cs : List Code) (s : List ℕ) → walk (length ds) (ds ++ cs) s ≡ walk zero cs s
unfolding walk advance
walk-past [] cs s = refl
walk-past (d ∷ ds) cs s = walk-past ds cs s

walk-maybe : {A : Type 0} (item : List ℕ → Res A) (ds cs : List Code) → ((s : List ℕ) → walk zero (ds ++ cs) s ≡ bind (item s) (λ _ r. walk zero cs r))
    → (s : List ℕ) → walk zero (Maybe (length ds) ∷ ds ++ cs) s ≡ bind (read_option item s) (λ _ r. walk zero cs r)
unfolding walk advance step read_flag read_option
walk-maybe item ds cs h [] = refl
walk-maybe item ds cs h (zero ∷ s) = walk-past ds cs s
walk-maybe item ds cs h (suc zero ∷ s) = h s ∙ sym (bind-bind (item s) _ _)
walk-maybe item ds cs h (suc (suc k) ∷ s) = refl

-- THE CHECKED WALK IS `dec`, and then the walk over what follows
pub walk-dec : (f : Field) (cs : List Code) (s : List ℕ) → walk zero (codes f ++ cs) s ≡ bind (dec f s) (λ _ r. walk zero cs r)
unfolding walk advance step dec read_number
walk-dec nothing cs s = refl
walk-dec (number k) cs s = bind-bind (many k s) _ _ ∙ sym (bind-bind (many k s) _ _)
walk-dec kind cs s = bind-bind (read_kind s) _ _
walk-dec (text n) cs s = bind-bind (read_text n s) _ _
walk-dec (option f) cs s = walk-maybe (dec f) (codes f) cs (walk-dec f cs) s
walk-dec (set m n) cs s = bind-bind (read_set m n s) _ _
walk-dec (f ▹ g) cs s =
    rw append_assoc (walk-dec f (codes g ++ cs) s ∙ bind-same (dec f s) _ _ (λ v r _. walk-dec g cs r ∙ sym (bind-bind (dec g r) _ _)) ∙ sym (bind-bind (dec f s) _ _))

forget-is : {A : Type 0} (m : Res A) → bind m (λ _ r. ok tt r) ≡ forget m
forget-is (ok v r) = refl
forget-is (bad e) = refl

pub walk-codes : (f : Field) (s : List ℕ) → walk zero (codes f) s ≡ forget (dec f s)
unfolding walk
walk-codes f s = ap (λ (cs : List Code). walk zero cs s) (sym (append-nil (codes f))) ∙ walk-dec f [] s ∙ forget-is (dec f s)

pub many-rest : (n : ℕ) (s t r : List ℕ) → many n s ≡ ok t r → drop n s ≡ r
unfolding many
many-rest n s t r h = let (b, e) = check-ok (leb n (length s)) Malformed (ok (take n s) (drop n s)) t r h in cc

pub kind-rest : (s : List ℕ) (v : El kind) (r : List ℕ) → read_kind s ≡ ok v r → drop 1 s ≡ r
unfolding read_kind
kind-rest [] v r h = cc
kind-rest (zero ∷ s) v r h = cc
kind-rest (suc zero ∷ s) v r h = cc
kind-rest (suc (suc k) ∷ s) v r h = cc

pub text-rest : (n : ℕ) (s t r : List ℕ) → read_text n s ≡ ok t r → hop s ≡ r
unfolding read_text hop
text-rest n s t r h =
    let (k, r₁, e₁, h₁) = bind_ok (byte s) _ t r h in
    let (c, h₂) = check-ok (leb k n) OverLimit _ t r h₁ in
    let (v, r₂, e₂, h₃) = bind_ok (many k r₁) _ t r h₂ in
    let (g, h₄) = check-ok (utf8 v) NotUtf8 (ok v r₂) t r h₃ in
    let e : r₂ ≡ r = cc in
    rw (byte-ok s k r₁ e₁) (many-rest k r₁ v r₂ e₂ ∙ e)

pub texts_rest : (n k : ℕ) (p : Option (List ℕ)) (s : List ℕ) (ts : List (List ℕ)) (r : List ℕ) → rows (read_text n) itself k p s ≡ ok ts r → hops k s ≡ r
unfolding rows hops
texts_rest n zero p s ts r h = cc
texts_rest n (suc k) p s ts r h =
    let (v, r₁, e₁, h₁) = bind_ok (read_text n s) _ ts r h in
    let (a, h₂) = check-ok (after p v) Malformed _ ts r h₁ in
    let (ws, r₂, e₂, h₃) = bind_ok (rows (read_text n) itself k (Some v) r₁) _ ts r h₂ in
    let e : r₂ ≡ r = cc in
    rw (text-rest n s v r₁ e₁) (texts_rest n k (Some v) r₁ ws r₂ e₂ ∙ e)

pub set_rest : (m n : ℕ) (s : List ℕ) (ts : List (List ℕ)) (r : List ℕ) → read_set m n s ≡ ok ts r → hop_set s ≡ r
unfolding read_set hop_set
set_rest m n s ts r h =
    let (k, r₁, e₁, h₁) = bind_ok (byte s) _ ts r h in
    let (c, h₂) = check-ok (leb k m) OverLimit _ ts r h₁ in
    rw (byte-ok s k r₁ e₁) (texts_rest n k None r₁ ts r h₂)

skip-over : (ds cs : List Code) (s : List ℕ) → skip (length ds) (ds ++ cs) s ≡ skip zero cs s
unfolding skip
skip-over [] cs s = refl
skip-over (d ∷ ds) cs s = skip-over ds cs s

skip-maybe : {A : Type 0} (item : List ℕ → Res A) (ds cs : List Code) → ((s : List ℕ) (v : A) (r : List ℕ) → item s ≡ ok v r → skip zero (ds ++ cs) s ≡ skip zero cs r)
    → (s : List ℕ) (o : Option A) (r : List ℕ) → read_option item s ≡ ok o r → skip zero (Maybe (length ds) ∷ ds ++ cs) s ≡ skip zero cs r
unfolding skip past passed read_option
skip-maybe item ds cs h [] o r e = absurd (never Malformed o r e)
skip-maybe item ds cs h (zero ∷ s) o r e = let q : s ≡ r = cc in skip-over ds cs s ∙ ap (skip zero cs) q
skip-maybe item ds cs h (suc zero ∷ s) o r e =
    let (v, r₁, e₁, h₁) = bind_ok (item s) _ o r e in
    let q : r₁ ≡ r = cc in
    h s v r₁ e₁ ∙ ap (skip zero cs) q
skip-maybe item ds cs h (suc (suc k) ∷ s) o r e = absurd (never Malformed o r e)

-- THE SKIP WALK ENDS WHERE `dec` DOES, on bytes that it accepts
pub skip-dec : (f : Field) (cs : List Code) (s : List ℕ) (v : El f) (r : List ℕ) → dec f s ≡ ok v r → skip zero (codes f ++ cs) s ≡ skip zero cs r
unfolding skip past passed dec read_number
skip-dec nothing cs s v r h = let q : s ≡ r = cc in ap (skip zero cs) q
skip-dec (number k) cs s v r h =
    let (t, r₁, e₁, h₁) = bind_ok (many k s) _ v r h in
    let q : r₁ ≡ r = cc in
    ap (skip zero cs) (many-rest k s t r₁ e₁ ∙ q)
skip-dec kind cs s v r h = ap (skip zero cs) (kind-rest s v r h)
skip-dec (text n) cs s v r h = ap (skip zero cs) (text-rest n s v r h)
skip-dec (option f) cs s v r h = skip-maybe (dec f) (codes f) cs (skip-dec f cs) s v r h
skip-dec (set m n) cs s v r h = ap (skip zero cs) (set_rest m n s v r h)
skip-dec (f ▹ g) cs s v r h =
    let (x, r₁, e₁, h₁) = bind_ok (dec f s) _ v r h in
    let (y, r₂, e₂, h₂) = bind_ok (dec g r₁) _ v r h₁ in
    let q : r₂ ≡ r = cc in
    rw append_assoc (skip-dec f (codes g ++ cs) s x r₁ e₁ ∙ skip-dec g cs r₁ y r₂ e₂ ∙ ap (skip zero cs) q)
