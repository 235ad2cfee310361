-- What cannot be read gives 41, 42 or 43, and never another number.
use Rattle.std.specs.Prelude.{ℕ, zero, suc, ◌≤◌, ◌^◌, ◌≡◌, Bool, true, false, List, [], ◌∷◌, leb, ltb, length, take, drop, Option, None, Some}
use Rattle.std.proofs.Common.{arith, subst}
use Rattle.text.specs.Utf8.{utf8}
use Rattle.state.specs.Maps.{Text}
use Rattle.fields.specs.Format.{Malformed, OverLimit, NotUtf8, Res, ok, bad, bind, check, byte, many, read_number, read_kind, read_option, read_text, after, rows, itself, read_set, Field, nothing, number, kind, text, option, set, ◌▹◌, dec}
use Rattle.image.specs.Contents.{refusal, whole}
use Rattle.image.specs.Shapes.{lease}
use Rattle.requests.specs.Cases.{Case, read_case}
use Rattle.requests.specs.Request.{actions, read_fields, read_action, head, read_request, decode_request, read_token, decode_token}

pub record Unread (e : ℕ) : Type 0 where
  pub low : 41 ≤ e
  pub high : e ≤ 43

abbrev Faulty : {A : Type 0} → Res A → Type 0
Faulty (ok v r) = Unit {0}
Faulty (bad e) = Unread e

malformed : Unread Malformed
malformed = record { low = omega arith; high = omega arith }

over_limit : Unread OverLimit
over_limit = record { low = omega arith; high = omega arith }

not_utf8 : Unread NotUtf8
not_utf8 = record { low = omega arith; high = omega arith }

binds : {A B : Type 0} (m : Res A) (k : A → List ℕ → Res B) → Faulty m → ((v : A) (r : List ℕ) → Faulty (k v r)) → Faulty (bind m k)
binds (ok v r) k h g = g v r
binds (bad e) k h g = h

checks : {A : Type 0} (b : Bool) (e : ℕ) (m : Res A) → Unread e → Faulty m → Faulty (check b e m)
checks true e m u h = h
checks false e m u h = u

byte-faults : (s : List ℕ) → Faulty (byte s)
unfolding byte
byte-faults [] = malformed
byte-faults (x ∷ s) = tt

many-faults : (n : ℕ) (s : List ℕ) → Faulty (many n s)
unfolding many
many-faults n s = checks (leb n (length s)) Malformed (ok (take n s) (drop n s)) malformed tt

kind-faults : (s : List ℕ) → Faulty (read_kind s)
unfolding read_kind
kind-faults [] = malformed
kind-faults (zero ∷ s) = tt
kind-faults (suc zero ∷ s) = tt
kind-faults (suc (suc k) ∷ s) = malformed

option-faults : {A : Type 0} (item : List ℕ → Res A) → ((s : List ℕ) → Faulty (item s)) → (s : List ℕ) → Faulty (read_option item s)
unfolding read_option
option-faults item h [] = malformed
option-faults item h (zero ∷ s) = tt
option-faults item h (suc zero ∷ s) = binds (item s) _ (h s) (λ v r. tt)
option-faults item h (suc (suc k) ∷ s) = malformed

text-faults : (n : ℕ) (s : List ℕ) → Faulty (read_text n s)
unfolding read_text
text-faults n s =
    binds (byte s) _ (byte-faults s) (λ k r. checks (leb k n) OverLimit _ over_limit (binds (many k r) _ (many-faults k r) (λ t r. checks (utf8 t) NotUtf8 (ok t r) not_utf8 tt)))

rows-faults : {A : Type 0} (item : List ℕ → Res A) (key : A → Text) → ((s : List ℕ) → Faulty (item s)) → (n : ℕ) (p : Option Text) (s : List ℕ) → Faulty (rows item key n p s)
unfolding rows
rows-faults item key h zero p s = tt
rows-faults item key h (suc n) p s =
    binds (item s) _ (h s) (λ v r. checks (after p (key v)) Malformed _ malformed (binds (rows item key n (Some (key v)) r) _ (rows-faults item key h n (Some (key v)) r) (λ vs r. tt)))

set-faults : (m n : ℕ) (s : List ℕ) → Faulty (read_set m n s)
unfolding read_set
set-faults m n s = binds (byte s) _ (byte-faults s) (λ k r. checks (leb k m) OverLimit _ over_limit (rows-faults (read_text n) itself (text-faults n) k None r))

dec-faults : (f : Field) (s : List ℕ) → Faulty (dec f s)
unfolding dec read_number
dec-faults nothing s = tt
dec-faults (number k) s = binds (many k s) _ (many-faults k s) (λ t r. tt)
dec-faults kind s = kind-faults s
dec-faults (text n) s = text-faults n s
dec-faults (option f) s = option-faults (dec f) (dec-faults f) s
dec-faults (set m n) s = set-faults m n s
dec-faults (f ▹ g) s = binds (dec f s) _ (dec-faults f s) (λ v r. binds (dec g r) _ (dec-faults g r) (λ w r. tt))

case_faults : {A : Type 0} (cs : List (Case A)) (k : ℕ) (s : List ℕ) → Faulty (read_case cs k s)
unfolding read_case
case_faults [] k s = malformed
case_faults (c ∷ cs) zero s = binds (dec c.shape s) _ (dec-faults c.shape s) (λ v r. tt)
case_faults (c ∷ cs) (suc k) s = case_faults cs k s

fields_faults : (k : ℕ) (s : List ℕ) → Faulty (read_fields k s)
unfolding read_fields
fields_faults zero s = malformed
fields_faults (suc k) s = case_faults actions k s

action-faults : (s : List ℕ) → Faulty (read_action s)
unfolding read_action
action-faults s = binds (byte s) _ (byte-faults s) (λ k r. fields_faults k r)

whole-faults : {A : Type 0} (m : Res A) (e : ℕ) → Faulty m → whole m ≡ refusal e → Unread e
unfolding whole
whole-faults (ok v []) e h q = let z : ◌≡◌ {A = ℕ} 0 1 = cc in absurd (omega arith)
whole-faults (ok v (x ∷ r)) e h q = let z : Malformed ≡ e = cc in subst Unread z malformed
whole-faults (bad x) e h q = let z : x ≡ e = cc in subst Unread z h

pub request-faults : (b : List ℕ) (e : ℕ) → decode_request b ≡ refusal e → Unread e
unfolding decode_request read_request
request-faults b e q =
    whole-faults (read_request b) e
    (binds (dec head b) _ (dec-faults head b) (λ v r. checks (ltb v.1.1 (2 ^ 11)) Malformed _ malformed
    (binds (read_action r) _ (action-faults r) (λ a r. tt)))) q

pub token-faults : (b : List ℕ) (e : ℕ) → decode_token b ≡ refusal e → Unread e
unfolding decode_token read_token
token-faults b e q = whole-faults (read_token b) e (binds (dec lease b) _ (dec-faults lease b) (λ v r. tt)) q
