-- The laws of the formats: what is written is read back, and what is read is as it would be written.
use Prim.Native.Nat.{ℕ, zero, suc, ◌^◌, ◌<◌}
use Rattle.std.proofs.Common.{arith, ◌∙◌, length-append, take-append-drop, length-take-le, le-leb, ltb-true, leb-true}
use Rattle.std.specs.Prelude.{Bool, true, false, ◌&&◌, ◌≡◌, length, take, drop, leb, ltb, Option, None, Some}
use mathlib.Core.List.{List, [], ◌∷◌, ◌++◌, append_assoc}
use Rattle.std.proofs.Math.Path.{refl, sym, ap}
use Rattle.std.proofs.Math.Seq.{take-append_seam, drop-append_seam}
use Rattle.state.specs.Maps.{Text}
use Rattle.state.specs.Records.{ObjectKind, Data, Manifest}
use Rattle.text.specs.Utf8.{utf8}
use Rattle.parts.specs.Digits.{digits, value, Bytes}
use Rattle.parts.specs.DigitLaws.{length_digits, value-digits, digits_value, value-below, bytes-digits, bytes_left, bytes_right, bytes-cons, bytes-append}
use Rattle.fields.specs.Format.{Malformed, OverLimit, NotUtf8, Res, ok, bad, bind, check, byte, many, read_number, kind_byte, read_kind, enc_option, read_option, enc_text, read_text, after, rows, all, itself, read_set, Field, nothing, number, kind, text, option, set, ◌▹◌, El, enc, dec, ascends, TextOk, Every, Maybe, Within}

-- ---- one step of a reader, backwards

pub never : {A : Type 0} (e : ℕ) (v : A) (r : List ℕ) → bad e ≡ ok v r → ⊥
never e v r h = let z : ◌≡◌ {A = ℕ} 0 1 = cc in omega arith

pub bind_ok : {A B : Type 0} (m : Res A) (k : A → List ℕ → Res B) (b : B) (r' : List ℕ) → bind m k ≡ ok b r'
    → (a : A) × (r : List ℕ) × (m ≡ ok a r) × (k a r ≡ ok b r')
bind_ok (ok a r) k b r' e = (a, r, refl, e)
bind_ok (bad x) k b r' e = absurd (never x b r' e)

pub check-ok : {A : Type 0} (b : Bool) (e : ℕ) (m : Res A) (v : A) (r : List ℕ) → check b e m ≡ ok v r → (b ≡ true) × (m ≡ ok v r)
check-ok true e m v r h = (refl, h)
check-ok false e m v r h = absurd (never e v r h)

pub byte-ok : (s : List ℕ) (x : ℕ) (r : List ℕ) → byte s ≡ ok x r → s ≡ x ∷ r
unfolding byte
byte-ok [] x r h = absurd (never Malformed x r h)
byte-ok (y ∷ s) x r h = cc

pub many-ok : (n : ℕ) (s t r : List ℕ) → many n s ≡ ok t r → (s ≡ t ++ r) × (length t ≡ n)
unfolding many
many-ok n s t r h =
    let (b, e) = check-ok (leb n (length s)) Malformed (ok (take n s) (drop n s)) t r h in
    let et : take n s ≡ t = cc in
    let er : drop n s ≡ r = cc in
    let l : length (take n s) ≡ n = length-take-le n s (leb-true n (length s) b) in
    let j : take n s ++ drop n s ≡ s = take-append-drop n s in
    (cc, cc)

pub many-enc : (t rest : List ℕ) → many (length t) (t ++ rest) ≡ ok t rest
unfolding many
many-enc t rest =
    rw (le-leb (length t) (length (t ++ rest)) (omega (arith, length-append t rest)), take-append_seam, drop-append_seam)

-- ---- each kind of field: what is written is read back

number-enc : (k n : ℕ) (rest : List ℕ) → n < 256 ^ k → read_number k (digits k n ++ rest) ≡ ok n rest
unfolding read_number
number-enc k n rest h =
    let e : many k (digits k n ++ rest) ≡ ok (digits k n) rest = rw length_digits at (many-enc (digits k n) rest) in
    rw (e, value-digits k n h)

kind-enc : (v : ObjectKind) (rest : List ℕ) → read_kind (kind_byte v ∷ rest) ≡ ok v rest
unfolding read_kind
kind-enc Data rest = refl
kind-enc Manifest rest = refl

pub text-enc : (n : ℕ) (t rest : List ℕ) → TextOk n t → read_text n (enc_text t ++ rest) ≡ ok t rest
unfolding read_text byte enc_text
text-enc n t rest h = rw (le-leb (length t) n h.fits, many-enc t rest, h.good)

pub and_true : (a b : Bool) → a && b ≡ true → (a ≡ true) × (b ≡ true)
and_true true b h = (refl, h)
and_true false b h = let z : ◌≡◌ {A = Bool} true false = cc in (cc, cc)

module _ {A : Type 0} (item : List ℕ → Res A) (write : A → List ℕ) (P : A → Type 0) where
  -- what an item's format must satisfy
  abbrev pub ReadsBack : Type 0
  ReadsBack = (v : A) (rest : List ℕ) → P v → item (write v ++ rest) ≡ ok v rest

  abbrev pub AsWritten : Type 0
  AsWritten = (s : List ℕ) (v : A) (r : List ℕ) → Bytes s → item s ≡ ok v r → (s ≡ write v ++ r) × P v

  option-enc : ReadsBack → (o : Option A) (rest : List ℕ) → Maybe P o → read_option item (enc_option write o ++ rest) ≡ ok o rest
  unfolding read_option enc_option
  option-enc one None rest h = refl
  option-enc one (Some v) rest h = rw (one v rest h)

  option-ok : AsWritten → (s : List ℕ) (o : Option A) (r : List ℕ) → Bytes s → read_option item s ≡ ok o r → (s ≡ enc_option write o ++ r) × Maybe P o
  unfolding read_option enc_option
  option-ok one [] o r b h = absurd (never Malformed o r h)
  option-ok one (zero ∷ s) o r b h =
      let eo : None ≡ o = cc in
      let er : s ≡ r = cc in
      rw (← eo, ← er) (refl, tt)
  option-ok one (suc zero ∷ s) o r b h =
      let (v, r₁, e₁, h₁) = bind_ok (item s) _ o r h in
      got v r₁ (one s v r₁ (bytes_right (1 ∷ []) s b) e₁) h₁
    where
      got : (v : A) (r₁ : List ℕ) → (s ≡ write v ++ r₁) × P v → ok (Some v) r₁ ≡ ok o r → (1 ∷ s ≡ enc_option write o ++ r) × Maybe P o
      got v r₁ (i, p) h =
          let eo : Some v ≡ o = cc in
          let er : r₁ ≡ r = cc in
          rw (← eo, ← er) (ap (λ (l : List ℕ). 1 ∷ l) i, p)
  option-ok one (suc (suc k) ∷ s) o r b h = absurd (never Malformed o r h)

  module _ (key : A → Text) where
    pub rows-enc : ReadsBack → (vs : List A) (p : Option Text) (rest : List ℕ) → Every P vs → ascends key p vs ≡ true → rows item key (length vs) p (all write vs ++ rest) ≡ ok vs rest
    unfolding rows all ascends
    rows-enc one [] p rest h a = refl
    rows-enc one (v ∷ vs) p rest h a =
        let (a₀, a₁) = and_true (after p (key v)) (ascends key (Some (key v)) vs) a in
        rw (append_assoc, one v (all write vs ++ rest) h.0, a₀, rows-enc one vs (Some (key v)) rest h.1 a₁)

    pub record Rowed (n : ℕ) (p : Option Text) (s : List ℕ) (vs : List A) (r : List ℕ) : Type 0 where
      pub is : s ≡ all write vs ++ r
      pub count : length vs ≡ n
      pub each : Every P vs
      pub ascending : ascends key p vs ≡ true

    more : {n : ℕ} {p : Option Text} {s : List ℕ} {v : A} {r₁ : List ℕ} {ws : List A} {r₂ : List ℕ} {vs : List A} {r : List ℕ}
        → s ≡ write v ++ r₁ → P v → after p (key v) ≡ true → Rowed n (Some (key v)) r₁ ws r₂ → ok (v ∷ ws) r₂ ≡ ok vs r → Rowed (suc n) p s vs r
    unfolding all ascends
    more {v = v} {ws = ws} {r₂ = r₂} {vs = vs} {r = r} i g a ih e =
        let ev : v ∷ ws ≡ vs = cc in
        let er : r₂ ≡ r = cc in
        rw (← ev, ← er) (record {
          is = i ∙ ap (λ (l : List ℕ). write v ++ l) ih.is ∙ sym (append_assoc (write v) (all write ws) r₂);
          count = ap suc ih.count;
          each = (g, ih.each);
          ascending = rw (a, ih.ascending);
        })

    pub rows_ok : AsWritten → (n : ℕ) (p : Option Text) (s : List ℕ) (vs : List A) (r : List ℕ) → Bytes s → rows item key n p s ≡ ok vs r → Rowed n p s vs r
    unfolding rows all ascends
    rows_ok one zero p s vs r b h =
        let ev : [] ≡ vs = cc in
        let er : s ≡ r = cc in
        rw (← ev, ← er) (record { is = refl; count = refl; each = tt; ascending = refl })
    rows_ok one (suc n) p s vs r b h =
        let (v, r₁, e₁, h₁) = bind_ok (item s) _ vs r h in
        let (a, h₂) = check-ok (after p (key v)) Malformed _ vs r h₁ in
        let (ws, r₂, e₂, h₃) = bind_ok (rows item key n (Some (key v)) r₁) _ vs r h₂ in
        let (i, g) = one s v r₁ b e₁ in
        more i g a (rows_ok one n (Some (key v)) r₁ ws r₂ (bytes_right (write v) r₁ (rw i at b)) e₂) h₃

set-enc : (m n : ℕ) (ts : List Text) (rest : List ℕ) → Within (set m n) ts → read_set m n (enc (set m n) ts ++ rest) ≡ ok ts rest
unfolding read_set enc byte
set-enc m n ts rest h =
    rw (le-leb (length ts) m h.count, rows-enc (read_text n) enc_text (TextOk n) itself (text-enc n) ts None rest h.each h.ascending)

-- WHAT IS WRITTEN IS READ BACK
pub dec-enc : (f : Field) (v : El f) (rest : List ℕ) → Within f v → dec f (enc f v ++ rest) ≡ ok v rest
unfolding dec enc
dec-enc nothing v rest h = refl
dec-enc (number k) v rest h = number-enc k v rest h
dec-enc kind v rest h = kind-enc v rest
dec-enc (text n) v rest h = text-enc n v rest h
dec-enc (option f) v rest h = option-enc (dec f) (enc f) (Within f) (dec-enc f) v rest h
dec-enc (set m n) v rest h = set-enc m n v rest h
dec-enc (f ▹ g) v rest h =
    rw (append_assoc, dec-enc f v.0 (enc g v.1 ++ rest) h.0, dec-enc g v.1 rest h.1)

-- so two values with the same bytes are the same, and so is what follows: equality of records is equality of their bytes
pub enc_injective : (f : Field) (v w : El f) (r₁ r₂ : List ℕ) → Within f v → Within f w → enc f v ++ r₁ ≡ enc f w ++ r₂ → (v ≡ w) × (r₁ ≡ r₂)
enc_injective f v w r₁ r₂ h k e =
    let p : ok v r₁ ≡ ok w r₂ = sym (dec-enc f v r₁ h) ∙ ap (dec f) e ∙ dec-enc f w r₂ k in
    (cc, cc)

-- ---- what is read is as it would be written

number_ok : (k : ℕ) (s : List ℕ) (n : ℕ) (r : List ℕ) → Bytes s → read_number k s ≡ ok n r → (s ≡ digits k n ++ r) × (n < 256 ^ k)
unfolding read_number
number_ok k s n r b h =
    let (t, r₁, e₁, h₁) = bind_ok (many k s) _ n r h in
    back s t r₁ n r b (many-ok k s t r₁ e₁) h₁
  where
    back : (s t r₁ : List ℕ) (n : ℕ) (r : List ℕ) → Bytes s → (s ≡ t ++ r₁) × (length t ≡ k) → ok (value t) r₁ ≡ ok n r
        → (s ≡ digits k n ++ r) × (n < 256 ^ k)
    back s t r₁ n r b (e, l) h =
        let bt : Bytes t = bytes_left t r₁ (rw e at b) in
        let d : digits (length t) (value t) ≡ t = digits_value t bt in
        let q : value t < 256 ^ length t = value-below t bt in
        let en : value t ≡ n = cc in
        (cc, rw (← en) (rw l at q))

kind_ok : (s : List ℕ) (v : ObjectKind) (r : List ℕ) → read_kind s ≡ ok v r → s ≡ kind_byte v ∷ r
unfolding read_kind
kind_ok [] v r h = absurd (never Malformed v r h)
kind_ok (zero ∷ s) v r h =
    let ev : Data ≡ v = cc in
    let er : s ≡ r = cc in
    rw (← ev, ← er)
kind_ok (suc zero ∷ s) v r h =
    let ev : Manifest ≡ v = cc in
    let er : s ≡ r = cc in
    rw (← ev, ← er)
kind_ok (suc (suc k) ∷ s) v r h = absurd (never Malformed v r h)

-- a text is its length byte and its bytes
pub text-shape : (n : ℕ) (s t r : List ℕ) → read_text n s ≡ ok t r → s ≡ length t ∷ (t ++ r)
unfolding read_text
text-shape n s t r h =
    let (k, r₁, e₁, h₁) = bind_ok (byte s) _ t r h in
    let (c, h₂) = check-ok (leb k n) OverLimit _ t r h₁ in
    let (v, r₂, e₂, h₃) = bind_ok (many k r₁) _ t r h₂ in
    let (g, h₄) = check-ok (utf8 v) NotUtf8 (ok v r₂) t r h₃ in
    let m : (r₁ ≡ v ++ r₂) × (length v ≡ k) = many-ok k r₁ v r₂ e₂ in
    let i : s ≡ k ∷ r₁ = byte-ok s k r₁ e₁ in
    let ev : v ≡ t = cc in
    let er : r₂ ≡ r = cc in
    let j : length t ≡ k = cc in
    cc

pub text-ok : (n : ℕ) (s t r : List ℕ) → Bytes s → read_text n s ≡ ok t r → (s ≡ enc_text t ++ r) × TextOk n t
unfolding read_text enc_text
text-ok n s t r b h =
    let (k, r₁, e₁, h₁) = bind_ok (byte s) _ t r h in
    let (c, h₂) = check-ok (leb k n) OverLimit _ t r h₁ in
    let (v, r₂, e₂, h₃) = bind_ok (many k r₁) _ t r h₂ in
    let (g, h₄) = check-ok (utf8 v) NotUtf8 (ok v r₂) t r h₃ in
    let i : s ≡ k ∷ r₁ = byte-ok s k r₁ e₁ in
    let m : (r₁ ≡ v ++ r₂) × (length v ≡ k) = many-ok k r₁ v r₂ e₂ in
    let ev : v ≡ t = cc in
    let lt : length t ≡ k = cc in
    let b₁ : Bytes r₁ = bytes_right (k ∷ []) r₁ (rw i at b) in
    let bv : Bytes v = bytes_left v r₂ (rw m.0 at b₁) in
    (cc, record { fits = omega (arith, leb-true k n c); bytes = rw ev at bv; good = cc })

set-ok : (m n : ℕ) (s : List ℕ) (ts : List Text) (r : List ℕ) → Bytes s → read_set m n s ≡ ok ts r → (s ≡ enc (set m n) ts ++ r) × Within (set m n) ts
unfolding read_set enc
set-ok m n s ts r b h =
    let (k, r₁, e₁, h₁) = bind_ok (byte s) _ ts r h in
    let (c, h₂) = check-ok (leb k m) OverLimit _ ts r h₁ in
    let i : s ≡ k ∷ r₁ = byte-ok s k r₁ e₁ in
    let w = rows_ok (read_text n) enc_text (TextOk n) itself (text-ok n) k None r₁ ts r (bytes_right (k ∷ []) r₁ (rw i at b)) h₂ in
    let l : length ts ≡ k = w.count in
    let j : r₁ ≡ all enc_text ts ++ r = w.is in
    (cc, record { count = omega (arith, leb-true k m c); each = w.each; ascending = w.ascending })

-- WHAT IS READ IS AS IT WOULD BE WRITTEN, and within its limits
pub enc-dec : (f : Field) (s : List ℕ) (v : El f) (r : List ℕ) → Bytes s → dec f s ≡ ok v r → (s ≡ enc f v ++ r) × Within f v
unfolding dec enc
enc-dec nothing s v r b h = let e : s ≡ r = cc in (e, tt)
enc-dec (number k) s v r b h = number_ok k s v r b h
enc-dec kind s v r b h = (kind_ok s v r h, tt)
enc-dec (text n) s v r b h = text-ok n s v r b h
enc-dec (option f) s v r b h = option-ok (dec f) (enc f) (Within f) (enc-dec f) s v r b h
enc-dec (set m n) s v r b h = set-ok m n s v r b h
enc-dec (f ▹ g) s v r b h =
    let (x, r₁, e₁, h₁) = bind_ok (dec f s) _ v r h in
    let (y, r₂, e₂, h₂) = bind_ok (dec g r₁) _ v r h₁ in
    let (i, w) = enc-dec f s x r₁ b e₁ in
    let (j, u) = enc-dec g r₁ y r₂ (bytes_right (enc f x) r₁ (rw i at b)) e₂ in
    joined x y r₁ r₂ i w j u h₂
  where
    joined : (x : El f) (y : El g) (r₁ r₂ : List ℕ) → s ≡ enc f x ++ r₁ → Within f x → r₁ ≡ enc g y ++ r₂ → Within g y
        → ok (x, y) r₂ ≡ ok v r → (s ≡ enc (f ▹ g) v ++ r) × Within (f ▹ g) v
    joined x y r₁ r₂ i w j u h =
        let ev : ◌≡◌ {A = El (f ▹ g)} (x, y) v = cc in
        let er : r₂ ≡ r = cc in
        rw (← ev, ← er) (i ∙ ap (λ (l : List ℕ). enc f x ++ l) j ∙ sym (append_assoc (enc f x) (enc g y) r₂), (w, u))

-- WHAT IS WRITTEN IS BYTES, where every limit fits the byte that holds a length
unfoldable pub small : Field → Bool
small nothing = true
small (number k) = true
small kind = true
small (text n) = ltb n 256
small (option f) = small f
small (set m n) = ltb m 256 && ltb n 256
small (f ▹ g) = small f && small g

pub bytes-text : (n : ℕ) (t : Text) → n < 256 → TextOk n t → Bytes (enc_text t)
unfolding enc_text
bytes-text n t h w = bytes-cons (length t) t (omega (arith, w.fits)) w.bytes

pub bytes-all : {A : Type 0} (write : A → List ℕ) (P : A → Type 0) → ((v : A) → P v → Bytes (write v)) → (vs : List A) → Every P vs → Bytes (all write vs)
unfolding all
bytes-all write P one [] h = λ i. omega arith
bytes-all write P one (v ∷ vs) h = bytes-append (write v) (all write vs) (one v h.0) (bytes-all write P one vs h.1)

bytes-option : {A : Type 0} (write : A → List ℕ) (P : A → Type 0) → ((v : A) → P v → Bytes (write v)) → (o : Option A) → Maybe P o → Bytes (enc_option write o)
unfolding enc_option
bytes-option write P one None h = bytes-cons 0 [] (omega arith) (λ i. omega arith)
bytes-option write P one (Some v) h = bytes-cons 1 (write v) (omega arith) (one v h)

bytes-kind : (v : ObjectKind) → kind_byte v < 256
bytes-kind Data = omega arith
bytes-kind Manifest = omega arith

pub bytes-enc : (f : Field) → small f ≡ true → (v : El f) → Within f v → Bytes (enc f v)
unfolding enc small
bytes-enc nothing k v h = λ i. omega arith
bytes-enc (number n) k v h = bytes-digits n v
bytes-enc kind k v h = bytes-cons (kind_byte v) [] (bytes-kind v) (λ i. omega arith)
bytes-enc (text n) k v h = bytes-text n v (ltb-true n 256 k) h
bytes-enc (option f) k v h = bytes-option (enc f) (Within f) (bytes-enc f k) v h
bytes-enc (set m n) k v h =
    let (km, kn) = and_true (ltb m 256) (ltb n 256) k in
    let lm : m < 256 = ltb-true m 256 km in
    bytes-cons (length v) (all enc_text v) (omega (arith, h.count)) (bytes-all enc_text (TextOk n) (λ t w. bytes-text n t (ltb-true n 256 kn) w) v h.each)
bytes-enc (f ▹ g) k v h =
    let (kf, kg) = and_true (small f) (small g) k in
    bytes-append (enc f v.0) (enc g v.1) (bytes-enc f kf v.0 h.0) (bytes-enc g kg v.1 h.1)
