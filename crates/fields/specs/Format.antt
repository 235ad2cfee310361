-- The kinds of fields, the values that each holds, how a value is written, and what reading finds.
-- A record is one field and then the rest (`▹`). A set and a table are both `rows`: items in strictly ascending order of their keys.
use Rattle.std.specs.Prelude.{ℕ, zero, suc, ◌^◌, ◌≤◌, ◌<◌, Bool, true, false, ◌&&◌, List, [], ◌∷◌, ◌++◌, ◌≡◌, length, take, drop, leb, Option, None, Some}
use Rattle.text.specs.Utf8.{utf8}
use Rattle.parts.specs.Digits.{digits, value, Bytes}
use Rattle.state.specs.Maps.{Text, before}
use Rattle.state.specs.Records.{ObjectKind, Data, Manifest}

-- THE FAULTS: "the request or token ends early, has surplus bytes, or holds a byte or set order that the layout forbids"
abbrev pub Malformed : ℕ
Malformed = 41

abbrev pub OverLimit : ℕ
OverLimit = 42

abbrev pub NotUtf8 : ℕ
NotUtf8 = 43

-- what reading finds: a value and the rest, or the first fault
pub data Res (A : Type 0) : Type 0 where
  ok : A → List ℕ → Res A
  bad : ℕ → Res A

abbrev pub bind : {A B : Type 0} → Res A → (A → List ℕ → Res B) → Res B
bind (ok a r) k = k a r
bind (bad e) k = bad e

abbrev pub check : {A : Type 0} → Bool → ℕ → Res A → Res A
check true e m = m
check false e m = bad e

-- ---- one byte, and many; numbers of some bytes, the lowest first

unfoldable pub byte : List ℕ → Res ℕ
byte [] = bad Malformed
byte (x ∷ s) = ok x s

unfoldable pub many : ℕ → List ℕ → Res (List ℕ)
many n s = check (leb n (length s)) Malformed (ok (take n s) (drop n s))

unfoldable pub read_number : ℕ → List ℕ → Res ℕ
read_number k s = bind (many k s) (λ t r. ok (value t) r)

-- ---- kinds and options

abbrev pub kind_byte : ObjectKind → ℕ
kind_byte Data = 0
kind_byte Manifest = 1

unfoldable pub read_kind : List ℕ → Res ObjectKind
read_kind [] = bad Malformed
read_kind (zero ∷ s) = ok Data s
read_kind (suc zero ∷ s) = ok Manifest s
read_kind (suc (suc k) ∷ s) = bad Malformed

unfoldable pub enc_option : {A : Type 0} → (A → List ℕ) → Option A → List ℕ
enc_option write None = 0 ∷ []
enc_option write (Some v) = 1 ∷ write v

unfoldable pub read_option : {A : Type 0} → (List ℕ → Res A) → List ℕ → Res (Option A)
read_option item [] = bad Malformed
read_option item (zero ∷ s) = ok None s
read_option item (suc zero ∷ s) = bind (item s) (λ v r. ok (Some v) r)
read_option item (suc (suc k) ∷ s) = bad Malformed

-- ---- texts: at one text first its limit, then an early end, then UTF-8

unfoldable pub enc_text : Text → List ℕ
enc_text t = length t ∷ t

unfoldable pub read_text : ℕ → List ℕ → Res Text
read_text n s = bind (byte s) (λ k r. check (leb k n) OverLimit (bind (many k r) (λ t r. check (utf8 t) NotUtf8 (ok t r))))

-- ---- rows: n items, each with a key after the one before it

unfoldable pub after : Option Text → Text → Bool
after None k = true
after (Some p) k = before p k

unfoldable pub rows : {A : Type 0} → (List ℕ → Res A) → (A → Text) → ℕ → Option Text → List ℕ → Res (List A)
rows item key zero p s = ok [] s
rows item key (suc n) p s =
    bind (item s) (λ v r. check (after p (key v)) Malformed (bind (rows item key n (Some (key v)) r) (λ vs r. ok (v ∷ vs) r)))

unfoldable pub all : {A : Type 0} → (A → List ℕ) → List A → List ℕ
all write [] = []
all write (v ∷ vs) = write v ++ all write vs

abbrev pub itself : Text → Text
itself t = t

unfoldable pub read_set : ℕ → ℕ → List ℕ → Res (List Text)
read_set most n s = bind (byte s) (λ k r. check (leb k most) OverLimit (rows (read_text n) itself k None r))

-- ---- the fields

infixr 30 ◌▹◌
pub data Field : Type 0 where
  nothing : Field
  number : (bytes : ℕ) → Field
  kind : Field
  text : (limit : ℕ) → Field
  option : Field → Field
  set : (most limit : ℕ) → Field
  ◌▹◌ : Field → Field → Field

abbrev pub El : Field → Type 0
El nothing = Unit {0}
El (number k) = ℕ
El kind = ObjectKind
El (text n) = Text
El (option f) = Option (El f)
El (set m n) = List Text
El (f ▹ g) = El f × El g

unfoldable pub enc : (f : Field) → El f → List ℕ
enc nothing v = []
enc (number k) v = digits k v
enc kind v = kind_byte v ∷ []
enc (text n) v = enc_text v
enc (option f) v = enc_option (enc f) v
enc (set m n) v = length v ∷ all enc_text v
enc (f ▹ g) v = enc f v.0 ++ enc g v.1

unfoldable pub dec : (f : Field) → List ℕ → Res (El f)
dec nothing s = ok tt s
dec (number k) s = read_number k s
dec kind s = read_kind s
dec (text n) s = read_text n s
dec (option f) s = read_option (dec f) s
dec (set m n) s = read_set m n s
dec (f ▹ g) s = bind (dec f s) (λ v r. bind (dec g r) (λ w r. ok (v, w) r))

-- ---- what a field may hold

unfoldable pub ascends : {A : Type 0} → (A → Text) → Option Text → List A → Bool
ascends key p [] = true
ascends key p (v ∷ vs) = after p (key v) && ascends key (Some (key v)) vs

pub record TextOk (n : ℕ) (t : Text) : Type 0 where
  pub fits : length t ≤ n
  pub bytes : Bytes t
  pub good : utf8 t ≡ true

abbrev pub Every : {A : Type 0} → (A → Type 0) → List A → Type 0
Every P [] = Unit {0}
Every P (v ∷ vs) = P v × Every P vs

pub record Rows {A : Type 0} (P : A → Type 0) (key : A → Text) (most : ℕ) (vs : List A) : Type 0 where
  pub count : length vs ≤ most
  pub each : Every P vs
  pub ascending : ascends key None vs ≡ true

abbrev pub Maybe : {A : Type 0} → (A → Type 0) → Option A → Type 0
Maybe P None = Unit {0}
Maybe P (Some v) = P v

abbrev pub Within : (f : Field) → El f → Type 0
Within nothing v = Unit {0}
Within (number k) v = v < 256 ^ k
Within kind v = Unit {0}
Within (text n) v = TextOk n v
Within (option f) v = Maybe (Within f) v
Within (set m n) v = Rows (TextOk n) itself m v
Within (f ▹ g) v = Within f v.0 × Within g v.1
