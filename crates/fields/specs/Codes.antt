-- A format as a flat list of codes, for a loop. The checked walk finds the first fault as `dec` does; the skip walk hops to where `dec` ends.
use Rattle.std.specs.Prelude.{ℕ, zero, suc, Bool, false, cond, List, [], ◌∷◌, ◌++◌, eqb, length, drop}
use Rattle.fields.specs.Format.{Malformed, Res, ok, bad, bind, many, read_kind, read_text, read_set, Field, nothing, number, kind, text, option, set, ◌▹◌}
use Rattle.fields.specs.declared.Code.{Code}
use Rattle.fields.specs.declared.Code.TheVariants.{Number, Kind, Text, Keys, Maybe}

abbrev pub codes : Field → List Code
codes nothing = []
codes (number k) = Number k ∷ []
codes kind = Kind ∷ []
codes (text n) = Text n ∷ []
codes (option f) = Maybe (length (codes f)) ∷ codes f
codes (set m n) = Keys m n ∷ []
codes (f ▹ g) = codes f ++ codes g

-- ---- the checked walk

unfoldable pub read_flag : ℕ → List ℕ → Res ℕ
read_flag n [] = bad Malformed
read_flag n (zero ∷ s) = ok n s
read_flag n (suc zero ∷ s) = ok 0 s
read_flag n (suc (suc k) ∷ s) = bad Malformed

abbrev pub then_none : {A : Type 0} → Res A → Res ℕ
then_none m = bind m (λ _ r. ok 0 r)

-- one code: how many codes after it are passed over, and the rest
unfoldable pub step : Code → List ℕ → Res ℕ
step (Number n) s = then_none (many n s)
step Kind s = then_none (read_kind s)
step (Text n) s = then_none (read_text n s)
step (Keys m n) s = then_none (read_set m n s)
step (Maybe n) s = read_flag n s

-- the same where so many codes are yet to be passed over
unfoldable pub advance : ℕ → Code → List ℕ → Res ℕ
advance zero c s = step c s
advance (suc k) c s = ok k s

unfoldable pub walk : ℕ → List Code → List ℕ → Res (Unit {0})
walk k [] s = ok tt s
walk k (c ∷ cs) s = bind (advance k c s) (λ n r. walk n cs r)

-- what was read, with the values forgotten
abbrev pub forget : {A : Type 0} → Res A → Res (Unit {0})
forget (ok v r) = ok tt r
forget (bad e) = bad e

-- ---- the skip walk

-- past a text: its length byte and so many bytes
unfoldable pub hop : List ℕ → List ℕ
hop [] = []
hop (k ∷ s) = drop k s

unfoldable pub hops : ℕ → List ℕ → List ℕ
hops zero s = s
hops (suc n) s = hops n (hop s)

unfoldable pub hop_set : List ℕ → List ℕ
hop_set [] = []
hop_set (n ∷ s) = hops n s

unfoldable pub past : Code → List ℕ → List ℕ
past (Number n) s = drop n s
past Kind s = drop 1 s
past (Text n) s = hop s
past (Keys m n) s = hop_set s
past (Maybe n) s = drop 1 s

abbrev pub is_absent : List ℕ → Bool
is_absent [] = false
is_absent (x ∷ s) = eqb x 0

-- where the byte of an option is 0, the codes of its value are passed over
abbrev pub absent_codes : ℕ → List ℕ → ℕ
absent_codes n s = cond (is_absent s) n 0

-- how many codes after this one are passed over
unfoldable pub passed : Code → List ℕ → ℕ
passed (Number n) s = 0
passed Kind s = 0
passed (Text n) s = 0
passed (Keys m n) s = 0
passed (Maybe n) s = absent_codes n s

unfoldable pub skip : ℕ → List Code → List ℕ → List ℕ
skip k [] s = s
skip (suc k) (c ∷ cs) s = skip k cs s
skip zero (c ∷ cs) s = skip (passed c s) cs (past c s)

-- ---- the keys of a set: how many there may be, and how long each

abbrev pub set_most : ℕ
set_most = 16

abbrev pub key_limit : ℕ
key_limit = 128
