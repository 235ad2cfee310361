-- The skip walk over a slice from a position: it always ends at a place of the slice.
use Rattle.std.specs.Prelude.{ℕ, zero, suc, List, [], ◌∷◌, ◌≡◌, refl, drop}
use Rattle.fields.specs.declared.Code.{Code}
use Rattle.fields.specs.declared.Code.TheVariants.{Number, Kind, Text, Keys, Maybe}
use Rattle.fields.specs.Codes.{past, passed, skip}
use Rattle.fields.specs.Walks.{place_of, Rest}
use Rattle.fields.proofs.WalkLaws.{rest_all, rest-drop, rest_trans, rest-place, hop-rest, hop_set-rest}

-- one code, where so many are yet to be passed over: how many are left, and the rest
unfoldable pub left_over : ℕ → Code → List ℕ → ℕ
left_over zero c s = passed c s
left_over (suc k) c s = k

unfoldable pub past_over : ℕ → Code → List ℕ → List ℕ
past_over zero c s = past c s
past_over (suc k) c s = s

pub skip-cons : (k : ℕ) (c : Code) (cs : List Code) (s : List ℕ) → skip k (c ∷ cs) s ≡ skip (left_over k c s) cs (past_over k c s)
unfolding skip left_over past_over
skip-cons zero c cs s = refl
skip-cons (suc k) c cs s = refl

pub past-rest : (c : Code) (s : List ℕ) → Rest s (past c s)
unfolding past
past-rest (Number n) s = rest-drop n s
past-rest Kind s = rest-drop 1 s
past-rest (Text n) s = hop-rest s
past-rest (Keys m n) s = hop_set-rest s
past-rest (Maybe n) s = rest-drop 1 s

pub past_over-rest : (k : ℕ) (c : Code) (s : List ℕ) → Rest s (past_over k c s)
unfolding past_over
past_over-rest zero c s = past-rest c s
past_over-rest (suc k) c s = rest_all s

pub skip-rest : (k : ℕ) (cs : List Code) (s : List ℕ) → Rest s (skip k cs s)
unfolding skip
skip-rest k [] s = rest_all s
skip-rest zero (c ∷ cs) s = rest_trans (past-rest c s) (skip-rest (passed c s) cs (past c s))
skip-rest (suc k) (c ∷ cs) s = skip-rest k cs s

-- what is left at the place of a record's end
pub after_record : (cs : List Code) (s : List ℕ) (p : ℕ) → drop (place_of s (skip 0 cs (drop p s))) s ≡ skip 0 cs (drop p s)
after_record cs s p = rest-place (rest_trans (rest-drop p s) (skip-rest 0 cs (drop p s)))
