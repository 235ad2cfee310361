-- A RECORD'S OWN BYTES ARE ENOUGH: a text that is sought in the record alone is the one that is found in all the bytes from it
-- on, whatever they are. For a text with no option and no set before it.
use Rattle.std.specs.Prelude.{ℕ, zero, suc, ◌-◌, ◌≤◌, ◌<◌, Bool, true, false, List, [], ◌∷◌, ◌++◌, ◌≡◌, refl, leb, length, take, drop}
use Rattle.std.proofs.Common.{arith, sym, ap, ◌∙◌, length-drop, take_all, take-take, leb-true, leb-false}
use Rattle.std.proofs.Math.Nat.{sub-zero}
use Rattle.std.proofs.Math.Seq.{take-nil, drop-nil}
use Rattle.state.specs.Maps.{Every}
use Rattle.fields.specs.declared.Code.{Code}
use Rattle.fields.specs.declared.Code.TheVariants.{Number, Kind, Text, Keys, Maybe}
use Rattle.fields.specs.Codes.{hop, past, passed, skip}
use Rattle.fields.specs.Rows.{text_here}
use Rattle.fields.specs.Walks.{Rest}
use Rattle.fields.proofs.WalkLaws.{rest_trans, hop-rest}
use Rattle.tables.specs.Skips.{skip-rest}
use Rattle.reader.specs.Records.{record_of}

-- the bytes of s ahead of the rest t
abbrev ahead : List ℕ → List ℕ → List ℕ
ahead s t = take (length s - length t) s

rest-length : {s t : List ℕ} → Rest s t → length t ≤ length s
rest-length {s} {t} r = let l : length t ≡ length s - r.bytes = ap length r.is ∙ length-drop r.bytes s in omega arith

-- ---- one field

drop-take : (k n : ℕ) (s : List ℕ) → drop k (take n s) ≡ take (n - k) (drop k s)
drop-take zero n s = ap (λ (m : ℕ). take m s) (sym (sub-zero n))
drop-take (suc k) zero s = let z : zero - suc k ≡ zero = omega arith in rw (z, drop-nil (suc k))
drop-take (suc k) (suc n) [] = rw (take-nil (suc n - suc k))
drop-take (suc k) (suc n) (x ∷ s) = let z : suc n - suc k ≡ n - k = omega arith in rw z (drop-take k n s)

ahead-drop : (k : ℕ) (s t : List ℕ) → length t ≤ length (drop k s) → drop k (ahead s t) ≡ ahead (drop k s) t
ahead-drop k s t h =
    let l : length (drop k s) ≡ length s - k = length-drop k s in
    let z : length s - length t - k ≡ length (drop k s) - length t = omega arith in
    drop-take k (length s - length t) s ∙ ap (λ (n : ℕ). take n (drop k s)) z

ahead-cons : (x : ℕ) (s t : List ℕ) → length t ≤ length s → ahead (x ∷ s) t ≡ x ∷ ahead s t
ahead-cons x s t h = let z : suc (length s) - length t ≡ suc (length s - length t) = omega arith in rw z

hop-ahead : (s t : List ℕ) → Rest (hop s) t → hop (ahead s t) ≡ ahead (hop s) t
unfolding hop
hop-ahead [] t r = rw (take-nil (0 - length t))
hop-ahead (k ∷ s) t r =
    let h : length t ≤ length (drop k s) = rest-length r in
    let l : length (drop k s) ≡ length s - k = length-drop k s in
    ap hop (ahead-cons k s t (omega arith)) ∙ ahead-drop k s t h

text-ahead : (s t : List ℕ) → Rest (hop s) t → text_here (ahead s t) ≡ text_here s
unfolding hop text_here
text-ahead [] t r = rw (take-nil (0 - length t))
text-ahead (k ∷ s) t r = ap text_here (ahead-cons k s t (omega (arith, h))) ∙ go (leb k (length s)) refl
  where
    h : length t ≤ length s - k
    h = let l : length (drop k s) ≡ length s - k = length-drop k s in omega (arith, rest-length r)

    go : (b : Bool) → leb k (length s) ≡ b → take k (ahead s t) ≡ take k s
    go true e = let l : k ≤ length s = leb-true k (length s) e in take-take k (length s - length t) s (omega (arith, h))
    go false e = let l : length s < k = leb-false k (length s) e in ap (take k) (take_all (length s - length t) s (omega (arith, h)))

-- ---- fields in a row

abbrev pub Plain : Code → Type 0
Plain (Number n) = Unit {0}
Plain Kind = Unit {0}
Plain (Text n) = Unit {0}
Plain (Keys m n) = ⊥
Plain (Maybe n) = ⊥

past-ahead : (c : Code) → Plain c → (s t : List ℕ) → Rest (past c s) t → past c (ahead s t) ≡ ahead (past c s) t
unfolding past
past-ahead (Number n) p s t r = ahead-drop n s t (rest-length r)
past-ahead Kind p s t r = ahead-drop 1 s t (rest-length r)
past-ahead (Text n) p s t r = hop-ahead s t r
past-ahead (Keys m n) p s t r = absurd p
past-ahead (Maybe n) p s t r = absurd p

none_passed : (c : Code) → Plain c → (s : List ℕ) → passed c s ≡ 0
unfolding passed
none_passed (Number n) p s = refl
none_passed Kind p s = refl
none_passed (Text n) p s = refl
none_passed (Keys m n) p s = absurd p
none_passed (Maybe n) p s = absurd p

skip_on : (c : Code) (cs : List Code) → Plain c → (s : List ℕ) → skip 0 (c ∷ cs) s ≡ skip 0 cs (past c s)
unfolding skip
skip_on c cs p s = ap (λ (k : ℕ). skip k cs (past c s)) (none_passed c p s)

text_on : (n : ℕ) (ds : List Code) (s : List ℕ) → skip 0 (Text n ∷ ds) s ≡ skip 0 ds (hop s)
unfolding past
text_on n ds s = skip_on (Text n) ds tt s

skip-append : (cs ds : List Code) → Every Plain cs → (s : List ℕ) → skip 0 (cs ++ ds) s ≡ skip 0 ds (skip 0 cs s)
unfolding skip
skip-append [] ds p s = refl
skip-append (c ∷ cs) ds p s = skip_on c (cs ++ ds) p.0 s ∙ skip-append cs ds p.1 (past c s) ∙ ap (skip 0 ds) (sym (skip_on c cs p.0 s))

skip-ahead : (cs : List Code) → Every Plain cs → (s t : List ℕ) → Rest (skip 0 cs s) t → skip 0 cs (ahead s t) ≡ ahead (skip 0 cs s) t
unfolding skip
skip-ahead [] p s t r = refl
skip-ahead (c ∷ cs) p s t r =
    let e : skip 0 (c ∷ cs) s ≡ skip 0 cs (past c s) = skip_on c cs p.0 s in
    let q : Rest (skip 0 cs (past c s)) t = rw (← e) r in
    skip_on c cs p.0 (ahead s t)
    ∙ ap (skip 0 cs) (past-ahead c p.0 s t (rest_trans (skip-rest 0 cs (past c s)) q))
    ∙ skip-ahead cs p.1 (past c s) t q
    ∙ ap (λ (l : List ℕ). ahead l t) (sym e)

-- the text after the fields cs, sought in a record that goes on with it
pub text_own : (cs : List Code) (n : ℕ) (ds : List Code) → Every Plain cs → (s : List ℕ) → text_here (skip 0 cs (record_of (cs ++ (Text n ∷ ds)) s)) ≡ text_here (skip 0 cs s)
unfolding record_of
text_own cs n ds p s =
    let x : List ℕ = skip 0 cs s in
    let t : List ℕ = skip 0 (cs ++ (Text n ∷ ds)) s in
    let e : t ≡ skip 0 ds (hop x) = skip-append cs (Text n ∷ ds) p s ∙ text_on n ds x in
    let h : Rest (hop x) t = rw e (skip-rest 0 ds (hop x)) in
    ap text_here (skip-ahead cs p s t (rest_trans (hop-rest x) h)) ∙ text-ahead x t h
