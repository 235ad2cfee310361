-- A walk over a slice from a position: where it ends, or the first fault.
use Rattle.std.specs.Prelude.{ℕ, zero, suc, ◌+◌, ◌-◌, ◌≤◌, ◌<◌, min, Bool, true, false, List, [], ◌∷◌, ◌≡◌, refl, length, take, drop, leb, Option, Ok}
use Rattle.std.proofs.Common.{arith, sym, ap, ◌∙◌, length-drop, take_all, drop_of_length-le, drop-drop, leb-true, leb-false}
use Rattle.fields.specs.Format.{Malformed, Res, ok, bad, bind, many, read_kind, read_text, rows, itself, read_set}
use Rattle.fields.proofs.FormatLaws.{never}
use Rattle.fields.specs.Codes.{read_flag, step, advance, walk, hop, hops, hop_set}
use Rattle.fields.proofs.CodeLaws.{many-rest, kind-rest, text-rest, texts_rest, set_rest}
use Rattle.fields.specs.declared.Code.{Code}
use Rattle.fields.specs.declared.Code.TheVariants.{Number, Kind, Text, Keys, Maybe}
use Rattle.fields.specs.Walks.{Ended, Leaves, Rest, place_of, walk_of}

-- ---- places

pub end-at : (s : List ℕ) (e : ℕ) → e ≤ length s → place_of s (drop e s) ≡ e
end-at s e h = rw length-drop (omega arith)

-- the bytes from a place up to the end
pub to_end : (s : List ℕ) (e : ℕ) → take (length s - e) (drop e s) ≡ drop e s
to_end s e = rw (← length-drop e s) (take_all (length (drop e s)) (drop e s) (omega arith))

-- a place past the end is the end
pub drop-within : (s : List ℕ) (at : ℕ) → drop (min at (length s)) s ≡ drop at s
drop-within s at = go (leb at (length s)) refl
  where
    go : (b : Bool) → leb at (length s) ≡ b → drop (min at (length s)) s ≡ drop at s
    go true h = let k : at ≤ length s = leb-true _ _ h in let z : min at (length s) ≡ at = omega arith in rw z
    go false h = let k : length s < at = leb-false _ _ h in let z : length s ≤ min at (length s) = omega arith in let y : length s ≤ at = omega arith in drop_of_length-le s z ∙ sym (drop_of_length-le s y)

pub rest_all : (s : List ℕ) → Rest s s
rest_all s = record { bytes = 0; is = refl }

pub rest-drop : (n : ℕ) (s : List ℕ) → Rest s (drop n s)
rest-drop n s = record { bytes = n; is = refl }

pub rest_trans : {s t r : List ℕ} → Rest s t → Rest t r → Rest s r
rest_trans {s} a b = record { bytes = a.bytes + b.bytes; is = b.is ∙ ap (drop b.bytes) a.is ∙ drop-drop b.bytes a.bytes s }

pub rest-is : {s t r : List ℕ} → t ≡ r → Rest s t → Rest s r
rest-is e a = record { bytes = a.bytes; is = sym e ∙ a.is }

pub rest-place : {s r : List ℕ} → Rest s r → drop (place_of s r) s ≡ r
rest-place {s} {r} a = go (leb a.bytes (length s)) refl
  where
    l : length r ≡ length s - a.bytes
    l = ap length a.is ∙ length-drop a.bytes s

    go : (b : Bool) → leb a.bytes (length s) ≡ b → drop (place_of s r) s ≡ r
    go true h = let k : a.bytes ≤ length s = leb-true _ _ h in let z : length s - length r ≡ a.bytes = omega (arith, l) in rw z (sym a.is)
    go false h =
        let k : length s < a.bytes = leb-false _ _ h in
        let z : length s ≤ length s - length r = omega (arith, l) in
        let y : length s ≤ a.bytes = omega arith in
        drop_of_length-le s z ∙ sym (a.is ∙ drop_of_length-le s y)

pub hop-rest : (s : List ℕ) → Rest s (hop s)
unfolding hop
hop-rest [] = rest_all []
hop-rest (k ∷ s) = record { bytes = suc k; is = refl }

pub hops-rest : (n : ℕ) (s : List ℕ) → Rest s (hops n s)
unfolding hops
hops-rest zero s = rest_all s
hops-rest (suc n) s = rest_trans (hop-rest s) (hops-rest n (hop s))

pub hop_set-rest : (s : List ℕ) → Rest s (hop_set s)
unfolding hop_set
hop_set-rest [] = rest_all []
hop_set-rest (n ∷ s) = rest_trans (rest-drop 1 (n ∷ s)) (hops-rest n s)

pub many-leaves : (n : ℕ) (s : List ℕ) → Leaves s (many n s)
many-leaves n s = record { rest = λ v r h. rest-is (many-rest n s v r h) (rest-drop n s) }

pub kind-leaves : (s : List ℕ) → Leaves s (read_kind s)
kind-leaves s = record { rest = λ v r h. rest-is (kind-rest s v r h) (rest-drop 1 s) }

pub text-leaves : (n : ℕ) (s : List ℕ) → Leaves s (read_text n s)
text-leaves n s = record { rest = λ v r h. rest-is (text-rest n s v r h) (hop-rest s) }

pub texts_leaves : (n k : ℕ) (p : Option (List ℕ)) (s : List ℕ) → Leaves s (rows (read_text n) itself k p s)
texts_leaves n k p s = record { rest = λ v r h. rest-is (texts_rest n k p s v r h) (hops-rest k s) }

pub set-leaves : (m n : ℕ) (s : List ℕ) → Leaves s (read_set m n s)
set-leaves m n s = record { rest = λ v r h. rest-is (set_rest m n s v r h) (hop_set-rest s) }

flag_leaves : (n : ℕ) (s : List ℕ) → Leaves s (read_flag n s)
unfolding read_flag
flag_leaves n [] = record { rest = λ v r h. absurd (never Malformed v r h) }
flag_leaves n (zero ∷ s) = record { rest = λ v r h. let q : s ≡ r = cc in rest-is q (rest-drop 1 (0 ∷ s)) }
flag_leaves n (suc zero ∷ s) = record { rest = λ v r h. let q : s ≡ r = cc in rest-is q (rest-drop 1 (1 ∷ s)) }
flag_leaves n (suc (suc k) ∷ s) = record { rest = λ v r h. absurd (never Malformed v r h) }

none-leaves : {A : Type 0} (s : List ℕ) (m : Res A) → Leaves s m → Leaves {A = ℕ} s (bind m (λ _ r. ok 0 r))
none-leaves s (ok w t) l = record { rest = λ v r h. let q : t ≡ r = cc in rest-is q (l.rest w t refl) }
none-leaves s (bad e) l = record { rest = λ v r h. absurd (never e v r h) }

pub step-leaves : (c : Code) (s : List ℕ) → Leaves s (step c s)
unfolding step
step-leaves (Number n) s = none-leaves s (many n s) (many-leaves n s)
step-leaves Kind s = none-leaves s (read_kind s) (kind-leaves s)
step-leaves (Text n) s = none-leaves s (read_text n s) (text-leaves n s)
step-leaves (Keys m n) s = none-leaves s (read_set m n s) (set-leaves m n s)
step-leaves (Maybe n) s = flag_leaves n s

pub advance-leaves : (k : ℕ) (c : Code) (s : List ℕ) → Leaves s (advance k c s)
unfolding advance
advance-leaves zero c s = step-leaves c s
advance-leaves (suc k) c s = record { rest = λ v r h. let q : s ≡ r = cc in rest-is q (rest_all s) }

walk-bind : (s : List ℕ) (m : Res ℕ) (k : ℕ → List ℕ → Res (Unit {0})) → Leaves s m → ((n : ℕ) (r : List ℕ) → Leaves r (k n r)) → Leaves s (bind m k)
walk-bind s (ok n t) k l f = record { rest = λ v r h. rest_trans (l.rest n t refl) ((f n t).rest v r h) }
walk-bind s (bad e) k l f = record { rest = λ v r h. absurd (never e v r h) }

pub walk-leaves : (k : ℕ) (cs : List Code) (s : List ℕ) → Leaves s (walk k cs s)
unfolding walk
walk-leaves k [] s = record { rest = λ v r h. let q : s ≡ r = cc in rest-is q (rest_all s) }
walk-leaves k (c ∷ cs) s = walk-bind s (advance k c s) (λ n r. walk n cs r) (advance-leaves k c s) (λ n r. walk-leaves n cs r)

rest-low : (s : List ℕ) (p : ℕ) (r : List ℕ) → p ≤ length s → Rest (drop p s) r → p ≤ place_of s r
rest-low s p r h a = let l : length r ≡ length (drop p s) - a.bytes = ap length a.is ∙ length-drop a.bytes (drop p s) in omega (arith, length-drop p s)

pub ended : {A : Type 0} (s : List ℕ) (p e : ℕ) (m : Res A) → p ≤ length s → Leaves (drop p s) m → walk_of s m ≡ Ok e → Ended s m p e
ended s p e (bad x) h l q = let z : ◌≡◌ {A = ℕ} 0 1 = cc in absurd (omega arith)
ended s p e (ok v r) h l q =
    let a : Rest (drop p s) r = l.rest v r refl in
    let z : place_of s r ≡ e = cc in
    record { v = v; is = ap (ok v) (sym (rest-place (rest_trans (rest-drop p s) a)) ∙ ap (λ (j : ℕ). drop j s) z); low = rw z at (rest-low s p r h a); high = omega arith }
