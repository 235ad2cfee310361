-- The byte before an action's fields, and the case that it says.
use Rattle.std.specs.Prelude.{ℕ, zero, suc, ◌≡◌, ◌+◌, ◌≤◌, ◌<◌, refl, List, [], ◌∷◌, length, Ok, Err}
use Rattle.std.proofs.Common.{arith, ap, sym, ◌∙◌}
use Rattle.fields.specs.Format.{Malformed, bad}
use Rattle.fields.specs.Codes.{codes, walk}
use Rattle.image.specs.Contents.{whole}
use Rattle.requests.specs.Request.{read_fields}
use Rattle.requests.specs.Checked.{checked_of, action_case}
use Rattle.requests.specs.Tags.{byte_of, tags, tag_of, tag_in}
use Rattle.requests.proofs.CheckedLaws.{fields_checked, fields_none}
use Rattle.requests.specs.declared.ActionTag.{ActionTag}

-- cases whose bytes count up from n
abbrev Counted : ℕ → List ActionTag → Type 0
Counted n [] = Unit {0}
Counted n (t ∷ ts) = (byte_of t ≡ n) × Counted (suc n) ts

found : (ts : List ActionTag) (n k : ℕ) (t : ActionTag) → Counted n ts → tag_of ts k ≡ Ok t → (byte_of t ≡ n + k) × (k < length ts)
found [] n k t u h = cc
found (x ∷ ts) n zero t u h =
    let z : x ≡ t = cc in
    let b : byte_of t ≡ n = ap byte_of (sym z) ∙ u.0 in
    (omega arith, omega arith)
found (x ∷ ts) n (suc k) t u h =
    let (b, l) = found ts (suc n) k t u.1 h in
    (omega arith, omega arith)

missing : (ts : List ActionTag) (k e : ℕ) → tag_of ts k ≡ Err e → (Malformed ≡ e) × (length ts ≤ k)
missing [] k e h = let z : Malformed ≡ e = cc in (z, omega arith)
missing (x ∷ ts) zero e h = cc
missing (x ∷ ts) (suc k) e h = let (z, l) = missing ts k e h in (z, omega arith)

counted : Counted 1 tags
counted = (refl, (refl, (refl, (refl, (refl, (refl, (refl, (refl, (refl, (refl, (refl, (refl, (refl, (refl, (refl, (refl, (refl, tt)))))))))))))))))

-- a byte that is a case's, and what it is told of its fields
pub tag_checked : (b : ℕ) (t : ActionTag) (s : List ℕ) → tag_in b ≡ Ok t
    → (byte_of t ≡ b) × (checked_of (whole (walk 0 (codes (action_case (byte_of t)).shape) s)) ≡ checked_of (whole (read_fields b s)))
tag_checked zero t s h = cc
tag_checked (suc k) t s h =
    let (b, l) = found tags 1 k t counted h in
    let z : byte_of t ≡ suc k = omega arith in
    (z, ap (λ (n : ℕ). checked_of (whole (walk 0 (codes (action_case n).shape) s))) z ∙ fields_checked k s l)

-- a byte that is none
pub tag_none : (b e : ℕ) (s : List ℕ) → tag_in b ≡ Err e → read_fields b s ≡ bad e
unfolding read_fields
tag_none zero e s h = cc
tag_none (suc k) e s h = let (z, l) = missing tags k e h in fields_none (suc k) s (λ _. omega (arith, l)) ∙ ap bad z

-- 0 is none
pub tag_not_zero : (b : ℕ) (t : ActionTag) → tag_in b ≡ Ok t → b ≡ 0 → ⊥
tag_not_zero zero t h z = cc
tag_not_zero (suc k) t h z = omega arith
