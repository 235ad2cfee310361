-- Tests in order, the first that holds refusing: what the refusals of an action's code are stated by.
use Rattle.std.specs.Prelude.{ℕ, List, [], ◌∷◌, Bool, cond}

infix 10 ◌when◌
pub data Refusal : Type 0 where
  ◌when◌ : ℕ → Bool → Refusal

-- 0 where none refuses
unfoldable pub first_of : List Refusal → ℕ
first_of [] = 0
first_of ((n when b) ∷ ts) = cond b n (first_of ts)
