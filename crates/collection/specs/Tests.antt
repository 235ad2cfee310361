-- The tests of ConfigureCollectionRoot and of AbandonCollection, over what the code has found.
use Rattle.std.specs.Prelude.{ℕ, Bool, not, List, [], ◌∷◌, eqb, length}
use Rattle.text.specs.Same.{same_of}
use Rattle.machine.specs.Tests.{Refusal, ◌when◌}

-- whether the root asked for is stored, whether the old one is as expected, and how many jobs there are
abbrev pub configure_tests : (root : List ℕ) (known expected : Bool) (jobs : ℕ) → List Refusal
configure_tests root known expected jobs =
    (2 when eqb (length root) 0)
    ∷ (2 when not known)
    ∷ (36 when not expected)
    ∷ (32 when not (eqb jobs 0))
    ∷ []

-- the row stored under the token's id, none where it is empty, and the token shown
abbrev pub abandon_tests : (stored shown : List ℕ) (owner generation : ℕ) → List Refusal
abandon_tests stored shown owner generation =
    (30 when eqb (length stored) 0)
    ∷ (31 when not (same_of stored shown))
    ∷ (6 when not (eqb owner generation))
    ∷ []
