-- What a row holds after its first bytes.
use Prim.Native.Nat.{ℕ}
use native.Mathlib.Omega.{arith}
use mathlib.Core.List.{List}
use mathlib.Core.Path.{◌≡◌, ap, ◌∙◌}
use mathlib.Core.Bool.{Bool}
use lib.ListN.{length, take, drop, length-drop}
use lib.Seq.{take_all}
use Rattle.text.specs.Same.{same_of}

pub holds-is : (row : List ℕ) (first : ℕ) (part bytes : List ℕ) (b : Bool) → part ≡ take (length row) (drop first row) → b ≡ same_of part bytes → b ≡ same_of (drop first row) bytes
holds-is row first part bytes b ep eb = eb ∙ ap (λ (l : List ℕ). same_of l bytes) (ep ∙ take_all (length row) (drop first row) (omega (arith, length-drop first row)))
