-- A byte says which of a list of cases follows: the fields of each, and what they make.
use Rattle.std.specs.Prelude.{ℕ, zero, suc, List, [], ◌∷◌}
use Rattle.fields.specs.Format.{Malformed, Res, ok, bad, bind, Field, El, enc, dec, Within}

pub record Case (A : Type 0) : Type 0 where
  pub shape : Field
  pub make : El shape → A

unfoldable pub read_case : {A : Type 0} → List (Case A) → ℕ → List ℕ → Res A
read_case [] k s = bad Malformed
read_case (c ∷ cs) zero s = bind (dec c.shape s) (λ v r. ok (c.make v) r)
read_case (c ∷ cs) (suc k) s = read_case cs k s

-- a case taken apart: its byte and its fields
pub record Parts : Type 0 where
  pub tag : ℕ
  pub shape : Field
  pub values : El shape

unfoldable pub write_parts : Parts → List ℕ
write_parts p = p.tag ∷ enc p.shape p.values

abbrev pub WithinParts : Parts → Type 0
WithinParts p = Within p.shape p.values
