-- Rows, one after the other, each with a text at its head that stands after the one before it.
use Rattle.std.specs.Prelude.{ℕ, zero, suc, List, [], ◌∷◌, take, Option, Some}
use Rattle.state.specs.Maps.{Text}
use Rattle.fields.specs.Format.{Malformed, Res, ok, bind, check, after}
use Rattle.fields.specs.declared.Code.{Code}
use Rattle.fields.specs.Codes.{walk}

-- the text at the head: its length byte, and so many bytes or what there is of them
unfoldable pub text_here : List ℕ → Text
text_here [] = []
text_here (k ∷ s) = take k s

unfoldable pub walk_rows : List Code → ℕ → Option Text → List ℕ → Res (Unit {0})
walk_rows cs zero p s = ok tt s
walk_rows cs (suc n) p s = bind (walk 0 cs s) (λ _ r. check (after p (text_here s)) Malformed (walk_rows cs n (Some (text_here s)) r))
