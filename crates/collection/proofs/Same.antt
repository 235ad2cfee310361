-- The library's equality of two optional texts.
use Rattle.std.specs.Prelude.{ℕ, List, ◌≡◌, refl, Option, Some, None}
use Rattle.std.proofs.Common.{◌∙◌}
use Rattle.std.specs.Option.{option_eq, MatchOption, IsSomeAnd}
use Rattle.std.specs.Str.{bytes_eq}
use denote.Ref.{Bor}
use Rattle.text.proofs.Folds.{same_is}
use Rattle.image.specs.declared.TextAt.{TextAt}
use Rattle.requests.specs.Meaning.{text_of, maybe_text_of}
use Rattle.state.specs.Maps.{same, same_option}

abbrev Mapped : (TextAt → Bor (List ℕ) → Type 0) → Option TextAt → Option (Bor (List ℕ)) → Type 0
Mapped P t x = MatchOption t (x ≡ None) (λ v. IsSomeAnd x (P v))

-- P and Q are what is known of each text from the closure that cut it out
module _ (a b : List ℕ) {P Q : TextAt → Bor (List ℕ) → Type 0} (p : (v : TextAt) (r : Bor (List ℕ)) → P v r → r.now ≡ text_of a v) (q : (v : TextAt) (r : Bor (List ℕ)) → Q v r → r.now ≡ text_of b v) where
  pub maybe_same : (t u : Option TextAt) (x y : Option (Bor (List ℕ))) → Mapped P t x → Mapped Q u y
      → option_eq (λ (v w : Bor (List ℕ)). bytes_eq v.now w.now) x y ≡ same_option same (maybe_text_of a t) (maybe_text_of b u)
  maybe_same None None x y h k = rw (h, k) refl
  maybe_same None (Some u) x None h k = absurd k
  maybe_same None (Some u) x (Some y) h k = rw h refl
  maybe_same (Some t) None None y h k = absurd h
  maybe_same (Some t) None (Some x) y h k = rw k refl
  maybe_same (Some t) (Some u) None y h k = absurd h
  maybe_same (Some t) (Some u) (Some x) None h k = absurd k
  maybe_same (Some t) (Some u) (Some x) (Some y) h k = same_is x.now y.now ∙ (λ i. same (p t x h i) (q u y k i))
