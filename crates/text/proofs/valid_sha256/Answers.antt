use Rattle.std.proofs.Common.{refl, rules, length, eq-eqb, ne_eqb}
use Rattle.text.specs.Same.{hex_of, all_hex, sha256_of}
use Rattle.text.proofs.Folds.{all_told}
use Rattle.text.proofs.valid_sha256.Goals as goal

pub returns-then-s-eq64 : goal.returns-then-s-eq64
unfolding sha256_of all_hex
returns-then-s-eq64 c =
    simp (eq-eqb (length c.args.s.now) 64 c.if-s-eq64.true)
    (all_told _ _ hex_of all_hex refl (λ _ _. refl) (λ a x b f' k. search rules) c.iter.result c.args.s.now c.iter.ensures.rest c.fold.result c.fold.ensures.ran)

pub returns-else-s-eq64 : goal.returns-else-s-eq64
unfolding sha256_of
returns-else-s-eq64 c = simp (ne_eqb _ _ c.if-s-eq64.false)
