use Rattle.std.proofs.Common.{refl, rules, leb}
use Rattle.text.specs.Utf8.{ascii}
use Rattle.text.proofs.Folds.{all_told}
use Rattle.text.proofs.is_ascii.Goals as goal

pub returns : goal.returns
unfolding ascii
returns c =
    all_told _ _ (λ x. leb x 0x7F) ascii refl (λ _ _. refl) (λ a x b f' k. search rules) c.iter.result c.args.s.now c.iter.ensures.rest c.fold.result c.fold.ensures.ran
