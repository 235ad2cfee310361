use Rattle.std.proofs.Common.{◌∙◌}
use Rattle.text.proofs.Folds.{ends_is}
use Rattle.text.proofs.ends_with_byte.Goals as goal

pub returns : goal.returns
returns c = c.eq.ensures ∙ ends_is c.last.result _ c.args.s.now c.last.ensures.value
