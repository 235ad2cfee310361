use Rattle.text.proofs.Folds.{prefix_is}
use Rattle.text.proofs.starts_with.Goals as goal

pub returns : goal.returns
returns c = cc (prefix_is c.args.prefix.now c.args.s.now)
