use Rattle.text.proofs.Folds.{same_is}
use Rattle.text.proofs.same.Goals as goal

pub returns : goal.returns
returns c = cc (same_is c.args.a.now c.args.b.now)
