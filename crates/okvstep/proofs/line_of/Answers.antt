use Rattle.image.proofs.Default.{default-contents}
use Rattle.okvstep.proofs.Steps.{line_is}
use Rattle.okvstep.proofs.line_of.Goals as goal

pub returns : goal.returns
returns c = line_is c.args.step c.args.status _ _ default-contents c.args.image.now _ c.open.ensures c.unwrap_or_default.ensures
