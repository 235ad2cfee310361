use Rattle.okvstep.proofs.Steps.{kept}
use Rattle.okvstep.proofs.keep.Goals as goal

pub returns : goal.returns
returns c = kept c.args.image.now c.args.next.now _ c.args.n _ c.min-n.ensures c.copy_from_slice.ensures.after
