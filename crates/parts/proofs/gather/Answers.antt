use Rattle.parts.specs.Over.{going_start, going_more}
use Rattle.parts.specs.Gather.{gather_more}
use Rattle.parts.proofs.gather.Goals as goal

pub loop-part-init : goal.loop-part-init
loop-part-init c = going_start c.requires

pub loop-part-preserved : goal.loop-part-preserved
loop-part-preserved c = let l = c.loop-part in going_more l.invariant _ _ (gather_more _ _ _ _ c.loop-part-test.true) c.put-end.ensures c.put-end.auto.out
