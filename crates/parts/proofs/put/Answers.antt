use Rattle.std.proofs.Common.{refl, arith}
use lib.Seq.{paste-zero}
use Rattle.parts.proofs.Steps.{put_more, put_done}
use Rattle.parts.proofs.put.Goals as goal

pub loop-i-init : goal.loop-i-init
loop-i-init c = paste-zero c.args.out.now c.args.at c.args.x.now

pub loop-i-preserved : goal.loop-i-preserved
loop-i-preserved c = let l = c.loop-i in put_more c.args.out.now c.args.at c.args.x.now l.i l.out l.invariant (omega arith) c.loop-i-test.true

pub returns : goal.returns
returns c = let l = c.loop-i in record { place = refl; is = put_done c.args.out.now c.args.at c.args.x.now l.i l.out l.invariant l.auto.i-end c.loop-i-test.false }
