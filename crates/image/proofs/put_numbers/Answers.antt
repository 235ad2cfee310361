use native.Mathlib.Omega.{arith}
use lib.ListN.{drop, length-drop}
use Rattle.parts.specs.Over.{going_start, going_more, going_done}
use Rattle.image.proofs.FrontSteps.{length-words, words_more, words-end}
use Rattle.image.proofs.put_numbers.Goals as goal

pub loop-n-init : goal.loop-n-init
loop-n-init c = going_start (omega (arith, length-words c.args.ns.now))

pub put_digits-p-requires : goal.put_digits-p-requires
put_digits-p-requires c = let l = c.loop-n in omega (arith, length-words (drop l.n-index c.args.ns.now), length-drop l.n-index c.args.ns.now)

pub loop-n-preserved : goal.loop-n-preserved
loop-n-preserved c = going_more c.loop-n.invariant _ _ (words_more c.args.ns.now c.loop-n.n-index c.loop-n-test.true) c.put_digits-p.ensures c.put_digits-p.auto.out

pub returns : goal.returns
returns c = going_done c.loop-n.invariant (words-end c.args.ns.now c.loop-n.n-index c.loop-n-test.false)
