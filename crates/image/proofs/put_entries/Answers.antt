use native.Mathlib.Omega.{arith}
use lib.ListN.{drop, length-drop}
use Rattle.parts.specs.Over.{going_start, going_more, going_done}
use Rattle.image.specs.Layout.{written}
use Rattle.image.proofs.ImagePartLaws.{length-entries}
use Rattle.image.specs.Opened.{measures_in}
use Rattle.image.proofs.FrontLaws.{length-measures}
use Rattle.image.proofs.FrontSteps.{light_at, entries-more, entries-end}
use Rattle.image.proofs.put_entries.Goals as goal

pub loop-t-init : goal.loop-t-init
loop-t-init c = let a = c.args in (omega arith, going_start (omega (arith, length-entries written.widths a.start (measures_in a.ts.now), length-measures a.ts.now)))

pub put_entry-p-requires : goal.put_entry-p-requires
put_entry-p-requires c = let l = c.loop-t in let ms = measures_in c.args.ts.now in let g = l.invariant.1 in omega (arith, length-entries written.widths l.place (drop l.t-index ms), length-drop l.t-index ms, length-measures c.args.ts.now)

pub overflow_add-place : goal.overflow_add-place
overflow_add-place c = omega (arith, light_at c.args.ts.now c.loop-t.t-index (omega arith) c.requires.light)

pub loop-t-preserved : goal.loop-t-preserved
loop-t-preserved c = let l = c.loop-t in (
  omega (arith, light_at c.args.ts.now l.t-index (omega arith) c.requires.light),
  going_more l.invariant.1 _ _ (entries-more c.args.ts.now l.t-index l.place (omega arith)) c.put_entry-p.ensures c.put_entry-p.auto.out,
)

pub returns : goal.returns
returns c = let l = c.loop-t in going_done l.invariant.1 (entries-end c.args.ts.now l.t-index l.place (omega arith))
