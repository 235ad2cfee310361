use mathlib.Core.Bool.{cond}
use mathlib.Core.List.{[]}
use native.Mathlib.Omega.{arith}
use lib.ListN.{drop}
use Rattle.expiry.specs.Due.{due}
use Rattle.next.specs.Added.{adding_start, adding_on, adding_end}
use Rattle.clock.specs.Due.{row_of, kept_bytes}
use Rattle.clock.specs.Parts.{kept_more, kept_run, kept-none}
use Rattle.clock.proofs.stays.Goals as goal

pub loop-i-init : goal.loop-i-init
loop-i-init c = adding_start (kept_bytes c.args.tick) 1 c.args.leases.bytes.now c.args.leases.at c.args.leases.left c.args.parts.now _ c.within-p.ensures c.requires.2

pub loop-i-preserved : goal.loop-i-preserved
loop-i-preserved c = adding_on (kept_bytes c.args.tick) 1 c.args.leases.bytes.now c.args.leases.at c.args.leases.left c.args.parts.now c.loop-i.i c.loop-i.p c.loop-i.parts c.loop-i.invariant _ _ (cond (due c.args.tick (drop c.loop-i.p c.args.leases.bytes.now)) [] (row_of (drop c.loop-i.p c.args.leases.bytes.now)))
    (kept_more c.args.tick (drop c.loop-i.p c.args.leases.bytes.now))
    (kept_run c.args.tick c.args.leases.bytes.now c.loop-i.p _ _ _ _ c.loop-i.invariant.p_low c.is_due-gone.ensures c.skip_record-q.ensures c.saturating_sub.ensures c.len_unless.ensures)
    c.loop-i-test.true c.skip_record-q.ensures (omega (arith, c.requires.0, c.requires.1))

pub shape_of-parts : goal.shape_of-parts
shape_of-parts c = c.loop-i.invariant.long

pub returns : goal.returns
returns c = adding_end (kept_bytes c.args.tick) 1 c.args.leases.bytes.now c.args.leases.at c.args.leases.left c.args.parts.now c.loop-i.i c.loop-i.p c.loop-i.parts c.loop-i.invariant (kept-none c.args.tick) c.loop-i-test.false
