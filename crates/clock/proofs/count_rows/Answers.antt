use Prim.Native.Nat.{◌+◌}
use mathlib.Core.Path.{sym, subst}
use native.Mathlib.Omega.{arith}
use Rattle.clock.specs.Tallies.{Counted, counted_start, counted_on, counted-end}
use Rattle.clock.specs.declared.Tally.{Tally}
use Rattle.clock.proofs.count_rows.Goals as goal

pub loop-init : goal.loop-init
loop-init c = counted_start c.args.tick c.args.floor c.args.leases.bytes.now c.args.leases.at c.args.leases.left _ c.within-p.ensures

pub count_row-t-requires : goal.count_row-t-requires
count_row-t-requires c = (omega (arith, c.loop.invariant.ended_low, c.loop-test.true, c.requires.0), omega (arith, c.loop.invariant.size_low, c.loop.invariant.p_low, c.saturating_sub.ensures, c.skip_record-q.ensures, c.requires.1))

pub loop-preserved : goal.loop-preserved
loop-preserved c = subst (λ (t : Tally). Counted c.args.tick c.args.floor c.args.leases.bytes.now c.args.leases.at c.args.leases.left (c.loop.counter + 1) c.skip_record-q.result t) (sym c.count_row-t.ensures) (counted_on c.args.tick c.args.floor c.args.leases.bytes.now c.args.leases.at c.args.leases.left c.loop.counter c.loop.p c.loop.t c.loop.invariant _ _ _ _ c.loop-test.true c.is_due.ensures c.number_after.ensures c.skip_record-q.ensures c.saturating_sub.ensures)

pub returns : goal.returns
returns c = counted-end c.args.tick c.args.floor c.args.leases.bytes.now c.args.leases.at c.args.leases.left c.loop.counter c.loop.p c.loop.t c.loop.invariant c.loop-test.false
