use mathlib.Core.Path.{refl, ap, sym, ◌∙◌}
use lib.Seq.{length-take-le}
use Rattle.refusals.proofs.NumberLaws.{number-nonzero}
use Prim.Native.Nat.{◌+◌}
use lib.ListN.{take, length}
use native.Mathlib.Omega.{arith}
use Rattle.machine.specs.Actions.{LeasesExpired}
use Rattle.machine.specs.Next.{expired, clock_advanced}
use Rattle.next.specs.Added.{front-gathers}
use Rattle.next.specs.Call.{refused_exit, done}
use Rattle.next.specs.declared.PublicationOutcome.{PublicationOutcome}
use Rattle.clock.specs.Advance.{advance-refused, advance-taken, ended_of, count_low, advance-small, advance_stand, advance-told, advance-tables, advance-shows, either-first, either_second}
use Rattle.clock.proofs.advance_lease_clock.Goals as goal
use Rattle.clock.proofs.advance_lease_clock.Goals.{then-call, else-call}

pub returns-in_err-advance_refusal : goal.returns-in_err-advance_refusal
returns-in_err-advance_refusal c = let r = c.requires in refused_exit r _ c.from_residual.ensures.1 (advance-refused r c.in_err-advance_refusal.ensures (number-nonzero _))

pub count_rows-t-requires : goal.count_rows-t-requires
count_rows-t-requires c = let r = c.requires in (omega (arith, count_low r, c.rows.ensures.left), omega (arith, r.short, ap length c.rows.ensures.bytes))

pub body_parts-body-requires : goal.body_parts-body-requires
body_parts-body-requires c = count_low c.requires

pub overflow_add-body : goal.overflow_add-body
overflow_add-body c = omega (arith, count_low c.requires)

pub slice_bounds-body-end : goal.slice_bounds-body-end
slice_bounds-body-end c = omega (arith, count_low c.requires)

pub slice_bounds-change-end : goal.slice_bounds-change-end
slice_bounds-change-end c = let n = count_low c.requires in sym (length-take-le _ _ (omega arith))

pub emit-requires : goal.emit-requires
emit-requires c = let r = c.requires in
    let rows = c.rows.ensures in
    (advance-small r (rw (rows.bytes, rows.at, rows.left) at c.count_rows-t.ensures) c.saturating_sub.ensures, advance_stand r)

pub returns : goal.returns
returns c = let r = c.requires in
    let a = c.args in
    let rows = c.rows.ensures in
    let body = c.body_parts-body in
    let count = (ended_of a.call.now.contents.now a.a.now.next_tick).count in
    done r (clock_advanced r.state a.a.now.next_tick a.call.now.faults.omit_lease_root_epoch) (LeasesExpired (expired r.state a.a.now.next_tick)) a.call.now.image.now _
    (take (count + 2) body.result) a.call.now.image.now (PublicationOutcome.LeasesExpired (ended_of a.call.now.contents.now a.a.now.next_tick))
    (advance-taken r c.in_ok-advance_refusal.ensures refl)
    (advance-shows r (rw (rows.bytes, rows.at, rows.left) at c.count_rows-t.ensures) c.saturating_sub.ensures c.policy_for-policy.ensures c.up_unless-2.ensures c.up_unless.ensures (elim c.if-call.branch [ then-call w ↦ either-first _ w.if-call.true w.up_unless-is | else-call w ↦ either_second w.if-call.false w.up_unless-is ]) c.readable_for.ensures)
    (front-gathers a.call.now.image.now a.call.now.request.now (count + 2) (omega arith) body.ensures.filled ∙ advance-tables r body.ensures.body_is)
    (advance-told r)
    c.emit.ensures
