use Rattle.refusals.proofs.NumberLaws.{number-nonzero}
use Rattle.parts.specs.declared.Part.TheVariants.{First, Second, Number}
use Prim.Native.Nat.{◌+◌}
use native.Mathlib.Omega.{arith}
use mathlib.Core.List.{[], ◌∷◌}
use mathlib.Core.Path.{refl}
use lib.ListN.{length}
use Rattle.image.specs.TableLaws.{tables_place}
use Rattle.machine.specs.Actions.{DeleteReserved}
use Rattle.machine.specs.Next.{reserved}
use Rattle.next.specs.Call.{refused_exit, done}
use Rattle.next.specs.declared.PublicationOutcome.{PublicationOutcome}
use Rattle.deletion.specs.ReserveCall.{permit_made, permit_told, reserve-refused, reserve-taken, plan_short, reserve-room, permit-fits, reserve-tables, reserve-shows, reserve-small}
use Rattle.deletion.proofs.reserve_delete.Goals as goal

pub returns-in_err-reserve_refusal : goal.returns-in_err-reserve_refusal
returns-in_err-reserve_refusal c = let r = c.requires in
    refused_exit r _ c.from_residual.ensures.1 (reserve-refused r _ _ c.text_of-key.ensures c.locate-place.ensures _ c.in_err-reserve_refusal.ensures (number-nonzero _))

pub overflow_add-plan_size : goal.overflow_add-plan_size
overflow_add-plan_size c = omega (arith, plan_short c.requires _ c.text_of-plan.ensures)

pub overflow_add-start : goal.overflow_add-start
overflow_add-start c = omega (arith, plan_short c.requires _ c.text_of-plan.ensures)

pub overflow_add-size : goal.overflow_add-size
overflow_add-size c = omega (arith, (reserve-room c.requires _ c.text_of-plan.ensures _ c.saturating_sub-size.ensures).2)

pub overflow_add-size-2 : goal.overflow_add-size-2
overflow_add-size-2 c = omega (arith, (reserve-room c.requires _ c.text_of-plan.ensures _ c.saturating_sub-size.ensures).2)

pub after_insert-after-requires : goal.after_insert-after-requires
after_insert-after-requires c = reserve-room c.requires _ c.text_of-plan.ensures _ c.saturating_sub-size.ensures

pub emit-requires : goal.emit-requires
emit-requires c = let r = c.requires in
    (reserve-small r _ c.text_of-plan.ensures _ c.saturating_sub-size.ensures _ _ c.text_of-key.ensures c.locate-place.ensures _ c.after_insert-after.ensures _ c.revised-d.ensures, permit-fits r _ c.text_of-plan.ensures _ c.saturating_sub-size.ensures)

pub returns : goal.returns
returns c = let r = c.requires in
    let a = c.args in
    let plan_size = 1 + length c.text_of-plan.result.now in
    let g = a.call.now.context.generation in
    let p = a.call.now.context.position in
    done r (reserved r.state (permit_made r)) (DeleteReserved (permit_made r)) a.call.now.image.now _
    (First (tables_place a.call.now.contents.now) c.saturating_sub.result ∷ Second (35 + plan_size) c.saturating_sub-size.result ∷ Second 27 plan_size ∷ Number g 8 ∷ Number p.term 8 ∷ Number p.index 8 ∷ First c.locate-place.result.end (length a.call.now.image.now) ∷ [])
    a.call.now.image.now (PublicationOutcome.DeleteReserved (permit_told r))
    (reserve-taken r _ _ c.text_of-key.ensures c.locate-place.ensures _ c.in_ok-reserve_refusal.ensures refl)
    (reserve-shows r _ c.text_of-plan.ensures _ c.saturating_sub-size.ensures _ _ c.text_of-key.ensures c.locate-place.ensures _ c.after_insert-after.ensures _ c.revised-d.ensures)
    (reserve-tables r _ c.text_of-plan.ensures _ c.saturating_sub-size.ensures _ _ c.text_of-key.ensures c.locate-place.ensures _ c.saturating_sub.ensures)
    refl
    c.emit.ensures
