use Rattle.refusals.proofs.NumberLaws.{number-nonzero}
use Rattle.parts.specs.declared.Part.TheVariants.{First, Second}
use Prim.Native.Nat.{◌+◌}
use native.Mathlib.Omega.{arith}
use mathlib.Core.List.{[], ◌∷◌}
use mathlib.Core.Path.{refl}
use lib.ListN.{length}
use Rattle.image.specs.TableLaws.{tables_place}
use Rattle.machine.specs.Actions.{Applied}
use Rattle.machine.specs.Next.{pinned}
use Rattle.requests.specs.Meaning.{text_of, reference_of}
use Rattle.next.specs.Call.{refused_exit, done}
use Rattle.next.specs.declared.PublicationOutcome.{PublicationOutcome}
use Rattle.publication.specs.PinCall.{pin_bounds, pin-refused, pin-taken, pin-room, pin-small, pin-shows, pin-tables}
use Rattle.publication.proofs.pin.Goals as goal

pub returns-in_err-pin_refusal : goal.returns-in_err-pin_refusal
returns-in_err-pin_refusal c = let r = c.requires in
    refused_exit r _ c.from_residual.ensures.1 (pin-refused r _ c.text_of-id.ensures _ c.locate-p.ensures _ c.option_at-expected.ensures _ c.row.ensures _ c.in_err-pin_refusal.ensures (number-nonzero _))

pub overflow_add-m-2 : goal.overflow_add-m-2
overflow_add-m-2 c = let b = pin_bounds c.requires _ c.text_of-id.ensures _ c.locate-p.ensures _ c.option_at-expected.ensures in
    omega (arith, b.0, b.1)

pub overflow_add-bytes : goal.overflow_add-bytes
overflow_add-bytes c = omega (arith, (pin-room c.requires _ c.text_of-id.ensures _ c.locate-p.ensures _ c.option_at-expected.ensures _ c.saturating_sub.ensures).2)

pub after_insert-after-requires : goal.after_insert-after-requires
after_insert-after-requires c = pin-room c.requires _ c.text_of-id.ensures _ c.locate-p.ensures _ c.option_at-expected.ensures _ c.saturating_sub.ensures

pub emit_applied-requires : goal.emit_applied-requires
emit_applied-requires c = pin-small c.requires _ c.text_of-id.ensures _ c.locate-p.ensures _ c.option_at-expected.ensures _ c.saturating_sub.ensures _ c.after_insert-after.ensures _ c.raised-d.ensures

pub returns : goal.returns
returns c = let r = c.requires in
    let a = c.args in
    let id = c.text_of-id in
    let place = c.locate-p in
    let expected = c.option_at-expected in
    let ahead = c.saturating_sub-2 in
    let first = length id.result.now + 1 in
    let m = 27 + first + length expected.result.now in
    done r (pinned r.state (text_of a.call.now.request.now a.a.now.pin_id) (reference_of a.call.now.request.now a.a.now.manifest)) Applied a.call.now.image.now _
    (First (tables_place a.call.now.contents.now) ahead.result ∷ Second 27 first ∷ Second m (length a.call.now.request.now) ∷ First place.result.end (length a.call.now.image.now) ∷ []) a.call.now.image.now PublicationOutcome.Applied
    (pin-taken r _ id.ensures _ place.ensures _ expected.ensures _ c.row.ensures _ c.in_ok-pin_refusal.ensures refl)
    (pin-shows r _ id.ensures _ place.ensures _ expected.ensures _ c.saturating_sub.ensures _ c.after_insert-after.ensures _ c.raised-d.ensures)
    (pin-tables r _ id.ensures _ place.ensures _ expected.ensures _ ahead.ensures)
    refl
    c.emit_applied.ensures
