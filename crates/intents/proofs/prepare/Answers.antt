use Rattle.refusals.proofs.NumberLaws.{number-nonzero}
use Rattle.parts.specs.declared.Part.TheVariants.{First, Second, Number}
use Prim.Native.Nat.{◌+◌}
use native.Mathlib.Omega.{arith}
use mathlib.Core.List.{[], ◌∷◌}
use mathlib.Core.Path.{refl}
use lib.ListN.{length}
use Rattle.image.specs.TableLaws.{tables_place}
use Rattle.machine.specs.Actions.{Applied}
use Rattle.machine.specs.Next.{intent_prepared}
use Rattle.requests.specs.Meaning.{text_of}
use Rattle.next.specs.Call.{refused_exit, done}
use Rattle.next.specs.declared.PublicationOutcome.{PublicationOutcome}
use Rattle.intents.specs.PrepareCall.{record_of, prepare-refused, prepare-taken, prepare-room, prepare-small, prepare-shows, prepare-tables}
use Rattle.intents.proofs.prepare.Goals as goal

pub returns-in_err-prepare_refusal : goal.returns-in_err-prepare_refusal
returns-in_err-prepare_refusal c = let r = c.requires in
    refused_exit r _ c.from_residual.ensures.1 (prepare-refused r _ c.text_of-id.ensures _ c.locate-p.ensures _ c.in_err-prepare_refusal.ensures (number-nonzero _))

pub overflow_add-bytes-2 : goal.overflow_add-bytes-2
overflow_add-bytes-2 c = omega (arith, (prepare-room c.requires _ c.text_of-id.ensures _ c.locate-p.ensures _ c.saturating_sub.ensures).2)

pub after_insert-after-requires : goal.after_insert-after-requires
after_insert-after-requires c = prepare-room c.requires _ c.text_of-id.ensures _ c.locate-p.ensures _ c.saturating_sub.ensures

pub emit_applied-requires : goal.emit_applied-requires
emit_applied-requires c = prepare-small c.requires _ c.text_of-id.ensures _ c.locate-p.ensures _ c.saturating_sub.ensures _ c.after_insert-after.ensures _ c.raised-d.ensures

pub returns : goal.returns
returns c = let r = c.requires in
    let a = c.args in
    let id = c.text_of-id in
    let place = c.locate-p in
    let ahead = c.saturating_sub-2 in
    let first = length id.result.now + 1 in
    done r (intent_prepared r.state (text_of a.call.now.request.now a.a.now.publication_id) (record_of r)) Applied a.call.now.image.now _
    (First (tables_place a.call.now.contents.now) ahead.result ∷ Second 27 first ∷ Number a.call.now.context.generation 8 ∷ Second (27 + first) (length a.call.now.request.now) ∷ First place.result.end (length a.call.now.image.now) ∷ [])
    a.call.now.image.now PublicationOutcome.Applied
    (prepare-taken r _ id.ensures _ place.ensures _ c.in_ok-prepare_refusal.ensures refl)
    (prepare-shows r _ id.ensures _ place.ensures _ c.saturating_sub.ensures _ c.after_insert-after.ensures _ c.raised-d.ensures)
    (prepare-tables r _ id.ensures _ place.ensures _ ahead.ensures)
    refl
    c.emit_applied.ensures
