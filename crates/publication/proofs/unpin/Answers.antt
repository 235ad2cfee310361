use Rattle.refusals.proofs.NumberLaws.{number-nonzero}
use Rattle.parts.specs.declared.Part.TheVariants.{First}
use mathlib.Core.List.{[], ◌∷◌}
use mathlib.Core.Path.{refl}
use lib.ListN.{length}
use Rattle.image.specs.TableLaws.{tables_place}
use Rattle.machine.specs.Actions.{Applied}
use Rattle.machine.specs.Next.{unpinned}
use Rattle.requests.specs.Meaning.{text_of}
use Rattle.next.specs.Call.{refused_exit, done}
use Rattle.next.specs.declared.PublicationOutcome.{PublicationOutcome}
use Rattle.publication.specs.UnpinCall.{unpin-refused, unpin-taken, unpin-small, unpin-shows, unpin-tables}
use Rattle.publication.proofs.unpin.Goals as goal

pub returns-in_err-unpin_refusal : goal.returns-in_err-unpin_refusal
returns-in_err-unpin_refusal c = let r = c.requires in
    refused_exit r _ c.from_residual.ensures.1 (unpin-refused r _ c.text_of-id.ensures _ c.locate-p.ensures _ _ c.row.ensures c.clip-expected.ensures _ c.in_err-unpin_refusal.ensures (number-nonzero _))

pub emit_applied-requires : goal.emit_applied-requires
emit_applied-requires c = unpin-small c.requires _ c.text_of-id.ensures _ c.locate-p.ensures _ c.after_remove-after.ensures _ c.raised-d.ensures

pub returns : goal.returns
returns c = let r = c.requires in
    let a = c.args in
    let id = c.text_of-id in
    let place = c.locate-p in
    let ahead = c.saturating_sub in
    done r (unpinned r.state (text_of a.call.now.request.now a.a.now.pin_id)) Applied a.call.now.image.now _
    (First (tables_place a.call.now.contents.now) ahead.result ∷ First place.result.end (length a.call.now.image.now) ∷ []) a.call.now.image.now PublicationOutcome.Applied
    (unpin-taken r _ id.ensures _ place.ensures _ _ c.row.ensures c.clip-expected.ensures _ c.in_ok-unpin_refusal.ensures refl)
    (unpin-shows r _ id.ensures _ place.ensures _ c.after_remove-after.ensures _ c.raised-d.ensures)
    (unpin-tables r _ id.ensures _ place.ensures _ ahead.ensures)
    refl
    c.emit_applied.ensures
