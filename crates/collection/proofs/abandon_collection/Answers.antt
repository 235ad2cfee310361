use Rattle.refusals.proofs.NumberLaws.{number-nonzero}
use Rattle.parts.specs.declared.Part.TheVariants.{First}
use mathlib.Core.Path.{refl}
use mathlib.Core.List.{[], ◌∷◌}
use lib.ListN.{length}
use Rattle.image.specs.TableLaws.{tables_place}
use Rattle.machine.specs.Actions.{Applied}
use Rattle.machine.specs.Next.{collection_abandoned}
use Rattle.requests.specs.Meaning.{text_of}
use Rattle.next.specs.Call.{refused_exit, done}
use Rattle.next.specs.declared.PublicationOutcome.{PublicationOutcome}
use Rattle.collection.specs.Abandon.{abandon_refused, abandoned, abandoned_shows, abandoned_small, abandoned_body}
use Rattle.collection.proofs.abandon_collection.Goals as goal

pub returns-in_err-abandon_refusal : goal.returns-in_err-abandon_refusal
returns-in_err-abandon_refusal c = let r = c.requires in
    refused_exit r _ c.from_residual.ensures.1
    (abandon_refused r _ c.text_of-id.ensures _ c.locate-place.ensures _ _ c.row-stored.ensures c.clip-shown.ensures _ c.in_err-abandon_refusal.ensures (number-nonzero _))

pub emit_applied-requires : goal.emit_applied-requires
emit_applied-requires c = abandoned_small c.requires _ c.text_of-id.ensures _ c.locate-place.ensures _ c.after_remove.ensures _ c.raised-d.ensures

pub returns : goal.returns
returns c = let r = c.requires in
    let a = c.args in
    done r (collection_abandoned r.state (text_of a.call.now.request.now a.a.now.job_id)) Applied a.call.now.image.now _
    (First (tables_place a.call.now.contents.now) c.saturating_sub-ahead.result ∷ First c.locate-place.result.end (length a.call.now.image.now) ∷ []) a.call.now.image.now PublicationOutcome.Applied
    (abandoned r _ c.text_of-id.ensures _ c.locate-place.ensures _ _ c.row-stored.ensures c.clip-shown.ensures _ c.in_ok-abandon_refusal.ensures refl)
    (abandoned_shows r _ c.text_of-id.ensures _ c.locate-place.ensures _ c.after_remove.ensures _ c.raised-d.ensures)
    (abandoned_body r _ c.text_of-id.ensures _ c.locate-place.ensures _ c.saturating_sub-ahead.ensures)
    refl
    c.emit_applied.ensures
