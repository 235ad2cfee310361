use Rattle.refusals.proofs.NumberLaws.{number-nonzero}
use Rattle.parts.specs.declared.Part.TheVariants.{First}
use mathlib.Core.List.{[], ◌∷◌}
use mathlib.Core.Path.{refl}
use lib.ListN.{length}
use Rattle.image.specs.TableLaws.{tables_place}
use Rattle.machine.specs.Actions.{Applied}
use Rattle.machine.specs.Next.{retired}
use Rattle.requests.specs.Meaning.{text_of}
use Rattle.next.specs.Call.{refused_exit, done}
use Rattle.next.specs.declared.PublicationOutcome.{PublicationOutcome}
use Rattle.deletion.specs.RetireCall.{retire-refused, retire-taken, retire-small, retire-shows, retire-tables}
use Rattle.deletion.proofs.retire_delete.Goals as goal

pub returns-in_err-retire_refusal : goal.returns-in_err-retire_refusal
returns-in_err-retire_refusal c = let r = c.requires in
    refused_exit r _ c.from_residual.ensures.1 (retire-refused r _ _ c.text_of-key.ensures c.locate-place.ensures _ c.row.ensures _ c.in_err-retire_refusal.ensures (number-nonzero _))

pub emit_applied-requires : goal.emit_applied-requires
emit_applied-requires c = retire-small c.requires _ _ c.text_of-key.ensures c.locate-place.ensures _ c.after_remove-after.ensures _ c.revised-d.ensures

pub returns : goal.returns
returns c = let r = c.requires in
    let a = c.args in
    done r (retired r.state (text_of a.call.now.request.now a.a.now.key)) Applied a.call.now.image.now _
    (First (tables_place a.call.now.contents.now) c.saturating_sub.result ∷ First c.locate-place.result.end (length a.call.now.image.now) ∷ []) a.call.now.image.now PublicationOutcome.Applied
    (retire-taken r _ _ c.text_of-key.ensures c.locate-place.ensures _ c.row.ensures _ c.in_ok-retire_refusal.ensures refl)
    (retire-shows r _ _ c.text_of-key.ensures c.locate-place.ensures _ c.after_remove-after.ensures _ c.revised-d.ensures)
    (retire-tables r _ _ c.text_of-key.ensures c.locate-place.ensures _ c.saturating_sub.ensures)
    refl
    c.emit_applied.ensures
