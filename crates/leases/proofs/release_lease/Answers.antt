use Rattle.refusals.proofs.NumberLaws.{number-nonzero}
use Rattle.parts.specs.declared.Part.TheVariants.{First}
use mathlib.Core.Path.{refl, ap, ◌∙◌}
use mathlib.Core.List.{[], ◌∷◌}
use lib.ListN.{length}
use Rattle.image.specs.Layout.{leases}
use Rattle.image.specs.TableLaws.{tables_place}
use Rattle.machine.specs.Actions.{Applied}
use Rattle.machine.specs.Next.{released}
use Rattle.requests.specs.Meaning.{text_of}
use Rattle.image.specs.Rows.{rows_as}
use Rattle.next.specs.Call.{refused_exit, done}
use Rattle.next.specs.declared.PublicationOutcome.{PublicationOutcome}
use Rattle.edits.specs.PlaceLaws.{located_as, removed_tables}
use Rattle.leases.specs.Oldest.{oldest_kept}
use Rattle.leases.specs.Release.{release-refused, release-taken, release-small, release-shows}
use Rattle.leases.proofs.release_lease.Goals as goal

pub returns-in_err-release_refusal : goal.returns-in_err-release_refusal
returns-in_err-release_refusal c = let r = c.requires in
    let found = located_as leases c.text_of-id.ensures c.locate-p.ensures in
    refused_exit r _ c.from_residual.ensures.1 (release-refused r found c.row-row.ensures c.number_after-held.ensures c.in_err-release_refusal.ensures (number-nonzero _))

pub emit_applied-requires : goal.emit_applied-requires
emit_applied-requires c = let found = located_as leases c.text_of-id.ensures c.locate-p.ensures in release-small c.requires found c.after_remove.ensures

pub returns : goal.returns
returns c = let r = c.requires in
    let a = c.args in
    let place = c.locate-p.result in
    let found = located_as leases c.text_of-id.ensures c.locate-p.ensures in
    done r (released r.state (text_of a.call.now.request.now a.a.now.lease_id) a.call.now.faults.omit_lease_root_epoch) Applied a.call.now.image.now _
    (First (tables_place a.call.now.contents.now) c.saturating_sub.result ∷ First place.end (length a.call.now.image.now) ∷ []) a.call.now.image.now PublicationOutcome.Applied
    (release-taken r found c.row-row.ensures c.number_after-held.ensures c.in_ok-release_refusal.ensures refl)
    (release-shows r found c.after_remove.ensures c.text_of-id.ensures c.up.ensures c.up_unless.ensures c.policy_for-policy.ensures (c.oldest_without-candidate.ensures ∙ ap (oldest_kept _ _) (rows_as c.rows.ensures)) c.readable_for.ensures)
    (removed_tables r.holds r.formed leases found a.call.now.request.now _ c.saturating_sub.ensures) refl c.emit_applied.ensures
