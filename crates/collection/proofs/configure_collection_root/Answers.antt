use Rattle.refusals.proofs.NumberLaws.{number-nonzero}
use Rattle.parts.specs.declared.Part.TheVariants.{First}
use mathlib.Core.Path.{refl, ◌∙◌}
use mathlib.Core.List.{[], ◌∷◌}
use lib.ListN.{length}
use Rattle.image.specs.TableLaws.{tables_place}
use Rattle.machine.specs.Actions.{Applied}
use Rattle.machine.specs.Next.{root_configured}
use Rattle.requests.specs.Meaning.{text_of}
use Rattle.next.specs.Call.{refused_exit, done}
use Rattle.next.specs.Kept.{whole-tables}
use Rattle.next.specs.declared.PublicationOutcome.{PublicationOutcome}
use Rattle.collection.specs.Configure.{root_located, configure-refused, configured, configured_shows, configured_small}
use Rattle.collection.proofs.configure_collection_root.Goals as goal

pub returns-in_err-configure_refusal : goal.returns-in_err-configure_refusal
returns-in_err-configure_refusal c = let r = c.requires in
    refused_exit r _ c.from_residual.ensures.1
    (configure-refused r _ c.text_of-root.ensures _ _ (c.located-known.ensures ∙ root_located c.rows.ensures _) c.same_maybe-same.ensures _ c.in_err-configure_refusal.ensures (number-nonzero _))

pub emit-requires : goal.emit-requires
emit-requires c = (configured_small c.requires _ c.text_of-root.ensures _ c.saturating_sub.ensures _ c.raised-raised.ensures, tt)

pub returns : goal.returns
returns c = let r = c.requires in
    let a = c.args in
    done r (root_configured r.state (text_of a.call.now.request.now a.a.now.destination_root)) Applied a.call.now.request.now c.raised-raised.result
    (First (tables_place a.call.now.contents.now) (length a.call.now.image.now) ∷ []) a.call.now.image.now PublicationOutcome.Applied
    (configured r _ c.text_of-root.ensures _ _ (c.located-known.ensures ∙ root_located c.rows.ensures _) c.same_maybe-same.ensures _ c.in_ok-configure_refusal.ensures refl)
    (configured_shows r _ c.text_of-root.ensures _ c.saturating_sub.ensures _ c.raised-raised.ensures)
    (whole-tables r.holds a.call.now.request.now)
    refl
    c.emit.ensures
