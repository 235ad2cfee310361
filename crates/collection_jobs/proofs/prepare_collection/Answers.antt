use Rattle.refusals.proofs.NumberLaws.{number-nonzero}
use Rattle.parts.specs.declared.Part.TheVariants.{First, Second, Number}
use native.Mathlib.Omega.{arith}
use Prim.Native.Nat.{◌+◌}
use mathlib.Core.Path.{refl, ap}
use mathlib.Core.List.{[], ◌∷◌}
use lib.ListN.{length}
use Rattle.image.specs.TableLaws.{tables_place}
use Rattle.machine.specs.Actions.{CollectionPrepared}
use Rattle.machine.specs.Next.{collection_prepared}
use Rattle.next.specs.Call.{refused_exit, done}
use Rattle.next.specs.declared.PublicationOutcome.{PublicationOutcome}
use Rattle.collection_jobs.specs.Prepare.{token, chosen_first, chosen_second, prepare-short, job_told, job-fits, prepare-refused, prepared, insert-fits, prepared-shows, prepared-small, prepared_body}
use Rattle.collection_jobs.proofs.prepare_collection.Goals as goal
use Rattle.collection_jobs.proofs.prepare_collection.Goals.{then-call, else-call}

pub input_stands-stands-requires : goal.input_stands-stands-requires
input_stands-stands-requires c = omega (arith, (prepare-short (c.requires)).1, ap length c.text_of-root.ensures)

pub returns-in_err-prepare_refusal : goal.returns-in_err-prepare_refusal
returns-in_err-prepare_refusal c = let r = c.requires in
    refused_exit r _ c.from_residual.ensures.1
    (prepare-refused r _ _ c.text_of-id.ensures c.text_of-root.ensures _ c.locate-place.ensures _ c.locate-spot.ensures _ c.row.ensures _ c.input_stands-stands.ensures _ c.in_err-prepare_refusal.ensures (number-nonzero _))

pub after_insert-more-requires : goal.after_insert-more-requires
after_insert-more-requires c = insert-fits (c.requires) _ _ c.text_of-id.ensures c.text_of-root.ensures _ c.locate-place.ensures _ c.saturating_sub.ensures

pub overflow_add-first : goal.overflow_add-first
overflow_add-first c = omega (arith, (prepare-short (c.requires)).0, ap length c.text_of-id.ensures)

pub overflow_add-rest : goal.overflow_add-rest
overflow_add-rest c = omega (arith, (prepare-short (c.requires)).0, ap length c.text_of-id.ensures)

pub emit-requires : goal.emit-requires
emit-requires c = let r = c.requires in
    (prepared-small r _ _ c.text_of-id.ensures c.text_of-root.ensures _ c.locate-place.ensures _ c.saturating_sub.ensures _ c.after_insert-more.ensures _ (elim c.if-call.branch [ then-call w ↦ chosen_first _ w.if-call.true w.collected-is | else-call w ↦ chosen_second _ w.if-call.false w.collected-is ]) _ c.raised-d.ensures, job-fits r)

pub returns : goal.returns
returns c = let r = c.requires in
    let a = c.args in
    let early = a.call.now.faults.advance_collection_without_publication in
    let id = length c.text_of-id.result.now in
    done r (collection_prepared r.state (token r) early) (CollectionPrepared (token r)) a.call.now.image.now _
    (First (tables_place a.call.now.contents.now) c.saturating_sub-ahead.result ∷ Second 27 (id + 1) ∷ Number a.call.now.context.generation 8 ∷ Number a.call.now.context.position.term 8 ∷ Number a.call.now.context.position.index 8 ∷ Second (id + 28) (length a.call.now.request.now) ∷ First c.locate-place.result.end (length a.call.now.image.now) ∷ [])
    a.call.now.image.now (PublicationOutcome.CollectionPrepared (job_told r))
    (prepared r _ _ c.text_of-id.ensures c.text_of-root.ensures _ c.locate-place.ensures _ c.locate-spot.ensures _ c.row.ensures _ c.input_stands-stands.ensures _ c.in_ok-prepare_refusal.ensures refl)
    (prepared-shows r _ _ c.text_of-id.ensures c.text_of-root.ensures _ c.locate-place.ensures _ c.saturating_sub.ensures _ c.after_insert-more.ensures _ (elim c.if-call.branch [ then-call w ↦ chosen_first _ w.if-call.true w.collected-is | else-call w ↦ chosen_second _ w.if-call.false w.collected-is ]) _ c.raised-d.ensures)
    (prepared_body r _ _ c.text_of-id.ensures c.text_of-root.ensures _ c.locate-place.ensures early _ c.saturating_sub-ahead.ensures)
    refl
    c.emit.ensures
