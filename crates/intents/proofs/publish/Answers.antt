use Rattle.refusals.proofs.NumberLaws.{number-nonzero}
use Rattle.parts.specs.declared.Part.TheVariants.{First, Second}
use Prim.Native.Nat.{◌+◌}
use native.Mathlib.Omega.{arith}
use mathlib.Core.List.{[], ◌∷◌}
use mathlib.Core.Path.{refl}
use lib.ListN.{length}
use Rattle.image.specs.TableLaws.{tables_place}
use Rattle.machine.specs.Actions.{Applied}
use Rattle.machine.specs.Next.{root_published}
use Rattle.requests.specs.Meaning.{text_of, reference_of}
use Rattle.next.specs.Call.{refused_exit, done}
use Rattle.next.specs.declared.PublicationOutcome.{PublicationOutcome}
use Rattle.intents.specs.PublishCall.{name_bounds, given_bounds, publish-refused, publish-taken, publish-room, publish-small, publish-shows, publish-tables}
use Rattle.intents.proofs.publish.Goals as goal

pub overflow_add-first-3 : goal.overflow_add-first-3
overflow_add-first-3 c = let b = name_bounds c.requires _ c.text_of-id.ensures _ c.text_of-root.ensures in omega (arith, b.0, b.1)

pub overflow_add-m-2 : goal.overflow_add-m-2
overflow_add-m-2 c = let b = name_bounds c.requires _ c.text_of-id.ensures _ c.text_of-root.ensures in omega (arith, b.0, b.1)

pub overflow_add-m-3 : goal.overflow_add-m-3
overflow_add-m-3 c = let b = name_bounds c.requires _ c.text_of-id.ensures _ c.text_of-root.ensures in
    let g = given_bounds c.requires _ c.text_of-id.ensures _ c.text_of-root.ensures _ c.option_at-prior.ensures in
    omega (arith, b.0, b.1, g.0)

pub returns-in_err-publish_refusal : goal.returns-in_err-publish_refusal
returns-in_err-publish_refusal c = let r = c.requires in
    refused_exit r _ c.from_residual.ensures.1
    (publish-refused r _ c.text_of-id.ensures _ c.text_of-root.ensures _ c.option_at-prior.ensures _ c.locate-p.ensures _ c.locate-o.ensures _ _ _ _
    c.row-stored.ensures c.clip-rest.ensures c.clip-shown.ensures c.row.ensures _ c.in_err-publish_refusal.ensures (number-nonzero _))

pub overflow_add-bytes : goal.overflow_add-bytes
overflow_add-bytes c = omega (arith, (publish-room c.requires _ c.text_of-id.ensures _ c.text_of-root.ensures _ c.option_at-prior.ensures _ c.locate-p.ensures _ c.locate-o.ensures _ c.saturating_sub.ensures).2)

pub after_insert-more-requires : goal.after_insert-more-requires
after_insert-more-requires c = publish-room c.requires _ c.text_of-id.ensures _ c.text_of-root.ensures _ c.option_at-prior.ensures _ c.locate-p.ensures _ c.locate-o.ensures _ c.saturating_sub.ensures

pub emit_applied-requires : goal.emit_applied-requires
emit_applied-requires c = publish-small c.requires _ c.text_of-id.ensures _ c.text_of-root.ensures _ c.option_at-prior.ensures _ c.locate-p.ensures _ c.locate-o.ensures _ c.saturating_sub.ensures _ _ c.after_remove-fewer.ensures c.after_insert-more.ensures _ c.raised-d.ensures

pub returns : goal.returns
returns c = let r = c.requires in
    let a = c.args in
    let id = c.text_of-id in
    let root = c.text_of-root in
    let prior = c.option_at-prior in
    let p = c.locate-p in
    let o = c.locate-o in
    let ahead = c.saturating_sub-2 in
    let between = c.saturating_sub-3 in
    let first = length id.result.now + 1 in
    let second = length root.result.now + 1 in
    let m = 27 + first + second + length prior.result.now in
    done r (root_published r.state (text_of a.call.now.request.now a.a.now.publication_id) (text_of a.call.now.request.now a.a.now.destination_root) (reference_of a.call.now.request.now a.a.now.manifest)) Applied a.call.now.image.now _
    (First (tables_place a.call.now.contents.now) ahead.result ∷ First p.result.end between.result ∷ Second (27 + first) second ∷ Second m (length a.call.now.request.now) ∷ First o.result.end (length a.call.now.image.now) ∷ [])
    a.call.now.image.now PublicationOutcome.Applied
    (publish-taken r _ id.ensures _ root.ensures _ prior.ensures _ p.ensures _ o.ensures _ _ _ _
    c.row-stored.ensures c.clip-rest.ensures c.clip-shown.ensures c.row.ensures _ c.in_ok-publish_refusal.ensures refl)
    (publish-shows r _ id.ensures _ root.ensures _ prior.ensures _ p.ensures _ o.ensures _ c.saturating_sub.ensures _ _ c.after_remove-fewer.ensures c.after_insert-more.ensures _ c.raised-d.ensures)
    (publish-tables r _ id.ensures _ root.ensures _ prior.ensures _ p.ensures _ o.ensures _ _ ahead.ensures between.ensures)
    refl
    c.emit_applied.ensures
