use Rattle.refusals.proofs.NumberLaws.{number-nonzero}
use Rattle.parts.specs.declared.Part.TheVariants.{First, Second}
use native.Mathlib.Omega.{arith}
use Prim.Native.Nat.{◌+◌}
use mathlib.Core.Path.{refl, ap}
use mathlib.Core.List.{[], ◌∷◌}
use lib.ListN.{length}
use Rattle.image.specs.TableLaws.{tables_place}
use Rattle.machine.specs.Actions.{CollectionPublished}
use Rattle.machine.specs.Next.{collection_published}
use Rattle.next.specs.Call.{refused_exit, done}
use Rattle.next.specs.declared.PublicationOutcome.{PublicationOutcome}
use Rattle.collection_publish.specs.Publish.{receipt, publish-short, receipt-fits, publish-refused, published, name-fits, size_fits, insert-fits, published_shows, published_small, published_body}
use Rattle.collection_publish.proofs.publish_collection.Goals as goal

pub input_stands-stands-requires : goal.input_stands-stands-requires
input_stands-stands-requires c = omega (arith, (publish-short (c.requires)).1, ap length c.text_of-root.ensures)

pub publish_refusal-requires : goal.publish_refusal-requires
publish_refusal-requires c = (publish-short (c.requires)).0

pub returns-in_err-publish_refusal : goal.returns-in_err-publish_refusal
returns-in_err-publish_refusal c = let r = c.requires in
    refused_exit r _ c.from_residual.ensures.1
    (publish-refused r _ _ c.text_of-id.ensures c.text_of-root.ensures _ c.locate-spot.ensures _ c.locate-gone.ensures _ _ c.row-held.ensures c.row-stored.ensures _ c.input_stands-stands.ensures _ c.in_err-publish_refusal.ensures (number-nonzero _))

pub overflow_add-name : goal.overflow_add-name
overflow_add-name c = omega (arith, (publish-short (c.requires)).1, ap length c.text_of-root.ensures)

pub overflow_add-name-2 : goal.overflow_add-name-2
overflow_add-name-2 c = let r = c.requires in
    omega (arith, name-fits r _ _ c.text_of-id.ensures c.text_of-root.ensures _ c.locate-spot.ensures _ c.locate-gone.ensures _ c.skip_record-root_at.ensures _ c.row_at-token.ensures _ c.row_at-size.ensures, size_fits r _ _ c.text_of-id.ensures c.text_of-root.ensures _ c.locate-spot.ensures _ c.locate-gone.ensures _ c.skip_record-root_at.ensures _ c.row_at-token.ensures _ c.row_at-size.ensures)

pub after_insert-more-requires : goal.after_insert-more-requires
after_insert-more-requires c = insert-fits (c.requires) _ _ c.text_of-id.ensures c.text_of-root.ensures _ c.locate-spot.ensures _ c.locate-gone.ensures _ c.skip_record-root_at.ensures _ c.row_at-token.ensures _ c.row_at-size.ensures

pub emit-requires : goal.emit-requires
emit-requires c = let r = c.requires in
    (published_small r _ _ c.text_of-id.ensures c.text_of-root.ensures _ c.locate-spot.ensures _ c.locate-gone.ensures _ c.skip_record-root_at.ensures _ c.row_at-token.ensures _ c.row_at-size.ensures _ _ c.after_insert-more.ensures c.after_remove-left.ensures _ c.raised-d.ensures, receipt-fits r)

pub returns : goal.returns
returns c = let r = c.requires in
    let a = c.args in
    done r (collection_published r.state (receipt r).token (receipt r).output_manifest) (CollectionPublished (receipt r)) a.call.now.image.now _
    (First (tables_place a.call.now.contents.now) c.saturating_sub-ahead.result ∷ Second c.skip_record-root_at.result (length c.text_of-root.result.now + 1) ∷ Second (27 + length c.row_at-token.result.now) (length c.row_at-size.result.now) ∷ First c.locate-spot.result.end c.saturating_sub-between.result ∷ First c.locate-gone.result.end (length a.call.now.image.now) ∷ [])
    a.call.now.image.now (PublicationOutcome.CollectionPublished a.a.now)
    (published r _ _ c.text_of-id.ensures c.text_of-root.ensures _ c.locate-spot.ensures _ c.locate-gone.ensures _ _ c.row-held.ensures c.row-stored.ensures _ c.input_stands-stands.ensures _ c.in_ok-publish_refusal.ensures refl)
    (published_shows r _ _ c.text_of-id.ensures c.text_of-root.ensures _ c.locate-spot.ensures _ c.locate-gone.ensures _ c.skip_record-root_at.ensures _ c.row_at-token.ensures _ c.row_at-size.ensures _ _ c.after_insert-more.ensures c.after_remove-left.ensures _ c.raised-d.ensures)
    (published_body r _ _ c.text_of-id.ensures c.text_of-root.ensures _ c.locate-spot.ensures _ c.locate-gone.ensures _ c.skip_record-root_at.ensures _ c.row_at-token.ensures _ c.row_at-size.ensures _ _ c.saturating_sub-ahead.ensures c.saturating_sub-between.ensures)
    refl
    c.emit.ensures
