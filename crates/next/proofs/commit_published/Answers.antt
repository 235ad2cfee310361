use Rattle.std.proofs.Common.{refl, ap, ◌∙◌}
use Rattle.parts.specs.Gather.{gather_of}
use Rattle.next.specs.Emit.{emitted}
use Rattle.next.specs.Outcome.{published_is}
use Rattle.next.proofs.commit_published.Goals as goal

pub published_parts-requires : goal.published_parts-requires
published_parts-requires c = c.requires.1.0

pub returns : goal.returns
returns c = let a = c.args in
    let q = a.call.now.request.now in
    let s = a.change.now.stored.now in
    emitted a.call.now.image.now q a.change.now.body.now refl refl (ap (gather_of s q) c.published_parts.ensures ∙ published_is s q a.receipt.now c.requires.1) c.commit.ensures
