use Rattle.std.proofs.Common.{refl, ap, ◌∙◌}
use Rattle.parts.specs.Gather.{gather_of}
use Rattle.next.specs.Emit.{emitted}
use Rattle.next.specs.Outcome.{renewed-is}
use Rattle.next.proofs.commit_renewed.Goals as goal

pub renewed_parts-requires : goal.renewed_parts-requires
renewed_parts-requires c = c.requires.1.0

pub returns : goal.returns
returns c = let a = c.args in
    let q = a.call.now.request.now in
    let s = a.change.now.stored.now in
    emitted a.call.now.image.now q a.change.now.body.now refl refl (ap (gather_of s q) c.renewed_parts.ensures ∙ renewed-is s q a.token.now c.requires.1) c.commit.ensures
