use Rattle.std.proofs.Common.{refl, ◌∙◌}
use Rattle.image.proofs.FrontLaws.{front-held}
use Rattle.next.specs.Emit.{emitted}
use Rattle.next.proofs.commit.Goals as goal

pub returns : goal.returns
returns c = let a = c.args in emitted a.call.now.image.now a.call.now.request.now a.change.now.body.now c.over_limit-over.ensures (c.as_slice.ensures ∙ (front-held _ c.front_of-front.ensures.bytes c.front_of-front.ensures.len).1) refl c.emit.ensures
