use Rattle.std.proofs.Common.{refl}
use Rattle.next.specs.Emit.{emitted}
use Rattle.next.proofs.commit_expired.Goals as goal

pub returns : goal.returns
returns c = let a = c.args in emitted a.call.now.image.now a.call.now.request.now a.change.now.body.now refl refl (c.expired_parts-told.ensures.told a.call.now.request.now) c.commit.ensures
