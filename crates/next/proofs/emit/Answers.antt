use Rattle.std.proofs.Common.{refl}
use Rattle.next.specs.Emit.{emitted}
use Rattle.next.specs.Outcome.{applied_is}
use Rattle.next.proofs.emit.Goals as goal

pub returns-in-Applied : goal.returns-in-Applied
returns-in-Applied c = let a = c.args in
    rw c.in-Applied.is (emitted a.call.now.image.now a.call.now.request.now a.change.now.body.now refl refl (applied_is a.change.now.stored.now a.call.now.request.now) c.commit.ensures)
