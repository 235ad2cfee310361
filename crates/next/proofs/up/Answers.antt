use Rattle.std.proofs.Common.{arith}
use Rattle.machine.specs.Next.{up}
use Rattle.next.proofs.up.Goals as goal

pub returns : goal.returns
unfolding up
returns c = omega arith
