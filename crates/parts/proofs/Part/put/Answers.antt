use Rattle.std.proofs.Common.{arith}
use Rattle.parts.specs.DigitLaws.{length_digits}
use Rattle.parts.proofs.Part.put.Goals as goal

pub put_digits-requires : goal.put_digits-requires
put_digits-requires c = let h = rw c.in-Number.is at c.requires in omega (arith, length_digits c.in-Number.n c.in-Number.v)
