use Rattle.std.proofs.Common.{sym}
use Rattle.parts.specs.DigitLaws.{length_digits}
use Rattle.parts.proofs.Part.size.Goals as goal

pub returns-in-Number : goal.returns-in-Number
returns-in-Number c = rw c.in-Number.is (sym (length_digits _ _))
