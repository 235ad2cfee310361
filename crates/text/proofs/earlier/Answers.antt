use Rattle.std.proofs.Common.{arith}
use Rattle.text.proofs.WordLaws.{big_is}
use Rattle.text.proofs.earlier.Goals as goal

pub returns : goal.returns
returns c = let w = c.well_formed in grind (arith, big_is)
