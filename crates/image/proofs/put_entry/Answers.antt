use native.Mathlib.Omega.{arith}
use Rattle.parts.specs.DigitLaws.{length_digits}
use mathlib.Core.List.{◌++◌}
use lib.ListN.{length-append}
use Rattle.parts.specs.Digits.{digits}
use Rattle.parts.specs.Over.{then}
use Rattle.image.proofs.FrontSteps.{length-entry}
use Rattle.image.proofs.put_entry.Goals as goal

pub put_digits-q-requires : goal.put_digits-q-requires
put_digits-q-requires c = omega (arith, c.put_digits-p.ensures.place, c.put_digits-p.auto.out, length_digits 4 c.args.entry.at, c.requires)

pub put_digits-requires : goal.put_digits-requires
put_digits-requires c = let e = c.args.entry in omega (arith, c.put_digits-p.ensures.place, c.put_digits-p.auto.out, c.put_digits-q.ensures.place, c.put_digits-q.auto.out, length_digits 4 e.at, length_digits 4 e.size, c.requires)

pub returns : goal.returns
returns c = let e = c.args.entry in then (then c.put_digits-p.ensures c.put_digits-q.ensures (omega (arith, length_digits 4 e.at, length_digits 4 e.size, c.requires))) c.put_digits.ensures (omega (arith, length-entry e, length-append (digits 4 e.at ++ digits 4 e.size) (digits 1 e.count), c.requires))
