use native.Mathlib.Omega.{arith}
use Rattle.parts.specs.Digits.{digits}
use Rattle.parts.specs.DigitLaws.{length_digits}
use Rattle.parts.specs.Over.{then}
use Rattle.fields.specs.Format.{enc_option}
use Rattle.image.proofs.put_window.Goals as goal

pub put_digits-requires-in-Some : goal.put_digits-requires-in-Some
put_digits-requires-in-Some c = omega (arith, c.put_digits-p.ensures.place, length_digits 1 1)

pub returns-in-None : goal.returns-in-None
unfolding enc_option digits
returns-in-None c = rw c.in-None.is c.put_digits.ensures

pub returns-in-Some : goal.returns-in-Some
unfolding enc_option digits
returns-in-Some c = rw c.in-Some.is (then c.put_digits-p.ensures c.put_digits-in-Some.ensures (omega (arith, length_digits 8 c.in-Some.n)))
