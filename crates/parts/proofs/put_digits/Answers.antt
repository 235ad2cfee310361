use Rattle.std.proofs.Common.{◌∙◌, length-set, arith}
use Rattle.parts.specs.DigitLaws.{length_digits}
use Rattle.parts.proofs.Steps.{digits_more, digits-end, wrote_part}
use Rattle.parts.proofs.put_digits.Goals as goal

pub loop-byte-preserved : goal.loop-byte-preserved
loop-byte-preserved c = let l = c.loop-byte in (length-set l.byte-items _ _ ∙ l.invariant.0, digits_more _ _ _ _ _ l.invariant.1 l.invariant.0 (omega arith))

pub returns : goal.returns
returns c = let a = c.args in let l = c.loop-byte in
    let n = length_digits a.n a.v in
    wrote_part (digits-end _ _ _ _ _ l.invariant.1 l.invariant.0 (omega arith)) (omega arith) (omega arith)
