use Rattle.std.proofs.Common.{◌∙◌, drop, ap, arith}
use Rattle.std.specs.Int.{w32, from_le_bytes}
use Rattle.parts.proofs.Steps.{padded-length, value_padded, value_four}
use Rattle.parts.proofs.u32_at.Goals as goal

pub returns : goal.returns
returns c = let r = drop c.args.at c.args.s.now in c.from_le_bytes.ensures ∙ ap (from_le_bytes w32) c.bytes_at.ensures ∙ value_four _ (omega (arith, padded-length 4 r)) ∙ value_padded 4 r
