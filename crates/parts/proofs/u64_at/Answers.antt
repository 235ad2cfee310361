use Rattle.std.proofs.Common.{◌∙◌, drop, ap, arith}
use Rattle.std.specs.Int.{w64, from_le_bytes}
use Rattle.parts.proofs.Steps.{padded-length, value_padded, value-eight}
use Rattle.parts.proofs.u64_at.Goals as goal

pub returns : goal.returns
returns c = let r = drop c.args.at c.args.s.now in c.from_le_bytes.ensures ∙ ap (from_le_bytes w64) c.bytes_at.ensures ∙ value-eight _ (omega (arith, padded-length 8 r)) ∙ value_padded 8 r
