use Rattle.std.proofs.Common.{arith, ◌∙◌}
use Rattle.parts.proofs.Steps.{padded_over}
use Rattle.parts.proofs.bytes_at.Goals as goal

pub returns-in-None : goal.returns-in-None
returns-in-None g c = rw (← c.tail-rest.ensures) (c.put.ensures.is ∙ padded_over g.row.N c.tail-rest.result.now (omega (arith, c.in-None.ensures.cases)))
