use Rattle.std.proofs.Common.{◌≡◌, ◌+◌, ◌≤◌, length, drop}
use Rattle.parts.specs.Gather.{gather_of}
use Rattle.parts.proofs.measure.Given as goal

abbrev pub invariant-loop-part : goal.invariant-loop-part
invariant-loop-part l = (l.total ≤ l.limit) × (length (gather_of l.a l.b l.parts) ≡ l.total + length (gather_of l.a l.b (drop l.part-index l.parts)))
