use Rattle.std.proofs.Common.{drop}
use Rattle.parts.specs.Over.{Going}
use Rattle.parts.specs.Gather.{gather_of}
use Rattle.parts.proofs.gather.Given as goal

abbrev pub invariant-loop-part : goal.invariant-loop-part
invariant-loop-part l = Going l.initial.out l.at (gather_of l.a l.b l.parts) (gather_of l.a l.b (drop l.part-index l.parts)) l.end l.out
