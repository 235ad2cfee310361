use Rattle.std.proofs.Common.{◌≡◌}
use Rattle.reserved.specs.Located.{located_of}
use Rattle.reserved.specs.Passed.{Passed}
use Rattle.reserved.proofs.reach.Given as goal

abbrev pub invariant-loop-to : goal.invariant-loop-to
invariant-loop-to l = record {
  same : located_of l.rows l.id ≡ located_of l.to l.id;
  passed : Passed l.rows l.id l.to;
}

abbrev pub decreases-loop-to : goal.decreases-loop-to
decreases-loop-to l = l.to.left
