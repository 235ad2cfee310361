-- The walk of the tables from the i-th on, whose entry stands at its place, is what is left.
use Rattle.image.proofs.WalkSteps.{Going, left, place}
use Rattle.image.proofs.Layout.bodies_end.Given as goal

abbrev pub invariant-loop-table : goal.invariant-loop-table
invariant-loop-table l = Going l.self l.s (left l.self l.s l.table) (place l.self l.s l.table) l.at
