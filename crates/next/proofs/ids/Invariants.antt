use lib.ListN.{take}
use Rattle.next.specs.Outcome.{Listed}
use Rattle.next.proofs.ids.Given as goal

abbrev pub invariant-loop-i : goal.invariant-loop-i
invariant-loop-i l = Listed l.s (take l.i l.places) 2 l.initial.parts l.parts
