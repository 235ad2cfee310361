use Rattle.clock.specs.Tallies.{Counted}
use Rattle.clock.proofs.count_rows.Given as goal

abbrev pub invariant-loop : goal.invariant-loop
invariant-loop l = Counted l.tick l.floor l.leases.bytes.now l.leases.at l.leases.left l.counter l.p l.t
