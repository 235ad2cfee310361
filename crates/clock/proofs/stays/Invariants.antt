use Rattle.next.specs.Added.{Adding}
use Rattle.clock.specs.Due.{kept_bytes}
use Rattle.clock.proofs.stays.Given as goal

abbrev pub invariant-loop-i : goal.invariant-loop-i
invariant-loop-i l = Adding (kept_bytes l.tick) 1 l.leases.bytes.now l.leases.at l.leases.left l.initial.parts l.i l.p l.parts
