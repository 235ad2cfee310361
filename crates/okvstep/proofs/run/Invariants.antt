use Rattle.std.proofs.Common.{◌≡◌}
use Rattle.okvstep.specs.Moments.{AtMoment}
use Rattle.okvstep.proofs.run.Given as goal

abbrev pub invariant-loop : goal.invariant-loop
invariant-loop l = (l.authority.frames ≡ l.counter) × AtMoment l.authority
