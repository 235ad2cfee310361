use Rattle.std.proofs.Common.{◌≡◌, ◌-◌, drop}
use Rattle.fields.specs.Codes.{hops}
use Rattle.tables.proofs.hop_texts.Given as goal

abbrev pub invariant-loop : goal.invariant-loop
invariant-loop l = hops l.n (drop l.at l.s) ≡ hops (l.n - l.counter) (drop l.p l.s)
