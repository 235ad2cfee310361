use Rattle.std.proofs.Common.{◌≡◌, ◌≤◌, ◌-◌, length, drop}
use Rattle.tables.specs.Seek.{seek}
use Rattle.tables.proofs.TableRows.locate.Given as goal

abbrev pub invariant-loop : goal.invariant-loop
invariant-loop l = (l.p ≤ length l.self.bytes.now) × (seek l.self.codes.now l.self.left l.id (drop l.self.at l.self.bytes.now) ≡ seek l.self.codes.now (l.self.left - l.counter) l.id (drop l.p l.self.bytes.now))
