use Rattle.std.proofs.Common.{◌≡◌}
use Rattle.tables.specs.Seek.{rows_left}
use Rattle.floor.specs.Floors.{oldest_at}
use Rattle.floor.proofs.oldest.Given as goal

abbrev pub invariant-loop-lease : goal.invariant-loop-lease
invariant-loop-lease l = oldest_at l.floor (rows_left l.leases) ≡ oldest_at l.oldest (rows_left l.lease-iterator)
