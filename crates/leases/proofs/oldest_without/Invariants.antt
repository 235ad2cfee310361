use Rattle.std.proofs.Common.{◌≡◌}
use Rattle.tables.specs.Seek.{rows_left}
use Rattle.leases.specs.Oldest.{named, oldest_kept}
use Rattle.leases.proofs.oldest_without.Given as goal

abbrev pub invariant-loop-lease : goal.invariant-loop-lease
invariant-loop-lease l = oldest_kept (named l.id) l.floor (rows_left l.leases) ≡ oldest_kept (named l.id) l.oldest (rows_left l.lease-iterator)
