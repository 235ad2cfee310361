-- The entries so far are written, and those that are left have room.
use Prim.Native.Nat.{◌+◌, ◌*◌, ◌≤◌}
use lib.ListN.{drop}
use Rattle.parts.specs.Over.{Going}
use Rattle.image.specs.Layout.{written}
use Rattle.image.specs.ImageParts.{entries_from}
use Rattle.image.specs.Opened.{measures_in}
use Rattle.image.proofs.put_entries.Given as goal

abbrev pub invariant-loop-t : goal.invariant-loop-t
invariant-loop-t l = (l.place ≤ 1000000 + 1000000 * l.t-index) × Going l.initial.out l.at (entries_from written.widths l.start (measures_in l.ts)) (entries_from written.widths l.place (drop l.t-index (measures_in l.ts))) l.p l.out
