-- The words so far are written, and those that are left have room.
use lib.ListN.{drop}
use Rattle.parts.specs.Over.{Going}
use Rattle.image.specs.ImageParts.{words}
use Rattle.image.proofs.put_numbers.Given as goal

abbrev pub invariant-loop-n : goal.invariant-loop-n
invariant-loop-n l = Going l.initial.out l.at (words l.ns) (words (drop l.n-index l.ns)) l.p l.out
