-- The starred edges E2 to E10 of the scope paper, as rows of one table, by one theorem. (E1 is about the image.) Two rows more tell the
-- order of ids by their bytes from one by their length, two the order in which ended leases are listed, and five are about reserved keys.
-- Faults off, generation 1; window 3 and frontier 10 stand before every row.
use Rattle.std.specs.Prelude.{◌≡◌, refl, true}
use Rattle.state.specs.Maps.{all}
use Rattle.machine.specs.Computes.{machine_computes}
use Rattle.machine.specs.Edges.{holds, table}

pub edges : all holds table ≡ true
unfolding machine_computes
edges = refl
