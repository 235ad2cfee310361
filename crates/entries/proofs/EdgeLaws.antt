-- The starred edges E1 to E10 of the scope paper, and the order of ids by their bytes: rows of one table, by one theorem, over maps and
-- through the byte entries.
use Rattle.std.specs.Prelude.{◌≡◌, true, List, [], ◌∷◌, map}
use Rattle.state.specs.Maps.{Every, all}
use Rattle.fields.proofs.FormatLaws.{and_true}
use Rattle.machine.specs.Edges.{Row as MachineRow, holds as on-maps, table as machine-table}
use Rattle.machine.proofs.EdgeLaws.{edges as machine-edges}
use Rattle.image.proofs.EdgeLaws.{E1}
use Rattle.entries.specs.ByteEdges.{on_bytes}
use Rattle.entries.proofs.ByteEdgeLaws.{byte_edges, default-entry}
use Rattle.entries.specs.Edges.{Holds, calls, table}

each_holds : (rs : List MachineRow) → all on-maps rs ≡ true → all on_bytes rs ≡ true → Every Holds (map calls rs)
unfolding all
each_holds [] h k = tt
each_holds (r ∷ rs) h k =
    let (a, hs) = and_true (on-maps r) (all on-maps rs) h in
    let (b, ks) = and_true (on_bytes r) (all on_bytes rs) k in
    ((a, b), each_holds rs hs ks)

pub edges : Every Holds table
edges = ((E1, default-entry), each_holds machine-table machine-edges byte_edges)
