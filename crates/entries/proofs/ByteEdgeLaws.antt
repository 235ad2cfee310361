-- The starred edges E2 to E10, and the order of ids, OVER BYTES: the rows of the machine's table, asked of the byte entries. Each
-- call is an encoded request on the image that the call before it wrote, the first on the default image, with as much room as
-- okvstep lends.
use Rattle.std.specs.Prelude.{◌≡◌, refl, true, []}
use Rattle.parts.specs.Answer.{yes}
use Rattle.state.specs.Maps.{all}
use Rattle.state.specs.Records.{default}
use Rattle.machine.specs.Edges.{table}
use Rattle.image.specs.Layout.{encode_image}
use Rattle.entries.specs.Bytes.{default_bytes}
use Rattle.entries.specs.Computes.{bytes_compute}
use Rattle.entries.specs.ByteEdges.{on_bytes, room}

pub byte_edges : all on_bytes table ≡ true
unfolding bytes_compute
byte_edges = refl

-- E1 through its entry: the default image, and nothing else
pub default-entry : default_bytes room ≡ yes (encode_image default) []
unfolding bytes_compute
default-entry = refl
