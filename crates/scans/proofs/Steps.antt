-- One row of a scan.
use Rattle.std.specs.Prelude.{ℕ, List, [], ◌||◌, ◌≡◌, drop}
use Rattle.state.specs.Maps.{Every, same, starts_with}
use Rattle.fields.specs.Format.{◌▹◌}
use Rattle.fields.specs.declared.Code.{Code}
use Rattle.fields.specs.Codes.{codes, skip, key_limit}
use Rattle.fields.specs.Rows.{text_here}
use Rattle.fields.specs.Walks.{place_of}
use Rattle.tables.specs.Skips.{after_record}
use Rattle.reader.specs.Records.{record_of}
use Rattle.reader.specs.OwnBytes.{Plain, text_own}
use Rattle.image.specs.Shapes.{u64, name, key, job, before_manifest_key, before_namespace}
use Rattle.scans.specs.Scans.{uses_at}

-- what is left after the record at the head
pub after_head : (cs : List Code) (s : List ℕ) → drop (place_of s (skip 0 cs s)) s ≡ skip 0 cs s
after_head cs s = after_record cs s 0

-- a job is told by its own bytes
manifest-plain : Every Plain (codes before_manifest_key)
manifest-plain = (tt, (tt, (tt, (tt, (tt, (tt, tt))))))

namespace-plain : Every Plain (codes before_namespace)
namespace-plain = (tt, (tt, (tt, (tt, (tt, (tt, (tt, (tt, (tt, (tt, (tt, (tt, tt))))))))))))

pub uses_own : (k s : List ℕ) → uses_at k (record_of (codes job) s) ≡ uses_at k s
unfolding uses_at
uses_own k s =
    let m : text_here (skip 0 (codes before_manifest_key) (record_of (codes job) s)) ≡ text_here (skip 0 (codes before_manifest_key) s) = text_own (codes before_manifest_key) key_limit (codes (u64 ▹ name ▹ name ▹ u64 ▹ u64 ▹ key)) manifest-plain s in
    let n : text_here (skip 0 (codes before_namespace) (record_of (codes job) s)) ≡ text_here (skip 0 (codes before_namespace) s) = text_own (codes before_namespace) key_limit [] namespace-plain s in
    λ i. same (m i) k || starts_with k (n i)
