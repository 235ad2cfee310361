-- On the bytes of a state's leases, the oldest version row by row is that of the map.
use Rattle.std.specs.Prelude.{ℕ, ◌^◌, ◌<◌, min, List, [], ◌∷◌, ◌++◌, ◌≡◌, refl, take, drop}
use Rattle.std.proofs.Common.{append_assoc, ap, ◌∙◌}
use Rattle.parts.specs.Digits.{digits, value}
use Rattle.state.specs.Maps.{Map, ◌⟼◌, key_of}
use Rattle.state.specs.Sorted.{Each}
use Rattle.state.specs.Records.{SnapshotLeaseToken, State}
use Rattle.fields.specs.Format.{Field, ◌▹◌, enc, all}
use Rattle.fields.specs.Codes.{codes, skip}
use Rattle.tables.specs.Seek.{rows_at}
use Rattle.tables.specs.SeekLaws.{tails, rows_are}
use Rattle.image.specs.Shapes.{u64, name, position, closure, lease, lease_parts, before_version}
use Rattle.image.specs.Layout.{leases, Formed}
use Rattle.image.specs.Tables.{lease_row}
use Rattle.image.specs.Opened.{Holds}
use Rattle.image.specs.declared.Contents.{Contents}
use Rattle.image.proofs.StoredLaws.{stored_in}
use Rattle.image.specs.TableLaws.{table_in, behind}
use Rattle.image.proofs.TablePlaceLaws.{count-is, table_here}
use Rattle.machine.specs.Formed.{LeaseAt}
use Rattle.machine.specs.Next.{oldest}
use Rattle.entries.proofs.Sized.{image_texts, well_formed}
use Rattle.next.specs.Peeks.{skip-to, number-here}
use Rattle.floor.specs.Floors.{oldest_at}

abbrev after_version : Field
after_version = u64 ▹ name ▹ name ▹ u64 ▹ closure ▹ u64 ▹ position

pub version-row : (t : SnapshotLeaseToken) (r : List ℕ) → t.snapshot_version < 256 ^ 8 → value (take 8 (skip 0 (codes before_version) (enc lease (lease_parts t) ++ r))) ≡ t.snapshot_version
unfolding enc
version-row t r h =
    let b = enc after_version (lease_parts t).1.1.1 in
    let e : enc lease (lease_parts t) ++ r ≡ enc (name ▹ name) (t.lease_id, t.tenant_id) ++ (digits 8 t.snapshot_version ++ (b ++ r)) = simp append_assoc in
    ap (λ (l : List ℕ). value (take 8 (skip 0 (codes before_version) l))) e
    ∙ ap (λ (l : List ℕ). value (take 8 l)) (skip-to (name ▹ name) (t.lease_id, t.tenant_id) (digits 8 t.snapshot_version ++ (b ++ r)))
    ∙ number-here t.snapshot_version (b ++ r) h

oldest-rows : (floor : ℕ) (m : Map SnapshotLeaseToken) (r : List ℕ) → Each (LeaseAt image_texts) m → oldest_at floor (tails (codes lease) lease_row key_of m r) ≡ oldest floor m
unfolding oldest_at oldest tails
oldest-rows floor [] r h = refl
oldest-rows floor ((id ⟼ t) ∷ m) r h =
    ap (λ (v : ℕ). min v (oldest_at floor (tails (codes lease) lease_row key_of m r))) (version-row t (all lease_row m ++ r) h.0.1.1.1.0)
    ∙ ap (min t.snapshot_version) (oldest-rows floor m r h.1)

-- THE OLDEST LEASED VERSION OF AN IMAGE, where the contents say that the leases stand
pub oldest-here : {x : List ℕ} {c : Contents} {s : State} → Holds x c s → Formed s → (floor : ℕ)
    → oldest_at floor (rows_at (codes lease) (table_in leases c).count (drop (table_in leases c).at x)) ≡ oldest floor s.leases
oldest-here {x} {c} {s} h f floor =
    (λ i. oldest_at floor (rows_at (codes lease) (count-is h leases i) (table_here h leases i)))
    ∙ ap (oldest_at floor) (rows_are (codes lease) lease_row key_of s.leases (behind leases s) (stored_in leases s f).hopped)
    ∙ oldest-rows floor s.leases (behind leases s) (well_formed s f).leases.each
