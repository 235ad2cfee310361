-- The numbers of a stored lease: each behind the fields that stand before it.
use Rattle.std.specs.Prelude.{ℕ, ◌^◌, ◌<◌, ◌≡◌, take}
use mathlib.Core.List.{List, ◌++◌, append_assoc}
use Rattle.std.proofs.Math.Path.{ap}
use Rattle.std.proofs.Common.{◌∙◌}
use Rattle.parts.specs.Digits.{digits, value}
use Rattle.state.specs.Records.{SnapshotLeaseToken}
use Rattle.fields.specs.Format.{Field, ◌▹◌, El, enc}
use Rattle.fields.specs.Codes.{codes, skip}
use Rattle.image.specs.Shapes.{u64, name, position, closure, lease, lease_parts, before_epoch, before_deadline}
use Rattle.next.specs.Peeks.{skip-to, number-here}

-- a number behind a field
number_in : (f : Field) (v : El f) (n : ℕ) (r : List ℕ) → n < 256 ^ 8 → value (take 8 (skip 0 (codes f) (enc f v ++ (digits 8 n ++ r)))) ≡ n
number_in f v n r h = ap (λ (l : List ℕ). value (take 8 l)) (skip-to f v (digits 8 n ++ r)) ∙ number-here n r h

module _ (t : SnapshotLeaseToken) (r : List ℕ) where
  pub epoch-row : t.lease_epoch < 256 ^ 8 → value (take 8 (skip 0 (codes before_epoch) (enc lease (lease_parts t) ++ r))) ≡ t.lease_epoch
  unfolding enc
  epoch-row h =
      let f : Field = name ▹ name ▹ u64 in
      let v : El f = (t.lease_id, (t.tenant_id, t.snapshot_version)) in
      let b = enc (name ▹ name ▹ u64 ▹ closure ▹ u64 ▹ position) (lease_parts t).1.1.1.1 in
      let e : enc lease (lease_parts t) ++ r ≡ enc f v ++ (digits 8 t.lease_epoch ++ (b ++ r)) = simp append_assoc in
      ap (λ (l : List ℕ). value (take 8 (skip 0 (codes before_epoch) l))) e ∙ number_in f v t.lease_epoch (b ++ r) h

  pub deadline-row : t.deadline_tick < 256 ^ 8 → value (take 8 (skip 0 (codes before_deadline) (enc lease (lease_parts t) ++ r))) ≡ t.deadline_tick
  unfolding enc
  deadline-row h =
      let f : Field = name ▹ name ▹ u64 ▹ u64 ▹ name ▹ name in
      let v : El f = (t.lease_id, (t.tenant_id, (t.snapshot_version, (t.lease_epoch, (t.owner, t.purpose))))) in
      let b = enc (closure ▹ u64 ▹ position) (lease_parts t).1.1.1.1.1.1.1 in
      let e : enc lease (lease_parts t) ++ r ≡ enc f v ++ (digits 8 t.deadline_tick ++ (b ++ r)) = simp append_assoc in
      ap (λ (l : List ℕ). value (take 8 (skip 0 (codes before_deadline) l))) e ∙ number_in f v t.deadline_tick (b ++ r) h
