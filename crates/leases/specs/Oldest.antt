-- The oldest leased version of the leases that stay, row by row.
use Prim.Native.Nat.{ℕ, min}
use Rattle.std.proofs.Common.{arith, sym, ◌∙◌}
use Rattle.std.specs.Prelude.{Bool, ◌≡◌, take, drop}
use Rattle.std.proofs.Math.Bool.{cond}
use mathlib.Core.List.{List, [], ◌∷◌, ◌++◌}
use Rattle.std.proofs.Math.Path.{refl, ap}
use Rattle.parts.specs.Digits.{value}
use Rattle.state.specs.Maps.{Text, same, Map, Every, ◌⟼◌, key_of, remove, insert}
use Rattle.state.proofs.Places.{ahead, at, behind, split_is, insert-is}
use Rattle.state.proofs.MapLaws.{by_test}
use Rattle.state.specs.Sorted.{Each}
use Rattle.state.specs.Records.{SnapshotLeaseToken, State}
use Rattle.fields.specs.Format.{all}
use Rattle.fields.specs.Codes.{codes, skip}
use Rattle.fields.specs.Rows.{text_here}
use Rattle.tables.specs.Seek.{rows_at}
use Rattle.tables.specs.SeekLaws.{Hopped, tails, rows_are}
use Rattle.image.specs.Shapes.{lease, before_version}
use Rattle.image.specs.Layout.{leases, Formed}
use Rattle.image.specs.Tables.{lease_row}
use Rattle.image.specs.Opened.{Holds}
use Rattle.image.proofs.StoredLaws.{stored_in}
use Rattle.image.specs.TableLaws.{table_in, behind as rows_behind}
use Rattle.image.proofs.TablePlaceLaws.{count-is, table_here}
use Rattle.image.specs.declared.Contents.{Contents}
use Rattle.machine.specs.Formed.{LeaseAt}
use Rattle.machine.specs.Next.{oldest}
use Rattle.entries.proofs.Sized.{image_texts, well_formed}
use Rattle.floor.specs.Oldest.{version-row}

-- a row that is gone is passed over
unfoldable pub oldest_kept : (List ℕ → Bool) → ℕ → List (List ℕ) → ℕ
oldest_kept gone floor [] = floor
oldest_kept gone floor (r ∷ rs) = cond (gone r) (oldest_kept gone floor rs) (min (value (take 8 (skip 0 (codes before_version) r))) (oldest_kept gone floor rs))

kept_in : (gone : List ℕ → Bool) (v m : ℕ) (rs : List (List ℕ)) → min v (oldest_kept gone m rs) ≡ oldest_kept gone (min v m) rs
unfolding oldest_kept
kept_in gone v m [] = refl
kept_in gone v m (r ∷ rs) =
    let i = kept_in gone v m rs in
    let w : ℕ = value (take 8 (skip 0 (codes before_version) r)) in
    by_test (λ b. min v (cond b (oldest_kept gone m rs) (min w (oldest_kept gone m rs))) ≡ cond b (oldest_kept gone (min v m) rs) (min w (oldest_kept gone (min v m) rs))) (gone r)
    (λ _. i) (λ _. omega arith)

-- a row of the loop: the smallest version so far stands for the floor
module _ (gone : List ℕ → Bool) (m : ℕ) where
  pub kept-end : oldest_kept gone m [] ≡ m
  unfolding oldest_kept
  kept-end = refl

  pub kept_on : (r : List ℕ) (rs : List (List ℕ)) → oldest_kept gone m (r ∷ rs) ≡ oldest_kept gone (cond (gone r) m (min (value (take 8 (skip 0 (codes before_version) r))) m)) rs
  unfolding oldest_kept
  kept_on r rs =
      let v : ℕ = value (take 8 (skip 0 (codes before_version) r)) in
      by_test (λ b. cond b (oldest_kept gone m rs) (min v (oldest_kept gone m rs)) ≡ oldest_kept gone (cond b m (min v m)) rs) (gone r) (λ _. refl) (λ _. kept_in gone v m rs)

pub ruleset kept_steps = (kept-end, kept_on)

-- the row of an id
abbrev pub named : Text → List ℕ → Bool
named k r = same k (text_here r)

module _ (k : Text) (floor : ℕ) where
  without-rows : (m : Map SnapshotLeaseToken) (r : List ℕ) → Each (LeaseAt image_texts) m → Every (Hopped (codes lease) lease_row key_of) m
      → oldest_kept (named k) floor (tails (codes lease) lease_row key_of m r) ≡ oldest floor (remove k m)
  unfolding oldest_kept oldest tails remove
  without-rows [] r h o = refl
  without-rows ((j ⟼ t) ∷ m) r h o =
      let rest : ℕ = oldest_kept (named k) floor (tails (codes lease) lease_row key_of m r) in
      let v : ℕ = value (take 8 (skip 0 (codes before_version) (lease_row (j ⟼ t) ++ (all lease_row m ++ r)))) in
      ap (λ (i : Text). cond (same k i) rest (min v rest)) (o.0.head (all lease_row m ++ r))
      ∙ ap (λ (n : ℕ). cond (same k j) rest (min n rest)) (version-row t (all lease_row m ++ r) h.0.1.1.1.0)
      ∙ by_test (λ b. cond b rest (min t.snapshot_version rest) ≡ oldest floor (cond b (remove k m) ((j ⟼ t) ∷ remove k m))) (same k j)
      (λ _. without-rows m r h.1 o.1)
      (λ _. ap (min t.snapshot_version) (without-rows m r h.1 o.1))

-- THE OLDEST LEASED VERSION OF AN IMAGE WITHOUT ONE LEASE
pub without-here : {x : List ℕ} {c : Contents} {s : State} → Holds x c s → Formed s → (k : Text) (floor : ℕ)
    → oldest_kept (named k) floor (rows_at (codes lease) (table_in leases c).count (drop (table_in leases c).at x)) ≡ oldest floor (remove k s.leases)
without-here {x} {c} {s} h f k floor =
    (λ i. oldest_kept (named k) floor (rows_at (codes lease) (count-is h leases i) (table_here h leases i)))
    ∙ ap (oldest_kept (named k) floor) (rows_are (codes lease) lease_row key_of s.leases (rows_behind leases s) (stored_in leases s f).hopped)
    ∙ without-rows k floor s.leases (rows_behind leases s) (well_formed s f).leases.each (stored_in leases s f).hopped

-- ---- the oldest with a lease more

min_in : (v floor : ℕ) (m : Map SnapshotLeaseToken) → min v (oldest floor m) ≡ oldest (min v floor) m
unfolding oldest
min_in v floor [] = refl
min_in v floor ((id ⟼ t) ∷ m) = let i = min_in v floor m in omega arith

oldest-append : (floor : ℕ) (a b : Map SnapshotLeaseToken) → oldest floor (a ++ b) ≡ oldest (oldest floor b) a
unfolding oldest
oldest-append floor [] b = refl
oldest-append floor ((id ⟼ t) ∷ a) b = ap (min t.snapshot_version) (oldest-append floor a b)

pub oldest-insert : (k : Text) (t : SnapshotLeaseToken) (m : Map SnapshotLeaseToken) (floor : ℕ) → at k m ≡ [] → oldest floor (insert k t m) ≡ min t.snapshot_version (oldest floor m)
unfolding oldest
oldest-insert k t m floor h =
    let a : Map SnapshotLeaseToken = ahead k m in
    let b : Map SnapshotLeaseToken = behind k m in
    let old : oldest floor m ≡ oldest (oldest floor b) a = ap (oldest floor) (split_is k m ∙ ap (λ (l : Map SnapshotLeaseToken). a ++ (l ++ b)) h) ∙ oldest-append floor a b in
    ap (oldest floor) (insert-is k t m) ∙ oldest-append floor a ((k ⟼ t) ∷ b) ∙ sym (min_in t.snapshot_version (oldest floor b) a) ∙ ap (min t.snapshot_version) (sym old)
