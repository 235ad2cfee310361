-- recompute_read_floor by numbers: the floors from the window, the frontier, and the oldest leased version.
use Rattle.std.specs.Prelude.{ℕ, min, max, List, [], ◌∷◌, ◌≡◌, refl, take, Option, None, Some}
use Rattle.parts.specs.Digits.{value}
use Rattle.state.specs.Maps.{Map}
use Rattle.state.specs.Records.{SnapshotLeaseToken}
use Rattle.fields.specs.Codes.{codes, skip}
use Rattle.image.specs.Shapes.{before_version}
use Rattle.machine.specs.Next.{oldest, readable_for}

abbrev pub readable_for_window : Option ℕ → ℕ → ℕ → ℕ
readable_for_window None candidate old = old
readable_for_window (Some window) candidate old = max old candidate

pub readable-is : (o : Option ℕ) (policy : ℕ) (leases : Map SnapshotLeaseToken) (old : ℕ) → readable_for_window o (oldest policy leases) old ≡ readable_for o policy leases old
unfolding readable_for
readable-is None policy leases old = refl
readable-is (Some w) policy leases old = refl

-- ---- the oldest leased version, row by row: a lease's version stands after its id and its tenant

unfoldable pub oldest_at : ℕ → List (List ℕ) → ℕ
oldest_at floor [] = floor
oldest_at floor (r ∷ rs) = min (value (take 8 (skip 0 (codes before_version) r))) (oldest_at floor rs)
