-- A change by id of one table of the image: what stands at the place, the runs around it, and the table's size and count after it.
use Rattle.std.specs.Prelude.{ℕ, suc, ◌+◌, ◌-◌, ◌≤◌, ◌<◌, min, cond, ◌≡◌, ltb, drop, None, Some}
use Rattle.std.proofs.Common.{arith, sym, ◌∙◌, length-drop, length-take, ltb-true, ltb-false}
use mathlib.Core.List.{List, [], ◌∷◌, ◌++◌, append_assoc, append-nil}
use Rattle.std.proofs.Math.Path.{refl, ap}
use Rattle.std.proofs.Math.ListN.{length, length-append}
use Rattle.text.specs.Order.{order_of}
use Rattle.text.proofs.OrderLaws.{order_equal}
use Rattle.std.specs.declared.cmp.Ordering.TheVariants.{Less, Equal, Greater}
use Rattle.parts.specs.Gather.{run}
use Rattle.state.specs.Maps.{Text, Map, Entry, ◌⟼◌, key_of, Every, lookup, insert, remove, side}
use Rattle.state.proofs.MapLaws.{by_test}
use Rattle.state.specs.Sorted.{Ascending}
use Rattle.state.proofs.Places.{ahead, at, behind, split_is, insert-is, remove-is, first_value, lookup-is}
use Rattle.fields.specs.Format.{all}
use Rattle.fields.specs.declared.Code.{Code}
use Rattle.tables.specs.Seek.{Seen, seek, placed}
use Rattle.tables.specs.SeekLaws.{Hopped}
use Rattle.tables.specs.declared.Place.{Place}
use Rattle.image.proofs.TableRowLaws.{bytes_split, bytes-insert, bytes-remove}
use Rattle.image.proofs.StoredLaws.{find_place}
use Rattle.image.proofs.OpenedLaws.{run-to, after_seam}
use Rattle.next.specs.Kept.{run-rest}

-- ---- the row that was found at a place: it has a byte just where its end is past its start

module _ (x : List ℕ) (seen : Seen) (p : Place) (found : p ≡ placed x seen) (row : List ℕ) (e : row ≡ run x p.start (p.end - p.start)) where
  row-length : (length row ≡ min (p.end - p.start) (length x - p.start)) × (p.end ≤ length x)
  row-length = (ap length e ∙ length-take (p.end - p.start) (drop p.start x) ∙ ap (min (p.end - p.start)) (length-drop p.start x), omega (arith, ap (λ (y : Place). y.end) found))

  pub row-size : length row ≡ p.end - p.start
  row-size = omega (arith, row-length.0, row-length.1)

  pub row-none : length row ≡ 0 → p.end ≤ p.start
  row-none h = omega (arith, row-length.0, row-length.1)

  pub row_some : (length row ≡ 0 → ⊥) → p.start < p.end
  row_some h = let n : (p.end - p.start ≡ 0) → ⊥ = λ z. h (omega (arith, row-length.0)) in omega (arith, row-length.1)

-- ---- what stands under a key

pub data Standing {A : Type 0} (k : Text) (m : Map A) : Type 0 where
  absent : at k m ≡ [] → lookup k m ≡ None → Standing k m
  present : (v : A) → at k m ≡ (k ⟼ v) ∷ [] → lookup k m ≡ Some v → Standing k m

data Here {A : Type 0} (k : Text) (l : Map A) : Type 0 where
  nothing : l ≡ [] → Here k l
  one : (v : A) → l ≡ (k ⟼ v) ∷ [] → Here k l

module _ {A : Type 0} (k : Text) where
  here : (m : Map A) → Here k (at k m)
  unfolding at
  here [] = nothing refl
  here ((j ⟼ w) ∷ m) = (elim (order_of k j) as (λ o. order_of k j ≡ o → Here k (side o [] ((j ⟼ w) ∷ []) (at k m))) [
    | Less ↦ λ e. nothing refl
    | Equal ↦ λ e. one w (ap (λ (i : Text). (i ⟼ w) ∷ []) (sym (order_equal k j e)))
    | Greater ↦ λ e. here m
  ]) refl

  pub standing : (m : Map A) → Ascending m → Standing k m
  standing m a = go (here m)
    where
      go : Here k (at k m) → Standing k m
      go (nothing e) = absent e (lookup-is k m a ∙ ap (first_value k) e)
      go (one v e) = present v e (lookup-is k m a ∙ ap (first_value k) e)

-- ---- counts

module _ {A : Type 0} (k : Text) (m : Map A) where
  split_count : length m ≡ length (ahead k m) + (length (at k m) + length (behind k m))
  split_count = ap length (split_is k m) ∙ length-append (ahead k m) (at k m ++ behind k m) ∙ ap (λ (n : ℕ). length (ahead k m) + n) (length-append (at k m) (behind k m))

  insert-length : (v : A) → length (insert k v m) ≡ length (ahead k m) + suc (length (behind k m))
  insert-length v = ap length (insert-is k v m) ∙ length-append (ahead k m) ((k ⟼ v) ∷ behind k m)

  insert-new : (v : A) → at k m ≡ [] → length (insert k v m) ≡ length m + 1
  insert-new v e = let l = ap length e in omega (arith, split_count, insert-length v)

  insert-over : (v w : A) → at k m ≡ (k ⟼ w) ∷ [] → length (insert k v m) ≡ length m
  insert-over v w e = let l = ap length e in omega (arith, split_count, insert-length v)

  removed_count : (w : A) → Ascending m → at k m ≡ (k ⟼ w) ∷ [] → length (remove k m) ≡ length m - 1
  removed_count w a e =
      let l = ap length e in
      let r : length (remove k m) ≡ length (ahead k m) + length (behind k m) = ap length (remove-is k m a) ∙ length-append (ahead k m) (behind k m) in
      omega (arith, split_count)

  remove-none : Ascending m → at k m ≡ [] → remove k m ≡ m
  remove-none a e = remove-is k m a ∙ ap (λ (l : Map A). ahead k m ++ (l ++ behind k m)) (sym e) ∙ sym (split_is k m)

-- ---- THE PLACE OF A KEY in a table of x that stands behind the bytes b, which begin at i; behind the table stands r

pub record Spot {A : Type 0} (write : Entry A → List ℕ) (x : List ℕ) (i : ℕ) (b : List ℕ) (m : Map A) (r : List ℕ) (k : Text) (place : Place) : Type 0 where
  pub codes : List Code
  pub table : ℕ
  pub here : drop i x ≡ b ++ (all write m ++ r)
  pub starts : table ≡ i + length b
  pub low : i ≤ length x
  pub hops : Every (Hopped codes write key_of) m
  pub long : (e : Entry A) → 1 ≤ length (write e)
  pub ascending : Ascending m
  pub found : place ≡ placed x (seek codes (length m) k (drop table x))

module _ {A : Type 0} {write : Entry A → List ℕ} {x : List ℕ} {i : ℕ} {b : List ℕ} {m : Map A} {r : List ℕ} {k : Text} {place : Place} (z : Spot write x i b m r k place) where
  abbrev before_it : List ℕ
  before_it = all write (ahead k m)

  abbrev at_it : List ℕ
  at_it = all write (at k m)

  abbrev after_it : List ℕ
  after_it = all write (behind k m)

  size_split : length (all write m) ≡ length before_it + (length at_it + length after_it)
  size_split = ap length (bytes_split write k m) ∙ length-append before_it (at_it ++ after_it) ∙ ap (λ (n : ℕ). length before_it + n) (length-append at_it after_it)

  fits : z.table ≤ length x
  fits =
      let l = sym (length-drop i x) ∙ ap length z.here ∙ length-append b (all write m ++ r) in
      omega (arith, z.low, z.starts)

  table_here : drop z.table x ≡ all write m ++ r
  table_here = after_seam x b (all write m ++ r) i z.table z.here z.starts

  place_is : place ≡ record { start = z.table + length before_it; end = z.table + length before_it + length at_it }
  place_is = z.found ∙ find_place z.codes write x z.table m r table_here z.hops k fits

  start_is : place.start ≡ z.table + length before_it
  start_is = ap (λ (y : Place). y.start) place_is

  end_is : place.end ≡ z.table + length before_it + length at_it
  end_is = ap (λ (y : Place). y.end) place_is

  -- the place is behind the bytes before the table, and within x
  pub place-low : (i ≤ place.start) × (place.start ≤ place.end) × (place.end ≤ length x)
  place-low =
      let l = sym (length-drop i x) ∙ ap length z.here ∙ length-append b (all write m ++ r) in
      let n = length-append (all write m) r in
      (omega (arith, start_is, z.starts), omega (arith, start_is, end_is), omega (arith, start_is, end_is, z.starts, z.low, size_split))

  split_here : drop i x ≡ (b ++ before_it) ++ (at_it ++ (after_it ++ r))
  split_here =
      z.here ∙ ap (λ (l : List ℕ). b ++ (l ++ r)) (bytes_split write k m)
      ∙ ap (λ (l : List ℕ). b ++ l) (append_assoc before_it (at_it ++ after_it) r ∙ ap (λ (l : List ℕ). before_it ++ l) (append_assoc at_it after_it r))
      ∙ sym (append_assoc b before_it (at_it ++ (after_it ++ r)))

  -- what stands at the place, and from there on
  pub from_place : drop place.start x ≡ at_it ++ (after_it ++ r)
  from_place = after_seam x (b ++ before_it) (at_it ++ (after_it ++ r)) i place.start split_here (let l = length-append b before_it in omega (arith, start_is, z.starts))

  pub past-place : drop place.end x ≡ after_it ++ r
  past-place = after_seam x at_it (after_it ++ r) place.start place.end from_place (omega (arith, start_is, end_is))

  -- THE RUNS AROUND IT
  pub run-ahead : run x i (place.start - i) ≡ b ++ before_it
  run-ahead = run-to x (b ++ before_it) (at_it ++ (after_it ++ r)) i (place.start - i) split_here (let l = length-append b before_it in omega (arith, start_is, z.starts))

  pub run-behind : run x place.end (length x) ≡ after_it ++ r
  run-behind = run-rest x (after_it ++ r) place.end (length x) past-place (omega arith)

  -- the row itself
  pub run_row : run x place.start (place.end - place.start) ≡ at_it
  run_row = run-to x at_it (after_it ++ r) place.start (place.end - place.start) from_place (omega (arith, start_is, end_is))

  -- WHETHER A ROW STANDS THERE: a row has a byte at least
  pub none-there : place.end ≤ place.start → (at k m ≡ []) × (lookup k m ≡ None)
  unfolding all
  none-there h = go (standing k m z.ascending)
    where
      go : Standing k m → (at k m ≡ []) × (lookup k m ≡ None)
      go (absent e l) = (e, l)
      go (present v e l) =
          let n : length at_it ≡ length (write (k ⟼ v) ++ []) = ap (λ (l : Map A). length (all write l)) e in
          let o = length-append (write (k ⟼ v)) [] in
          absurd (omega (arith, z.long (k ⟼ v), start_is, end_is))

  pub some_there : place.start < place.end → (v : A) × (at k m ≡ (k ⟼ v) ∷ []) × (lookup k m ≡ Some v)
  unfolding all
  some_there h = go (standing k m z.ascending)
    where
      go : Standing k m → (v : A) × (at k m ≡ (k ⟼ v) ∷ []) × (lookup k m ≡ Some v)
      go (present v e l) = (v, e, l)
      go (absent e l) = let n : length at_it ≡ 0 = ap (λ (l : Map A). length (all write l)) e in absurd (omega (arith, start_is, end_is))

  -- the row of a value that stands there
  pub row-there : (v : A) → at k m ≡ (k ⟼ v) ∷ [] → run x place.start (place.end - place.start) ≡ write (k ⟼ v)
  unfolding all
  row-there v e = run_row ∙ ap (all write) e ∙ append-nil (write (k ⟼ v))

  -- THE TABLE AFTER AN INSERT OR A REMOVE: its size, its count, and the bytes from i on
  pub insert-size : (v : A) → length (all write m) - (place.end - place.start) + length (write (k ⟼ v)) ≡ length (all write (insert k v m))
  insert-size v =
      let l = ap length (bytes-insert write k v m) ∙ length-append before_it (write (k ⟼ v) ++ after_it) ∙ ap (λ (n : ℕ). length before_it + n) (length-append (write (k ⟼ v)) after_it) in
      omega (arith, size_split, start_is, end_is)

  pub remove-size : length (all write m) - (place.end - place.start) ≡ length (all write (remove k m))
  remove-size =
      let l = ap length (bytes-remove write k m z.ascending) ∙ length-append before_it after_it in
      omega (arith, size_split, start_is, end_is)

  pub insert-count : (v : A) → cond (ltb place.start place.end) (length m) (length m + 1) ≡ length (insert k v m)
  insert-count v =
      by_test (λ t. ltb place.start place.end ≡ t → cond t (length m) (length m + 1) ≡ length (insert k v m)) (ltb place.start place.end)
      (λ _ e. let y = some_there (ltb-true _ _ e) in sym (insert-over k m v y.0 y.1))
      (λ _ e. let y = none-there (ltb-false _ _ e) in sym (insert-new k m v y.0)) refl

  pub remove-count : cond (ltb place.start place.end) (length m - 1) (length m) ≡ length (remove k m)
  remove-count =
      by_test (λ t. ltb place.start place.end ≡ t → cond t (length m - 1) (length m) ≡ length (remove k m)) (ltb place.start place.end)
      (λ _ e. let y = some_there (ltb-true _ _ e) in sym (removed_count k m y.0 z.ascending y.1))
      (λ _ e. let y = none-there (ltb-false _ _ e) in ap length (sym (remove-none k m z.ascending y.0))) refl

  spliced : (new : List ℕ) → run x i (place.start - i) ++ (new ++ (run x place.end (length x) ++ [])) ≡ b ++ ((before_it ++ (new ++ after_it)) ++ r)
  spliced new = (λ j. run-ahead j ++ (new ++ append-nil (run-behind j) j)) ∙ simp append_assoc

  pub removed_run : run x i (place.start - i) ++ (run x place.end (length x) ++ []) ≡ b ++ (all write (remove k m) ++ r)
  removed_run = spliced [] ∙ ap (λ (l : List ℕ). b ++ (l ++ r)) (sym (bytes-remove write k m z.ascending))

  pub inserted_run : (v : A) (new : List ℕ) → new ≡ write (k ⟼ v) → run x i (place.start - i) ++ (new ++ (run x place.end (length x) ++ [])) ≡ b ++ (all write (insert k v m) ++ r)
  inserted_run v new e = spliced new ∙ ap (λ (l : List ℕ). b ++ ((before_it ++ (l ++ after_it)) ++ r)) e ∙ ap (λ (l : List ℕ). b ++ (l ++ r)) (sym (bytes-insert write k v m))
