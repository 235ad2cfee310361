-- The tables of contents that hold a state, each by its name: its size and count, its bytes and what stands around them; and
-- the tables of the state with another map in its place.
use Rattle.std.specs.Prelude.{ℕ, zero, suc, ◌+◌, ◌≤◌, ◌<◌, List, [], ◌∷◌, ◌++◌, ◌≡◌, refl, length, drop, get_or, set}
use Rattle.std.proofs.Common.{arith, append_assoc, sym, ap, ◌∙◌, length-append}
use Rattle.state.specs.Maps.{Map}
use Rattle.state.specs.Records.{State}
use Rattle.fields.specs.Format.{all}
use Rattle.image.specs.Layout.{TableName, intents, roots, pins, reservations, leases, jobs, Value, map_of, with_map}
use Rattle.image.specs.ImageParts.{row_bytes, table_of, tables_of, joined, Measure, measure, measures}
use Rattle.image.specs.Opened.{measure_in, measures_in, nowhere, Holds}
use Rattle.image.specs.declared.Table.{Table}
use Rattle.image.specs.declared.Contents.{Contents}
use Rattle.image.specs.TableLaws.{before, behind, index, table_in, tables_place}

index-low : (t : TableName) (s : State) → index t < length (tables_of s)
index-low intents s = omega arith
index-low roots s = omega arith
index-low pins s = omega arith
index-low reservations s = omega arith
index-low leases s = omega arith
index-low jobs s = omega arith

-- from a table on
from-table : (t : TableName) (s : State) → joined (drop (index t) (tables_of s)) ≡ all (row_bytes t) (map_of t s) ++ behind t s
from-table intents s = refl
from-table roots s = refl
from-table pins s = refl
from-table reservations s = refl
from-table leases s = refl
from-table jobs s = refl

measure_of : (t : TableName) (s : State) → get_or (measures (tables_of s)) (index t) (measure_in nowhere) ≡ measure (table_of t s)
measure_of intents s = refl
measure_of roots s = refl
measure_of pins s = refl
measure_of reservations s = refl
measure_of leases s = refl
measure_of jobs s = refl

-- ANOTHER MAP in the place of one: the other tables are as they were
pub joined_with : (t : TableName) (m : Map (Value t)) (s : State) → joined (tables_of (with_map t m s)) ≡ before t s ++ (all (row_bytes t) m ++ behind t s)
joined_with intents m s = refl
joined_with roots m s = simp append_assoc
joined_with pins m s = simp append_assoc
joined_with reservations m s = simp append_assoc
joined_with leases m s = simp append_assoc
joined_with jobs m s = simp append_assoc

pub measures_with : (t : TableName) (m : Map (Value t)) (s : State)
    → measures (tables_of (with_map t m s)) ≡ set (measures (tables_of s)) (index t) (record { size = length (all (row_bytes t) m); count = length m })
measures_with intents m s = refl
measures_with roots m s = refl
measures_with pins m s = refl
measures_with reservations m s = refl
measures_with leases m s = refl
measures_with jobs m s = refl

map_same : (t : TableName) (s : State) → joined (tables_of s) ≡ before t s ++ (all (row_bytes t) (map_of t s) ++ behind t s)
map_same intents s = refl
map_same roots s = simp append_assoc
map_same pins s = simp append_assoc
map_same reservations s = simp append_assoc
map_same leases s = simp append_assoc
map_same jobs s = simp append_assoc

measure-at : (ts : List Table) (i : ℕ) → get_or (measures_in ts) i (measure_in nowhere) ≡ measure_in (get_or ts i nowhere)
measure-at [] zero = refl
measure-at [] (suc i) = refl
measure-at (t ∷ ts) zero = refl
measure-at (t ∷ ts) (suc i) = measure-at ts i

-- one table set: its size and its count, and no other
pub measures-set : (ts : List Table) (i : ℕ) (t : Table) → measures_in (set ts i t) ≡ set (measures_in ts) i (measure_in t)
measures-set [] i t = refl
measures-set (u ∷ ts) zero t = refl
measures-set (u ∷ ts) (suc i) t = ap (λ (l : List Measure). measure_in u ∷ l) (measures-set ts i t)

module _ {x : List ℕ} {c : Contents} {s : State} (h : Holds x c s) where
  -- the tables begin within the image
  pub tables-low : tables_place c ≤ length x
  tables-low = let e = h.ends 0 (index-low intents s) in omega arith

  pub tables_here : drop (tables_place c) x ≡ joined (tables_of s)
  tables_here = h.stands 0 (index-low intents s)

  pub tables_end : tables_place c + length (joined (tables_of s)) ≡ length x
  tables_end = h.ends 0 (index-low intents s)

  module _ (t : TableName) where
    measured : measure_in (table_in t c) ≡ measure (table_of t s)
    measured = sym (measure-at c.tables (index t)) ∙ ap (λ (ms : List Measure). get_or ms (index t) (measure_in nowhere)) h.shows.tables ∙ measure_of t s

    pub size_is : (table_in t c).size ≡ length (all (row_bytes t) (map_of t s))
    size_is = ap (λ (m : Measure). m.size) measured

    pub count-is : (table_in t c).count ≡ length (map_of t s)
    count-is = ap (λ (m : Measure). m.count) measured

    -- what stands at a table, and after the tables before it
    pub table_here : drop (table_in t c).at x ≡ all (row_bytes t) (map_of t s) ++ behind t s
    table_here = h.stands (index t) (index-low t s) ∙ from-table t s

    pub around_here : drop (tables_place c) x ≡ before t s ++ (all (row_bytes t) (map_of t s) ++ behind t s)
    around_here = tables_here ∙ map_same t s

    pub table-starts : (table_in t c).at ≡ tables_place c + length (before t s)
    table-starts =
        let b = before t s in
        let r = all (row_bytes t) (map_of t s) ++ behind t s in
        let e₀ : tables_place c + length (b ++ r) ≡ length x = ap (λ (l : List ℕ). tables_place c + length l) (sym (map_same t s)) ∙ tables_end in
        let e₁ : (table_in t c).at + length r ≡ length x = ap (λ (l : List ℕ). (table_in t c).at + length l) (sym (from-table t s)) ∙ h.ends (index t) (index-low t s) in
        let l = length-append b r in
        omega arith

    -- the contents with this table set show the state with another map in its place
    pub tables_with : (m : Map (Value t)) (u : Table) → u.size ≡ length (all (row_bytes t) m) → u.count ≡ length m
        → measures_in (set c.tables (index t) u) ≡ measures (tables_of (with_map t m s))
    tables_with m u e k = measures-set c.tables (index t) u ∙ (λ i. set (h.shows.tables i) (index t) (record { size = e i; count = k i })) ∙ sym (measures_with t m s)
