-- What is stored in a state that has an image: its tables ascend, each record is within its format and under its own id, and the
-- hops over the bytes of its tables find it.
use Rattle.std.specs.Prelude.{ℕ, ◌+◌, ◌-◌, ◌≤◌, ◌≡◌, refl, length, take, drop, true, None, Some}
use Rattle.std.proofs.Common.{arith, ◌∙◌, length-append, length-drop}
use Rattle.std.proofs.Math.Path.{ap}
use mathlib.Core.List.{List, [], ◌∷◌, ◌++◌}
use Rattle.std.proofs.Math.Seq.{take-append_seam}
use Rattle.state.specs.Maps.{Text, Map, Entry, key_of, is_less, ◌⟼◌}
use Rattle.state.proofs.Places.{ahead, at, behind}
use Rattle.state.specs.Records.{State}
use Rattle.fields.specs.Format.{all, Every, after, ascends, Rows, Field, El, enc, Within}
use Rattle.fields.specs.declared.Code.{Code}
use Rattle.fields.specs.Codes.{key_limit, codes}
use Rattle.tables.specs.Seek.{Seen, seek, placed, row_of as row-found}
use Rattle.tables.specs.SeekLaws.{Hopped, seek_is, hopped-row}
use Rattle.image.specs.Body.{row, id}
use Rattle.image.specs.Shapes.{short, reference, prepared, lease_rest, job_rest, permit_rest}
use Rattle.image.specs.Layout.{most_intents, most_roots, most_pins, most_reservations, most_leases, most_jobs, TableName, intents, roots, pins, reservations, leases, jobs, row_in, Formed, each}
use Rattle.image.proofs.LayoutLaws.{reservations_own, leases_own, jobs_own}
use Rattle.image.proofs.TableRowLaws.{bytes_split}
use Rattle.image.specs.Stored.{StoredIn, OwnKey, StoredAt, Stored}
use Rattle.text.specs.Order.{order_of}
use Rattle.state.proofs.MapLaws.{is_less_true, each-lookup}
use Rattle.state.specs.Sorted.{Each, Below, Ascending}
use Rattle.fields.proofs.FormatLaws.{and_true}

-- ROWS OF A MAP: each entry as it is written, under its own key
module _ {A B : Type 0} (at : Entry A → Text × B) where
  below_of : (m : Map A) (k : Text) → Every (OwnKey at) m → ascends id (Some k) (each at m) ≡ true → Below k m × Ascending m
  unfolding each ascends after
  below_of [] k o a = (tt, tt)
  below_of ((j ⟼ v) ∷ m) k o a =
      let (a₀, a₁) = and_true (is_less (order_of k (at (j ⟼ v)).0)) (ascends id (Some (at (j ⟼ v)).0) (each at m)) a in
      (is_less_true (order_of k j) (rw o.0 at a₀), below_of m j o.1 (rw o.0 at a₁))

  pub ascending_of : (m : Map A) → Every (OwnKey at) m → ascends id None (each at m) ≡ true → Ascending m
  unfolding each ascends after
  ascending_of [] o a = tt
  ascending_of ((j ⟼ v) ∷ m) o a = below_of m j o.1 (rw o.0 at a)

  pub each_of : (W : Text × B → Type 0) (P : Text → A → Type 0) → ((k : Text) (v : A) → OwnKey at (k ⟼ v) → W (at (k ⟼ v)) → P k v)
      → (m : Map A) → Every (OwnKey at) m → Every W (each at m) → Each P m
  unfolding each
  each_of W P f [] o h = tt
  each_of W P f ((k ⟼ v) ∷ m) o h = (f k v o.0 h.0, each_of W P f m o.1 h.1)

-- written by a format of rows: within it, and hopped over
module _ {A : Type 0} (n : ℕ) (f : Field) (at : Entry A → El (row n f)) where
  hopped-each : (m : Map A) → Each (StoredAt n f at) m → Every (Hopped (codes (row n f)) (λ e. enc (row n f) (at e)) key_of) m
  hopped-each [] h = tt
  hopped-each ((k ⟼ v) ∷ m) h =
      let z = hopped-row n f (at (k ⟼ v)) h.0.1 in
      (record { head = λ r. z.head r ∙ h.0.0; over = z.over }, hopped-each m h.1)

  stored : (most : ℕ) (m : Map A) → Every (OwnKey at) m → Rows (Within (row n f)) id most (each at m) → Stored n f at m
  stored most m own rows =
      let h : Each (StoredAt n f at) m = each_of at (Within (row n f)) (StoredAt n f at) (λ k v o w. (o, w)) m own rows.each in
      record { ascending = ascending_of at m own rows.ascending; found = λ k v. each-lookup (StoredAt n f at) k v m h; hopped = hopped-each m h }

pub own_keys : {A : Type 0} (m : Map A) → Every (λ e. key_of e ≡ key_of e) m
own_keys [] = tt
own_keys (e ∷ m) = (refl, own_keys m)

pub stored_in : (t : TableName) (s : State) → Formed s → StoredIn t s
stored_in intents s f = stored short prepared (row_in intents) most_intents s.intents (own_keys s.intents) f.fits.1.0
stored_in roots s f = stored short reference (row_in roots) most_roots s.roots (own_keys s.roots) f.fits.1.1.0
stored_in pins s f = stored short reference (row_in pins) most_pins s.pins (own_keys s.pins) f.fits.1.1.1.0
stored_in reservations s f = stored key_limit permit_rest (row_in reservations) most_reservations s.deletion_reservations (reservations_own s f) f.fits.1.1.1.1.0
stored_in leases s f = stored short lease_rest (row_in leases) most_leases s.leases (leases_own s f) f.fits.1.1.1.1.1.0
stored_in jobs s f = stored short job_rest (row_in jobs) most_jobs s.collection_jobs (jobs_own s f) f.fits.1.1.1.1.1.1.0

-- LOOKUP BY ID in a table that stands at a place: the row's bytes, none where there is no such row, and its places
pub front : (a b : List ℕ) → take (length (a ++ b) - length b) (a ++ b) ≡ a
front a b = let z : length (a ++ b) - length b ≡ length a = omega (arith, length-append a b) in ap (λ (n : ℕ). take n (a ++ b)) z ∙ take-append_seam a b

module _ {A : Type 0} (cs : List Code) (write : Entry A → List ℕ) (x : List ℕ) (p : ℕ) (m : Map A) (r : List ℕ)
    (here : drop p x ≡ all write m ++ r) (hops : Every (Hopped cs write key_of) m) (k : Text)
  where
    abbrev found_at : Seen
    found_at = record { from = all write (at k m) ++ (all write (behind k m) ++ r); to = all write (behind k m) ++ r }

    found-is : seek cs (length m) k (drop p x) ≡ found_at
    found-is = ap (seek cs (length m) k) here ∙ seek_is cs write k m r hops

    pub find_row : row-found (seek cs (length m) k (drop p x)) ≡ all write (at k m)
    unfolding row-found
    find_row = ap row-found found-is ∙ front (all write (at k m)) (all write (behind k m) ++ r)

    pub find_place : p ≤ length x
        → placed x (seek cs (length m) k (drop p x)) ≡ record { start = p + length (all write (ahead k m)); end = p + length (all write (ahead k m)) + length (all write (at k m)) }
    find_place fits =
        let a = all write (ahead k m) in
        let b = all write (at k m) in
        let c = all write (behind k m) in
        let l : length (drop p x) ≡ length x - p = length-drop p x in
        let n : length (drop p x) ≡ length (all write m) + length r = ap length here ∙ length-append (all write m) r in
        let s : length (all write m) ≡ length a + length (b ++ c) = ap length (bytes_split write k m) ∙ length-append a (b ++ c) in
        let bc : length (b ++ c) ≡ length b + length c = length-append b c in
        let cr : length (c ++ r) ≡ length c + length r = length-append c r in
        let bcr : length (b ++ (c ++ r)) ≡ length b + length (c ++ r) = length-append b (c ++ r) in
        let start_is : length x - length (b ++ (c ++ r)) ≡ p + length a = omega arith in
        let end_is : length x - length (c ++ r) ≡ p + length a + length b = omega arith in
        ap (placed x) found-is ∙ (λ i. record { start = start_is i; end = end_is i })
