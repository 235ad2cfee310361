-- Which leases end, row by row: what stays of the table, and how many end; and that the rows of a map of leases are its leases.
use Prim.Native.Nat.{ℕ, suc, ◌+◌, ◌-◌, ◌≤◌, min}
use native.Mathlib.Omega.{arith}
use Rattle.std.proofs.Math.Bool.{cond}
use mathlib.Core.List.{List, [], ◌∷◌, ◌++◌, map, append_assoc}
use Rattle.std.specs.Prelude.{◌≡◌, leb, drop}
use Rattle.std.proofs.Math.Path.{refl, sym, ap}
use Rattle.std.proofs.Common.{◌∙◌, subst, length-drop, length-take}
use Rattle.std.proofs.Math.ListN.{length, take}
use Rattle.std.proofs.Math.Seq.{take-append_seam}
use Rattle.text.specs.Order.{order_of}
use Rattle.std.specs.declared.cmp.Ordering.TheVariants.{Less}
use Rattle.state.specs.Maps.{Text, Map, Every, select, ◌⟼◌, key_of, entries_where}
use Rattle.state.proofs.MapLaws.{by_test}
use Rattle.state.specs.Sorted.{Each}
use Rattle.state.proofs.Places.{without}
use Rattle.state.specs.Sort.{Pairs}
use Rattle.state.specs.Sorted.{InOrder}
use Rattle.state.specs.Records.{SnapshotLeaseToken}
use Rattle.fields.specs.Format.{all, El, enc, enc_text}
use Rattle.fields.proofs.FormatLaws.{dec-enc}
use Rattle.fields.specs.Codes.{codes, skip}
use Rattle.fields.specs.Walks.{place_of}
use Rattle.fields.specs.Rows.{text_here}
use Rattle.tables.specs.SeekLaws.{Hopped, tails}
use Rattle.image.specs.Shapes.{lease, lease_rest, lease_parts, lease_from}
use Rattle.image.specs.Tables.{lease_row, kept}
use Rattle.machine.specs.Formed.{LeaseAt}
use Rattle.machine.specs.Next.{ends_by, oldest}
use Rattle.entries.proofs.Sized.{image_texts}
use Rattle.expiry.specs.Due.{due, rest-low}
use Rattle.requests.specs.Peek.{peek}
use Rattle.requests.proofs.PeekLaws.{peek-dec}
use Rattle.next.specs.Expired.{lease_in, ById, WholeId}
use Rattle.leases.specs.Rows.{deadline-row}
use Rattle.leases.specs.Oldest.{oldest_kept}
use Rattle.image.proofs.StoredLaws.{front}
use Rattle.floor.specs.Oldest.{version-row}

-- the bytes of the row at the head
abbrev pub row_of : List ℕ → List ℕ
row_of r = take (length r - length (skip 0 (codes lease) r)) r

unfoldable pub kept_bytes : ℕ → List (List ℕ) → List ℕ
kept_bytes tick [] = []
kept_bytes tick (r ∷ rs) = cond (due tick r) [] (row_of r) ++ kept_bytes tick rs

unfoldable pub ended_count : ℕ → List (List ℕ) → ℕ
ended_count tick [] = 0
ended_count tick (r ∷ rs) = cond (due tick r) (suc (ended_count tick rs)) (ended_count tick rs)

-- ---- a row that stands at p, and the next at q

module _ (s : List ℕ) (p q : ℕ) (e : q ≡ place_of s (skip 0 (codes lease) (drop p s))) where
  pub row-size : p ≤ length s → q - p ≡ length (drop p s) - length (skip 0 (codes lease) (drop p s))
  row-size h = omega (arith, e, rest-low s p q e, length-drop p s)

  pub next-high : p ≤ length s → p ≤ q
  next-high h = omega (arith, e, rest-low s p q e, length-drop p s)

  pub row-length : p ≤ length s → length (row_of (drop p s)) ≡ q - p
  row-length h = simp length-take (omega (arith, row-size h, rest-low s p q e))

-- ---- on the rows of a map

module _ (tick : ℕ) where
  module _ (j : Text) (t : SnapshotLeaseToken) (l : List ℕ) (h : LeaseAt image_texts j t) (o : Hopped (codes lease) lease_row key_of (j ⟼ t)) where
    due-is : due tick (lease_row (j ⟼ t) ++ l) ≡ ends_by tick t
    due-is = ap (λ (n : ℕ). leb n tick) (deadline-row t l h.1.1.1.1.1.1.1.0)

    row_is : row_of (lease_row (j ⟼ t) ++ l) ≡ lease_row (j ⟼ t)
    row_is = ap (λ (r : List ℕ). take (length (lease_row (j ⟼ t) ++ l) - length r) (lease_row (j ⟼ t) ++ l)) (o.over l) ∙ front (lease_row (j ⟼ t)) l

  module _ (r : List ℕ) where
    abbrev rows : Map SnapshotLeaseToken → List (List ℕ)
    rows m = tails (codes lease) lease_row key_of m r

    pub kept-rows : (m : Map SnapshotLeaseToken) → Each (LeaseAt image_texts) m → Every (Hopped (codes lease) lease_row key_of) m → kept_bytes tick (rows m) ≡ kept lease_row (ends_by tick) m
    unfolding kept_bytes kept tails
    kept-rows [] h o = refl
    kept-rows ((j ⟼ t) ∷ m) h o =
        let l : List ℕ = all lease_row m ++ r in
        (λ i. cond (due-is j t l h.0 o.0 i) [] (row_is j t l h.0 o.0 i) ++ kept-rows m h.1 o.1 i)
        ∙ by_test (λ b. cond b [] (lease_row (j ⟼ t)) ++ kept lease_row (ends_by tick) m ≡ cond b (kept lease_row (ends_by tick) m) (lease_row (j ⟼ t) ++ kept lease_row (ends_by tick) m)) (ends_by tick t) (λ _. refl) (λ _. refl)

    pub count-rows : (m : Map SnapshotLeaseToken) → Each (LeaseAt image_texts) m → Every (Hopped (codes lease) lease_row key_of) m → ended_count tick (rows m) ≡ length (entries_where (ends_by tick) m)
    unfolding ended_count select tails
    count-rows [] h o = refl
    count-rows ((j ⟼ t) ∷ m) h o =
        let l : List ℕ = all lease_row m ++ r in
        (λ i. cond (due-is j t l h.0 o.0 i) (suc (count-rows m h.1 o.1 i)) (count-rows m h.1 o.1 i))
        ∙ by_test (λ b. cond b (suc (length (entries_where (ends_by tick) m))) (length (entries_where (ends_by tick) m)) ≡ length (cond b ((j ⟼ t) ∷ entries_where (ends_by tick) m) (entries_where (ends_by tick) m))) (ends_by tick t) (λ _. refl) (λ _. refl)

    pub oldest-rows : (floor : ℕ) (m : Map SnapshotLeaseToken) → Each (LeaseAt image_texts) m → Every (Hopped (codes lease) lease_row key_of) m → oldest_kept (due tick) floor (rows m) ≡ oldest floor (without (ends_by tick) m)
    unfolding oldest_kept oldest without tails
    oldest-rows floor [] h o = refl
    oldest-rows floor ((j ⟼ t) ∷ m) h o =
        let l : List ℕ = all lease_row m ++ r in
        (λ i. cond (due-is j t l h.0 o.0 i) (oldest-rows floor m h.1 o.1 i) (min (version-row t l h.0.1.1.1.0 i) (oldest-rows floor m h.1 o.1 i)))
        ∙ by_test (λ b. cond b (oldest floor (without (ends_by tick) m)) (min t.snapshot_version (oldest floor (without (ends_by tick) m))) ≡ oldest floor (cond b (without (ends_by tick) m) ((j ⟼ t) ∷ without (ends_by tick) m))) (ends_by tick t) (λ _. refl) (λ _. refl)

-- THE ROWS OF A MAP: the leases of the map, by id, each with its whole id
module _ (r : List ℕ) where
  module _ (j : Text) (t : SnapshotLeaseToken) (l : List ℕ) (h : LeaseAt image_texts j t) (o : Hopped (codes lease) lease_row key_of (j ⟼ t)) where
    lease-is : lease_in (lease_row (j ⟼ t) ++ l) ≡ j ⟼ t
    lease-is =
        let p : peek lease (lease_row (j ⟼ t) ++ l) ≡ lease_parts t = peek-dec lease (lease_row (j ⟼ t) ++ l) (lease_parts t) l (dec-enc lease (lease_parts t) l h.1) in
        ap (λ (v : El lease). let u = lease_from v in u.lease_id ⟼ u) p ∙ ap (λ (k : Text). k ⟼ t) h.0

    id-whole : WholeId (lease_row (j ⟼ t) ++ l)
    unfolding enc enc_text
    id-whole =
        let b : List ℕ = enc lease_rest (lease_parts t).1 in
        let w : lease_row (j ⟼ t) ++ l ≡ enc_text t.lease_id ++ (b ++ l) = append_assoc (enc_text t.lease_id) b l in
        let id : text_here (lease_row (j ⟼ t) ++ l) ≡ t.lease_id = o.head l ∙ sym h.0 in
        let one : length t.lease_id + 1 ≡ suc (length t.lease_id) = omega arith in
        let n : length (text_here (lease_row (j ⟼ t) ++ l)) + 1 ≡ length (enc_text t.lease_id) = ap (λ (k : Text). length k + 1) id ∙ one in
        (λ i. take (n i) (w i)) ∙ take-append_seam (enc_text t.lease_id) (b ++ l) ∙ sym (ap enc_text id)

  abbrev all_rows : Map SnapshotLeaseToken → List (List ℕ)
  all_rows m = tails (codes lease) lease_row key_of m r

  pub rows-leases : (m : Map SnapshotLeaseToken) → Each (LeaseAt image_texts) m → Every (Hopped (codes lease) lease_row key_of) m → map lease_in (all_rows m) ≡ m
  unfolding tails
  rows-leases [] h o = refl
  rows-leases ((j ⟼ t) ∷ m) h o = λ i. lease-is j t (all lease_row m ++ r) h.0 o.0 i ∷ rows-leases m h.1 o.1 i

  pub rows_whole : (m : Map SnapshotLeaseToken) → Each (LeaseAt image_texts) m → Every (Hopped (codes lease) lease_row key_of) m → Every WholeId (all_rows m)
  unfolding tails
  rows_whole [] h o = tt
  rows_whole ((j ⟼ t) ∷ m) h o = (id-whole j t (all lease_row m ++ r) h.0 o.0, rows_whole m h.1 o.1)

  rows-after : (k : Text) (m : Map SnapshotLeaseToken) → Every (λ e. order_of k (key_of e) ≡ Less) m → Every (Hopped (codes lease) lease_row key_of) m → Every (λ r'. order_of k (text_here r') ≡ Less) (all_rows m)
  unfolding tails
  rows-after k [] h o = tt
  rows-after k ((j ⟼ t) ∷ m) h o = (ap (order_of k) (o.0.head (all lease_row m ++ r)) ∙ h.0, rows-after k m h.1 o.1)

  pub rows-by_id : (m : Map SnapshotLeaseToken) → Pairs InOrder m → Every (Hopped (codes lease) lease_row key_of) m → Pairs ById (all_rows m)
  unfolding tails
  rows-by_id [] h o = tt
  rows-by_id ((j ⟼ t) ∷ m) h o =
      (subst (λ (k : Text). Every (λ r'. order_of k (text_here r') ≡ Less) (all_rows m)) (sym (o.0.head (all lease_row m ++ r))) (rows-after j m h.0 o.1), rows-by_id m h.1 o.1)
