-- A job in the way of another, by its bytes; on the bytes of a state's jobs it is the machine's own test.
use Prim.Native.Nat.{ℕ, suc, ◌+◌, ◌-◌, ◌≤◌, ◌<◌, min}
use native.Mathlib.Omega.{arith}
use Rattle.std.proofs.Math.Nat.{sub-zero}
use Rattle.std.specs.Prelude.{Bool, true, false, ◌||◌, ◌≡◌, length}
use mathlib.Core.List.{List, [], ◌∷◌, ◌++◌, append_assoc}
use Rattle.std.proofs.Math.Path.{refl, ap}
use Rattle.std.proofs.Common.{sym, ◌∙◌}
use Rattle.std.proofs.Math.ListN.{drop}
use Rattle.text.specs.Same.{same_of, prefix_of}
use Rattle.state.specs.Maps.{Text, Map, ◌⟼◌, key_of, same, starts_with, any, any_value}
use Rattle.state.specs.Records.{State, CollectionJobToken}
use Rattle.fields.specs.Format.{◌▹◌, El, enc, enc_text, all}
use Rattle.fields.specs.declared.Code.{Code}
use Rattle.fields.specs.Codes.{codes, skip}
use Rattle.fields.specs.Rows.{text_here}
use Rattle.fields.proofs.RowLaws.{text-there}
use Rattle.fields.specs.Walks.{place_of}
use Rattle.fields.proofs.WalkLaws.{drop-within}
use Rattle.tables.specs.Skips.{after_record}
use Rattle.tables.specs.Seek.{rows_at, rows_left}
use Rattle.tables.specs.SeekLaws.{tails, rows_are}
use Rattle.image.specs.Shapes.{u64, key, job, job_parts, position_parts, reference_parts, before_root, before_namespace}
use Rattle.image.specs.Layout.{jobs, Formed}
use Rattle.image.specs.Tables.{job_row}
use Rattle.image.specs.Opened.{Holds}
use Rattle.image.proofs.StoredLaws.{stored_in}
use Rattle.image.specs.TableLaws.{table_in, behind}
use Rattle.image.proofs.TablePlaceLaws.{count-is, table_here}
use Rattle.image.specs.declared.Contents.{Contents}
use Rattle.machine.specs.Machine.{conflicts}
use Rattle.tables.specs.declared.TableRows.{TableRows}
use Rattle.next.specs.Peeks.{skip-to}
use Rattle.image.specs.Rows.{RowsOf, table_of, rows_as}

abbrev conflicts_of : (root namespace old-root old : Text) → Bool
conflicts_of root namespace old-root old = same old-root root || same old namespace || starts_with old namespace || starts_with namespace old

unfoldable pub conflicts_at : Text → Text → List ℕ → Bool
conflicts_at root namespace l = conflicts_of root namespace (text_here (skip 0 (codes before_root) l)) (text_here (skip 0 (codes before_namespace) l))

-- ---- one job, test by test

text-after : (cs : List Code) (s : List ℕ) (p a : ℕ) (t : Text) → a ≡ place_of s (skip 0 cs (drop p s)) → t ≡ text_here (drop a s) → text_here (skip 0 cs (drop p s)) ≡ t
text-after cs s p a t ea et = ap text_here (sym (after_record cs s p)) ∙ ap (λ (k : ℕ). text_here (drop k s)) (sym ea) ∙ sym et

module _ (root namespace s : List ℕ) (p : ℕ) (a : ℕ) (ea : a ≡ place_of s (skip 0 (codes before_root) (drop p s)))
    (old-root : Text) (er : old-root ≡ text_here (drop a s))
    (b : ℕ) (eb : b ≡ place_of s (skip 0 (codes before_namespace) (drop p s)))
    (old : Text) (en : old ≡ text_here (drop b s))
  where
    here : conflicts_at root namespace (drop p s) ≡ conflicts_of root namespace old-root old
    unfolding conflicts_at
    here = λ i. conflicts_of root namespace (text-after (codes before_root) s p a old-root ea er i) (text-after (codes before_namespace) s p b old eb en i)

    pub by_root : same_of old-root root ≡ true → true ≡ conflicts_at root namespace (drop p s)
    by_root h = sym (here ∙ go)
      where
        go : conflicts_of root namespace old-root old ≡ true
        go = simp h

    module _ (h : same_of old-root root ≡ false) where
      pub by_namespace : same_of old namespace ≡ true → true ≡ conflicts_at root namespace (drop p s)
      by_namespace k = sym (here ∙ go)
        where
          go : conflicts_of root namespace old-root old ≡ true
          go = simp (h, k)

      module _ (k : same_of old namespace ≡ false) where
        pub by_longer : prefix_of namespace old ≡ true → true ≡ conflicts_at root namespace (drop p s)
        by_longer l = sym (here ∙ go)
          where
            go : conflicts_of root namespace old-root old ≡ true
            go = simp (h, k, l)

        pub by_shorter : prefix_of namespace old ≡ false → prefix_of old namespace ≡ conflicts_at root namespace (drop p s)
        by_shorter l = sym (here ∙ go)
          where
            go : conflicts_of root namespace old-root old ≡ prefix_of old namespace
            go = simp (h, k, l)

-- ---- the rows by their positions, one by one

pub any-start : (P : List ℕ → Bool) (s : List ℕ) (at n p : ℕ) → p ≡ min at (length s) → any P (rows_at (codes job) n (drop at s)) ≡ any P (rows_at (codes job) (n - 0) (drop p s))
any-start P s at n p e =
    ap (λ (k : ℕ). any P (rows_at (codes job) k (drop at s))) (sym (sub-zero n)) ∙ ap (λ (l : List ℕ). any P (rows_at (codes job) (n - 0) l)) (sym (ap (λ (j : ℕ). drop j s) e ∙ drop-within s at))

module _ (P : List ℕ → Bool) (s : List ℕ) (p n i : ℕ) where
  pub any-end : n ≤ i → any P (rows_at (codes job) (n - i) (drop p s)) ≡ false
  unfolding any rows_at
  any-end h = let z : n - i ≡ 0 = omega arith in rw z

  pub any_on : (b : Bool) → P (drop p s) ≡ b → (e : ℕ) → e ≡ place_of s (skip 0 (codes job) (drop p s)) → i < n
      → any P (rows_at (codes job) (n - i) (drop p s)) ≡ (b || any P (rows_at (codes job) (n - (i + 1)) (drop e s)))
  unfolding any rows_at
  any_on b q e k h =
      let z : n - i ≡ suc (n - (i + 1)) = omega arith in
      let d : drop e s ≡ skip 0 (codes job) (drop p s) = ap (λ (j : ℕ). drop j s) k ∙ after_record (codes job) s p in
      ap (λ (m : ℕ). any P (rows_at (codes job) m (drop p s))) z
      ∙ ap (λ (c : Bool). c || any P (rows_at (codes job) (n - (i + 1)) (skip 0 (codes job) (drop p s)))) q
      ∙ ap (λ (l : List ℕ). b || any P (rows_at (codes job) (n - (i + 1)) l)) (sym d)

  -- a row that is in the way ends it
  pub any_found : P (drop p s) ≡ true → i < n → any P (rows_at (codes job) (n - i) (drop p s)) ≡ true
  unfolding any rows_at
  any_found q h =
      let z : n - i ≡ suc (n - (i + 1)) = omega arith in
      ap (λ (m : ℕ). any P (rows_at (codes job) m (drop p s))) z ∙ ap (λ (c : Bool). c || any P (rows_at (codes job) (n - (i + 1)) (skip 0 (codes job) (drop p s)))) q

-- by the texts as they were cut out of a request
pub conflict_told : (root namespace root' namespace' : Text) (rows : List (List ℕ)) (b : Bool) → root' ≡ root → namespace' ≡ namespace
    → b ≡ any (conflicts_at root' namespace') rows → any (conflicts_at root namespace) rows ≡ b
conflict_told root namespace root' namespace' rows b e k h = (λ i. any (conflicts_at (sym e i) (sym k i)) rows) ∙ sym h

-- and by the jobs as they were given
pub conflict_given : {x : List ℕ} {c : Contents} {r : TableRows} → RowsOf x c 5 r → (root namespace root' namespace' : Text) (b : Bool) → root' ≡ root → namespace' ≡ namespace
    → b ≡ any (conflicts_at root' namespace') (rows_left r) → any (conflicts_at root namespace) (rows_at (codes job) (table_of c 5).count (drop (table_of c 5).at x)) ≡ b
conflict_given {r = r} given root namespace root' namespace' b e k h =
    ap (any (conflicts_at root namespace)) (sym (rows_as given)) ∙ conflict_told root namespace root' namespace' (rows_left r) b e k h

-- ---- the jobs of a state

module _ (v : CollectionJobToken) (r : List ℕ) where
  root-row : text_here (skip 0 (codes before_root) (enc job (job_parts v) ++ r)) ≡ v.destination_root
  unfolding enc
  root-row =
      let front : El before_root = (v.job_id, (v.owner_generation, (position_parts v.authority_position, (v.frozen_floor, reference_parts v.input_manifest)))) in
      let b = enc (u64 ▹ u64 ▹ key) (v.range_map_epoch, (v.expected_collected_through, v.output_namespace)) in
      let e : enc job (job_parts v) ++ r ≡ enc before_root front ++ (enc_text v.destination_root ++ (b ++ r)) = simp append_assoc in
      ap (λ (l : List ℕ). text_here (skip 0 (codes before_root) l)) e
      ∙ ap text_here (skip-to before_root front (enc_text v.destination_root ++ (b ++ r))) ∙ text-there v.destination_root (b ++ r)

  namespace-row : text_here (skip 0 (codes before_namespace) (enc job (job_parts v) ++ r)) ≡ v.output_namespace
  unfolding enc
  namespace-row =
      let front : El before_namespace =
      (v.job_id, (v.owner_generation, (position_parts v.authority_position, (v.frozen_floor, (reference_parts v.input_manifest, (v.destination_root, (v.range_map_epoch, v.expected_collected_through)))))))
      in
      let e : enc job (job_parts v) ++ r ≡ enc before_namespace front ++ (enc_text v.output_namespace ++ r) = simp append_assoc in
      ap (λ (l : List ℕ). text_here (skip 0 (codes before_namespace) l)) e ∙ ap text_here (skip-to before_namespace front (enc_text v.output_namespace ++ r)) ∙ text-there v.output_namespace r

module _ (root namespace : Text) where
  conflict_row : (v : CollectionJobToken) (r : List ℕ) → conflicts_at root namespace (enc job (job_parts v) ++ r) ≡ conflicts root namespace v
  unfolding conflicts_at conflicts
  conflict_row v r = λ i. conflicts_of root namespace (root-row v r i) (namespace-row v r i)

  conflict_rows : (m : Map CollectionJobToken) (r : List ℕ) → any (conflicts_at root namespace) (tails (codes job) job_row key_of m r) ≡ any_value (conflicts root namespace) m
  unfolding any any_value tails
  conflict_rows [] r = refl
  conflict_rows ((k ⟼ v) ∷ m) r = λ i. conflict_row v (all job_row m ++ r) i || conflict_rows m r i

  -- A CONFLICT AMONG THE JOBS OF A STATE
  pub conflicts-here : {x : List ℕ} {c : Contents} {s : State} → Holds x c s → Formed s
      → any (conflicts_at root namespace) (rows_at (codes job) (table_in jobs c).count (drop (table_in jobs c).at x)) ≡ any_value (conflicts root namespace) s.collection_jobs
  conflicts-here {x} {c} {s} h f =
      (λ i. any (conflicts_at root namespace) (rows_at (codes job) (count-is h jobs i) (table_here h jobs i)))
      ∙ ap (any (conflicts_at root namespace)) (rows_are (codes job) job_row key_of s.collection_jobs (behind jobs s) (stored_in jobs s f).hopped)
      ∙ conflict_rows s.collection_jobs (behind jobs s)
