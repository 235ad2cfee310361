-- The parts of what stays.
use Rattle.std.specs.Prelude.{ℕ, ◌+◌, ◌-◌, ◌≤◌, Bool, true, false, cond, List, [], ◌∷◌, ◌++◌, ◌≡◌, replicate, length, drop, set}
use Rattle.std.proofs.Common.{arith, append-nil, ap, ◌∙◌, subst}
use Rattle.std.proofs.Math.Path.{refl}
use Rattle.parts.specs.declared.Part.{Part}
use Rattle.parts.specs.declared.Part.TheVariants.{First}
use Rattle.parts.specs.Gather.{run, gather_of, empty, gather_empty, Filled, none, more, set-filled, set_gather}
use Rattle.fields.specs.Codes.{codes, skip}
use Rattle.fields.specs.Walks.{place_of}
use Rattle.tables.specs.Seek.{rows_at}
use Rattle.image.specs.Layout.{leases, jobs}
use Rattle.image.specs.Shapes.{lease}
use Rattle.image.specs.TableLaws.{table_in, tables_place}
use Rattle.image.specs.declared.Contents.{Contents}
use Rattle.expiry.specs.Due.{due}
use Rattle.next.specs.Added.{Added}
use Rattle.clock.specs.Due.{row_of, kept_bytes, row-size}

-- ---- a part for each row

run_unless : (b : Bool) (s : List ℕ) (p n : ℕ) (x : List ℕ) → run s p n ≡ x → run s p (cond b 0 n) ≡ cond b [] x
run_unless true s p n x h = refl
run_unless false s p n x h = h

module _ (tick : ℕ) where
  pub kept-none : kept_bytes tick [] ≡ []
  unfolding kept_bytes
  kept-none = refl

  pub kept_more : (r : List ℕ) (rs : List (List ℕ)) → kept_bytes tick (r ∷ rs) ≡ cond (due tick r) [] (row_of r) ++ kept_bytes tick rs
  unfolding kept_bytes
  kept_more r rs = refl

  module _ (s : List ℕ) (p q : ℕ) where
    pub kept_run : (gone : Bool) (len long : ℕ) → p ≤ length s → gone ≡ due tick (drop p s)
        → q ≡ place_of s (skip 0 (codes lease) (drop p s))
        → long ≡ q - p → len ≡ cond gone 0 long → run s p len ≡ cond (due tick (drop p s)) [] (row_of (drop p s))
    kept_run gone len long h g e w l =
        ap (run s p) (l ∙ ap (λ (b : Bool). cond b 0 long) g) ∙ run_unless (due tick (drop p s)) s p long (row_of (drop p s)) (ap (run s p) (w ∙ row-size s p q e h))

-- ---- the whole list

pub record BodyIs (tick : ℕ) (s : List ℕ) (c : Contents) (ps : List Part) : Type 0 where
  pub gathers : (q : List ℕ)
      → gather_of s q ps ≡ (run s (tables_place c) ((table_in leases c).at - tables_place c) ++ kept_bytes tick (rows_at (codes lease) (table_in leases c).count (drop (table_in leases c).at s))) ++ run s (table_in jobs c).at (length s)

-- the first of the parts, and no others yet
abbrev pub body_start : (first size : ℕ) → List Part
body_start first size = First first size ∷ replicate 65 empty

pub start-filled : (first size : ℕ) → Filled 1 (body_start first size)
start-filled first size = more (First first size) (none 65)

-- the tables of the next image
module _ (tick : ℕ) (s : List ℕ) (c : Contents) where
  abbrev first : ℕ
  first = tables_place c

  abbrev at : ℕ
  at = (table_in leases c).at

  abbrev n : ℕ
  n = (table_in leases c).count

  abbrev end : Part
  end = First (table_in jobs c).at (length s)

  module _ (size : ℕ) (b : List Part) (h : n ≤ 64) (z : size ≡ at - first) (ab : Added (kept_bytes tick) 1 s at n (body_start first size) b) where
    long : length b ≡ 66
    long = ab.long

    start-gathers : (q : List ℕ) → gather_of s q (body_start first size) ≡ run s first (at - first)
    start-gathers q = ap (λ (l : List ℕ). run s first size ++ l) (gather_empty s q 65) ∙ append-nil (run s first size) ∙ ap (run s first) z

    pub body_is : BodyIs tick s c (set b (n + 1) end)
    body_is = record {
      gathers = λ q.
          set_gather b (n + 1) end ab.filled (omega (arith, long)) s q
          ∙ ap (λ (l : List ℕ). l ++ run s (table_in jobs c).at (length s))
          (ab.gathers q ∙ ap (λ (l : List ℕ). l ++ kept_bytes tick (rows_at (codes lease) n (drop at s))) (start-gathers q));
    }

    pub body_filled : Filled (n + 2) (set b (n + 1) end)
    body_filled =
        let y : n + 1 + 1 ≡ n + 2 = omega arith in
        subst (λ (m : ℕ). Filled m (set b (n + 1) end)) y (set-filled b (n + 1) end ab.filled (omega (arith, long)))
