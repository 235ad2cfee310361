-- The leases counted: how many end, how many bytes stay, and the oldest version that stays.
use Rattle.std.specs.Prelude.{ℕ, suc, ◌+◌, ◌-◌, ◌≤◌, ◌<◌, min, Bool, true, false, ◌≡◌, take, drop}
use Rattle.std.specs.Int.{from_bool}
use native.Mathlib.Omega.{arith}
use Rattle.std.proofs.Math.Bool.{cond}
use mathlib.Core.List.{List, [], ◌++◌}
use Rattle.std.proofs.Math.Path.{sym, ap}
use Rattle.std.proofs.Common.{◌∙◌, length-append}
use Rattle.std.proofs.Math.ListN.{length}
use Rattle.parts.specs.Digits.{value}
use Rattle.fields.specs.Codes.{codes, skip}
use Rattle.fields.specs.Walks.{place_of}
use Rattle.fields.proofs.WalkLaws.{drop-within}
use Rattle.tables.specs.Seek.{rows_at}
use Rattle.image.specs.Shapes.{lease, before_version}
use Rattle.expiry.specs.Due.{due, next_low, rows_none, rows_next}
use Rattle.leases.specs.Oldest.{oldest_kept, kept-end, kept_on}
use Rattle.clock.specs.Due.{row_of, kept_bytes, ended_count, next-high, row-length}
use Rattle.clock.specs.declared.Tally.{Tally}

abbrev pub tallied : Tally → Bool → (version len : ℕ) → Tally
tallied t gone version len = record {
  ended = t.ended + from_bool gone;
  size = t.size + cond gone 0 len;
  oldest = cond gone t.oldest (min version t.oldest);
}

abbrev pub tally_of : (tick floor : ℕ) → List ℕ → (at n : ℕ) → Tally
tally_of tick floor s at n =
    let rows = rows_at (codes lease) n (drop at s) in
    record { ended = ended_count tick rows; size = length (kept_bytes tick rows); oldest = oldest_kept (due tick) floor rows }

-- so far, at the i-th row, which stands at p
pub record Counted (tick floor : ℕ) (s : List ℕ) (at n i p : ℕ) (t : Tally) : Type 0 where
  pub i_low : i ≤ n
  pub p_low : p ≤ length s
  pub ended_low : t.ended ≤ i
  pub size_low : t.size ≤ p
  pub ended_is : (tally_of tick floor s at n).ended ≡ t.ended + ended_count tick (rows_at (codes lease) (n - i) (drop p s))
  pub size_is : (tally_of tick floor s at n).size ≡ t.size + length (kept_bytes tick (rows_at (codes lease) (n - i) (drop p s)))
  pub oldest_is : (tally_of tick floor s at n).oldest ≡ oldest_kept (due tick) t.oldest (rows_at (codes lease) (n - i) (drop p s))

ended-step : (b : Bool) (n m : ℕ) → n + cond b (suc m) m ≡ n + from_bool b + m
ended-step true n m = omega arith
ended-step false n m = omega arith

size_step : (b : Bool) (n len : ℕ) (x y : List ℕ) → length x ≡ len → n + length (cond b [] x ++ y) ≡ n + cond b 0 len + length y
size_step true n len x y h = omega arith
size_step false n len x y h = omega (arith, length-append x y)

ended-up : (b : Bool) (n i : ℕ) → n ≤ i → n + from_bool b ≤ i + 1
ended-up true n i h = omega arith
ended-up false n i h = omega arith

size-up : (b : Bool) (n len p q : ℕ) → n ≤ p → p ≤ q → len ≡ q - p → n + cond b 0 len ≤ q
size-up true n len p q h k l = omega arith
size-up false n len p q h k l = omega arith

module _ (tick floor : ℕ) (s : List ℕ) (at n : ℕ) where
  start-rows : (p : ℕ) → p ≡ min at (length s) → rows_at (codes lease) n (drop at s) ≡ rows_at (codes lease) (n - 0) (drop p s)
  start-rows p e =
      let z : n ≡ n - 0 = omega arith in
      ap (λ (k : ℕ). rows_at (codes lease) k (drop at s)) z ∙ ap (rows_at (codes lease) (n - 0)) (sym (ap (λ (j : ℕ). drop j s) e ∙ drop-within s at))

  pub counted_start : (p : ℕ) → p ≡ min at (length s) → Counted tick floor s at n 0 p (record { ended = 0; size = 0; oldest = floor })
  counted_start p e = record {
    i_low = omega arith;
    p_low = omega arith;
    ended_low = omega arith;
    size_low = omega arith;
    ended_is = let r = ap (ended_count tick) (start-rows p e) in omega arith;
    size_is = let r = ap (λ (rs : List (List ℕ)). length (kept_bytes tick rs)) (start-rows p e) in omega arith;
    oldest_is = ap (oldest_kept (due tick) floor) (start-rows p e);
  }

  module _ (i p : ℕ) (t : Tally) (k : Counted tick floor s at n i p t) where
    pub counted_on : (gone : Bool) (version len q : ℕ) → i < n → gone ≡ due tick (drop p s) → version ≡ value (take 8 (skip 0 (codes before_version) (drop p s)))
        → q ≡ place_of s (skip 0 (codes lease) (drop p s)) → len ≡ q - p
        → Counted tick floor s at n (i + 1) q (tallied t gone version len)
    unfolding ended_count kept_bytes
    counted_on gone version len q h g v e l =
        let rest : List (List ℕ) = rows_at (codes lease) (n - (i + 1)) (drop q s) in
        let next = rows_next s p n i q e h in
        record {
          i_low = omega arith;
          p_low = next_low s p q e;
          ended_low = ended-up gone t.ended i k.ended_low;
          size_low = size-up gone t.size len p q k.size_low (next-high s p q e k.p_low) l;
          ended_is =
              k.ended_is ∙ ap (λ (rs : List (List ℕ)). t.ended + ended_count tick rs) next
              ∙ ap (λ (b : Bool). t.ended + cond b (suc (ended_count tick rest)) (ended_count tick rest)) (sym g) ∙ ended-step gone t.ended (ended_count tick rest);
          size_is =
              k.size_is ∙ ap (λ (rs : List (List ℕ)). t.size + length (kept_bytes tick rs)) next
              ∙ ap (λ (b : Bool). t.size + length (cond b [] (row_of (drop p s)) ++ kept_bytes tick rest)) (sym g)
              ∙ size_step gone t.size len (row_of (drop p s)) (kept_bytes tick rest) (row-length s p q e k.p_low ∙ sym l);
          oldest_is =
              k.oldest_is ∙ ap (oldest_kept (due tick) t.oldest) next ∙ kept_on (due tick) t.oldest (drop p s) rest
              ∙ (λ j. oldest_kept (due tick) (cond (sym g j) t.oldest (min (sym v j) t.oldest)) rest);
        }

    pub counted-end : n ≤ i → t ≡ tally_of tick floor s at n
    unfolding ended_count kept_bytes
    counted-end h =
        let z = rows_none s p n i h in
        let a : t.ended ≡ (tally_of tick floor s at n).ended = let y = k.ended_is ∙ ap (λ (rs : List (List ℕ)). t.ended + ended_count tick rs) z in omega arith in
        let b : t.size ≡ (tally_of tick floor s at n).size = let y = k.size_is ∙ ap (λ (rs : List (List ℕ)). t.size + length (kept_bytes tick rs)) z in omega arith in
        let c : t.oldest ≡ (tally_of tick floor s at n).oldest = sym (k.oldest_is ∙ ap (oldest_kept (due tick) t.oldest) z ∙ kept-end (due tick) t.oldest) in
        λ j. record { ended = a j; size = b j; oldest = c j }
