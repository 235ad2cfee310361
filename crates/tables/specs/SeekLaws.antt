-- What the hops find in bytes that were written as rows: the map's own lookup, and its rows one by one.
use Prim.Native.Nat.{ℕ, zero, suc, ◌-◌, ◌≤◌}
use Rattle.std.proofs.Math.Bool.{Bool, cond}
use Rattle.std.proofs.Common.{arith, sym, ◌∙◌, length-drop, eq-eqb, ne_eqb}
use mathlib.Core.List.{List, [], ◌∷◌, ◌++◌, append_assoc, append-nil}
use Rattle.std.specs.Prelude.{◌≡◌, eqb, length, take, drop, None, Some}
use Rattle.std.proofs.Math.Path.{refl, ap}
use Rattle.text.specs.Order.{order_of}
use Rattle.std.specs.declared.cmp.Ordering.TheVariants.{Less, Equal, Greater}
use Rattle.state.specs.Maps.{Text, Map, Entry, ◌⟼◌, key_of, side, is_empty, Every}
use Rattle.state.proofs.Places.{at, behind}
use Rattle.fields.specs.Format.{Field, text, ◌▹◌, El, enc, all, Within}
use Rattle.fields.proofs.FormatLaws.{dec-enc}
use Rattle.fields.specs.declared.Code.{Code}
use Rattle.fields.specs.Codes.{codes, skip}
use Rattle.fields.proofs.CodeLaws.{skip-dec}
use Rattle.fields.specs.Walks.{place_of, Rest}
use Rattle.fields.proofs.WalkLaws.{rest_all, rest_trans, rest-place}
use Rattle.fields.specs.Rows.{text_here}
use Rattle.fields.proofs.RowLaws.{row-text}
use Rattle.tables.specs.Skips.{skip-rest}
use Rattle.tables.specs.Seek.{Seen, nothing_at, seek, row_of, found, unless_empty, rows_at}

-- ---- for any bytes: the row is a part of them

pub record SeenIn (s : List ℕ) (x : Seen) : Type 0 where
  pub from_rest : Rest s x.from
  pub to_rest : Rest x.from x.to

pub seek_in : (cs : List Code) (n : ℕ) (id : Text) (s : List ℕ) → SeenIn s (seek cs n id s)
unfolding seek
seek_in cs zero id s = record { from_rest = rest_all s; to_rest = rest_all s }
seek_in cs (suc n) id s =
    elim (order_of id (text_here s)) as (λ o. SeenIn s (side o (nothing_at s) (record { from = s; to = skip 0 cs s }) (seek cs n id (skip 0 cs s)))) [
      | Less ↦ record { from_rest = rest_all s; to_rest = rest_all s }
      | Equal ↦ record { from_rest = rest_all s; to_rest = skip-rest 0 cs s }
      | Greater ↦ (let i = seek_in cs n id (skip 0 cs s) in record { from_rest = rest_trans (skip-rest 0 cs s) i.from_rest; to_rest = i.to_rest })
    ]

pub rest-length : {s r : List ℕ} → Rest s r → length r ≤ length s
rest-length {s} a = let l = ap length a.is ∙ length-drop a.bytes s in omega arith

-- the row by its places
pub row-places : (s : List ℕ) (x : Seen) → SeenIn s x → take (place_of s x.to - place_of s x.from) (drop (place_of s x.from) s) ≡ row_of x
unfolding row_of
row-places s x i =
    let a = rest-length i.from_rest in
    let b = rest-length i.to_rest in
    let z : place_of s x.to - place_of s x.from ≡ length x.from - length x.to = omega arith in
    ap (λ (m : ℕ). take m (drop (place_of s x.from) s)) z ∙ ap (take (length x.from - length x.to)) (rest-place i.from_rest)

-- A ROW IS FOUND WHERE IT IS NOT EMPTY
is_row : (l : List ℕ) (k m : ℕ) → m ≡ length l - k → k ≤ length l → eqb (length l) k ≡ is_empty (take m l)
is_row l k zero e h = eq-eqb (length l) k (omega arith)
is_row [] k (suc m) e h = let z : ⊥ = omega arith in absurd z
is_row (x ∷ l) k (suc m) e h = ne_eqb (suc (length l)) k (λ z. omega arith)

pub found-row : (cs : List Code) (n : ℕ) (id : Text) (s : List ℕ) → found (seek cs n id s) ≡ unless_empty (row_of (seek cs n id s))
unfolding found row_of
found-row cs n id s =
    let x = seek cs n id s in
    ap (λ (b : Bool). cond b None (Some (take (length x.from - length x.to) x.from)))
    (is_row x.from (length x.to) (length x.from - length x.to) refl (rest-length (seek_in cs n id s).to_rest))

-- ---- rows that were written: each has its key at its head, and is hopped over

pub record Hopped {A : Type 0} (cs : List Code) (write : A → List ℕ) (key : A → Text) (v : A) : Type 0 where
  pub head : (r : List ℕ) → text_here (write v ++ r) ≡ key v
  pub over : (r : List ℕ) → skip 0 cs (write v ++ r) ≡ r

pub hopped-row : (n : ℕ) (f : Field) (v : El (text n ▹ f)) → Within (text n ▹ f) v → Hopped (codes (text n ▹ f)) (enc (text n ▹ f)) (λ v. v.0) v
unfolding skip
hopped-row n f v w = record {
  head = λ r. row-text n f (enc (text n ▹ f) v ++ r) v r (dec-enc (text n ▹ f) v r w);
  over = λ r. ap (λ (cs : List Code). skip 0 cs (enc (text n ▹ f) v ++ r)) (sym (append-nil (codes (text n ▹ f)))) ∙ skip-dec (text n ▹ f) [] (enc (text n ▹ f) v ++ r) v r (dec-enc (text n ▹ f) v r w);
}

module _ {A : Type 0} (cs : List Code) (write : Entry A → List ℕ) where
  -- LOOKUP IS THE MAP'S: ahead of the row, the row, behind it
  pub seek_is : (k : Text) (m : Map A) (r : List ℕ) → Every (Hopped cs write key_of) m
      → seek cs (length m) k (all write m ++ r) ≡ record { from = all write (at k m) ++ (all write (behind k m) ++ r); to = all write (behind k m) ++ r }
  unfolding seek all at behind
  seek_is k [] r h = refl
  seek_is k ((j ⟼ w) ∷ m) r h =
      let t : List ℕ = all write m ++ r in
      let a : (write (j ⟼ w) ++ all write m) ++ r ≡ write (j ⟼ w) ++ t = append_assoc (write (j ⟼ w)) (all write m) r in
      ap (seek cs (suc (length m)) k) a
      ∙ ap (λ (x : Text). side (order_of k x) (nothing_at (write (j ⟼ w) ++ t)) (record { from = write (j ⟼ w) ++ t; to = skip 0 cs (write (j ⟼ w) ++ t) }) (seek cs (length m) k (skip 0 cs (write (j ⟼ w) ++ t)))) (h.0.head t)
      ∙ ap (λ (x : List ℕ). side (order_of k j) (nothing_at (write (j ⟼ w) ++ t)) (record { from = write (j ⟼ w) ++ t; to = x }) (seek cs (length m) k x)) (h.0.over t)
      ∙ (elim (order_of k j) as (λ o. side o (nothing_at (write (j ⟼ w) ++ t)) (record { from = write (j ⟼ w) ++ t; to = t }) (seek cs (length m) k t)
      ≡ record { from = all write (side o [] ((j ⟼ w) ∷ []) (at k m)) ++ (all write (side o ((j ⟼ w) ∷ m) m (behind k m)) ++ r); to = all write (side o ((j ⟼ w) ∷ m) m (behind k m)) ++ r }) [
        | Less ↦ ap nothing_at (sym a)
        | Equal ↦ ap (λ (x : List ℕ). record { from = x ++ t; to = t }) (sym (append-nil (write (j ⟼ w))))
        | Greater ↦ seek_is k m r h.1
      ])

module _ {A : Type 0} (cs : List Code) (write : A → List ℕ) (key : A → Text) where
  -- what is left from each row on
  unfoldable pub tails : List A → List ℕ → List (List ℕ)
  tails [] r = []
  tails (v ∷ vs) r = (write v ++ (all write vs ++ r)) ∷ tails vs r

  pub rows_are : (vs : List A) (r : List ℕ) → Every (Hopped cs write key) vs → rows_at cs (length vs) (all write vs ++ r) ≡ tails vs r
  unfolding rows_at all tails
  rows_are [] r h = refl
  rows_are (v ∷ vs) r h =
      let a : (write v ++ all write vs) ++ r ≡ write v ++ (all write vs ++ r) = append_assoc (write v) (all write vs) r in
      ap (rows_at cs (suc (length vs))) a
      ∙ ap (λ (x : List ℕ). (write v ++ (all write vs ++ r)) ∷ rows_at cs (length vs) x) (h.0.over (all write vs ++ r))
      ∙ ap (λ (l : List (List ℕ)). (write v ++ (all write vs ++ r)) ∷ l) (rows_are vs r h.1)
