-- The leases that stand at a place, as their rows read; and that the rows sorted by `expiry` are the leases that the machine lists.
use Rattle.std.specs.Prelude.{ℕ, zero, suc, ◌+◌, ◌≤◌, ◌<◌, true, not, ◌&&◌, ◌||◌, ◌≡◌, leb, ltb, eqb, length, take, drop}
use Rattle.std.proofs.Math.Decide.{dec_lt}
use Rattle.std.proofs.Common.{arith, sym, ◌∙◌, lt-ltb, le-ltb, eq-eqb, ne_eqb}
use mathlib.Core.List.{List, [], ◌∷◌, ◌++◌, map}
use Rattle.std.proofs.Math.Path.{refl, ap}
use Rattle.std.proofs.lemmas.List.{length-map}
use Rattle.text.specs.Order.{order_of}
use Rattle.std.specs.declared.cmp.Ordering.TheVariants.{Less}
use Rattle.state.specs.Maps.{Entry, Map, ◌⟼◌, key_of, value_of, is_less, before, select, Every}
use Rattle.state.specs.Sort.{sort, Pairs}
use Rattle.state.proofs.SortLaws.{rearranged_back, rearranged_length, rearranged_every, pairs_weaker, select-few, every-select, pairs_select, map-select, sort_rearranged, sort-map}
use Rattle.state.specs.Records.{SnapshotLeaseToken}
use Rattle.fields.specs.Format.{enc_text, all}
use Rattle.fields.specs.Codes.{codes, past, passed, skip}
use Rattle.fields.specs.declared.Code.{Code}
use Rattle.fields.specs.Rows.{text_here}
use Rattle.fields.specs.Walks.{place_of, Rest}
use Rattle.fields.proofs.WalkLaws.{rest-drop, rest_trans, rest-place}
use Rattle.tables.specs.Seek.{rows_at}
use Rattle.tables.specs.Skips.{skip-rest}
use Rattle.image.specs.Shapes.{lease, lease_from}
use Rattle.machine.specs.Next.{ran_out_before, ended}
use Rattle.requests.specs.Peek.{peek}
use Rattle.expiry.specs.Due.{deadline_of, epoch_of, due}
use Rattle.expiry.specs.Ended.{sooner, goes_first, ended_rows}

-- a row as the lease that it holds, under its id
abbrev pub lease_in : List ℕ → Entry SnapshotLeaseToken
lease_in r = let t = lease_from (peek lease r) in t.lease_id ⟼ t

abbrev pub lease_rows_at : List ℕ → (at n : ℕ) → List (List ℕ)
lease_rows_at x at n = rows_at (codes lease) n (drop at x)

abbrev pub leases_at : List ℕ → (at n : ℕ) → Map SnapshotLeaseToken
leases_at x at n = map lease_in (lease_rows_at x at n)

-- the bytes of the id of the row at the head
abbrev pub id_of : List ℕ → List ℕ
id_of r = take (length (text_here r) + 1) r

-- what the order of the ids rests on: rows stand by id, and the whole id is there
abbrev pub ById : List ℕ → List ℕ → Type 0
ById r r' = order_of (text_here r) (text_here r') ≡ Less

abbrev pub WholeId : List ℕ → Type 0
WholeId r = id_of r ≡ enc_text (text_here r)

-- ---- a row and the lease in it

deadline_in : (r : List ℕ) → (value_of (lease_in r)).deadline_tick ≡ deadline_of r
unfolding peek skip past passed
deadline_in r = refl

epoch_in : (r : List ℕ) → (value_of (lease_in r)).lease_epoch ≡ epoch_of r
unfolding peek skip past passed
epoch_in r = refl

id_in : (r : List ℕ) → key_of (lease_in r) ≡ text_here r
unfolding peek
id_in r = refl

-- of two leases of which the first has the smaller id
in_id_order : (d e d' e' : ℕ) → not (sooner d' e' d e) ≡ (ltb d d' || (eqb d d' && (ltb e e' || (eqb e e' && true))))
in_id_order d e d' e' = go (dec_lt d d') (dec_lt d' d) (dec_lt e e') (dec_lt e' e)
  where
    go : Dec (d < d') → Dec (d' < d) → Dec (e < e') → Dec (e' < e) → not (sooner d' e' d e) ≡ (ltb d d' || (eqb d d' && (ltb e e' || (eqb e e' && true))))
    go (yes a) b c f = simp (lt-ltb d d' a, le-ltb d' d (omega arith), ne_eqb d' d (λ z. omega arith))
    go (no a) (yes b) c f = simp (lt-ltb d' d b, le-ltb d d' (omega arith), ne_eqb d d' (λ z. omega arith))
    go (no a) (no b) (yes c) f = simp (le-ltb d d' (omega arith), le-ltb d' d (omega arith), eq-eqb d d' (omega arith), eq-eqb d' d (omega arith), lt-ltb e e' c, le-ltb e' e (omega arith))
    go (no a) (no b) (no c) (yes f) = simp (le-ltb d d' (omega arith), le-ltb d' d (omega arith), eq-eqb d d' (omega arith), eq-eqb d' d (omega arith), lt-ltb e' e f, le-ltb e e' (omega arith), ne_eqb e e' (λ z. omega arith))
    go (no a) (no b) (no c) (no f) = simp (le-ltb d d' (omega arith), le-ltb d' d (omega arith), eq-eqb d d' (omega arith), eq-eqb d' d (omega arith), le-ltb e' e (omega arith), le-ltb e e' (omega arith), eq-eqb e e' (omega arith))

agrees : (r r' : List ℕ) → ById r r' → goes_first r r' ≡ ran_out_before (lease_in r) (lease_in r')
unfolding ran_out_before
agrees r r' h =
    in_id_order (deadline_of r) (epoch_of r) (deadline_of r') (epoch_of r')
    ∙ sym (λ i. ltb (deadline_in r i) (deadline_in r' i) || (eqb (deadline_in r i) (deadline_in r' i) && (ltb (epoch_in r i) (epoch_in r' i) || (eqb (epoch_in r i) (epoch_in r' i) && first i))))
  where
    first : before (key_of (lease_in r)) (key_of (lease_in r')) ≡ true
    first = ap is_less ((λ i. order_of (id_in r i) (id_in r' i)) ∙ h)

-- THE ROWS THAT END, sorted, hold the leases that the machine lists
module _ (tick : ℕ) (rows : List (List ℕ)) where
  ended-rows : Pairs ById rows → map lease_in (ended_rows tick rows) ≡ ended tick (map lease_in rows)
  ended-rows h =
      sort-map goes_first ran_out_before lease_in (select (due tick) rows) (pairs_weaker ById _ agrees (select (due tick) rows) (pairs_select (due tick) ById rows h))
      ∙ ap (sort ran_out_before) (map-select (due tick) _ lease_in (λ r. ap (λ (d : ℕ). leb d tick) (sym (deadline_in r))) rows)

  ids_of : (rs : List (List ℕ)) → Every WholeId rs → all id_of rs ≡ all enc_text (map key_of (map lease_in rs))
  unfolding all
  ids_of [] h = refl
  ids_of (r ∷ rs) h = λ i. (h.0 ∙ ap enc_text (sym (id_in r))) i ++ ids_of rs h.1 i

  every-ended : (P : List ℕ → Type 0) → Every P rows → Every P (ended_rows tick rows)
  every-ended P h = rearranged_every P (rearranged_back (sort_rearranged goes_first (select (due tick) rows))) (every-select (due tick) P rows h)

  pub ended-ids : Pairs ById rows → Every WholeId rows → all id_of (ended_rows tick rows) ≡ all enc_text (map key_of (ended tick (map lease_in rows)))
  ended-ids h w = ids_of (ended_rows tick rows) (every-ended WholeId w) ∙ ap (λ (m : Map SnapshotLeaseToken). all enc_text (map key_of m)) (ended-rows h)

  pub ended-count : Pairs ById rows → length (ended_rows tick rows) ≡ length (map key_of (ended tick (map lease_in rows)))
  ended-count h =
      sym (length-map (ended_rows tick rows) lease_in) ∙ ap length (ended-rows h) ∙ sym (length-map (ended tick (map lease_in rows)) key_of)

  pub ended-few : length (ended_rows tick rows) ≤ length rows
  ended-few = omega (arith, rearranged_length (sort_rearranged goes_first (select (due tick) rows)), select-few (due tick) rows)

-- a row by its place
rows-rest : (x : List ℕ) (cs : List Code) (n : ℕ) (r : List ℕ) → Rest x r → Every (Rest x) (rows_at cs n r)
unfolding rows_at
rows-rest x cs zero r h = tt
rows-rest x cs (suc n) r h = (h, rows-rest x cs n (skip 0 cs r) (rest_trans h (skip-rest 0 cs r)))

all_placed : (x : List ℕ) (rs : List (List ℕ)) → Every (Rest x) rs → all (λ p. id_of (drop p x)) (map (place_of x) rs) ≡ all id_of rs
unfolding all
all_placed x [] h = refl
all_placed x (r ∷ rs) h = λ i. id_of (rest-place h.0 i) ++ all_placed x rs h.1 i

pub ended-placed : (x : List ℕ) (at n tick : ℕ) → all (λ p. id_of (drop p x)) (map (place_of x) (ended_rows tick (lease_rows_at x at n))) ≡ all id_of (ended_rows tick (lease_rows_at x at n))
ended-placed x at n tick = all_placed x (ended_rows tick (lease_rows_at x at n)) (every-ended tick (lease_rows_at x at n) (Rest x) (rows-rest x (codes lease) n (drop at x) (rest-drop at x)))

pub rows-count : (cs : List Code) (n : ℕ) (r : List ℕ) → length (rows_at cs n r) ≡ n
unfolding rows_at
rows-count cs zero r = refl
rows-count cs (suc n) r = ap suc (rows-count cs n (skip 0 cs r))
