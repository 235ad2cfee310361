-- One key of the walk over a set, and one row of the search for a key.
use Rattle.std.specs.Prelude.{ℕ, suc, ◌-◌, ◌<◌, Bool, false, ◌||◌, List, [], ◌∷◌, ◌≡◌, refl, length, drop, Option, None, Some}
use Rattle.std.proofs.Common.{arith, ap, ◌∙◌, eq-eqb}
use Rattle.text.specs.Order.{order_of}
use Rattle.text.proofs.OrderLaws.{flip, order_flip, order_trans}
use Rattle.std.specs.declared.cmp.Ordering.TheVariants.{Less, Greater}
use Rattle.state.specs.Maps.{Text, any, is_some}
use Rattle.fields.specs.declared.Code.{Code}
use Rattle.fields.specs.Rows.{text_here}
use Rattle.tables.specs.Skips.{after_record}
use Rattle.tables.specs.Seek.{nothing_at, seek, found, after_row}
use Rattle.tables.specs.declared.TableRows.{TableRows}
use Rattle.reserved.specs.Located.{located_in, located_of}
use Rattle.reserved.specs.Passed.{sought, Passed, Reached}

-- ---- no rows

none_at : (s : List ℕ) → is_some (found (nothing_at s)) ≡ false
unfolding found
none_at s = rw (eq-eqb (length s) (length s) refl)

no_rows : (cs : List Code) (s : List ℕ) (k : Text) → located_in cs 0 s k ≡ false
unfolding located_in seek
no_rows cs s k = none_at s

pub any_none : (cs : List Code) (s : List ℕ) (ks : List Text) → any (located_in cs 0 s) ks ≡ false
unfolding any
any_none cs s [] = refl
any_none cs s (k ∷ ks) = rw (no_rows cs s k) (any_none cs s ks)

-- no row is passed yet
pub passed_none : (rows : TableRows) (id : Text) → Passed rows id rows
passed_none rows id = record { later = λ k h. refl }

module _ (P : Text → Bool) where
  pub any_end : any P [] ≡ false
  unfolding any
  any_end = refl

  pub any_on : (k : Text) (ks : List Text) → any P (k ∷ ks) ≡ P k || any P ks
  unfolding any
  any_on k ks = refl

pub ruleset set_steps = (any_none, any_end, any_on, passed_none)

-- ---- the search for a key

module _ (rows : TableRows) (id : Text) where
  -- the same answer where the rows before the id are left out
  same_row : (rest : TableRows) → sought rows id ≡ sought rest id → located_of rows id ≡ located_of rest id
  unfolding located_in
  same_row rest e = ap (λ x. is_some (found x)) e

  -- a search that began later
  passed_on : (from rest : TableRows) (last : Text) → Passed rows last from → order_of last id ≡ Less → Passed from id rest → Passed rows id rest
  passed_on from rest last p h q = record { later = λ k o. p.later k (order_trans last id k h o) ∙ q.later k o }

  pub reached_on : (from : TableRows) (last : Text) (o : Option TableRows) → Passed rows last from → order_of last id ≡ Less → Reached from id o → Reached rows id o
  reached_on from last None p h r = same_row from (p.later id h) ∙ r
  reached_on from last (Some rest) p h q = (same_row from (p.later id h) ∙ q.0, passed_on from rest last p h q.1)

module _ (to : TableRows) (id : Text) where
  abbrev head : Text
  head = text_here (drop to.at to.bytes.now)

  pub row_none : to.left ≡ 0 → located_of to id ≡ false
  row_none h = ap (λ (m : ℕ). located_in to.codes.now m (drop to.at to.bytes.now) id) h ∙ no_rows to.codes.now (drop to.at to.bytes.now) id

  module _ (h : 0 < to.left) where
    one_more : to.left ≡ suc (to.left - 1)
    one_more = omega arith

    pub row_later : order_of id head ≡ Less → located_of to id ≡ false
    unfolding located_in seek
    row_later o = rw (one_more, o) (none_at (drop to.at to.bytes.now))

    row_on : (k : Text) → order_of k head ≡ Greater → sought to k ≡ sought (after_row to) k
    unfolding seek
    row_on k o = ap (λ (m : ℕ). seek to.codes.now m k (drop to.at to.bytes.now)) one_more ∙ rw (o, after_record to.codes.now to.bytes.now to.at)

    pub same_on : order_of id head ≡ Greater → located_of to id ≡ located_of (after_row to) id
    same_on o = same_row to id (after_row to) (row_on id o)

    -- a row before the id is before each later one
    pub passed_row : (rows : TableRows) → order_of id head ≡ Greater → Passed rows id to → Passed rows id (after_row to)
    passed_row rows o q = record {
      later = λ k l.
          let a : order_of head id ≡ Less = order_flip id head ∙ ap flip o in
          let d : order_of k head ≡ Greater = order_flip head k ∙ ap flip (order_trans head id k a l) in
          q.later k l ∙ row_on k d;
    }

pub ruleset reach_steps = (row_none, passed_none, row_later, same_on, passed_row)
