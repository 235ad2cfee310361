-- Contents of a call with the root intent epoch raised and one table set: they show the next state, and they are small. And a request is
-- short.
use Rattle.std.specs.Prelude.{ℕ, ◌≤◌, List, ◌≡◌, length, set}
use Rattle.std.proofs.Common.{arith, sym, ap, subst}
use Rattle.state.specs.Maps.{Map}
use Rattle.state.specs.Setters.{set_revision}
use Rattle.image.specs.Layout.{TableName, Value, with_map}
use Rattle.image.specs.ImageParts.{measures, tables_of}
use Rattle.image.specs.Opened.{measures_in, Shows}
use Rattle.image.specs.TableLaws.{index}
use Rattle.image.specs.Front.{Small}
use Rattle.image.specs.declared.Table.{Table}
use Rattle.image.specs.declared.Contents.{Contents}
use Rattle.machine.specs.Next.{bump_root}
use Rattle.requests.specs.Meaning.{position_of, request_of}
use Rattle.requests.specs.declared.AuthorityPosition.{AuthorityPosition as PositionAt}
use Rattle.requests.specs.declared.Request.{Request as RequestAt}
use Rattle.next.specs.Bounds.{request-small}
use Rattle.next.specs.Call.{Ready}
use Rattle.next.specs.Contents.{with_tables, raised}
use Rattle.next.specs.Kept.{small-held, small-scalars}
use Rattle.next.specs.ShownLaws.{shows-raised, shows-map, small-table}

module _ {x : List ℕ} {c : Contents} {q : List ℕ} {r : RequestAt} (ready : Ready x c q r) where
  pub request_bounded : length q ≤ 8000
  request_bounded = omega (arith, ap length ready.request_is, request-small (request_of q r) ready.within)

  module _ (p : PositionAt) (d : Contents) (e : d ≡ raised c p) (t : TableName) (u : Table) where
    pub raised-shows : (m : Map (Value t)) → measures_in (set c.tables (index t) u) ≡ measures (tables_of (with_map t m ready.state))
        → Shows x (with_tables d (set d.tables (index t) u)) (set_revision (position_of p) (bump_root (with_map t m ready.state)))
    raised-shows m h =
        subst (λ (k : Contents). Shows x (with_tables k (set k.tables (index t) u)) (set_revision (position_of p) (bump_root (with_map t m ready.state)))) (sym e)
        (shows-raised (shows-map ready.holds.shows t m (set c.tables (index t) u) h) p)

    pub raised-small : u.size ≤ 1000000 → Small (with_tables d (set d.tables (index t) u))
    raised-small h =
        let k = small-held ready.formed ready.holds ready.short in
        subst (λ (o : Contents). Small (with_tables o (set o.tables (index t) u))) (sym e) (small-scalars (small-table k (index t) u h) (raised c p).scalars k.root)
