-- Contents of a call at its revision with another table of reservations: they show the next state, and they are small.
use Rattle.std.specs.Prelude.{ℕ, ◌≤◌, List, ◌≡◌, set}
use Rattle.std.proofs.Common.{sym, subst}
use Rattle.state.specs.Maps.{Map}
use Rattle.state.specs.Records.{DeletePermit}
use Rattle.state.specs.Setters.{set_revision, set_deletion_reservations}
use Rattle.image.specs.Layout.{reservations}
use Rattle.image.specs.ImageParts.{measures, tables_of}
use Rattle.image.specs.Opened.{measures_in, Shows}
use Rattle.image.specs.Front.{Small}
use Rattle.image.specs.declared.Table.{Table}
use Rattle.image.specs.declared.Contents.{Contents}
use Rattle.requests.specs.Meaning.{position_of}
use Rattle.requests.specs.declared.AuthorityPosition.{AuthorityPosition}
use Rattle.requests.specs.declared.Request.{Request}
use Rattle.next.specs.Call.{Ready}
use Rattle.next.specs.Contents.{with_tables, revised}
use Rattle.next.specs.Kept.{small-held, small-scalars}
use Rattle.next.specs.ShownLaws.{shows-revised, shows-map, small-table}

module _ {x : List ℕ} {c : Contents} {q : List ℕ} {r : Request} (ready : Ready x c q r) (p : AuthorityPosition) (d : Contents) (e : d ≡ revised c p) (t : Table) where
  pub revised-shows : (m : Map DeletePermit) → measures_in (set c.tables 3 t) ≡ measures (tables_of (set_deletion_reservations m ready.state))
      → Shows x (with_tables d (set d.tables 3 t)) (set_revision (position_of p) (set_deletion_reservations m ready.state))
  revised-shows m h =
      subst (λ (k : Contents). Shows x (with_tables k (set k.tables 3 t)) (set_revision (position_of p) (set_deletion_reservations m ready.state))) (sym e)
      (shows-revised (shows-map ready.holds.shows reservations m (set c.tables 3 t) h) p)

  pub revised-small : t.size ≤ 1000000 → Small (with_tables d (set d.tables 3 t))
  revised-small h =
      let k = small-held ready.formed ready.holds ready.short in
      subst (λ (o : Contents). Small (with_tables o (set o.tables 3 t))) (sym e) (small-scalars (small-table k 3 t h) (revised c p).scalars k.root)
