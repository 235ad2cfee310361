-- Contents that show a state, changed, show the state with the same change; and they stay small.
use Rattle.std.specs.Prelude.{ℕ, zero, suc, ◌≤◌, List, [], ◌∷◌, ◌≡◌, get_or, set}
use Rattle.std.proofs.Common.{sym, ap, subst}
use Rattle.state.specs.Maps.{Map}
use Rattle.state.specs.Records.{State}
use Rattle.state.specs.Setters.{set_revision}
use Rattle.image.specs.Layout.{TableName, intents, roots, pins, reservations, leases, jobs, Value, with_map}
use Rattle.image.specs.ImageParts.{Measure, measures, tables_of}
use Rattle.image.specs.Opened.{measure_in, measures_in, Shows}
use Rattle.image.proofs.TablePlaceLaws.{measures-set}
use Rattle.image.specs.Front.{Light, Small}
use Rattle.image.specs.declared.Table.{Table}
use Rattle.image.specs.declared.Contents.{Contents}
use Rattle.machine.specs.Next.{up, bump_root}
use Rattle.requests.specs.Meaning.{position_of}
use Rattle.requests.specs.declared.AuthorityPosition.{AuthorityPosition as PositionAt}
use Rattle.next.specs.Contents.{with_tables, revised, raised}

module _ {x : List ℕ} {c : Contents} {s : State} (h : Shows x c s) where
  -- a revision
  pub shows-revised : (p : PositionAt) → Shows x (revised c p) (set_revision (position_of p) s)
  shows-revised p = record {
    version = h.version;
    numbers = ap (λ (l : List ℕ). set (set l 0 p.term) 1 p.index) h.numbers;
    window = h.window;
    root = h.root;
    root_size = h.root_size;
    tables = h.tables;
  }

  -- and the root intent epoch raised
  pub shows-raised : (p : PositionAt) → Shows x (raised c p) (set_revision (position_of p) (bump_root s))
  shows-raised p = record {
    version = h.version;
    numbers = ap (λ (l : List ℕ). set (set (set l 0 p.term) 1 p.index) 2 (up (get_or l 2 0))) h.numbers;
    window = h.window;
    root = h.root;
    root_size = h.root_size;
    tables = h.tables;
  }

  -- another map: what the tables say of their sizes and counts is all that changes
  pub shows-map : (t : TableName) (m : Map (Value t)) (ts : List Table) → measures_in ts ≡ measures (tables_of (with_map t m s)) → Shows x (with_tables c ts) (with_map t m s)
  shows-map intents m ts e = record { version = h.version; numbers = h.numbers; window = h.window; root = h.root; root_size = h.root_size; tables = e }
  shows-map roots m ts e = record { version = h.version; numbers = h.numbers; window = h.window; root = h.root; root_size = h.root_size; tables = e }
  shows-map pins m ts e = record { version = h.version; numbers = h.numbers; window = h.window; root = h.root; root_size = h.root_size; tables = e }
  shows-map reservations m ts e = record { version = h.version; numbers = h.numbers; window = h.window; root = h.root; root_size = h.root_size; tables = e }
  shows-map leases m ts e = record { version = h.version; numbers = h.numbers; window = h.window; root = h.root; root_size = h.root_size; tables = e }
  shows-map jobs m ts e = record { version = h.version; numbers = h.numbers; window = h.window; root = h.root; root_size = h.root_size; tables = e }

-- SMALL: only the root and the tables count
light_set : (ms : List Measure) (i : ℕ) (m : Measure) → Light ms → m.size ≤ 1000000 → Light (set ms i m)
light_set [] i m l h = tt
light_set (n ∷ ms) zero m l h = (h, l.1)
light_set (n ∷ ms) (suc i) m l h = (l.0, light_set ms i m l.1 h)

pub small-table : {c : Contents} → Small c → (i : ℕ) (t : Table) → t.size ≤ 1000000 → Small (with_tables c (set c.tables i t))
small-table {c} k i t h = record {
  root = k.root;
  tables = subst Light (sym (measures-set c.tables i t)) (light_set (measures_in c.tables) i (measure_in t) k.tables h);
}
