-- What opening an image answers: a function of the form and the state that it holds. And what the contents then show of
-- the state, which is all that a transition rests on.
use Rattle.std.specs.Prelude.{ℕ, ◌+◌, ◌-◌, ◌<◌, ◌≤◌, List, [], ◌∷◌, ◌++◌, ◌≡◌, length, take, drop, get_or, Option, None, Some}
use Rattle.parts.specs.Digits.{digits}
use Rattle.parts.specs.Answer.{longest}
use Rattle.parts.specs.Gather.{run}
use Rattle.state.specs.Maps.{Text}
use Rattle.state.specs.Records.{State}
use Rattle.fields.specs.Format.{enc_option, enc_text}
use Rattle.image.specs.Layout.{Form, Read, decode_image, Formed}
use Rattle.image.specs.ImageParts.{TableBytes, tables_of, joined, Measure, measures, numbers_of, tables_at}
use Rattle.image.specs.declared.Table.{Table}
use Rattle.image.specs.declared.TextAt.{TextAt}
use Rattle.image.specs.declared.Scalars.{Scalars}
use Rattle.image.specs.declared.Contents.{Contents}

-- the collection root is the last of the scalars: it ends where the tables begin
abbrev pub root_of : ℕ → Option Text → Option TextAt
root_of end None = None
root_of end (Some t) = Some (record { at = end - length t; len = length t })

abbrev pub scalars_opened : ℕ → State → Scalars
scalars_opened end s = record {
  term = s.revision.term;
  index = s.revision.index;
  root_intent_epoch = s.root_intent_epoch;
  observed_commit_frontier = s.observed_commit_frontier;
  retention_window = s.retention_window;
  retention_policy_epoch = s.retention_policy_epoch;
  policy_floor = s.policy_floor;
  minimum_readable_version = s.minimum_readable_version;
  physically_collected_through = s.physically_collected_through;
  lease_clock_tick = s.lease_clock_tick;
  lease_epoch = s.lease_epoch;
  range_map_epoch = s.range_map_epoch;
  collection_root = root_of end s.collection_root;
}

-- tables one after the other, from a place on
abbrev pub laid : ℕ → List TableBytes → List Table
laid at [] = []
laid at (t ∷ ts) = record { at = at; size = length t.bytes; count = t.rows } ∷ laid (at + length t.bytes) ts

abbrev pub contents_in : Form → State → Contents
contents_in f s = record {
  format_version = s.format_version;
  scalars = scalars_opened (tables_at f s) s;
  tables = laid (tables_at f s) (tables_of s);
}

-- no table
abbrev pub nowhere : Table
nowhere = record { at = 0; size = 0; count = 0 }

abbrev pub no_contents : Contents
no_contents = record {
  format_version = 0;
  scalars = record {
    term = 0;
    index = 0;
    root_intent_epoch = 0;
    observed_commit_frontier = 0;
    retention_window = None;
    retention_policy_epoch = 0;
    policy_floor = 0;
    minimum_readable_version = 0;
    physically_collected_through = 0;
    lease_clock_tick = 0;
    lease_epoch = 0;
    range_map_epoch = 0;
    collection_root = None;
  };
  tables = nowhere ∷ nowhere ∷ nowhere ∷ nowhere ∷ nowhere ∷ nowhere ∷ [];
}

abbrev pub opened_of : Option Read → Option Contents
opened_of None = None
opened_of (Some r) = Some (contents_in r.form r.state)

-- what testing an image answers
abbrev pub test_of : Option State → ℕ
test_of None = 40
test_of (Some s) = 0

-- WHAT CONTENTS SHOW OF A STATE
-- the numbers of the scalars, in the order in which they are written
abbrev pub numbers_in : Scalars → List ℕ
numbers_in n =
    n.term
    ∷ n.index
    ∷ n.root_intent_epoch
    ∷ n.observed_commit_frontier
    ∷ n.retention_policy_epoch
    ∷ n.policy_floor
    ∷ n.minimum_readable_version
    ∷ n.physically_collected_through
    ∷ n.lease_clock_tick
    ∷ n.lease_epoch
    ∷ n.range_map_epoch
    ∷ []

-- the root's option as it is written: its flag, and its text with the length byte before it
abbrev pub root_flag : Option TextAt → ℕ
root_flag None = 0
root_flag (Some t) = 1

abbrev pub root_start : Option TextAt → ℕ
root_start None = 0
root_start (Some t) = t.at - 1

abbrev pub root_width : Option TextAt → ℕ
root_width None = 0
root_width (Some t) = t.len + 1

abbrev pub root_bytes : List ℕ → Option TextAt → List ℕ
root_bytes x t = digits 1 (root_flag t) ++ run x (root_start t) (root_width t)

-- the root's text in the bytes x
abbrev pub root_text_of : List ℕ → Option TextAt → Option Text
root_text_of x None = None
root_text_of x (Some t) = Some (take t.len (drop t.at x))

-- of a table its size and its count
abbrev pub measure_in : Table → Measure
measure_in t = record { size = t.size; count = t.count }

abbrev pub measures_in : List Table → List Measure
measures_in [] = []
measures_in (t ∷ ts) = measure_in t ∷ measures_in ts

-- the contents c show the state s, whose root stands in the bytes x
pub record Shows (x : List ℕ) (c : Contents) (s : State) : Type 0 where
  pub version : c.format_version ≡ s.format_version
  pub numbers : numbers_in c.scalars ≡ numbers_of s
  pub window : c.scalars.retention_window ≡ s.retention_window
  pub root : root_bytes x c.scalars.collection_root ≡ enc_option enc_text s.collection_root
  pub root_size : 1 + root_width c.scalars.collection_root ≡ length (enc_option enc_text s.collection_root)
  pub tables : measures_in c.tables ≡ measures (tables_of s)

-- and in x stand the root's text, and the tables one after the other up to its end
pub record Holds (x : List ℕ) (c : Contents) (s : State) : Type 0 where
  pub shows : Shows x c s
  pub root_text : root_text_of x c.scalars.collection_root ≡ s.collection_root
  pub stands : (i : ℕ) → i < length (tables_of s) → drop (get_or c.tables i nowhere).at x ≡ joined (drop i (tables_of s))
  pub ends : (i : ℕ) → i < length (tables_of s) → (get_or c.tables i nowhere).at + length (joined (drop i (tables_of s))) ≡ length x

-- WHAT OPENING TELLS of bytes that are an image: contents that hold the state that was read, in whatever form it was
pub record OpenedAs (x : List ℕ) (c : Contents) : Type 0 where
  pub state : State
  pub reads : decode_image x ≡ Some state
  pub formed : Formed state
  pub holds : Holds x c state
  pub short : length x ≤ longest
