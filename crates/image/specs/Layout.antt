-- The forms of an image, and the state that an image holds.
-- A form is a value: the widths of a contents entry, the scalars, and the tables in their order with their limits. Where
-- the first body stands follows from it, and bytes are read in the form whose first offset they have. A table that a form
-- lacks is empty, and a number that it lacks is 0.
use Rattle.std.specs.Prelude.{ℕ, ◌^◌, ◌≤◌, ◌<◌, ◌≡◌, Bool, cond, List, [], ◌∷◌, leb, eqb, length, take, drop, Option, None, Some}
use Rattle.state.specs.Maps.{Text, Map, Entry, ◌⟼◌, key_of, value_of}
use Rattle.state.specs.Records.{ObjectReference, PreparedPublication, SnapshotLeaseToken, CollectionJobToken, DeletePermit, State, default}
use Rattle.state.specs.Setters.{state, set_intents, set_roots, set_pins, set_deletion_reservations, set_leases, set_collection_jobs}
use Rattle.parts.specs.Answer.{longest}
use Rattle.parts.specs.Digits.{value}
use Rattle.fields.specs.Format.{Field, option, ◌▹◌, El, Every}
use Rattle.fields.specs.Codes.{key_limit}
use Rattle.image.specs.Body.{Body, one, table, row, Helds, FitsAll}
use Rattle.image.specs.Contents.{Widths, version_width, first, encode, decode, Reply, answer, refusal, whole}
use Rattle.image.specs.Shapes.{u64, short, name, position, reference, prepared, lease_rest, job_rest, permit_rest, position_parts, position_from, reference_parts, reference_from, prepared_parts, prepared_from, lease_parts, lease_from, job_parts, job_of, permit_parts, permit_from}

-- ROWS OF A MAP
unfoldable pub each : {A B : Type 0} → (A → B) → List A → List B
each f [] = []
each f (v ∷ vs) = f v ∷ each f vs

-- a root, pin or intent is its id then its value
abbrev pub row_of : {A B : Type 0} → (A → B) → Entry A → Text × B
row_of parts e = (key_of e, parts (value_of e))

abbrev pub entry_of : {A B : Type 0} → (B → A) → Text × B → Entry A
entry_of of v = v.0 ⟼ of v.1

-- a lease, job or permit is stored under the id or key inside itself
abbrev pub own_row : {A B : Type 0} → (A → Text × B) → Entry A → Text × B
own_row parts e = parts (value_of e)

abbrev pub own_entry : {A B : Type 0} → (Text × B → A) → Text × B → Entry A
own_entry of v = v.0 ⟼ of v

-- THE TABLES, by name
pub data TableName : Type 0 where
  intents roots pins reservations leases jobs : TableName

-- what stands under an id
abbrev pub Value : TableName → Type 0
Value intents = PreparedPublication
Value roots = ObjectReference
Value pins = ObjectReference
Value reservations = DeletePermit
Value leases = SnapshotLeaseToken
Value jobs = CollectionJobToken

-- a state's map, and the state with another one
abbrev pub map_of : (t : TableName) → State → Map (Value t)
map_of intents s = s.intents
map_of roots s = s.roots
map_of pins s = s.pins
map_of reservations s = s.deletion_reservations
map_of leases s = s.leases
map_of jobs s = s.collection_jobs

abbrev pub with_map : (t : TableName) → Map (Value t) → State → State
with_map intents m s = set_intents m s
with_map roots m s = set_roots m s
with_map pins m s = set_pins m s
with_map reservations m s = set_deletion_reservations m s
with_map leases m s = set_leases m s
with_map jobs m s = set_collection_jobs m s

-- the limit of an id, and the format of what stands under it
abbrev pub id_limit : TableName → ℕ
id_limit intents = short
id_limit roots = short
id_limit pins = short
id_limit reservations = key_limit
id_limit leases = short
id_limit jobs = short

abbrev pub under_id : TableName → Field
under_id intents = prepared
under_id roots = reference
under_id pins = reference
under_id reservations = permit_rest
under_id leases = lease_rest
under_id jobs = job_rest

abbrev pub row_format : TableName → Field
row_format t = row (id_limit t) (under_id t)

-- an entry as its row, and back
abbrev pub row_in : (t : TableName) → Entry (Value t) → El (row_format t)
row_in intents e = row_of prepared_parts e
row_in roots e = row_of reference_parts e
row_in pins e = row_of reference_parts e
row_in reservations e = own_row permit_parts e
row_in leases e = own_row lease_parts e
row_in jobs e = own_row job_parts e

abbrev pub entry_in : (t : TableName) → El (row_format t) → Entry (Value t)
entry_in intents v = entry_of prepared_from v
entry_in roots v = entry_of reference_from v
entry_in pins v = entry_of reference_from v
entry_in reservations v = own_entry permit_from v
entry_in leases v = own_entry lease_from v
entry_in jobs v = own_entry job_of v

abbrev pub rows_of : (t : TableName) → State → List (El (row_format t))
rows_of t s = each (row_in t) (map_of t s)

abbrev pub with_rows : (t : TableName) → List (El (row_format t)) → State → State
with_rows t v s = with_map t (each (entry_in t) v) s

-- THE SCALARS: the Rust's non-map fields in declared order, without `format_version`
abbrev pub scalars : Field
scalars = position ▹ u64 ▹ u64 ▹ option u64 ▹ u64 ▹ u64 ▹ u64 ▹ u64 ▹ u64 ▹ u64 ▹ u64 ▹ option name

abbrev pub scalars_parts : State → El scalars
scalars_parts s = (
  position_parts s.revision,
  (
    s.root_intent_epoch,
    (
      s.observed_commit_frontier,
      (
        s.retention_window,
        (
          s.retention_policy_epoch,
          (
            s.policy_floor,
            (
              s.minimum_readable_version,
              (
                s.physically_collected_through,
                (
                  s.lease_clock_tick,
                  (
                    s.lease_epoch,
                    (s.range_map_epoch, s.collection_root),
                  ),
                ),
              ),
            ),
          ),
        ),
      ),
    ),
  ),
)

abbrev pub with_scalars : El scalars → State → State
with_scalars v s =
    let w = v.1.1.1.1 in
    let z = w.1.1.1.1 in
    state s.format_version (position_from v.0) v.1.0 s.intents s.roots s.pins s.deletion_reservations
    v.1.1.0 v.1.1.1.0 w.0 w.1.0 w.1.1.0 w.1.1.1.0 z.0 z.1.0 s.leases z.1.1.0 z.1.1.1 s.collection_jobs

-- the forms of the scalars' body; `mark` stands as its count
pub data ScalarsForm : Type 0 where
  plain : ScalarsForm

abbrev pub mark : ScalarsForm → ℕ
mark plain = 1

abbrev pub scalars_field : ScalarsForm → Field
scalars_field plain = scalars

abbrev pub scalars_of : (n : ScalarsForm) → State → El (scalars_field n)
scalars_of plain s = scalars_parts s

abbrev pub with_scalars_of : (n : ScalarsForm) → El (scalars_field n) → State → State
with_scalars_of plain v s = with_scalars v s

-- of a version, and nothing else
abbrev pub blank : ℕ → State
blank n = state n default.revision 0 [] [] [] [] 0 None 0 0 0 0 0 0 [] 0 None []

-- A FORM
pub record TableIn : Type 0 where
  pub name : TableName
  pub most : ℕ

pub record Form : Type 0 where
  pub widths : Widths
  pub scalars : ScalarsForm
  pub tables : List TableIn

abbrev pub table_bodies : List TableIn → List Body
table_bodies [] = []
table_bodies (t ∷ ts) = table t.most (id_limit t.name) (under_id t.name) ∷ table_bodies ts

abbrev pub bodies_in : Form → List Body
bodies_in f = one (mark f.scalars) (scalars_field f.scalars) ∷ table_bodies f.tables

-- where the first body stands
abbrev pub first_in : Form → ℕ
first_in f = first f.widths (bodies_in f)

-- A STATE, AS WHAT THE BODIES HOLD, AND BACK
abbrev pub rows_in : (ts : List TableIn) → State → Helds (table_bodies ts)
rows_in [] s = tt
rows_in (t ∷ ts) s = (rows_of t.name s, rows_in ts s)

abbrev pub with_rows_in : (ts : List TableIn) → Helds (table_bodies ts) → State → State
with_rows_in [] v s = s
with_rows_in (t ∷ ts) v s = with_rows_in ts v.1 (with_rows t.name v.0 s)

abbrev pub parts_in : (f : Form) → State → ℕ × Helds (bodies_in f)
parts_in f s = (s.format_version, (scalars_of f.scalars s, rows_in f.tables s))

abbrev pub state_in : (f : Form) → ℕ × Helds (bodies_in f) → State
state_in f x = with_rows_in f.tables x.1.1 (with_scalars_of f.scalars x.1.0 (blank x.0))

unfoldable pub encode_in : Form → State → List ℕ
encode_in f s = encode f.widths (bodies_in f) (parts_in f s)

abbrev pub held_in : (f : Form) → Reply (ℕ × Helds (bodies_in f)) → Option State
held_in f (answer x) = Some (state_in f x)
held_in f (refusal e) = None

unfoldable pub decode_in : Form → List ℕ → Option State
decode_in f b = cond (leb (length b) longest) (held_in f (whole (decode f.widths (bodies_in f) b))) None

-- THE FORMS THAT ARE READ, and the one that is written
abbrev pub most_intents : ℕ
most_intents = 32

abbrev pub most_roots : ℕ
most_roots = 32

abbrev pub most_pins : ℕ
most_pins = 32

abbrev pub most_reservations : ℕ
most_reservations = 128

abbrev pub most_leases : ℕ
most_leases = 64

abbrev pub most_jobs : ℕ
most_jobs = 8

abbrev in_table : TableName → ℕ → TableIn
in_table t n = record { name = t; most = n }

-- offset (4), length (4), count (1); the first body at 67
abbrev pub base : Form
base = record {
  widths = record { place = 4; size = 4; amount = 1 };
  scalars = plain;
  tables =
      in_table intents most_intents
      ∷ in_table roots most_roots
      ∷ in_table pins most_pins
      ∷ in_table reservations most_reservations
      ∷ in_table leases most_leases
      ∷ in_table jobs most_jobs
      ∷ [];
}

abbrev pub forms : List Form
forms = base ∷ []

abbrev pub written : Form
written = base

-- the form of bytes, by their first offset
abbrev pub offset_of : Form → List ℕ → ℕ
offset_of f b = value (take f.widths.place (drop version_width b))

abbrev pub is_in : Form → List ℕ → Bool
is_in f b = eqb (offset_of f b) (first_in f)

-- what reading finds: a form and a state
pub record Read : Type 0 where
  pub form : Form
  pub state : State

abbrev pub read_as : Form → Option State → Option Read
read_as f None = None
read_as f (Some s) = Some (record { form = f; state = s })

unfoldable pub read_in : List Form → List ℕ → Option Read
read_in [] b = None
read_in (f ∷ fs) b = cond (is_in f b) (read_as f (decode_in f b)) (read_in fs b)

abbrev pub state_read : Option Read → Option State
state_read None = None
state_read (Some r) = Some r.state

-- THE IMAGE
abbrev pub encode_image : State → List ℕ
encode_image s = encode_in written s

abbrev pub read_image : List ℕ → Option Read
read_image b = read_in forms b

unfoldable pub decode_image : List ℕ → Option State
decode_image b = state_read (read_image b)

-- WHAT A STATE MUST BE TO HAVE AN IMAGE IN A FORM
-- `whole`: nothing that the form lacks, and every record under the id that it holds
pub record Fitting (f : Form) (s : State) : Type 0 where
  pub version : s.format_version < 256 ^ version_width
  pub fits : FitsAll (bodies_in f) (parts_in f s).1
  pub whole : state_in f (parts_in f s) ≡ s

pub record FormedIn (f : Form) (s : State) : Type 0 where
  pub fitting : Fitting f s
  pub size : length (encode_in f s) ≤ longest

abbrev pub bodies : List Body
bodies = bodies_in written

abbrev pub widths : Widths
widths = written.widths

abbrev pub state_parts : State → ℕ × Helds bodies
state_parts s = parts_in written s

-- what holds of every state that is read, in whatever form: it is within the form that is written, but for the length
abbrev pub Formed : State → Type 0
Formed s = Fitting written s

-- and of one whose image can be written
abbrev pub Imaged : State → Type 0
Imaged s = FormedIn written s

-- every entry under the name that its value has
abbrev pub Own : {A : Type 0} → (A → Text) → Map A → Type 0
Own name m = Every (λ e. name (value_of e) ≡ key_of e) m
