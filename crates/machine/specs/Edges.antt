-- The starred edges E2 to E10 of the scope paper, as rows of one table, by one theorem. (E1 is about the image.) Two rows more tell the
-- order of ids by their bytes from one by their length, two the order in which ended leases are listed, and five are about reserved keys.
-- Faults off, generation 1; window 3 and frontier 10 stand before every row.
use Rattle.std.specs.Prelude.{ℕ, List, [], ◌∷◌, map, Bool, false, ◌&&◌, eqb, replicate, length, Option, None, Some}
use Rattle.state.specs.Maps.{Text, Map, ◌⟼◌, key_of, before, same_texts, insert, is_empty}
use Rattle.state.specs.Records.{AuthorityContext, no_faults, Manifest, ObjectIdentity, ObjectReference, SnapshotClosure, SnapshotLeaseToken, State, default}
use Rattle.state.specs.Setters.{set_deletion_reservations, set_leases, set_lease_clock_tick}
use Rattle.machine.specs.Actions.{Action, ObserveCommittedFrontier, SetRetentionWindow, ObserveRangeMapEpoch, ConfigureCollectionRoot, AcquireLease, RenewLease, ReleaseLease, AdvanceLeaseClock, PrepareCollection, Prepare, Publish, Pin, ReserveDelete, Transition, rejected, accepted}
use Rattle.machine.specs.Next.{◌▸◌, new_permit}
use Rattle.machine.specs.Machine.{apply, validate}
use Rattle.machine.specs.Ledger.{gives}

abbrev context : ℕ → ℕ → ℕ → AuthorityContext
context generation term index = record { generation = generation; position = record { term = term; index = index } }

abbrev answer : State → Action → Transition
answer s a = apply s a (context 1 1 1) no_faults

abbrev status : Transition → ℕ
status (rejected n) = n
status (accepted s o) = 0

-- the state after calls that are all accepted
abbrev next : Transition → Option State
next (rejected n) = None
next (accepted s o) = Some s

abbrev step : Action → Option State → Option State
step a None = None
step a (Some s) = next (answer s a)

abbrev run : Option State → List Action → Option State
run o [] = o
run o (a ∷ calls) = run (step a o) calls

abbrev start : Option State
start = run (Some default) (SetRetentionWindow 0 3 ∷ ObserveCommittedFrontier 10 ∷ [])

-- accepted, with these ids in its outcome, and no lease is left
abbrev ends_all : List Text → Transition → Bool
ends_all l (rejected n) = false
ends_all l (accepted s o) = same_texts (gives (Some o)).ids l && is_empty s.leases

abbrev test : (State → Bool) → Option State → Bool
test p None = false
test p (Some s) = p s

abbrev pub keys : {A : Type 0} → Map A → List Text
keys m = map key_of m

pub data Row : Type 0 where
  answers : (before : List Action) (call : Action) (number : ℕ) → Row
  answers_at : (context : AuthorityContext) (call : Action) (number : ℕ) → Row
  floors : (before : List Action) (policy readable : ℕ) → Row
  ends : (before : List Action) (call : Action) (lease-ids : List Text) → Row
  collects : (before : List Action) (collected readable jobs : ℕ) → Row
  -- of the state with this change, as no call makes it
  answers_loaded : (load : State → State) (call : Action) (number : ℕ) → Row
  ends_loaded : (load : State → State) (call : Action) (lease-ids : List Text) → Row
  validates : (load : State → State) (token : SnapshotLeaseToken) (number : ℕ) → Row
  -- the ids of the pins, as they stand
  pins_are : (before : List Action) (ids : List Text) → Row
  -- the one id comes before the other
  precedes : (a b : Text) → Row

abbrev pub holds : Row → Bool
holds (answers before a n) = test (λ s. eqb (status (answer s a)) n) (run start before)
holds (answers_at c a n) = test (λ s. eqb (status (apply s a c no_faults)) n) start
holds (floors before p r) = test (λ s. eqb s.policy_floor p && eqb s.minimum_readable_version r) (run start before)
holds (ends before a l) = test (λ s. ends_all l (answer s a)) (run start before)
holds (collects before c r j) = test (λ s. eqb s.physically_collected_through c && eqb s.minimum_readable_version r && eqb (length s.collection_jobs) j) (run start before)
holds (answers_loaded load a n) = test (λ s. eqb (status (answer (load s) a)) n) start
holds (ends_loaded load a l) = test (λ s. ends_all l (answer (load s) a)) start
holds (validates load t n) = test (λ s. eqb (validate (load s) t) n) start
holds (pins_are before ids) = test (λ s. same_texts (keys s.pins) ids) (run start before)
holds (precedes a b) = before a b

-- WHAT THE ROWS NAME
abbrev hash : Text
hash = replicate 64 97

abbrev pub manifest : ObjectReference
manifest = record { kind = Manifest; key = 109 ∷ []; length = 1; sha256 = hash }

abbrev key : Text
key = 107 ∷ []

abbrev pub closure : SnapshotClosure
closure = record { manifest = manifest; object_keys = key ∷ manifest.key ∷ [] }

abbrev manifest_alone : SnapshotClosure
manifest_alone = record { manifest = manifest; object_keys = manifest.key ∷ [] }

abbrev pub id : Text
id = 105 ∷ []

abbrev lease_from : (closure : SnapshotClosure) (lease_id : Text) (version deadline : ℕ) → Action
lease_from closure lease_id version deadline = AcquireLease lease_id (116 ∷ []) version (111 ∷ []) (112 ∷ []) deadline closure

abbrev lease_under : (lease_id : Text) (version deadline : ℕ) → Action
lease_under = lease_from closure

abbrev pub lease : (version deadline : ℕ) → Action
lease version deadline = lease_under id version deadline

-- what such a lease is given
abbrev token_of : (closure : SnapshotClosure) (lease_id : Text) (version epoch deadline : ℕ) → SnapshotLeaseToken
token_of closure lease_id version epoch deadline = record { lease_id = lease_id; tenant_id = 116 ∷ []; snapshot_version = version; lease_epoch = epoch; owner = 111 ∷ []; purpose = 112 ∷ []; deadline_tick = deadline; closure = closure; owner_generation = 1; authority_position = record { term = 1; index = 1 } }

abbrev token_under : (lease_id : Text) (version epoch deadline : ℕ) → SnapshotLeaseToken
token_under = token_of closure

abbrev pub token : (version epoch deadline : ℕ) → SnapshotLeaseToken
token version epoch deadline = token_under id version epoch deadline

abbrev identity : ObjectIdentity
identity = record { revision = record { e_tag = None; version = None }; length = 1; sha256 = hash }

abbrev reserve : (mark-epoch : ℕ) → Action
reserve mark-epoch = ReserveDelete (112 ∷ []) mark-epoch key identity

-- with a reserved key, and a lease that names `key` and not its manifest's
abbrev reserving : Text → State → State
reserving k s =
    s
    ▸ set_leases (insert id (token_of (record { manifest = manifest; object_keys = key ∷ [] }) id 7 1 9) s.leases)
    ▸ set_deletion_reservations (insert k (new_permit k identity (112 ∷ []) (context 1 1 1)) s.deletion_reservations)

-- with a lease whose deadline is 5, and the clock at 5
abbrev at_deadline : State → State
at_deadline s = set_leases (insert id (token 7 1 5) s.leases) (set_lease_clock_tick 5 s)

abbrev root : Text
root = 114 ∷ []

-- a root with its manifest, set as the collection root, and a range map epoch: all that `collect` has to match
abbrev collecting : List Action
collecting =
    Prepare (112 ∷ []) (record { object_keys = manifest.key ∷ []; manifest = manifest; destination_root = root; expected_prior_root = None })
    ∷ Publish (112 ∷ []) root None manifest
    ∷ ConfigureCollectionRoot None root
    ∷ ObserveRangeMapEpoch 1
    ∷ []

abbrev collect : (frozen_floor : ℕ) → Action
collect frozen_floor = PrepareCollection (106 ∷ []) frozen_floor manifest root 1 0 (111 ∷ 47 ∷ [])

abbrev aa : Text
aa = 97 ∷ 97 ∷ []

abbrev b : Text
b = 98 ∷ []

abbrev c : Text
c = 99 ∷ []

-- with leases of one deadline, of which two have one epoch
abbrev alike : State → State
alike s = set_leases ((aa ⟼ token_under aa 7 2 5) ∷ (b ⟼ token_under b 7 2 5) ∷ (c ⟼ token_under c 7 1 5) ∷ []) s

abbrev pub table : List Row
table =
    -- E2: frontier 0, equal, 9
    answers [] (ObserveCommittedFrontier 0) 2
    ∷ answers [] (ObserveCommittedFrontier 10) 0
    ∷ answers [] (ObserveCommittedFrontier 9) 16
    -- E3: both floors 7, and after window 20 still
    ∷ floors [] 7 7
    ∷ floors (SetRetentionWindow 1 20 ∷ []) 7 7
    -- E4: a lease at 6, 7, 10, 11
    ∷ answers [] (lease 6 9) 19
    ∷ answers [] (lease 7 9) 0
    ∷ answers [] (lease 10 9) 0
    ∷ answers [] (lease 11 9) 20
    -- E5: clock 5, deadline 5 and 6; clock to 6 removes it and lists it
    ∷ answers (AdvanceLeaseClock 0 5 ∷ []) (lease 7 5) 24
    ∷ answers (AdvanceLeaseClock 0 5 ∷ []) (lease 7 6) 0
    ∷ ends (AdvanceLeaseClock 0 5 ∷ lease 7 6 ∷ []) (AdvanceLeaseClock 5 6) (id ∷ [])
    -- E6: a lease at 8 and frontier 20; released
    ∷ floors (lease 8 9 ∷ ObserveCommittedFrontier 20 ∷ []) 17 8
    ∷ floors (lease 8 9 ∷ ObserveCommittedFrontier 20 ∷ ReleaseLease id 1 ∷ []) 17 17
    -- E7: loaded with a lease whose deadline is the clock's tick
    ∷ validates at_deadline (token 7 1 5) 4
    -- E8: collected 0, readable 7, no jobs, all else matching: frozen floor 7 and 8
    ∷ collects collecting 0 7 0
    ∷ answers collecting (collect 7) 0
    ∷ answers collecting (collect 8) 33
    -- E9: a key that a lease names, mark epoch current; a reserved key in a new lease; a deadline that is past comes first; a
    -- lease on other keys
    ∷ answers (lease 7 9 ∷ []) (reserve 1) 11
    ∷ answers (reserve 0 ∷ []) (lease 7 9) 10
    ∷ answers (reserve 0 ∷ []) (lease 7 0) 24
    ∷ answers (reserve 0 ∷ []) (lease_from manifest_alone id 7 9) 0
    -- a loaded lease renewed: it names a reserved key; a deadline that is no later comes first; the reserved key is its manifest's, which
    -- it does not name
    ∷ answers_loaded (reserving key) (RenewLease id 1 10) 10
    ∷ answers_loaded (reserving key) (RenewLease id 1 9) 24
    ∷ answers_loaded (reserving manifest.key) (RenewLease id 1 10) 0
    -- E10: index 0, generation 0, term 0
    ∷ answers_at (context 1 1 0) (ObserveCommittedFrontier 10) 2
    ∷ answers_at (context 0 1 1) (ObserveCommittedFrontier 10) 2
    ∷ answers_at (context 1 0 1) (ObserveCommittedFrontier 10) 0
    -- ids ascend by their bytes, not by their length: aa, then b
    ∷ precedes aa b
    ∷ pins_are (Pin b None manifest ∷ Pin aa None manifest ∷ []) (aa ∷ b ∷ [])
    -- leases that a tick ends: by deadline; by epoch where that is the same; by the bytes of the id where that is, too
    ∷ ends (lease_under b 7 9 ∷ lease_under aa 7 9 ∷ lease_under c 7 8 ∷ []) (AdvanceLeaseClock 0 9) (c ∷ b ∷ aa ∷ [])
    ∷ ends_loaded alike (AdvanceLeaseClock 0 5) (c ∷ aa ∷ b ∷ [])
    ∷ []
