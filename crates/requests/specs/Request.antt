-- Requests and tokens as bytes.
use Rattle.std.specs.Prelude.{ℕ, zero, suc, ◌^◌, List, [], ◌∷◌, ◌++◌, ltb}
use Rattle.state.specs.Records.{AuthorityContext, PublicationAuthorityFaults, SnapshotLeaseToken}
use Rattle.machine.specs.Actions.{Action, ObserveCommittedFrontier, SetRetentionWindow, ObserveRangeMapEpoch, ConfigureCollectionRoot, AcquireLease, RenewLease, ReleaseLease, AdvanceLeaseClock, PrepareCollection, PublishCollection, AbandonCollection, Prepare, Publish, Pin, Unpin, ReserveDelete, RetireDelete}
use Rattle.fields.specs.Format.{Malformed, Res, ok, bad, bind, check, byte, Field, number, option, ◌▹◌, El, enc, dec, Within}
use Rattle.image.specs.Contents.{Reply, whole}
use Rattle.image.specs.Shapes.{u64, name, key, position, reference, identity, intent, closure, lease, job, permit, receipt, each_option, position_parts, position_from, reference_parts, reference_from, identity_parts, identity_from, intent_parts, intent_from, closure_parts, closure_from, lease_parts, lease_from, job_parts, job_of, permit_parts, permit_from, receipt_parts, receipt_from}
use Rattle.requests.specs.Cases.{Case, read_case, Parts, write_parts, WithinParts}
use Rattle.requests.specs.Flags.{faults_from, faults_number}

-- THE FIELDS OF EACH ACTION, in declared order
abbrev pub set_window : Field
set_window = u64 ▹ u64

abbrev pub configure : Field
configure = option name ▹ name

abbrev pub acquire : Field
acquire = name ▹ name ▹ u64 ▹ name ▹ name ▹ u64 ▹ closure

abbrev pub renew : Field
renew = name ▹ u64 ▹ u64

abbrev pub release : Field
release = name ▹ u64

abbrev pub advance_clock : Field
advance_clock = u64 ▹ u64

abbrev pub collect : Field
collect = name ▹ u64 ▹ reference ▹ name ▹ u64 ▹ u64 ▹ key

abbrev pub prepare : Field
prepare = name ▹ intent

abbrev pub publish : Field
publish = name ▹ name ▹ option reference ▹ reference

abbrev pub pin : Field
pin = name ▹ option reference ▹ reference

abbrev pub unpin : Field
unpin = name ▹ reference

abbrev pub reserve : Field
reserve = name ▹ u64 ▹ key ▹ identity

-- ACTIONS, in declared order: what the fields make
abbrev pub actions : List (Case Action)
actions =
    record { shape = u64; make = λ v. ObserveCommittedFrontier v }
    ∷ record { shape = set_window; make = λ v. SetRetentionWindow v.0 v.1 }
    ∷ record { shape = u64; make = λ v. ObserveRangeMapEpoch v }
    ∷ record { shape = configure; make = λ v. ConfigureCollectionRoot v.0 v.1 }
    ∷ record { shape = acquire; make = λ v. AcquireLease v.0 v.1.0 v.1.1.0 v.1.1.1.0 v.1.1.1.1.0 v.1.1.1.1.1.0 (closure_from v.1.1.1.1.1.1) }
    ∷ record { shape = renew; make = λ v. RenewLease v.0 v.1.0 v.1.1 }
    ∷ record { shape = release; make = λ v. ReleaseLease v.0 v.1 }
    ∷ record { shape = advance_clock; make = λ v. AdvanceLeaseClock v.0 v.1 }
    ∷ record { shape = collect; make = λ v. PrepareCollection v.0 v.1.0 (reference_from v.1.1.0) v.1.1.1.0 v.1.1.1.1.0 v.1.1.1.1.1.0 v.1.1.1.1.1.1 }
    ∷ record { shape = receipt; make = λ v. PublishCollection (receipt_from v) }
    ∷ record { shape = job; make = λ v. AbandonCollection (job_of v) }
    ∷ record { shape = prepare; make = λ v. Prepare v.0 (intent_from v.1) }
    ∷ record { shape = publish; make = λ v. Publish v.0 v.1.0 (each_option reference_from v.1.1.0) (reference_from v.1.1.1) }
    ∷ record { shape = pin; make = λ v. Pin v.0 (each_option reference_from v.1.0) (reference_from v.1.1) }
    ∷ record { shape = unpin; make = λ v. Unpin v.0 (reference_from v.1) }
    ∷ record { shape = reserve; make = λ v. ReserveDelete v.0 v.1.0 v.1.1.0 (identity_from v.1.1.1) }
    ∷ record { shape = permit; make = λ v. RetireDelete (permit_from v) }
    ∷ []

-- the action byte counts from 1
unfoldable pub read_fields : ℕ → List ℕ → Res Action
read_fields zero s = bad Malformed
read_fields (suc k) s = read_case actions k s

unfoldable pub read_action : List ℕ → Res Action
read_action s = bind (byte s) (λ k r. read_fields k r)

abbrev pub action_parts : Action → Parts
action_parts (ObserveCommittedFrontier n) = record { tag = 1; shape = u64; values = n }
action_parts (SetRetentionWindow e n) = record { tag = 2; shape = set_window; values = (e, n) }
action_parts (ObserveRangeMapEpoch e) = record { tag = 3; shape = u64; values = e }
action_parts (ConfigureCollectionRoot x r) = record { tag = 4; shape = configure; values = (x, r) }
action_parts (AcquireLease id t v o p d c) = record { tag = 5; shape = acquire; values = (id, (t, (v, (o, (p, (d, closure_parts c)))))) }
action_parts (RenewLease id e d) = record { tag = 6; shape = renew; values = (id, (e, d)) }
action_parts (ReleaseLease id e) = record { tag = 7; shape = release; values = (id, e) }
action_parts (AdvanceLeaseClock e n) = record { tag = 8; shape = advance_clock; values = (e, n) }
action_parts (PrepareCollection id f m r e x ns) = record { tag = 9; shape = collect; values = (id, (f, (reference_parts m, (r, (e, (x, ns)))))) }
action_parts (PublishCollection r) = record { tag = 10; shape = receipt; values = receipt_parts r }
action_parts (AbandonCollection t) = record { tag = 11; shape = job; values = job_parts t }
action_parts (Prepare id i) = record { tag = 12; shape = prepare; values = (id, intent_parts i) }
action_parts (Publish id r x m) = record { tag = 13; shape = publish; values = (id, (r, (each_option reference_parts x, reference_parts m))) }
action_parts (Pin id x m) = record { tag = 14; shape = pin; values = (id, (each_option reference_parts x, reference_parts m)) }
action_parts (Unpin id x) = record { tag = 15; shape = unpin; values = (id, reference_parts x) }
action_parts (ReserveDelete p e k i) = record { tag = 16; shape = reserve; values = (p, (e, (k, identity_parts i))) }
action_parts (RetireDelete p) = record { tag = 17; shape = permit; values = permit_parts p }

-- A REQUEST: generation, term, index, fault flags, the action byte, its fields, nothing after
pub record Request : Type 0 where
  pub context : AuthorityContext
  pub faults : PublicationAuthorityFaults
  pub action : Action

abbrev pub head : Field
head = u64 ▹ position ▹ number 2

abbrev pub request : El head → Action → Request
request v a = record { context = record { generation = v.0; position = position_from v.1.0 }; faults = faults_from v.1.1; action = a }

abbrev pub head_parts : Request → El head
head_parts q = (q.context.generation, (position_parts q.context.position, faults_number q.faults))

unfoldable pub read_request : List ℕ → Res Request
read_request s =
    bind (dec head s) (λ v r. check (ltb v.1.1 (2 ^ 11)) Malformed
    (bind (read_action r) (λ a r. ok (request v a) r)))

unfoldable pub decode_request : List ℕ → Reply Request
decode_request s = whole (read_request s)

unfoldable pub encode_request : Request → List ℕ
encode_request q = enc head (head_parts q) ++ write_parts (action_parts q.action)

-- A TOKEN: its fields, nothing after
unfoldable pub read_token : List ℕ → Res SnapshotLeaseToken
read_token s = bind (dec lease s) (λ v r. ok (lease_from v) r)

unfoldable pub decode_token : List ℕ → Reply SnapshotLeaseToken
decode_token s = whole (read_token s)

unfoldable pub encode_token : SnapshotLeaseToken → List ℕ
encode_token t = enc lease (lease_parts t)

-- WITHIN THE LIMITS
abbrev pub WithinContext : AuthorityContext → Type 0
WithinContext c = Within (u64 ▹ position) (c.generation, position_parts c.position)

abbrev pub WithinAction : Action → Type 0
WithinAction a = WithinParts (action_parts a)

abbrev pub WithinRequest : Request → Type 0
WithinRequest q = WithinContext q.context × WithinAction q.action
