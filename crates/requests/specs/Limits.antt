-- Every limit of a request, a token and an outcome, by whole bytes. A row names a text or a set, and its limit: the bytes in which that has
-- just its limit are read, and those with a byte or member more are refused with 42. The flags and the action byte: the last that is
-- read, and the next.
use Rattle.std.specs.Prelude.{ℕ, suc, Bool, ◌&&◌, List, [], ◌∷◌, ◌++◌, map, eqb, replicate, None, Some}
use Rattle.state.specs.Maps.{Text}
use Rattle.state.specs.Records.{AuthorityContext, ObjectReference, SnapshotLeaseToken, CollectionJobToken, CollectionReceipt, no_faults}
use Rattle.machine.specs.Actions.{Action, ConfigureCollectionRoot, AcquireLease, RenewLease, ReleaseLease, PrepareCollection, PublishCollection, AbandonCollection, Prepare, Publish, Pin, Unpin, ReserveDelete, RetireDelete, Outcome, LeasesExpired}
use Rattle.fields.specs.Format.{Malformed, OverLimit}
use Rattle.image.specs.Contents.{Reply, answer, refusal}
use Rattle.image.specs.Limits.{letters, counted, empty, reference, plain, full, full_keys, identity, intent, permit, lease, job}
use Rattle.requests.specs.Request.{decode_request, encode_request, decode_token, encode_token}
use Rattle.requests.specs.Outcome.{encode_outcome, decode_outcome}

-- ACTIONS, by their texts and sets; every number is 0
abbrev acquire : (lease_id tenant_id owner purpose : Text) (manifest : ObjectReference) (object_keys : List Text) → Action
acquire lease_id tenant_id owner purpose manifest object_keys =
    AcquireLease lease_id tenant_id 0 owner purpose 0 (record { manifest = manifest; object_keys = object_keys })

abbrev collect : (job_id : Text) (input_manifest : ObjectReference) (destination_root output_namespace : Text) → Action
collect job_id input_manifest destination_root output_namespace = PrepareCollection job_id 0 input_manifest destination_root 0 0 output_namespace

abbrev receipt : (token : CollectionJobToken) (output_manifest : ObjectReference) (object_keys : List Text) → CollectionReceipt
receipt token output_manifest object_keys = record { token = token; output_manifest = output_manifest; object_keys = object_keys }

-- ROWS
pub data Row : Type 0 where
  text : (asks : Text → Action) (limit : ℕ) → Row
  set : (asks : List Text → Action) (limit : ℕ) → Row
  token_text : (shows : Text → SnapshotLeaseToken) (limit : ℕ) → Row
  token_set : (shows : List Text → SnapshotLeaseToken) (limit : ℕ) → Row
  outcome_list : (tells : List Text → Outcome) (limit : ℕ) → Row
  flags : (low high number : ℕ) → Row
  action_byte : (action : ℕ) (fields : ℕ) (number : ℕ) → Row

abbrev status : {A : Type 0} → Reply A → ℕ
status (answer v) = 0
status (refusal n) = n

abbrev asked : Action → ℕ
asked a =
    let context : AuthorityContext = record { generation = 0; position = record { term = 0; index = 0 } } in
    status (decode_request (encode_request (record { context = context; faults = no_faults; action = a })))

abbrev shown : SnapshotLeaseToken → ℕ
shown t = status (decode_token (encode_token t))

abbrev told : Outcome → ℕ
told o = status (decode_outcome (encode_outcome o))

-- the one is read, the other is over its limit
abbrev parted : (at past : ℕ) → Bool
parted at past = eqb at 0 && eqb past OverLimit

-- a request of these bytes; other numbers 0
abbrev zeros : ℕ → List ℕ
zeros n = replicate n 0

abbrev raw : (low high action fields : ℕ) → ℕ
raw low high action fields = status (decode_request (zeros 24 ++ low ∷ high ∷ action ∷ zeros fields))

abbrev pub holds : Row → Bool
holds (text a n) = parted (asked (a (letters n))) (asked (a (letters (suc n))))
holds (set a n) = parted (asked (a (counted n))) (asked (a (counted (suc n))))
holds (token_text t n) = parted (shown (t (letters n))) (shown (t (letters (suc n))))
holds (token_set t n) = parted (shown (t (counted n))) (shown (t (counted (suc n))))
holds (outcome_list o n) = parted (told (o (counted n))) (told (o (counted (suc n))))
holds (flags low high n) = eqb (raw low high 1 8) n
holds (action_byte a fields n) = eqb (raw 0 0 a fields) n

abbrev pub table : List Row
table =
    flags 255 7 0
    ∷ flags 0 8 Malformed
    ∷ action_byte 0 8 Malformed
    ∷ action_byte 1 8 0
    ∷ action_byte 17 37 0
    ∷ action_byte 18 37 Malformed
    -- ConfigureCollectionRoot
    ∷ text (λ expected. ConfigureCollectionRoot (Some expected) empty) 64
    ∷ text (λ destination_root. ConfigureCollectionRoot None destination_root) 64
    -- AcquireLease
    ∷ text (λ lease_id. acquire lease_id empty empty empty plain []) 64
    ∷ text (λ tenant_id. acquire empty tenant_id empty empty plain []) 64
    ∷ text (λ owner. acquire empty empty owner empty plain []) 64
    ∷ text (λ purpose. acquire empty empty empty purpose plain []) 64
    ∷ text (λ key. acquire empty empty empty empty (reference key empty) []) 128
    ∷ text (λ sha256. acquire empty empty empty empty (reference empty sha256) []) 64
    ∷ set (λ object_keys. acquire empty empty empty empty plain object_keys) 16
    ∷ text (λ object-key. acquire empty empty empty empty plain (object-key ∷ [])) 128
    -- RenewLease, ReleaseLease
    ∷ text (λ lease_id. RenewLease lease_id 0 0) 64
    ∷ text (λ lease_id. ReleaseLease lease_id 0) 64
    -- PrepareCollection
    ∷ text (λ job_id. collect job_id plain empty empty) 64
    ∷ text (λ key. collect empty (reference key empty) empty empty) 128
    ∷ text (λ sha256. collect empty (reference empty sha256) empty empty) 64
    ∷ text (λ destination_root. collect empty plain destination_root empty) 64
    ∷ text (λ output_namespace. collect empty plain empty output_namespace) 128
    -- PublishCollection: its token; its output_manifest and object_keys
    ∷ text (λ job_id. PublishCollection (receipt (job job_id plain empty empty) plain [])) 64
    ∷ text (λ key. PublishCollection (receipt (job empty (reference key empty) empty empty) plain [])) 128
    ∷ text (λ sha256. PublishCollection (receipt (job empty (reference empty sha256) empty empty) plain [])) 64
    ∷ text (λ destination_root. PublishCollection (receipt (job empty plain destination_root empty) plain [])) 64
    ∷ text (λ output_namespace. PublishCollection (receipt (job empty plain empty output_namespace) plain [])) 128
    ∷ text (λ key. PublishCollection (receipt (job empty plain empty empty) (reference key empty) [])) 128
    ∷ text (λ sha256. PublishCollection (receipt (job empty plain empty empty) (reference empty sha256) [])) 64
    ∷ set (λ object_keys. PublishCollection (receipt (job empty plain empty empty) plain object_keys)) 16
    ∷ text (λ object-key. PublishCollection (receipt (job empty plain empty empty) plain (object-key ∷ []))) 128
    -- AbandonCollection
    ∷ text (λ job_id. AbandonCollection (job job_id plain empty empty)) 64
    ∷ text (λ key. AbandonCollection (job empty (reference key empty) empty empty)) 128
    ∷ text (λ sha256. AbandonCollection (job empty (reference empty sha256) empty empty)) 64
    ∷ text (λ destination_root. AbandonCollection (job empty plain destination_root empty)) 64
    ∷ text (λ output_namespace. AbandonCollection (job empty plain empty output_namespace)) 128
    -- Prepare: publication_id; object_keys; manifest; destination_root; expected_prior_root
    ∷ text (λ publication-id. Prepare publication-id (intent [] plain empty None)) 64
    ∷ set (λ object_keys. Prepare empty (intent object_keys plain empty None)) 16
    ∷ text (λ object-key. Prepare empty (intent (object-key ∷ []) plain empty None)) 128
    ∷ text (λ key. Prepare empty (intent [] (reference key empty) empty None)) 128
    ∷ text (λ sha256. Prepare empty (intent [] (reference empty sha256) empty None)) 64
    ∷ text (λ destination_root. Prepare empty (intent [] plain destination_root None)) 64
    ∷ text (λ key. Prepare empty (intent [] plain empty (Some (reference key empty)))) 128
    ∷ text (λ sha256. Prepare empty (intent [] plain empty (Some (reference empty sha256)))) 64
    -- Publish: publication_id, destination_root; expected_prior_root; manifest
    ∷ text (λ publication-id. Publish publication-id empty None plain) 64
    ∷ text (λ destination_root. Publish empty destination_root None plain) 64
    ∷ text (λ key. Publish empty empty (Some (reference key empty)) plain) 128
    ∷ text (λ sha256. Publish empty empty (Some (reference empty sha256)) plain) 64
    ∷ text (λ key. Publish empty empty None (reference key empty)) 128
    ∷ text (λ sha256. Publish empty empty None (reference empty sha256)) 64
    -- Pin: pin_id; expected; manifest
    ∷ text (λ pin-id. Pin pin-id None plain) 64
    ∷ text (λ key. Pin empty (Some (reference key empty)) plain) 128
    ∷ text (λ sha256. Pin empty (Some (reference empty sha256)) plain) 64
    ∷ text (λ key. Pin empty None (reference key empty)) 128
    ∷ text (λ sha256. Pin empty None (reference empty sha256)) 64
    -- Unpin: pin_id; expected
    ∷ text (λ pin-id. Unpin pin-id plain) 64
    ∷ text (λ key. Unpin empty (reference key empty)) 128
    ∷ text (λ sha256. Unpin empty (reference empty sha256)) 64
    -- ReserveDelete
    ∷ text (λ plan_id. ReserveDelete plan_id 0 empty (identity None None empty)) 64
    ∷ text (λ key. ReserveDelete empty 0 key (identity None None empty)) 128
    ∷ text (λ e_tag. ReserveDelete empty 0 empty (identity (Some e_tag) None empty)) 64
    ∷ text (λ version. ReserveDelete empty 0 empty (identity None (Some version) empty)) 64
    ∷ text (λ sha256. ReserveDelete empty 0 empty (identity None None sha256)) 64
    -- RetireDelete
    ∷ text (λ key. RetireDelete (permit key (identity None None empty) empty)) 128
    ∷ text (λ e_tag. RetireDelete (permit empty (identity (Some e_tag) None empty) empty)) 64
    ∷ text (λ version. RetireDelete (permit empty (identity None (Some version) empty) empty)) 64
    ∷ text (λ sha256. RetireDelete (permit empty (identity None None sha256) empty)) 64
    ∷ text (λ plan_id. RetireDelete (permit empty (identity None None empty) plan_id)) 64
    -- a token
    ∷ token_text (λ lease_id. lease lease_id empty empty empty plain []) 64
    ∷ token_text (λ tenant_id. lease empty tenant_id empty empty plain []) 64
    ∷ token_text (λ owner. lease empty empty owner empty plain []) 64
    ∷ token_text (λ purpose. lease empty empty empty purpose plain []) 64
    ∷ token_text (λ key. lease empty empty empty empty (reference key empty) []) 128
    ∷ token_text (λ sha256. lease empty empty empty empty (reference empty sha256) []) 64
    ∷ token_set (λ object_keys. lease empty empty empty empty plain object_keys) 16
    ∷ token_text (λ object-key. lease empty empty empty empty plain (object-key ∷ [])) 128
    -- LeasesExpired, with ids of three bytes and of 64
    ∷ outcome_list (λ lease-ids. LeasesExpired lease-ids) 64
    ∷ outcome_list (λ lease-ids. LeasesExpired (map (λ id. id ++ letters 61) lease-ids)) 64
    -- the requests with a set, and a token, with all their texts and sets at their limits
    ∷ text (λ object-key. acquire (letters 64) (letters 64) (letters 64) (letters 64) full (full_keys object-key)) 128
    ∷ text (λ object-key. PublishCollection (receipt (job (letters 64) full (letters 64) (letters 128)) full (full_keys object-key))) 128
    ∷ text (λ object-key. Prepare (letters 64) (intent (full_keys object-key) full (letters 64) (Some full))) 128
    ∷ token_text (λ object-key. lease (letters 64) (letters 64) (letters 64) (letters 64) full (full_keys object-key)) 128
    ∷ []
