-- Where each field of a request or token stands: right behind the field before it. Total: behind the end of the bytes is the end.
use Rattle.std.specs.Prelude.{ℕ, ◌+◌, ◌-◌, ◌^◌, min, cond, List, [], ◌∷◌, eqb, length, take, ltb, drop, get_or, Option, None, Some, Result, Ok, Err}
use Rattle.parts.specs.Digits.{value}
use Rattle.state.specs.Records.{PublicationAuthorityFaults}
use Rattle.fields.specs.Format as format
use Rattle.fields.specs.Codes.{codes, skip}
use Rattle.fields.specs.Walks.{place_of}
use Rattle.image.specs.Contents.{Reply, answer, refusal}
use Rattle.image.specs.Shapes as shape
use Rattle.image.specs.declared.TextAt.{TextAt}
use Rattle.requests.specs.Flags.{faults_from}
use Rattle.requests.specs.Checked.{nth}
use Rattle.requests.specs.declared.ObjectKind.{ObjectKind}
use Rattle.requests.specs.declared.Keys.{Keys}
use Rattle.requests.specs.declared.AuthorityPosition.{AuthorityPosition}
use Rattle.requests.specs.declared.AuthorityContext.{AuthorityContext}
use Rattle.requests.specs.declared.PublicationAuthorityFaults.{PublicationAuthorityFaults as FaultsAt}
use Rattle.requests.specs.declared.ObjectReference.{ObjectReference}
use Rattle.requests.specs.declared.ObjectIdentity.{ObjectIdentity}
use Rattle.requests.specs.declared.PublicationIntent.{PublicationIntent}
use Rattle.requests.specs.declared.SnapshotClosure.{SnapshotClosure}
use Rattle.requests.specs.declared.SnapshotLeaseToken.{SnapshotLeaseToken}
use Rattle.requests.specs.declared.CollectionJobToken.{CollectionJobToken}
use Rattle.requests.specs.declared.CollectionReceipt.{CollectionReceipt}
use Rattle.requests.specs.declared.DeletePermit.{DeletePermit}
use Rattle.requests.specs.declared.SetRetentionWindow.{SetRetentionWindow}
use Rattle.requests.specs.declared.ConfigureCollectionRoot.{ConfigureCollectionRoot}
use Rattle.requests.specs.declared.AcquireLease.{AcquireLease}
use Rattle.requests.specs.declared.RenewLease.{RenewLease}
use Rattle.requests.specs.declared.ReleaseLease.{ReleaseLease}
use Rattle.requests.specs.declared.AdvanceLeaseClock.{AdvanceLeaseClock}
use Rattle.requests.specs.declared.PrepareCollection.{PrepareCollection}
use Rattle.requests.specs.declared.Prepare.{Prepare}
use Rattle.requests.specs.declared.Publish.{Publish}
use Rattle.requests.specs.declared.Pin.{Pin}
use Rattle.requests.specs.declared.Unpin.{Unpin}
use Rattle.requests.specs.declared.ReserveDelete.{ReserveDelete}
use Rattle.requests.specs.declared.PublicationAction.{PublicationAction}
use Rattle.requests.specs.declared.Request.{Request}

-- the place behind a field f that starts at p
unfoldable pub behind : format.Field → List ℕ → ℕ → ℕ
behind f s p = place_of s (skip 0 (codes f) (drop p s))

-- flags as the code holds them
abbrev pub faults_at : PublicationAuthorityFaults → FaultsAt
faults_at f = record {
  publish_without_intent = f.publish_without_intent;
  ignore_root_epoch = f.ignore_root_epoch;
  ignore_delete_reservation = f.ignore_delete_reservation;
  ignore_root_compare = f.ignore_root_compare;
  allow_cross_generation_intent = f.allow_cross_generation_intent;
  retire_by_plan_key_only = f.retire_by_plan_key_only;
  accept_backdated_lease = f.accept_backdated_lease;
  omit_lease_root_epoch = f.omit_lease_root_epoch;
  ignore_collection_range_epoch = f.ignore_collection_range_epoch;
  advance_collection_without_publication = f.advance_collection_without_publication;
  ignore_collection_input_root = f.ignore_collection_input_root;
}

-- what a number of flags is read as: one past the last flag is none
abbrev pub flags_in : ℕ → Result FaultsAt ℕ
flags_in n = cond (ltb n (2 ^ 11)) (Ok (faults_at (faults_from n))) (Err format.Malformed)

-- generation, term and index take eight bytes each, then come two bytes of flags, the action byte, and its fields
abbrev pub flags_place : ℕ
flags_place = 24

abbrev pub action_place : ℕ
action_place = 26

abbrev pub fields_place : ℕ
fields_place = 27

module _ (s : List ℕ) where
  abbrev pub number_in : ℕ → ℕ
  number_in p = value (take 8 (drop p s))

  -- a length byte, and so many bytes behind it
  abbrev pub text_in : ℕ → TextAt
  text_in p = record { at = min (p + 1) (length s); len = get_or s p 0 }

  abbrev pub keys_in : ℕ → Keys
  keys_in p = record { at = p; len = behind shape.keys s p - p }

  -- a byte 0 says the one, any other the other
  abbrev pub either : {A : Type 0} → ℕ → A → A → A
  either p x y = cond (eqb (get_or s p 0) 0) x y

  abbrev pub kind_in : ℕ → ObjectKind
  kind_in p = either p ObjectKind.Data ObjectKind.Manifest

  abbrev pub maybe_text_in : ℕ → Option TextAt
  maybe_text_in p = either p None (Some (text_in (p + 1)))

  -- RECORDS: in each, a name of a field is the place where that field starts
  abbrev pub position_in : ℕ → AuthorityPosition
  position_in term =
      let index = behind shape.u64 s term in
      record { term = number_in term; index = number_in index }

  abbrev pub context_in : ℕ → AuthorityContext
  context_in generation =
      let position = behind shape.u64 s generation in
      record { generation = number_in generation; position = position_in position }

  abbrev pub reference_in : ℕ → ObjectReference
  reference_in kind =
      let key = behind format.kind s kind in
      let length = behind shape.key s key in
      let sha256 = behind shape.u64 s length in
      record { kind = kind_in kind; key = text_in key; length = number_in length; sha256 = text_in sha256 }

  abbrev pub maybe_reference_in : ℕ → Option ObjectReference
  maybe_reference_in p = either p None (Some (reference_in (p + 1)))

  abbrev pub identity_in : ℕ → ObjectIdentity
  identity_in e_tag =
      let version = behind (format.option shape.name) s e_tag in
      let length = behind (format.option shape.name) s version in
      let sha256 = behind shape.u64 s length in
      record { e_tag = maybe_text_in e_tag; version = maybe_text_in version; length = number_in length; sha256 = text_in sha256 }

  abbrev pub intent_in : ℕ → PublicationIntent
  intent_in object_keys =
      let manifest = behind shape.keys s object_keys in
      let destination_root = behind shape.reference s manifest in
      let expected_prior_root = behind shape.name s destination_root in
      record {
        object_keys = keys_in object_keys;
        manifest = reference_in manifest;
        destination_root = text_in destination_root;
        expected_prior_root = maybe_reference_in expected_prior_root;
      }

  abbrev pub closure_in : ℕ → SnapshotClosure
  closure_in manifest =
      let object_keys = behind shape.reference s manifest in
      record { manifest = reference_in manifest; object_keys = keys_in object_keys }

  abbrev pub lease_token_in : ℕ → SnapshotLeaseToken
  lease_token_in lease_id =
      let tenant_id = behind shape.name s lease_id in
      let snapshot_version = behind shape.name s tenant_id in
      let lease_epoch = behind shape.u64 s snapshot_version in
      let owner = behind shape.u64 s lease_epoch in
      let purpose = behind shape.name s owner in
      let deadline_tick = behind shape.name s purpose in
      let closure = behind shape.u64 s deadline_tick in
      let owner_generation = behind shape.closure s closure in
      let authority_position = behind shape.u64 s owner_generation in
      record {
        lease_id = text_in lease_id;
        tenant_id = text_in tenant_id;
        snapshot_version = number_in snapshot_version;
        lease_epoch = number_in lease_epoch;
        owner = text_in owner;
        purpose = text_in purpose;
        deadline_tick = number_in deadline_tick;
        closure = closure_in closure;
        owner_generation = number_in owner_generation;
        authority_position = position_in authority_position;
      }

  abbrev pub job_token_in : ℕ → CollectionJobToken
  job_token_in job_id =
      let owner_generation = behind shape.name s job_id in
      let authority_position = behind shape.u64 s owner_generation in
      let frozen_floor = behind shape.position s authority_position in
      let input_manifest = behind shape.u64 s frozen_floor in
      let destination_root = behind shape.reference s input_manifest in
      let range_map_epoch = behind shape.name s destination_root in
      let expected_collected_through = behind shape.u64 s range_map_epoch in
      let output_namespace = behind shape.u64 s expected_collected_through in
      record {
        job_id = text_in job_id;
        owner_generation = number_in owner_generation;
        authority_position = position_in authority_position;
        frozen_floor = number_in frozen_floor;
        input_manifest = reference_in input_manifest;
        destination_root = text_in destination_root;
        range_map_epoch = number_in range_map_epoch;
        expected_collected_through = number_in expected_collected_through;
        output_namespace = text_in output_namespace;
      }

  abbrev pub receipt_in : ℕ → CollectionReceipt
  receipt_in token =
      let output_manifest = behind shape.job s token in
      let object_keys = behind shape.reference s output_manifest in
      record { token = job_token_in token; output_manifest = reference_in output_manifest; object_keys = keys_in object_keys }

  abbrev pub permit_in : ℕ → DeletePermit
  permit_in key =
      let identity = behind shape.key s key in
      let plan_id = behind shape.identity s identity in
      let owner_generation = behind shape.name s plan_id in
      let authority_position = behind shape.u64 s owner_generation in
      record {
        key = text_in key;
        identity = identity_in identity;
        plan_id = text_in plan_id;
        owner_generation = number_in owner_generation;
        authority_position = position_in authority_position;
      }

  -- the fields of each action
  abbrev pub window_in : ℕ → SetRetentionWindow
  window_in expected-policy-epoch =
      let retention_window = behind shape.u64 s expected-policy-epoch in
      record { expected_policy_epoch = number_in expected-policy-epoch; retention_window = number_in retention_window }

  abbrev pub configure_in : ℕ → ConfigureCollectionRoot
  configure_in expected =
      let destination_root = behind (format.option shape.name) s expected in
      record { expected = maybe_text_in expected; destination_root = text_in destination_root }

  abbrev pub acquire_in : ℕ → AcquireLease
  acquire_in lease_id =
      let tenant_id = behind shape.name s lease_id in
      let snapshot_version = behind shape.name s tenant_id in
      let owner = behind shape.u64 s snapshot_version in
      let purpose = behind shape.name s owner in
      let deadline_tick = behind shape.name s purpose in
      let closure = behind shape.u64 s deadline_tick in
      record {
        lease_id = text_in lease_id;
        tenant_id = text_in tenant_id;
        snapshot_version = number_in snapshot_version;
        owner = text_in owner;
        purpose = text_in purpose;
        deadline_tick = number_in deadline_tick;
        closure = closure_in closure;
      }

  abbrev pub renew_in : ℕ → RenewLease
  renew_in lease_id =
      let expected-lease-epoch = behind shape.name s lease_id in
      let new-deadline-tick = behind shape.u64 s expected-lease-epoch in
      record {
        lease_id = text_in lease_id;
        expected_lease_epoch = number_in expected-lease-epoch;
        new_deadline_tick = number_in new-deadline-tick;
      }

  abbrev pub release_in : ℕ → ReleaseLease
  release_in lease_id =
      let expected-lease-epoch = behind shape.name s lease_id in
      record { lease_id = text_in lease_id; expected_lease_epoch = number_in expected-lease-epoch }

  abbrev pub clock_in : ℕ → AdvanceLeaseClock
  clock_in expected-tick =
      let next-tick = behind shape.u64 s expected-tick in
      record { expected_tick = number_in expected-tick; next_tick = number_in next-tick }

  abbrev pub collect_in : ℕ → PrepareCollection
  collect_in job_id =
      let frozen_floor = behind shape.name s job_id in
      let input_manifest = behind shape.u64 s frozen_floor in
      let destination_root = behind shape.reference s input_manifest in
      let range_map_epoch = behind shape.name s destination_root in
      let expected_collected_through = behind shape.u64 s range_map_epoch in
      let output_namespace = behind shape.u64 s expected_collected_through in
      record {
        job_id = text_in job_id;
        frozen_floor = number_in frozen_floor;
        input_manifest = reference_in input_manifest;
        destination_root = text_in destination_root;
        range_map_epoch = number_in range_map_epoch;
        expected_collected_through = number_in expected_collected_through;
        output_namespace = text_in output_namespace;
      }

  abbrev pub prepare_in : ℕ → Prepare
  prepare_in publication-id =
      let intent = behind shape.name s publication-id in
      record { publication_id = text_in publication-id; intent = intent_in intent }

  abbrev pub publish_in : ℕ → Publish
  publish_in publication-id =
      let destination_root = behind shape.name s publication-id in
      let expected_prior_root = behind shape.name s destination_root in
      let manifest = behind (format.option shape.reference) s expected_prior_root in
      record {
        publication_id = text_in publication-id;
        destination_root = text_in destination_root;
        expected_prior_root = maybe_reference_in expected_prior_root;
        manifest = reference_in manifest;
      }

  abbrev pub pin_in : ℕ → Pin
  pin_in pin-id =
      let expected = behind shape.name s pin-id in
      let manifest = behind (format.option shape.reference) s expected in
      record { pin_id = text_in pin-id; expected = maybe_reference_in expected; manifest = reference_in manifest }

  abbrev pub unpin_in : ℕ → Unpin
  unpin_in pin-id =
      let expected = behind shape.name s pin-id in
      record { pin_id = text_in pin-id; expected = reference_in expected }

  abbrev pub reserve_in : ℕ → ReserveDelete
  reserve_in plan_id =
      let mark-epoch = behind shape.name s plan_id in
      let key = behind shape.u64 s mark-epoch in
      let identity = behind shape.key s key in
      record { plan_id = text_in plan_id; mark_epoch = number_in mark-epoch; key = text_in key; identity = identity_in identity }

  -- ACTIONS, in declared order, at a place p; the action byte counts from 1, and a byte that is none is taken for the last
  abbrev pub actions_in : ℕ → List PublicationAction
  actions_in p =
      PublicationAction.ObserveCommittedFrontier (number_in p)
      ∷ PublicationAction.SetRetentionWindow (window_in p)
      ∷ PublicationAction.ObserveRangeMapEpoch (number_in p)
      ∷ PublicationAction.ConfigureCollectionRoot (configure_in p)
      ∷ PublicationAction.AcquireLease (acquire_in p)
      ∷ PublicationAction.RenewLease (renew_in p)
      ∷ PublicationAction.ReleaseLease (release_in p)
      ∷ PublicationAction.AdvanceLeaseClock (clock_in p)
      ∷ PublicationAction.PrepareCollection (collect_in p)
      ∷ PublicationAction.PublishCollection (receipt_in p)
      ∷ PublicationAction.AbandonCollection (job_token_in p)
      ∷ PublicationAction.Prepare (prepare_in p)
      ∷ PublicationAction.Publish (publish_in p)
      ∷ PublicationAction.Pin (pin_in p)
      ∷ PublicationAction.Unpin (unpin_in p)
      ∷ PublicationAction.ReserveDelete (reserve_in p)
      ∷ PublicationAction.RetireDelete (permit_in p)
      ∷ []

  abbrev pub action_in : ℕ → ℕ → PublicationAction
  action_in k p =
      let last = PublicationAction.RetireDelete (permit_in p) in
      nth last (last ∷ actions_in p) k

  -- A REQUEST AND A TOKEN, or the first fault
  abbrev pub request_in : Request
  request_in = record {
    context = context_in 0;
    faults = faults_at (faults_from (value (take 2 (drop flags_place s))));
    action = action_in (get_or s action_place 0) fields_place;
  }

  abbrev pub parsed_in : {A : Type 0} → Reply A → Result Request ℕ
  parsed_in (answer q) = Ok request_in
  parsed_in (refusal e) = Err e

  abbrev pub token_in : {A : Type 0} → Reply A → Result SnapshotLeaseToken ℕ
  token_in (answer t) = Ok (lease_token_in 0)
  token_in (refusal e) = Err e
