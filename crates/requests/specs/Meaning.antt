-- What a request read by place means: the value that stands in the request at each place.
use Rattle.std.specs.Prelude.{ℕ, List, take, drop, Option, None, Some, Result, Ok, Err}
use Rattle.state.specs.Maps.{Text}
use Rattle.state.specs.Records.{ObjectKind, Data, Manifest, AuthorityPosition, AuthorityContext, PublicationAuthorityFaults, ObjectReference, ObjectIdentity, PublicationIntent, SnapshotClosure, SnapshotLeaseToken, CollectionJobToken, CollectionReceipt, DeletePermit}
use Rattle.machine.specs.Actions.{Action}
use Rattle.machine.specs.Actions as machine
use Rattle.image.specs.Contents.{Reply, answer, refusal}
use Rattle.image.specs.declared.TextAt.{TextAt}
use Rattle.sets.specs.Sets.{set_of}
use Rattle.requests.specs.Request.{Request}
use Rattle.requests.specs.declared.ObjectKind.{ObjectKind as KindAt}
use Rattle.requests.specs.declared.Keys.{Keys}
use Rattle.requests.specs.declared.AuthorityPosition.{AuthorityPosition as PositionAt}
use Rattle.requests.specs.declared.AuthorityContext.{AuthorityContext as ContextAt}
use Rattle.requests.specs.declared.PublicationAuthorityFaults.{PublicationAuthorityFaults as FaultsAt}
use Rattle.requests.specs.declared.ObjectReference.{ObjectReference as ReferenceAt}
use Rattle.requests.specs.declared.ObjectIdentity.{ObjectIdentity as IdentityAt}
use Rattle.requests.specs.declared.PublicationIntent.{PublicationIntent as IntentAt}
use Rattle.requests.specs.declared.SnapshotClosure.{SnapshotClosure as ClosureAt}
use Rattle.requests.specs.declared.SnapshotLeaseToken.{SnapshotLeaseToken as LeaseTokenAt}
use Rattle.requests.specs.declared.CollectionJobToken.{CollectionJobToken as JobTokenAt}
use Rattle.requests.specs.declared.CollectionReceipt.{CollectionReceipt as ReceiptAt}
use Rattle.requests.specs.declared.DeletePermit.{DeletePermit as PermitAt}
use Rattle.requests.specs.declared.PublicationAction.{PublicationAction}
use Rattle.requests.specs.declared.Request.{Request as RequestAt}

abbrev pub text_of : List ℕ → TextAt → Text
text_of s t = take t.len (drop t.at s)

abbrev pub maybe_text_of : List ℕ → Option TextAt → Option Text
maybe_text_of s None = None
maybe_text_of s (Some t) = Some (text_of s t)

abbrev pub kind_of : KindAt → ObjectKind
kind_of KindAt.Data = Data
kind_of KindAt.Manifest = Manifest

abbrev pub keys_of : List ℕ → Keys → List Text
keys_of s k = set_of (drop k.at s)

abbrev pub position_of : PositionAt → AuthorityPosition
position_of p = record { term = p.term; index = p.index }

abbrev pub context_of : ContextAt → AuthorityContext
context_of c = record { generation = c.generation; position = position_of c.position }

abbrev pub faults_of : FaultsAt → PublicationAuthorityFaults
faults_of f = record {
  publish_without_intent = f.publish_without_intent;
  ignore_root_epoch = f.ignore_root_epoch;
  ignore_delete_reservation = f.ignore_delete_reservation;
  ignore_root_compare = f.ignore_root_compare;
  allow_cross_generation_intent = f.allow_cross_generation_intent;
  retire_by_plan_key_only = f.retire_by_plan_key_only;
  accept_backdated_lease = f.accept_backdated_lease;
  omit_lease_root_epoch = f.omit_lease_root_epoch;
  ignore_collection_range_epoch = f.ignore_collection_range_epoch;
  advance_collection_without_publication = f.advance_collection_without_publication;
  ignore_collection_input_root = f.ignore_collection_input_root;
}

module _ (s : List ℕ) where
  abbrev pub reference_of : ReferenceAt → ObjectReference
  reference_of r = record { kind = kind_of r.kind; key = text_of s r.key; length = r.length; sha256 = text_of s r.sha256 }

  abbrev pub maybe_reference_of : Option ReferenceAt → Option ObjectReference
  maybe_reference_of None = None
  maybe_reference_of (Some r) = Some (reference_of r)

  abbrev pub identity_of : IdentityAt → ObjectIdentity
  identity_of i = record { revision = record { e_tag = maybe_text_of s i.e_tag; version = maybe_text_of s i.version }; length = i.length; sha256 = text_of s i.sha256 }

  abbrev pub intent_of : IntentAt → PublicationIntent
  intent_of i = record { object_keys = keys_of s i.object_keys; manifest = reference_of i.manifest; destination_root = text_of s i.destination_root; expected_prior_root = maybe_reference_of i.expected_prior_root }

  abbrev pub closure_of : ClosureAt → SnapshotClosure
  closure_of c = record { manifest = reference_of c.manifest; object_keys = keys_of s c.object_keys }

  abbrev pub lease_token_of : LeaseTokenAt → SnapshotLeaseToken
  lease_token_of t = record {
    lease_id = text_of s t.lease_id;
    tenant_id = text_of s t.tenant_id;
    snapshot_version = t.snapshot_version;
    lease_epoch = t.lease_epoch;
    owner = text_of s t.owner;
    purpose = text_of s t.purpose;
    deadline_tick = t.deadline_tick;
    closure = closure_of t.closure;
    owner_generation = t.owner_generation;
    authority_position = position_of t.authority_position;
  }

  abbrev pub job_token_of : JobTokenAt → CollectionJobToken
  job_token_of t = record {
    job_id = text_of s t.job_id;
    owner_generation = t.owner_generation;
    authority_position = position_of t.authority_position;
    frozen_floor = t.frozen_floor;
    input_manifest = reference_of t.input_manifest;
    destination_root = text_of s t.destination_root;
    range_map_epoch = t.range_map_epoch;
    expected_collected_through = t.expected_collected_through;
    output_namespace = text_of s t.output_namespace;
  }

  abbrev pub receipt_of : ReceiptAt → CollectionReceipt
  receipt_of r = record { token = job_token_of r.token; output_manifest = reference_of r.output_manifest; object_keys = keys_of s r.object_keys }

  abbrev pub permit_of : PermitAt → DeletePermit
  permit_of p = record { key = text_of s p.key; identity = identity_of p.identity; plan_id = text_of s p.plan_id; owner_generation = p.owner_generation; authority_position = position_of p.authority_position }

  -- each case of an action
  abbrev pub action_of : PublicationAction → Action
  action_of (PublicationAction.ObserveCommittedFrontier n) = machine.ObserveCommittedFrontier n
  action_of (PublicationAction.SetRetentionWindow a) = machine.SetRetentionWindow a.expected_policy_epoch a.retention_window
  action_of (PublicationAction.ObserveRangeMapEpoch n) = machine.ObserveRangeMapEpoch n
  action_of (PublicationAction.ConfigureCollectionRoot a) = machine.ConfigureCollectionRoot (maybe_text_of s a.expected) (text_of s a.destination_root)
  action_of (PublicationAction.AcquireLease a) =
      machine.AcquireLease (text_of s a.lease_id) (text_of s a.tenant_id) a.snapshot_version (text_of s a.owner) (text_of s a.purpose) a.deadline_tick (closure_of a.closure)
  action_of (PublicationAction.RenewLease a) = machine.RenewLease (text_of s a.lease_id) a.expected_lease_epoch a.new_deadline_tick
  action_of (PublicationAction.ReleaseLease a) = machine.ReleaseLease (text_of s a.lease_id) a.expected_lease_epoch
  action_of (PublicationAction.AdvanceLeaseClock a) = machine.AdvanceLeaseClock a.expected_tick a.next_tick
  action_of (PublicationAction.PrepareCollection a) =
      machine.PrepareCollection (text_of s a.job_id) a.frozen_floor (reference_of a.input_manifest) (text_of s a.destination_root) a.range_map_epoch a.expected_collected_through (text_of s a.output_namespace)
  action_of (PublicationAction.PublishCollection r) = machine.PublishCollection (receipt_of r)
  action_of (PublicationAction.AbandonCollection t) = machine.AbandonCollection (job_token_of t)
  action_of (PublicationAction.Prepare a) = machine.Prepare (text_of s a.publication_id) (intent_of a.intent)
  action_of (PublicationAction.Publish a) =
      machine.Publish (text_of s a.publication_id) (text_of s a.destination_root) (maybe_reference_of a.expected_prior_root) (reference_of a.manifest)
  action_of (PublicationAction.Pin a) = machine.Pin (text_of s a.pin_id) (maybe_reference_of a.expected) (reference_of a.manifest)
  action_of (PublicationAction.Unpin a) = machine.Unpin (text_of s a.pin_id) (reference_of a.expected)
  action_of (PublicationAction.ReserveDelete a) = machine.ReserveDelete (text_of s a.plan_id) a.mark_epoch (text_of s a.key) (identity_of a.identity)
  action_of (PublicationAction.RetireDelete p) = machine.RetireDelete (permit_of p)

  abbrev pub request_of : RequestAt → Request
  request_of r = record { context = context_of r.context; faults = faults_of r.faults; action = action_of r.action }

  abbrev pub parsed_of : Result RequestAt ℕ → Reply Request
  parsed_of (Ok r) = answer (request_of r)
  parsed_of (Err e) = refusal e

  abbrev pub token_read_of : Result LeaseTokenAt ℕ → Reply SnapshotLeaseToken
  token_read_of (Ok t) = answer (lease_token_of t)
  token_read_of (Err e) = refusal e
