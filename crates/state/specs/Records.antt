-- The records of the Rust, with its names and its fields in their declared order, its `==` and its `is_valid` tests.
use Rattle.std.specs.Prelude.{ℕ, List, [], ◌∷◌, Bool, true, false, not, ◌&&◌, eqb, Option, None, Some}
use Rattle.text.specs.Same.{sha256_of}
use Rattle.state.specs.Maps.{Text, Map, same, same_texts, same_option, is_empty, contains, starts_with, all}

pub record AuthorityPosition : Type 0 where
  pub term : ℕ
  pub index : ℕ

pub record AuthorityContext : Type 0 where
  pub generation : ℕ
  pub position : AuthorityPosition

pub record RevisionToken : Type 0 where
  pub e_tag : Option Text
  pub version : Option Text

pub record ObjectIdentity : Type 0 where
  pub revision : RevisionToken
  pub length : ℕ
  pub sha256 : Text

pub data ObjectKind : Type 0 where
  Data Manifest : ObjectKind

pub record ObjectReference : Type 0 where
  pub kind : ObjectKind
  pub key : Text
  pub length : ℕ
  pub sha256 : Text

pub record PublicationIntent : Type 0 where
  pub object_keys : List Text
  pub manifest : ObjectReference
  pub destination_root : Text
  pub expected_prior_root : Option ObjectReference

pub record PreparedPublication : Type 0 where
  pub owner_generation : ℕ
  pub intent : PublicationIntent

pub record SnapshotClosure : Type 0 where
  pub manifest : ObjectReference
  pub object_keys : List Text

pub record SnapshotLeaseToken : Type 0 where
  pub lease_id : Text
  pub tenant_id : Text
  pub snapshot_version : ℕ
  pub lease_epoch : ℕ
  pub owner : Text
  pub purpose : Text
  pub deadline_tick : ℕ
  pub closure : SnapshotClosure
  pub owner_generation : ℕ
  pub authority_position : AuthorityPosition

pub record CollectionJobToken : Type 0 where
  pub job_id : Text
  pub owner_generation : ℕ
  pub authority_position : AuthorityPosition
  pub frozen_floor : ℕ
  pub input_manifest : ObjectReference
  pub destination_root : Text
  pub range_map_epoch : ℕ
  pub expected_collected_through : ℕ
  pub output_namespace : Text

pub record CollectionReceipt : Type 0 where
  pub token : CollectionJobToken
  pub output_manifest : ObjectReference
  pub object_keys : List Text

pub record DeletePermit : Type 0 where
  pub key : Text
  pub identity : ObjectIdentity
  pub plan_id : Text
  pub owner_generation : ℕ
  pub authority_position : AuthorityPosition

pub record PublicationAuthorityFaults : Type 0 where
  pub publish_without_intent : Bool
  pub ignore_root_epoch : Bool
  pub ignore_delete_reservation : Bool
  pub ignore_root_compare : Bool
  pub allow_cross_generation_intent : Bool
  pub retire_by_plan_key_only : Bool
  pub accept_backdated_lease : Bool
  pub omit_lease_root_epoch : Bool
  pub ignore_collection_range_epoch : Bool
  pub advance_collection_without_publication : Bool
  pub ignore_collection_input_root : Bool

abbrev pub no_faults : PublicationAuthorityFaults
no_faults = record {
  publish_without_intent = false;
  ignore_root_epoch = false;
  ignore_delete_reservation = false;
  ignore_root_compare = false;
  allow_cross_generation_intent = false;
  retire_by_plan_key_only = false;
  accept_backdated_lease = false;
  omit_lease_root_epoch = false;
  ignore_collection_range_epoch = false;
  advance_collection_without_publication = false;
  ignore_collection_input_root = false;
}

-- PublicationAuthorityState
pub record State : Type 0 where
  pub format_version : ℕ
  pub revision : AuthorityPosition
  pub root_intent_epoch : ℕ
  pub intents : Map PreparedPublication
  pub roots : Map ObjectReference
  pub pins : Map ObjectReference
  pub deletion_reservations : Map DeletePermit
  pub observed_commit_frontier : ℕ
  pub retention_window : Option ℕ
  pub retention_policy_epoch : ℕ
  pub policy_floor : ℕ
  pub minimum_readable_version : ℕ
  pub physically_collected_through : ℕ
  pub lease_clock_tick : ℕ
  pub lease_epoch : ℕ
  pub leases : Map SnapshotLeaseToken
  pub range_map_epoch : ℕ
  pub collection_root : Option Text
  pub collection_jobs : Map CollectionJobToken

abbrev pub default : State
default = record {
  format_version = 1;
  revision = record { term = 0; index = 0 };
  root_intent_epoch = 0;
  intents = [];
  roots = [];
  pins = [];
  deletion_reservations = [];
  observed_commit_frontier = 0;
  retention_window = None;
  retention_policy_epoch = 0;
  policy_floor = 0;
  minimum_readable_version = 0;
  physically_collected_through = 0;
  lease_clock_tick = 0;
  lease_epoch = 0;
  leases = [];
  range_map_epoch = 0;
  collection_root = None;
  collection_jobs = [];
}

-- `==`, FIELD BY FIELD: true if every test of a list is.
unfoldable pub every : List Bool → Bool
every [] = true
every (b ∷ bs) = b && every bs

abbrev pub kind_eq : ObjectKind → ObjectKind → Bool
kind_eq Data Data = true
kind_eq Data Manifest = false
kind_eq Manifest Data = false
kind_eq Manifest Manifest = true

unfoldable pub position_eq : AuthorityPosition → AuthorityPosition → Bool
position_eq a b = every (eqb a.term b.term ∷ eqb a.index b.index ∷ [])

unfoldable pub reference_eq : ObjectReference → ObjectReference → Bool
reference_eq a b = every (kind_eq a.kind b.kind ∷ same a.key b.key ∷ eqb a.length b.length ∷ same a.sha256 b.sha256 ∷ [])

unfoldable pub revision_eq : RevisionToken → RevisionToken → Bool
revision_eq a b = every (same_option same a.e_tag b.e_tag ∷ same_option same a.version b.version ∷ [])

unfoldable pub identity_eq : ObjectIdentity → ObjectIdentity → Bool
identity_eq a b = every (revision_eq a.revision b.revision ∷ eqb a.length b.length ∷ same a.sha256 b.sha256 ∷ [])

unfoldable pub closure_eq : SnapshotClosure → SnapshotClosure → Bool
closure_eq a b = every (reference_eq a.manifest b.manifest ∷ same_texts a.object_keys b.object_keys ∷ [])

unfoldable pub lease_eq : SnapshotLeaseToken → SnapshotLeaseToken → Bool
lease_eq a b = every (
    same a.lease_id b.lease_id ∷ same a.tenant_id b.tenant_id
    ∷ eqb a.snapshot_version b.snapshot_version ∷ eqb a.lease_epoch b.lease_epoch
    ∷ same a.owner b.owner ∷ same a.purpose b.purpose
    ∷ eqb a.deadline_tick b.deadline_tick ∷ closure_eq a.closure b.closure
    ∷ eqb a.owner_generation b.owner_generation ∷ position_eq a.authority_position b.authority_position ∷ [])

unfoldable pub job_eq : CollectionJobToken → CollectionJobToken → Bool
job_eq a b = every (
    same a.job_id b.job_id ∷ eqb a.owner_generation b.owner_generation
    ∷ position_eq a.authority_position b.authority_position ∷ eqb a.frozen_floor b.frozen_floor
    ∷ reference_eq a.input_manifest b.input_manifest ∷ same a.destination_root b.destination_root
    ∷ eqb a.range_map_epoch b.range_map_epoch ∷ eqb a.expected_collected_through b.expected_collected_through
    ∷ same a.output_namespace b.output_namespace ∷ [])

unfoldable pub permit_eq : DeletePermit → DeletePermit → Bool
permit_eq a b = every (
    same a.key b.key ∷ identity_eq a.identity b.identity ∷ same a.plan_id b.plan_id
    ∷ eqb a.owner_generation b.owner_generation ∷ position_eq a.authority_position b.authority_position ∷ [])

-- THE `is_valid` TESTS
unfoldable pub valid_context : AuthorityContext → Bool
valid_context c = not (eqb c.generation 0) && not (eqb c.position.index 0)

unfoldable pub valid_identity : ObjectIdentity → Bool
valid_identity i = sha256_of i.sha256

abbrev pub named : Text → Bool
named k = not (is_empty k)

abbrev pub is_manifest : ObjectReference → Bool
is_manifest r = kind_eq r.kind Manifest

unfoldable pub valid_reference : ObjectReference → Bool
valid_reference r = named r.key && sha256_of r.sha256

-- is_none_or(ObjectReference::is_valid)
abbrev pub valid_prior : Option ObjectReference → Bool
valid_prior None = true
valid_prior (Some r) = valid_reference r

unfoldable pub valid_intent : PublicationIntent → Bool
valid_intent i = every (
    is_manifest i.manifest ∷ valid_reference i.manifest ∷ named i.destination_root
    ∷ valid_prior i.expected_prior_root ∷ contains i.manifest.key i.object_keys ∷ all named i.object_keys ∷ [])

unfoldable pub valid_closure : SnapshotClosure → Bool
valid_closure c = every (
    is_manifest c.manifest ∷ valid_reference c.manifest
    ∷ contains c.manifest.key c.object_keys ∷ all named c.object_keys ∷ [])

-- SnapshotClosure::names
abbrev pub names : SnapshotClosure → Text → Bool
names c key = contains key c.object_keys

-- a key equal to the namespace passes
unfoldable pub valid_receipt : CollectionReceipt → Bool
valid_receipt r = every (
    is_manifest r.output_manifest ∷ valid_reference r.output_manifest
    ∷ contains r.output_manifest.key r.object_keys
    ∷ all (λ k. starts_with k r.token.output_namespace) r.object_keys ∷ [])
