-- `==` is true exactly on equals: of each record, of texts and of options.
-- Assumes nothing.
use Rattle.std.specs.Prelude.{◌≡◌, refl, List, [], ◌∷◌, Bool, true, ◌&&◌, Option, None, Some}
use Rattle.std.proofs.Common.{ap, eqb-true, eq-eqb}
use Rattle.text.specs.SameLaws.{same_refl, same_true}
use Rattle.state.specs.Maps.{Text, same, same_texts, same_option}
use Rattle.state.proofs.MapLaws.{no_way, by_test}
use Rattle.state.specs.Records.{every, ObjectKind, Data, Manifest, kind_eq, AuthorityPosition, position_eq, RevisionToken, revision_eq, ObjectIdentity, identity_eq, ObjectReference, reference_eq, SnapshotClosure, closure_eq, SnapshotLeaseToken, lease_eq, CollectionJobToken, job_eq, DeletePermit, permit_eq}

abbrev Trues : List Bool → Type 0
Trues [] = Unit {0}
Trues (b ∷ bs) = (b ≡ true) × Trues bs

every_true : (bs : List Bool) → every bs ≡ true → Trues bs
unfolding every
every_true [] e = tt
every_true (b ∷ bs) e = by_test (λ c. (c && every bs) ≡ true → (c ≡ true) × Trues bs) b (λ _ z. (refl, every_true bs z)) (λ _ z. no_way z refl) e

true_every : (bs : List Bool) → Trues bs → every bs ≡ true
unfolding every
true_every [] h = refl
true_every (b ∷ bs) h = rw h.0 (true_every bs h.1)

-- OPTIONS AND TEXTS
module _ {A : Type 0} (eq : A → A → Bool) where
  pub option_sound : ((a b : A) → eq a b ≡ true → a ≡ b) → (a b : Option A) → same_option eq a b ≡ true → a ≡ b
  option_sound f None None e = refl
  option_sound f None (Some y) e = no_way e refl
  option_sound f (Some x) None e = no_way e refl
  option_sound f (Some x) (Some y) e = ap {B = Option A} Some (f x y e)

  pub option_refl : ((a : A) → eq a a ≡ true) → (a : Option A) → same_option eq a a ≡ true
  option_refl f None = refl
  option_refl f (Some x) = f x

pub texts_sound : (a b : List Text) → same_texts a b ≡ true → a ≡ b
unfolding same_texts
texts_sound [] [] e = refl
texts_sound [] (y ∷ ys) e = cc
texts_sound (x ∷ xs) [] e = cc
texts_sound (x ∷ xs) (y ∷ ys) e = by_test (λ c. same x y ≡ c → (c && same_texts xs ys) ≡ true → ◌≡◌ {A = List Text} (x ∷ xs) (y ∷ ys)) (same x y)
    (λ _ q z. let p = same_true x y q in let t = texts_sound xs ys z in cc)
    (λ _ q z. no_way z refl) refl e

pub texts_refl : (a : List Text) → same_texts a a ≡ true
unfolding same_texts
texts_refl [] = refl
texts_refl (x ∷ xs) = rw (same_refl x) (texts_refl xs)

-- RECORDS
pub kind_sound : (a b : ObjectKind) → kind_eq a b ≡ true → a ≡ b
kind_sound Data Data e = refl
kind_sound Data Manifest e = cc
kind_sound Manifest Data e = cc
kind_sound Manifest Manifest e = refl

pub kind_refl : (a : ObjectKind) → kind_eq a a ≡ true
kind_refl Data = refl
kind_refl Manifest = refl

pub position_sound : (a b : AuthorityPosition) → position_eq a b ≡ true → a ≡ b
unfolding position_eq
position_sound a b e = let h = every_true _ e in λ i. record {
  term = eqb-true a.term b.term h.0 i;
  index = eqb-true a.index b.index h.1.0 i;
}

pub position_refl : (a : AuthorityPosition) → position_eq a a ≡ true
unfolding position_eq
position_refl a = true_every _ (eq-eqb a.term a.term refl, (eq-eqb a.index a.index refl, tt))

pub revision_sound : (a b : RevisionToken) → revision_eq a b ≡ true → a ≡ b
unfolding revision_eq
revision_sound a b e = let h = every_true _ e in λ i. record {
  e_tag = option_sound same same_true a.e_tag b.e_tag h.0 i;
  version = option_sound same same_true a.version b.version h.1.0 i;
}

pub revision_refl : (a : RevisionToken) → revision_eq a a ≡ true
unfolding revision_eq
revision_refl a = true_every _ (option_refl same same_refl a.e_tag, (option_refl same same_refl a.version, tt))

pub identity_sound : (a b : ObjectIdentity) → identity_eq a b ≡ true → a ≡ b
unfolding identity_eq
identity_sound a b e = let h = every_true _ e in λ i. record {
  revision = revision_sound a.revision b.revision h.0 i;
  length = eqb-true a.length b.length h.1.0 i;
  sha256 = same_true a.sha256 b.sha256 h.1.1.0 i;
}

pub identity_refl : (a : ObjectIdentity) → identity_eq a a ≡ true
unfolding identity_eq
identity_refl a = true_every _ (revision_refl a.revision, (eq-eqb a.length a.length refl, (same_refl a.sha256, tt)))

pub reference_sound : (a b : ObjectReference) → reference_eq a b ≡ true → a ≡ b
unfolding reference_eq
reference_sound a b e = let h = every_true _ e in λ i. record {
  kind = kind_sound a.kind b.kind h.0 i;
  key = same_true a.key b.key h.1.0 i;
  length = eqb-true a.length b.length h.1.1.0 i;
  sha256 = same_true a.sha256 b.sha256 h.1.1.1.0 i;
}

pub reference_refl : (a : ObjectReference) → reference_eq a a ≡ true
unfolding reference_eq
reference_refl a = true_every _ (kind_refl a.kind, (same_refl a.key, (eq-eqb a.length a.length refl, (same_refl a.sha256, tt))))

pub closure_sound : (a b : SnapshotClosure) → closure_eq a b ≡ true → a ≡ b
unfolding closure_eq
closure_sound a b e = let h = every_true _ e in λ i. record {
  manifest = reference_sound a.manifest b.manifest h.0 i;
  object_keys = texts_sound a.object_keys b.object_keys h.1.0 i;
}

pub closure_refl : (a : SnapshotClosure) → closure_eq a a ≡ true
unfolding closure_eq
closure_refl a = true_every _ (reference_refl a.manifest, (texts_refl a.object_keys, tt))

pub lease_sound : (a b : SnapshotLeaseToken) → lease_eq a b ≡ true → a ≡ b
unfolding lease_eq
lease_sound a b e = let h = every_true _ e in λ i. record {
  lease_id = same_true a.lease_id b.lease_id h.0 i;
  tenant_id = same_true a.tenant_id b.tenant_id h.1.0 i;
  snapshot_version = eqb-true a.snapshot_version b.snapshot_version h.1.1.0 i;
  lease_epoch = eqb-true a.lease_epoch b.lease_epoch h.1.1.1.0 i;
  owner = same_true a.owner b.owner h.1.1.1.1.0 i;
  purpose = same_true a.purpose b.purpose h.1.1.1.1.1.0 i;
  deadline_tick = eqb-true a.deadline_tick b.deadline_tick h.1.1.1.1.1.1.0 i;
  closure = closure_sound a.closure b.closure h.1.1.1.1.1.1.1.0 i;
  owner_generation = eqb-true a.owner_generation b.owner_generation h.1.1.1.1.1.1.1.1.0 i;
  authority_position = position_sound a.authority_position b.authority_position h.1.1.1.1.1.1.1.1.1.0 i;
}

pub lease_refl : (a : SnapshotLeaseToken) → lease_eq a a ≡ true
unfolding lease_eq
lease_refl a = true_every _ (same_refl a.lease_id, (same_refl a.tenant_id, (eq-eqb a.snapshot_version a.snapshot_version refl, (eq-eqb a.lease_epoch a.lease_epoch refl, (same_refl a.owner, (same_refl a.purpose, (eq-eqb a.deadline_tick a.deadline_tick refl, (closure_refl a.closure, (eq-eqb a.owner_generation a.owner_generation refl, (position_refl a.authority_position, tt))))))))))

pub job_sound : (a b : CollectionJobToken) → job_eq a b ≡ true → a ≡ b
unfolding job_eq
job_sound a b e = let h = every_true _ e in λ i. record {
  job_id = same_true a.job_id b.job_id h.0 i;
  owner_generation = eqb-true a.owner_generation b.owner_generation h.1.0 i;
  authority_position = position_sound a.authority_position b.authority_position h.1.1.0 i;
  frozen_floor = eqb-true a.frozen_floor b.frozen_floor h.1.1.1.0 i;
  input_manifest = reference_sound a.input_manifest b.input_manifest h.1.1.1.1.0 i;
  destination_root = same_true a.destination_root b.destination_root h.1.1.1.1.1.0 i;
  range_map_epoch = eqb-true a.range_map_epoch b.range_map_epoch h.1.1.1.1.1.1.0 i;
  expected_collected_through = eqb-true a.expected_collected_through b.expected_collected_through h.1.1.1.1.1.1.1.0 i;
  output_namespace = same_true a.output_namespace b.output_namespace h.1.1.1.1.1.1.1.1.0 i;
}

pub job_refl : (a : CollectionJobToken) → job_eq a a ≡ true
unfolding job_eq
job_refl a = true_every _ (same_refl a.job_id, (eq-eqb a.owner_generation a.owner_generation refl, (position_refl a.authority_position, (eq-eqb a.frozen_floor a.frozen_floor refl, (reference_refl a.input_manifest, (same_refl a.destination_root, (eq-eqb a.range_map_epoch a.range_map_epoch refl, (eq-eqb a.expected_collected_through a.expected_collected_through refl, (same_refl a.output_namespace, tt)))))))))

pub permit_sound : (a b : DeletePermit) → permit_eq a b ≡ true → a ≡ b
unfolding permit_eq
permit_sound a b e = let h = every_true _ e in λ i. record {
  key = same_true a.key b.key h.0 i;
  identity = identity_sound a.identity b.identity h.1.0 i;
  plan_id = same_true a.plan_id b.plan_id h.1.1.0 i;
  owner_generation = eqb-true a.owner_generation b.owner_generation h.1.1.1.0 i;
  authority_position = position_sound a.authority_position b.authority_position h.1.1.1.1.0 i;
}

pub permit_refl : (a : DeletePermit) → permit_eq a a ≡ true
unfolding permit_eq
permit_refl a = true_every _ (same_refl a.key, (identity_refl a.identity, (same_refl a.plan_id, (eq-eqb a.owner_generation a.owner_generation refl, (position_refl a.authority_position, tt)))))

-- what a root or a pin is compared with
pub references_sound : (a b : Option ObjectReference) → same_option reference_eq a b ≡ true → a ≡ b
references_sound a b e = option_sound reference_eq reference_sound a b e

pub references_refl : (a : Option ObjectReference) → same_option reference_eq a a ≡ true
references_refl a = option_refl reference_eq reference_refl a
