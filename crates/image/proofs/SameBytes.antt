-- Two records are equal just where their bytes are: one comparison of parts instead of one field by field.
use Rattle.std.specs.Prelude.{ℕ, ◌≡◌, refl, Bool, true, false, List, [], Option}
use Rattle.std.proofs.Common.{sym, ap, ◌∙◌, append-nil}
use Rattle.text.specs.Same.{same_of}
use Rattle.text.specs.SameLaws.{same_true, same_of_eq}
use Rattle.state.specs.Maps.{Text, same, same_option}
use Rattle.state.proofs.MapLaws.{by_test, no_way}
use Rattle.state.specs.Records.{ObjectReference, reference_eq, SnapshotLeaseToken, lease_eq, CollectionJobToken, job_eq, DeletePermit, permit_eq}
use Rattle.state.proofs.RecordLaws.{option_sound, option_refl, reference_sound, reference_refl, lease_sound, lease_refl, job_sound, job_refl, permit_sound, permit_refl}
use Rattle.fields.specs.Format.{Field, option, El, enc, Within}
use Rattle.fields.proofs.FormatLaws.{enc_injective}
use Rattle.image.specs.Shapes.{name, reference, lease, job, permit, each_option, option-there, reference_parts, reference_from, reference-there, lease_parts, lease_from, job_parts, job_of, permit_parts, permit_from}

pub enc-same : (f : Field) (v w : El f) → Within f v → Within f w → enc f v ≡ enc f w → v ≡ w
enc-same f v w h k e = (enc_injective f v w [] [] h k (append-nil (enc f v) ∙ e ∙ sym (append-nil (enc f w)))).0

-- two tests that hold of equals and of nothing else are one test
one-test : {A : Type 0} (p q : A → A → Bool) (a b : A) → (p a b ≡ true → a ≡ b) → (q a b ≡ true → a ≡ b) → (a ≡ b → p a b ≡ true) → (a ≡ b → q a b ≡ true) → p a b ≡ q a b
one-test p q a b ps qs pr qr =
    (by_test (λ t. p a b ≡ t → t ≡ q a b) (p a b) (λ _ e. sym (qr (ps e)))
    (λ _ e. (by_test (λ u. q a b ≡ u → ◌≡◌ {A = Bool} false u) (q a b) (λ _ k. no_way (pr (qs k)) e) (λ _ _. refl)) refl)) refl

module _ {A : Type 0} (f : Field) (parts : A → El f) (of : El f → A) (there : (a : A) → of (parts a) ≡ a) (eq : A → A → Bool)
    (sound : (a b : A) → eq a b ≡ true → a ≡ b) (equal : (a : A) → eq a a ≡ true)
  where
    abbrev bytes : A → List ℕ
    bytes a = enc f (parts a)

    same_bytes : (a b : A) → Within f (parts a) → Within f (parts b) → same_of (bytes a) (bytes b) ≡ eq a b
    same_bytes a b h k =
        one-test (λ x y. same_of (bytes x) (bytes y)) eq a b
        (λ e. sym (there a) ∙ ap of (enc-same f (parts a) (parts b) h k (same_true (bytes a) (bytes b) e)) ∙ there b)
        (sound a b)
        (λ e. same_of_eq (bytes a) (bytes b) (ap bytes e))
        (λ e. ap (eq a) (sym e) ∙ equal a)

pub same_name : (a b : Option Text) → Within (option name) a → Within (option name) b → same_of (enc (option name) a) (enc (option name) b) ≡ same_option same a b
same_name = same_bytes (option name) (λ a. a) (λ v. v) (λ a. refl) (same_option same) (option_sound same same_true) (option_refl same (λ a. same_of_eq a a refl))

pub same-reference : (a b : ObjectReference) → Within reference (reference_parts a) → Within reference (reference_parts b)
    → same_of (enc reference (reference_parts a)) (enc reference (reference_parts b)) ≡ reference_eq a b
same-reference = same_bytes reference reference_parts reference_from reference-there reference_eq reference_sound reference_refl

abbrev prior_parts : Option ObjectReference → El (option reference)
prior_parts o = each_option reference_parts o

pub same_prior : (a b : Option ObjectReference) → Within (option reference) (each_option reference_parts a) → Within (option reference) (each_option reference_parts b)
    → same_of (enc (option reference) (each_option reference_parts a)) (enc (option reference) (each_option reference_parts b)) ≡ same_option reference_eq a b
same_prior = same_bytes (option reference) prior_parts (λ v. each_option reference_from v) (option-there reference_parts reference_from reference-there) (same_option reference_eq)
    (option_sound reference_eq reference_sound) (option_refl reference_eq reference_refl)

pub same-lease : (a b : SnapshotLeaseToken) → Within lease (lease_parts a) → Within lease (lease_parts b) → same_of (enc lease (lease_parts a)) (enc lease (lease_parts b)) ≡ lease_eq a b
same-lease = same_bytes lease lease_parts lease_from (λ a. refl) lease_eq lease_sound lease_refl

pub same-job : (a b : CollectionJobToken) → Within job (job_parts a) → Within job (job_parts b) → same_of (enc job (job_parts a)) (enc job (job_parts b)) ≡ job_eq a b
same-job = same_bytes job job_parts job_of (λ a. refl) job_eq job_sound job_refl

pub same-permit : (a b : DeletePermit) → Within permit (permit_parts a) → Within permit (permit_parts b) → same_of (enc permit (permit_parts a)) (enc permit (permit_parts b)) ≡ permit_eq a b
same-permit = same_bytes permit permit_parts permit_from (λ a. refl) permit_eq permit_sound permit_refl
