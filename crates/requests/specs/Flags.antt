-- Fault flags: bit 0 is `publish_without_intent`, on in declared order to bit 10.
use Rattle.std.specs.Prelude.{ℕ, ◌+◌, ◌*◌, ◌/◌, ◌%◌, ◌^◌, Bool, cond, List, [], ◌∷◌, eqb}
use Rattle.state.specs.Records.{PublicationAuthorityFaults}

abbrev pub bit : ℕ → ℕ → Bool
bit i n = eqb (n / 2 ^ i % 2) 1

abbrev pub faults_from : ℕ → PublicationAuthorityFaults
faults_from n = record {
  publish_without_intent = bit 0 n;
  ignore_root_epoch = bit 1 n;
  ignore_delete_reservation = bit 2 n;
  ignore_root_compare = bit 3 n;
  allow_cross_generation_intent = bit 4 n;
  retire_by_plan_key_only = bit 5 n;
  accept_backdated_lease = bit 6 n;
  omit_lease_root_epoch = bit 7 n;
  ignore_collection_range_epoch = bit 8 n;
  advance_collection_without_publication = bit 9 n;
  ignore_collection_input_root = bit 10 n;
}

unfoldable pub bits_number : List Bool → ℕ
bits_number [] = 0
bits_number (b ∷ bs) = cond b 1 0 + 2 * bits_number bs

abbrev pub flags : PublicationAuthorityFaults → List Bool
flags f =
    f.publish_without_intent
    ∷ f.ignore_root_epoch
    ∷ f.ignore_delete_reservation
    ∷ f.ignore_root_compare
    ∷ f.allow_cross_generation_intent
    ∷ f.retire_by_plan_key_only
    ∷ f.accept_backdated_lease
    ∷ f.omit_lease_root_epoch
    ∷ f.ignore_collection_range_epoch
    ∷ f.advance_collection_without_publication
    ∷ f.ignore_collection_input_root
    ∷ []

abbrev pub faults_number : PublicationAuthorityFaults → ℕ
faults_number f = bits_number (flags f)
