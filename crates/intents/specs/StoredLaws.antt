-- On the row of a stored intent, the tests over bytes are those of the rule.
use Rattle.std.specs.Prelude.{ℕ, ◌+◌, ◌-◌, Bool, true, false, ◌&&◌, List, [], ◌++◌, ◌≡◌, eqb, take, drop, Option, None, Some}
use Rattle.std.proofs.Math.Bool.{not}
use Rattle.std.proofs.Common.{append_assoc, ◌∙◌}
use Rattle.std.proofs.Math.Path.{refl, sym, ap}
use Rattle.std.proofs.Math.ListN.{length}
use Rattle.std.proofs.Math.Seq.{drop-append_seam, drop-nil}
use Rattle.text.specs.Same.{same_of}
use Rattle.parts.specs.Digits.{digits, value}
use Rattle.parts.specs.DigitLaws.{length_digits}
use Rattle.state.specs.Maps.{Text, Map, lookup, is_some, is_empty, same_option, contains}
use Rattle.state.specs.Sorted.{Ascending}
use Rattle.state.proofs.Places.{at}
use Rattle.state.specs.Records.{ObjectReference, PreparedPublication, reference_eq}
use Rattle.fields.specs.Format.{◌▹◌, enc, enc_text, option, all, Within}
use Rattle.fields.specs.Codes.{codes, skip, set_most, key_limit}
use Rattle.fields.specs.Rows.{text_here}
use Rattle.fields.proofs.RowLaws.{text-there}
use Rattle.sets.specs.Sets.{set_of}
use Rattle.sets.proofs.SetLaws.{set_of-enc}
use Rattle.image.specs.Shapes.{short, u64, name, keys, reference, prepared, reference_parts, prepared_parts, each_option}
use Rattle.image.specs.Layout.{row_of}
use Rattle.image.specs.Tables.{intent_row}
use Rattle.image.specs.Stored.{Stored}
use Rattle.image.proofs.StoredLaws.{front}
use Rattle.image.proofs.SameBytes.{same-reference, same_prior}
use Rattle.machine.specs.Machine.{fails, intent_matches}
use Rattle.next.specs.Edit.{Standing, absent, present, standing}
use Rattle.next.specs.Peeks.{skip-to, number-here}
use Rattle.publication.specs.References.{HeldWithin, row-rest}
use Rattle.intents.specs.Tests.{from_manifest, from_root, from_prior, matches_in, differs_in, crosses_in, missing_in}

abbrev pub held_intent : Option PreparedPublication → List ℕ
held_intent None = []
held_intent (Some v) = enc prepared (prepared_parts v)

abbrev pub IntentWithin : Option PreparedPublication → Type 0
IntentWithin None = Unit {0}
IntentWithin (Some v) = Within prepared (prepared_parts v)

pub intent-held : (k : Text) (m : Map PreparedPublication) → Ascending m → drop (length k + 1) (all intent_row (at k m)) ≡ held_intent (lookup k m)
unfolding all
intent-held k m a = go (standing k m a)
  where
    go : Standing k m → drop (length k + 1) (all intent_row (at k m)) ≡ held_intent (lookup k m)
    go (absent e l) = rw (e, l) (drop-nil (length k + 1))
    go (present v e l) = rw (e, l) (row-rest short prepared (k, prepared_parts v))

pub intent-within : (m : Map PreparedPublication) → Stored short prepared (row_of prepared_parts) m → (k : Text) → IntentWithin (lookup k m)
intent-within m st k = go (lookup k m) refl
  where
    go : (o : Option PreparedPublication) → lookup k m ≡ o → IntentWithin o
    go None e = tt
    go (Some v) e = (st.found k v e).1.1

in_order : (a b c d : Bool) → (a && (b && (c && d))) ≡ (a && b && c && d)
in_order false b c d = refl
in_order true false c d = refl
in_order true true c d = refl

module _ (v : PreparedPublication) (w : Within prepared (prepared_parts v)) where
  abbrev row : List ℕ
  row = enc prepared (prepared_parts v)

  abbrev r : List ℕ
  r = enc reference (reference_parts v.intent.manifest)

  abbrev d : List ℕ
  d = enc_text v.intent.destination_root ++ enc (option reference) (each_option reference_parts v.intent.expected_prior_root)

  row-full : is_empty row ≡ false
  unfolding enc digits
  row-full = refl

  owner-there : value (take 8 row) ≡ v.owner_generation
  unfolding enc
  owner-there = number-here v.owner_generation (enc keys v.intent.object_keys ++ (r ++ d)) w.0

  split_row : row ≡ enc (u64 ▹ keys) (v.owner_generation, v.intent.object_keys) ++ (r ++ d)
  unfolding enc
  split_row = sym (append_assoc (digits 8 v.owner_generation) (enc keys v.intent.object_keys) (r ++ d))

  at-manifest : from_manifest row ≡ r ++ d
  at-manifest = (λ i. skip 0 (codes (u64 ▹ keys)) (split_row i)) ∙ skip-to (u64 ▹ keys) (v.owner_generation, v.intent.object_keys) (r ++ d)

  at-root : from_root (from_manifest row) ≡ d
  at-root = (λ i. skip 0 (codes reference) (at-manifest i)) ∙ skip-to reference (reference_parts v.intent.manifest) d

  at_prior : from_prior (from_root (from_manifest row)) ≡ enc (option reference) (each_option reference_parts v.intent.expected_prior_root)
  unfolding enc
  at_prior = (λ i. skip 0 (codes name) (at-root i)) ∙ skip-to name v.intent.destination_root (enc (option reference) (each_option reference_parts v.intent.expected_prior_root))

  keys-there : set_of (drop 8 row) ≡ v.intent.object_keys
  unfolding enc
  keys-there =
      ap (λ (n : ℕ). set_of (drop n row)) (sym (length_digits 8 v.owner_generation))
      ∙ ap set_of (drop-append_seam (digits 8 v.owner_generation) (enc keys v.intent.object_keys ++ (r ++ d)))
      ∙ set_of-enc set_most key_limit v.intent.object_keys (r ++ d) w.1.0

  matches_is : (manifest : ObjectReference) (root : Text) (prior : Option ObjectReference) → Within reference (reference_parts manifest) → HeldWithin prior
      → matches_in row (enc reference (reference_parts manifest)) root (enc (option reference) (each_option reference_parts prior)) manifest.key ≡ intent_matches root prior manifest v
  unfolding matches_in intent_matches
  matches_is manifest root prior wm wp =
      (λ i. same_of (take (length (at-manifest i) - length (at-root i)) (at-manifest i)) (enc reference (reference_parts manifest))
      && (same_of (text_here (at-root i)) root && (same_of (at_prior i) (enc (option reference) (each_option reference_parts prior)) && contains manifest.key (keys-there i))))
      ∙ (λ i. same_of (front r d i) (enc reference (reference_parts manifest))
      && (same_of (text-there v.intent.destination_root (enc (option reference) (each_option reference_parts v.intent.expected_prior_root)) i) root
      && (same_prior v.intent.expected_prior_root prior w.1.1.1.1 wp i && contains manifest.key v.intent.object_keys)))
      ∙ ap (λ (t : Bool). t && (same_of v.intent.destination_root root && (same_option reference_eq v.intent.expected_prior_root prior && contains manifest.key v.intent.object_keys)))
      (same-reference v.intent.manifest manifest w.1.1.0 wm)
      ∙ in_order (reference_eq v.intent.manifest manifest) (same_of v.intent.destination_root root) (same_option reference_eq v.intent.expected_prior_root prior) (contains manifest.key v.intent.object_keys)

-- THE THREE TESTS
module _ (manifest : ObjectReference) (root : Text) (prior : Option ObjectReference) (wm : Within reference (reference_parts manifest)) (wp : HeldWithin prior) where
  pub differs_is : (o : Option PreparedPublication) → IntentWithin o
      → differs_in (held_intent o) (enc reference (reference_parts manifest)) root (enc (option reference) (each_option reference_parts prior)) manifest.key ≡ fails (intent_matches root prior manifest) o
  unfolding differs_in
  differs_is None w = refl
  differs_is (Some v) w = λ i. not (row-full v w i) && not (matches_is v w manifest root prior wm wp i)

pub crosses_is : (across : Bool) (generation : ℕ) (o : Option PreparedPublication) → IntentWithin o → crosses_in across (held_intent o) generation ≡ (not across && fails (λ p. eqb p.owner_generation generation) o)
unfolding crosses_in
crosses_is across generation None w = refl
crosses_is across generation (Some v) w = λ i. not across && (not (row-full v w i) && not (eqb (owner-there v w i) generation))

pub missing_is : (without : Bool) (o : Option PreparedPublication) → IntentWithin o → missing_in without (held_intent o) ≡ (not without && not (is_some o))
unfolding missing_in
missing_is without None w = refl
missing_is without (Some v) w = λ i. not without && row-full v w i
