-- The tests of Prepare and Publish over the bytes of image and request.
use Rattle.std.specs.Prelude.{ℕ, ◌-◌, Bool, not, ◌&&◌, List, [], ◌∷◌, eqb, ltb, length, take, drop}
use Rattle.text.specs.Same.{same_of}
use Rattle.parts.specs.Digits.{value}
use Rattle.state.specs.Maps.{is_empty, contains}
use Rattle.state.specs.Records.{is_manifest, valid_reference, valid_intent}
use Rattle.fields.specs.Codes.{codes, skip}
use Rattle.fields.specs.Rows.{text_here}
use Rattle.fields.specs.Format.{◌▹◌}
use Rattle.tables.specs.declared.Place.{Place}
use Rattle.image.specs.Shapes.{u64, name, keys, reference}
use Rattle.image.specs.declared.Table.{Table}
use Rattle.sets.specs.Sets.{set_of}
use Rattle.machine.specs.Tests.{Refusal, ◌when◌}
use Rattle.requests.specs.Meaning.{text_of, reference_of, intent_of, keys_of}
use Rattle.requests.specs.declared.PublicationAuthorityFaults.{PublicationAuthorityFaults}
use Rattle.requests.specs.declared.Prepare.{Prepare}
use Rattle.requests.specs.declared.Publish.{Publish}
use Rattle.reserved.specs.Located.{reserved_in}

-- PREPARE
-- the place is that of the id among the intents
abbrev pub prepare_tests : (x : List ℕ) (reserved : Table) (q : List ℕ) → PublicationAuthorityFaults → Prepare → Place → List Refusal
prepare_tests x reserved q f a place =
    (2 when is_empty (text_of q a.publication_id))
    ∷ (2 when not (valid_intent (intent_of q a.intent)))
    ∷ (3 when ltb place.start place.end)
    ∷ (10 when not f.ignore_delete_reservation && reserved_in x reserved (keys_of q a.intent.object_keys))
    ∷ []

-- PUBLISH: what a stored intent's row holds after its id, nothing where there is none
abbrev pub from_manifest : List ℕ → List ℕ
from_manifest row = skip 0 (codes (u64 ▹ keys)) row

abbrev pub from_root : List ℕ → List ℕ
from_root m = skip 0 (codes reference) m

abbrev pub from_prior : List ℕ → List ℕ
from_prior d = skip 0 (codes name) d

unfoldable pub matches_in : (row manifest root prior key : List ℕ) → Bool
matches_in row manifest root prior key =
    same_of (take (length (from_manifest row) - length (from_root (from_manifest row))) (from_manifest row)) manifest
    && (same_of (text_here (from_root (from_manifest row))) root
    && (same_of (from_prior (from_root (from_manifest row))) prior && contains key (set_of (drop 8 row))))

unfoldable pub differs_in : (row manifest root prior key : List ℕ) → Bool
differs_in row manifest root prior key = not (is_empty row) && not (matches_in row manifest root prior key)

unfoldable pub crosses_in : (across : Bool) (row : List ℕ) (generation : ℕ) → Bool
crosses_in across row generation = not across && (not (is_empty row) && not (eqb (value (take 8 row)) generation))

unfoldable pub missing_in : (without : Bool) (row : List ℕ) → Bool
missing_in without row = not without && is_empty row

-- and what the stored root's row holds after its id
abbrev pub publish_tests : (q : List ℕ) → Publish → (row manifest key root prior old : List ℕ) (generation : ℕ) → PublicationAuthorityFaults → List Refusal
publish_tests q a row manifest key root prior old generation f =
    (2 when is_empty (text_of q a.publication_id))
    ∷ (2 when is_empty (text_of q a.destination_root))
    ∷ (2 when not (is_manifest (reference_of q a.manifest)))
    ∷ (2 when not (valid_reference (reference_of q a.manifest)))
    ∷ (5 when differs_in row manifest root prior key)
    ∷ (6 when crosses_in f.allow_cross_generation_intent row generation)
    ∷ (4 when missing_in f.publish_without_intent row)
    ∷ (7 when not f.ignore_root_compare && not (same_of old (drop 1 prior)))
    ∷ []
