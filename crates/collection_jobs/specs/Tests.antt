-- The tests of PrepareCollection over the bytes of image and request, with what the code has found by id.
use Rattle.std.specs.Prelude.{ℕ, Bool, not, ◌&&◌, List, [], ◌∷◌, ◌++◌, leb, ltb, eqb, drop, Some}
use Rattle.state.specs.Maps.{same, same_option, is_empty, ends_with_byte, any}
use Rattle.state.specs.Records.{is_manifest, valid_reference}
use Rattle.fields.specs.Codes.{codes}
use Rattle.tables.specs.Seek.{rows_at}
use Rattle.tables.specs.declared.Place.{Place}
use Rattle.image.specs.Shapes.{job}
use Rattle.image.specs.Layout.{jobs}
use Rattle.image.specs.TableLaws.{table_in}
use Rattle.image.specs.declared.TextAt.{TextAt}
use Rattle.image.specs.declared.Contents.{Contents}
use Rattle.machine.specs.Tests.{Refusal, ◌when◌}
use Rattle.requests.specs.Meaning.{text_of, maybe_text_of, reference_of}
use Rattle.requests.specs.declared.PublicationAuthorityFaults.{PublicationAuthorityFaults as FaultsAt}
use Rattle.requests.specs.declared.PrepareCollection.{PrepareCollection as PrepareAt}
use Rattle.collection_jobs.specs.Conflicts.{conflicts_at}

-- of the request itself
abbrev pub malformed_tests : List ℕ → PrepareAt → List Refusal
malformed_tests q a =
    (2 when is_empty (text_of q a.job_id))
    ∷ (2 when eqb a.frozen_floor 0)
    ∷ (2 when not (is_manifest (reference_of q a.input_manifest)))
    ∷ (2 when not (valid_reference (reference_of q a.input_manifest)))
    ∷ (2 when is_empty (text_of q a.destination_root))
    ∷ (2 when eqb a.range_map_epoch 0)
    ∷ (2 when is_empty (text_of q a.output_namespace))
    ∷ (2 when not (ends_with_byte 47 (text_of q a.output_namespace)))
    ∷ []

-- of what a job shows of the state: its range map, the collection root, how far was collected
abbrev pub stale_tests : List ℕ → Contents → List ℕ → (ignore : Bool) (range : ℕ) → TextAt → (collected : ℕ) → List Refusal
stale_tests x c q ignore range root collected =
    (28 when not ignore && not (eqb range c.scalars.range_map_epoch))
    ∷ (36 when not (same_option same (maybe_text_of x c.scalars.collection_root) (Some (text_of q root))))
    ∷ (34 when not (eqb collected c.scalars.physically_collected_through))
    ∷ []

-- the place of its id, and whether its manifest is the one that is stored
abbrev pub prepare_tests : List ℕ → Contents → List ℕ → FaultsAt → PrepareAt → Place → (stands : Bool) → List Refusal
prepare_tests x c q f a place stands =
    malformed_tests q a
    ++ (29 when ltb place.start place.end)
    ∷ (32 when any (conflicts_at (text_of q a.destination_root) (text_of q a.output_namespace)) (rows_at (codes job) (table_in jobs c).count (drop (table_in jobs c).at x)))
    ∷ (stale_tests x c q f.ignore_collection_range_epoch a.range_map_epoch a.destination_root a.expected_collected_through
    ++ (33 when leb a.frozen_floor c.scalars.physically_collected_through)
    ∷ (33 when ltb c.scalars.minimum_readable_version a.frozen_floor)
    ∷ (7 when not f.ignore_collection_input_root && not stands)
    ∷ [])
