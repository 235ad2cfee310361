-- The tests of PublishCollection over the bytes of image and request, with what the code has found by id.
use Rattle.std.specs.Prelude.{ℕ, ◌+◌, Bool, not, ◌&&◌, List, [], ◌∷◌, ◌++◌, ◌≡◌, eqb, length, drop}
use Rattle.std.proofs.Common.{sym, ◌∙◌}
use Rattle.text.specs.Same.{same_of}
use Rattle.state.specs.Maps.{Text}
use Rattle.state.specs.Records.{valid_receipt}
use Rattle.fields.specs.Codes.{codes}
use Rattle.reader.specs.Records.{record_of}
use Rattle.image.specs.Shapes.{job}
use Rattle.image.specs.Layout.{reservations}
use Rattle.image.specs.TableLaws.{table_in}
use Rattle.image.specs.declared.Contents.{Contents}
use Rattle.machine.specs.Tests.{Refusal, ◌when◌}
use Rattle.requests.specs.Meaning.{text_of, keys_of, receipt_of}
use Rattle.requests.specs.declared.AuthorityContext.{AuthorityContext as ContextAt}
use Rattle.requests.specs.declared.PublicationAuthorityFaults.{PublicationAuthorityFaults as FaultsAt}
use Rattle.requests.specs.declared.CollectionReceipt.{CollectionReceipt as ReceiptAt}
use Rattle.reserved.specs.Located.{reserved_in}
use Rattle.collection_jobs.specs.Input.{manifest_at}
use Rattle.collection_jobs.specs.Tests.{stale_tests}

unfoldable pub same_manifest : List ℕ → ℕ → ℕ → Bool
same_manifest q a b = same_of (manifest_at q a) (manifest_at q b)

-- the token is the first field; where it ends
abbrev pub token_in : List ℕ → List ℕ
token_in q = record_of (codes job) (drop 27 q)

abbrev pub token_end : List ℕ → ℕ
token_end q = 27 + length (token_in q)

-- whether the manifests are the same, by what was cut out of the request
pub manifests_told : (q token : List ℕ) (id id' : Text) (b : Bool) → token ≡ token_in q → id' ≡ id → b ≡ same_manifest q (27 + length token) (length id' + 60) → same_manifest q (token_end q) (length id + 60) ≡ b
manifests_told q token id id' b e k h = (λ i. same_manifest q (27 + length (sym e i)) (length (sym k i) + 60)) ∙ sym h

-- of the receipt by itself and by its job's row
abbrev pub receipt_tests : List ℕ → ContextAt → ReceiptAt → (stored : List ℕ) → List Refusal
receipt_tests q y a stored =
    (2 when not (valid_receipt (receipt_of q a)))
    ∷ (2 when same_manifest q (token_end q) (length (text_of q a.token.job_id) + 60))
    ∷ (30 when eqb (length stored) 0)
    ∷ (35 when not (same_of stored (token_in q)))
    ∷ (6 when not (eqb a.token.owner_generation y.generation))
    ∷ []

abbrev pub publish_tests : List ℕ → Contents → List ℕ → ContextAt → FaultsAt → ReceiptAt → (stored : List ℕ) (stands : Bool) → List Refusal
publish_tests x c q y f a stored stands =
    receipt_tests q y a stored
    ++ (stale_tests x c q f.ignore_collection_range_epoch a.token.range_map_epoch a.token.destination_root a.token.expected_collected_through
    ++ (7 when not f.ignore_collection_input_root && not stands)
    ∷ (10 when reserved_in x (table_in reservations c) (keys_of q a.object_keys))
    ∷ [])
