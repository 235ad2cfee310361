-- The tests of ReserveDelete and RetireDelete over the bytes of image and request.
use Rattle.std.specs.Prelude.{ℕ, List, [], ◌∷◌, Bool, not, ◌&&◌, ◌||◌, length, drop, eqb, ltb}
use Rattle.state.specs.Maps.{Text, same, is_empty, any}
use Rattle.state.specs.Records.{valid_identity}
use Rattle.fields.specs.Codes.{codes, skip}
use Rattle.fields.specs.Rows.{text_here}
use Rattle.tables.specs.Seek.{rows_at}
use Rattle.tables.specs.declared.Place.{Place}
use Rattle.image.specs.Shapes.{job, lease, before_closure_keys, before_intent_keys, before_plan}
use Rattle.image.specs.Layout.{intents, leases, jobs, row_format}
use Rattle.image.specs.TableLaws.{table_in}
use Rattle.image.specs.declared.Contents.{Contents}
use Rattle.machine.specs.Tests.{Refusal, ◌when◌}
use Rattle.requests.specs.Meaning.{text_of, identity_of}
use Rattle.requests.specs.declared.PublicationAuthorityFaults.{PublicationAuthorityFaults}
use Rattle.requests.specs.declared.ReserveDelete.{ReserveDelete}
use Rattle.scans.specs.Scans.{names_at, uses_at}

-- the place is that of the key among the reservations
abbrev pub reserve_tests : List ℕ → Contents → List ℕ → PublicationAuthorityFaults → ReserveDelete → Place → List Refusal
reserve_tests x c q g a place =
    let k = text_of q a.key in
    (2 when is_empty (text_of q a.plan_id))
    ∷ (2 when is_empty k)
    ∷ (2 when not (valid_identity (identity_of q a.identity)))
    ∷ (9 when not g.ignore_root_epoch && not (eqb a.mark_epoch c.scalars.root_intent_epoch))
    ∷ (11 when any (names_at (codes before_intent_keys) k) (rows_at (codes (row_format intents)) (table_in intents c).count (drop (table_in intents c).at x)))
    ∷ (11 when any (names_at (codes before_closure_keys) k) (rows_at (codes lease) (table_in leases c).count (drop (table_in leases c).at x)))
    ∷ (11 when any (uses_at k) (rows_at (codes job) (table_in jobs c).count (drop (table_in jobs c).at x)))
    ∷ (12 when ltb place.start place.end)
    ∷ []

-- a stored permit's row against a shown one: the same bytes, or where that is enough the same plan and key
unfoldable pub matches_of : Bool → (row shown : List ℕ) (plan key : Text) → Bool
matches_of weak row shown plan k = same row shown || weak && same (text_here (skip 0 (codes before_plan) row)) plan && same (text_here row) k

-- the row is empty where no permit is stored
abbrev pub retire_tests : (row shown : List ℕ) (plan key : Text) (owner generation : ℕ) (weak : Bool) → List Refusal
retire_tests row shown plan k owner generation weak =
    (13 when eqb (length row) 0)
    ∷ (14 when not (eqb owner generation))
    ∷ (15 when not (matches_of weak row shown plan k))
    ∷ []
