-- The tests of the actions on a lease by its id, over the bytes of image and request.
use Rattle.std.specs.Prelude.{ℕ, is_none, not, ◌&&◌, List, [], ◌∷◌, eqb, leb, ltb, length}
use Rattle.state.specs.Maps.{is_empty}
use Rattle.state.specs.Records.{valid_closure}
use Rattle.tables.specs.declared.Place.{Place}
use Rattle.image.specs.Layout.{reservations}
use Rattle.image.specs.TableLaws.{table_in}
use Rattle.image.specs.declared.Contents.{Contents}
use Rattle.machine.specs.Tests.{Refusal, ◌when◌}
use Rattle.requests.specs.Meaning.{text_of, keys_of, closure_of}
use Rattle.requests.specs.declared.AcquireLease.{AcquireLease}
use Rattle.requests.specs.declared.PublicationAuthorityFaults.{PublicationAuthorityFaults}
use Rattle.requests.specs.declared.RenewLease.{RenewLease}
use Rattle.requests.specs.declared.SnapshotLeaseToken.{SnapshotLeaseToken}
use Rattle.reserved.specs.Located.{reserved_in}

-- a lease stands under the id where its place has an end past its start
abbrev pub acquire_tests : List ℕ → Contents → List ℕ → PublicationAuthorityFaults → AcquireLease → Place → List Refusal
acquire_tests x c q f l place =
    (2 when is_empty (text_of q l.lease_id))
    ∷ (2 when is_empty (text_of q l.tenant_id))
    ∷ (2 when eqb l.snapshot_version 0)
    ∷ (2 when is_empty (text_of q l.owner))
    ∷ (2 when is_empty (text_of q l.purpose))
    ∷ (2 when not (valid_closure (closure_of q l.closure)))
    ∷ (18 when is_none c.scalars.retention_window)
    ∷ (21 when ltb place.start place.end)
    ∷ (19 when not f.accept_backdated_lease && ltb l.snapshot_version c.scalars.minimum_readable_version)
    ∷ (20 when ltb c.scalars.observed_commit_frontier l.snapshot_version)
    ∷ (24 when leb l.deadline_tick c.scalars.lease_clock_tick)
    ∷ (10 when reserved_in x (table_in reservations c) (keys_of q l.closure.object_keys))
    ∷ []

-- the row stored under the id, none where it is empty, and the lease read from it
abbrev pub renew_tests : List ℕ → Contents → RenewLease → (row : List ℕ) → SnapshotLeaseToken → List Refusal
renew_tests x c l row held =
    (22 when eqb (length row) 0)
    ∷ (23 when not (eqb held.lease_epoch l.expected_lease_epoch))
    ∷ (24 when leb l.new_deadline_tick c.scalars.lease_clock_tick)
    ∷ (24 when leb l.new_deadline_tick held.deadline_tick)
    ∷ (10 when reserved_in x (table_in reservations c) (keys_of row held.closure.object_keys))
    ∷ []

-- the row, and the epoch read from it
abbrev pub release_tests : (row : List ℕ) (held expected : ℕ) → List Refusal
release_tests row held expected =
    (22 when eqb (length row) 0)
    ∷ (23 when not (eqb held expected))
    ∷ []
