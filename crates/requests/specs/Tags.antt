-- The byte before an action's fields: the cases count from 1, in declared order.
use Rattle.std.specs.Prelude.{ℕ, zero, suc, List, [], ◌∷◌, Result, Ok, Err}
use Rattle.fields.specs.Format.{Malformed}
use Rattle.requests.specs.declared.ActionTag.{ActionTag}
use Rattle.requests.specs.declared.ActionTag.TheVariants.{ObserveCommittedFrontier, SetRetentionWindow, ObserveRangeMapEpoch, ConfigureCollectionRoot, AcquireLease, RenewLease, ReleaseLease, AdvanceLeaseClock, PrepareCollection, PublishCollection, AbandonCollection, Prepare, Publish, Pin, Unpin, ReserveDelete, RetireDelete}

abbrev pub byte_of : ActionTag → ℕ
byte_of ObserveCommittedFrontier = 1
byte_of SetRetentionWindow = 2
byte_of ObserveRangeMapEpoch = 3
byte_of ConfigureCollectionRoot = 4
byte_of AcquireLease = 5
byte_of RenewLease = 6
byte_of ReleaseLease = 7
byte_of AdvanceLeaseClock = 8
byte_of PrepareCollection = 9
byte_of PublishCollection = 10
byte_of AbandonCollection = 11
byte_of Prepare = 12
byte_of Publish = 13
byte_of Pin = 14
byte_of Unpin = 15
byte_of ReserveDelete = 16
byte_of RetireDelete = 17

abbrev pub tags : List ActionTag
tags =
    ObserveCommittedFrontier
    ∷ SetRetentionWindow
    ∷ ObserveRangeMapEpoch
    ∷ ConfigureCollectionRoot
    ∷ AcquireLease
    ∷ RenewLease
    ∷ ReleaseLease
    ∷ AdvanceLeaseClock
    ∷ PrepareCollection
    ∷ PublishCollection
    ∷ AbandonCollection
    ∷ Prepare
    ∷ Publish
    ∷ Pin
    ∷ Unpin
    ∷ ReserveDelete
    ∷ RetireDelete
    ∷ []

abbrev pub tag_of : List ActionTag → ℕ → Result ActionTag ℕ
tag_of [] k = Err Malformed
tag_of (t ∷ ts) zero = Ok t
tag_of (t ∷ ts) (suc k) = tag_of ts k

-- the case of a byte
abbrev pub tag_in : ℕ → Result ActionTag ℕ
tag_in zero = Err Malformed
tag_in (suc k) = tag_of tags k
