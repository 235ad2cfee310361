-- A history as its callers see it: what each call asked and answered. The ledger of leases is folded from these events alone.
use Rattle.std.specs.Prelude.{ℕ, ◌≡◌, List, [], ◌∷◌, ◌++◌, Option, None, Some}
use Rattle.state.specs.Maps.{Text, Map, lookup, insert, remove}
use Rattle.state.specs.Records.{SnapshotClosure, SnapshotLeaseToken, DeletePermit}
use Rattle.machine.specs.Actions.{Action, ObserveCommittedFrontier, SetRetentionWindow, ObserveRangeMapEpoch, ConfigureCollectionRoot, AcquireLease, RenewLease, ReleaseLease, AdvanceLeaseClock, PrepareCollection, PublishCollection, AbandonCollection, Prepare, Publish, Pin, Unpin, ReserveDelete, RetireDelete, Outcome, Applied, DeleteReserved, LeaseAcquired, LeaseRenewed, LeasesExpired, CollectionPrepared, CollectionPublished}

-- EVENTS: a call is refused, whatever the number, or accepted, whatever it asked and answered: each is there if it can be read.
pub data Event : Type 0 where
  refused : Event
  took : (asked : Option Action) (answered : Option Outcome) → Event

-- what an outcome gives: a lease token, the ids of ended leases, a delete permit
pub record Gift : Type 0 where
  pub token : Option SnapshotLeaseToken
  pub ids : List Text
  pub permit : Option DeletePermit

abbrev pub gift : Option SnapshotLeaseToken → List Text → Option DeletePermit → Gift
gift t ids p = record { token = t; ids = ids; permit = p }

abbrev pub gives : Option Outcome → Gift
gives (Some (DeleteReserved p)) = gift None [] (Some p)
gives (Some (LeaseAcquired t)) = gift (Some t) [] None
gives (Some (LeaseRenewed t)) = gift (Some t) [] None
gives (Some (LeasesExpired ids)) = gift None ids None
gives (Some Applied) = gift None [] None
gives (Some (CollectionPrepared t)) = gift None [] None
gives (Some (CollectionPublished r)) = gift None [] None
gives None = gift None [] None

-- the delete permit that a call issues
abbrev pub issued : Event → Option DeletePermit
issued refused = None
issued (took a o) = (gives o).permit

-- THE LEDGER
-- A lease: version and closure are those of the request that began it; its tokens, newest first.
pub record Lease : Type 0 where
  pub version : ℕ
  pub closure : SnapshotClosure
  pub tokens : List SnapshotLeaseToken

-- the live leases under their ids, and all tokens of the leases that have ended
pub record Ledger : Type 0 where
  pub live : Map Lease
  pub ended : List SnapshotLeaseToken

abbrev pub empty : Ledger
empty = record { live = []; ended = [] }

-- An acceptance that gives no token adds none.
abbrev pub add : Option SnapshotLeaseToken → List SnapshotLeaseToken → List SnapshotLeaseToken
add None ts = ts
add (Some t) ts = t ∷ ts

abbrev pub with_token : Option SnapshotLeaseToken → Lease → Lease
with_token t l = record { version = l.version; closure = l.closure; tokens = add t l.tokens }

abbrev pub put : Text → Lease → Ledger → Ledger
put id l L = record { live = insert id l L.live; ended = L.ended }

-- An accepted AcquireLease begins a lease where none is live under the id, with or without a token; where one is, that one stays, and a
-- token given is one more of it.
abbrev pub begun : ℕ → SnapshotClosure → Option Lease → Lease
begun v c None = record { version = v; closure = c; tokens = [] }
begun v c (Some l) = l

abbrev pub begin : Text → ℕ → SnapshotClosure → Option SnapshotLeaseToken → Ledger → Ledger
begin id v c t L = put id (with_token t (begun v c (lookup id L.live))) L

-- An accepted RenewLease gives the live lease under its id a token.
abbrev pub renew_found : Text → Option Lease → Option SnapshotLeaseToken → Ledger → Ledger
renew_found id None t L = L
renew_found id (Some l) t L = put id (with_token t l) L

abbrev pub renew : Text → Option SnapshotLeaseToken → Ledger → Ledger
renew id t L = renew_found id (lookup id L.live) t L

-- A lease ends by an accepted release of its id, or an accepted AdvanceLeaseClock that lists its id.
abbrev pub tokens_of : Option Lease → List SnapshotLeaseToken
tokens_of None = []
tokens_of (Some l) = l.tokens

abbrev pub end : Text → Ledger → Ledger
end id L = record { live = remove id L.live; ended = tokens_of (lookup id L.live) ++ L.ended }

unfoldable pub end_all : List Text → Ledger → Ledger
end_all [] L = L
end_all (id ∷ ids) L = end_all ids (end id L)

-- what an action says of leases
pub data Says : Type 0 where
  begins : (id : Text) (version : ℕ) (closure : SnapshotClosure) → Says
  renews : (id : Text) → Says
  releases : (id : Text) → Says
  ticks : Says
  nothing : Says

abbrev pub says : Option Action → Says
says (Some (AcquireLease id tenant version owner purpose deadline closure)) = begins id version closure
says (Some (RenewLease id epoch deadline)) = renews id
says (Some (ReleaseLease id epoch)) = releases id
says (Some (AdvanceLeaseClock expected next)) = ticks
says (Some (ObserveCommittedFrontier n)) = nothing
says (Some (SetRetentionWindow e w)) = nothing
says (Some (ObserveRangeMapEpoch e)) = nothing
says (Some (ConfigureCollectionRoot e r)) = nothing
says (Some (PrepareCollection j f i d r e n)) = nothing
says (Some (PublishCollection r)) = nothing
says (Some (AbandonCollection t)) = nothing
says (Some (Prepare p i)) = nothing
says (Some (Publish p d e m)) = nothing
says (Some (Pin p e m)) = nothing
says (Some (Unpin p e)) = nothing
says (Some (ReserveDelete p m k i)) = nothing
says (Some (RetireDelete p)) = nothing
says None = nothing

-- the ledger after what was said and given
abbrev pub record_said : Says → Gift → Ledger → Ledger
record_said (begins id v c) g L = begin id v c g.token L
record_said (renews id) g L = renew id g.token L
record_said (releases id) g L = end id L
record_said ticks g L = end_all g.ids L
record_said nothing g L = L

abbrev pub note : Event → Ledger → Ledger
note refused L = L
note (took a o) L = record_said (says a) (gives o) L

abbrev pub after : Ledger → List Event → Ledger
after L [] = L
after L (e ∷ es) = after (note e L) es

-- t is the last token given for a lease that is live
pub record Last (t : SnapshotLeaseToken) (L : Ledger) : Type 0 where
  pub id : Text
  pub lease : Lease
  pub earlier : List SnapshotLeaseToken
  pub live_now : lookup id L.live ≡ Some lease
  pub is_last : lease.tokens ≡ t ∷ earlier
