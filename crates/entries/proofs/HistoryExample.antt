-- A HISTORY, COMPUTED: eight calls on bytes, with slices of some content lent. Its ledger is computed, and two of the claims are used on
-- it, so that a statement that says too little, or that no history meets, is seen here.
-- Assumes nothing.
use Rattle.std.specs.Prelude.{ℕ, zero, suc, ◌≡◌, refl, true, List, [], ◌∷◌, ltb, replicate, take, Some}
use Rattle.std.proofs.Common.{arith, sym, ap, ◌∙◌, ltb-true}
use mathlib.Core.List.Memᴰ
use Rattle.parts.specs.Digits.{Bytes}
use Rattle.state.specs.Maps.{◌⟼◌, Every, all, lookup}
use Rattle.state.specs.Records.{PublicationAuthorityFaults, no_faults, default, SnapshotLeaseToken}
use Rattle.fields.proofs.FormatLaws.{and_true}
use Rattle.machine.specs.Actions.{Action, ObserveCommittedFrontier, SetRetentionWindow, RenewLease, ReleaseLease}
use Rattle.machine.specs.Ledger.{Lease}
use Rattle.machine.specs.Edges.{id, closure, lease, token}
use Rattle.machine.specs.Claims.{image, ledger}
use Rattle.image.specs.Contents.{Reply, answer, refusal}
use Rattle.image.specs.Layout.{encode_image}
use Rattle.requests.specs.Request.{Request, decode_request, encode_request, decode_token, encode_token}
use Rattle.entries.specs.Bytes.{validate_bytes}
use Rattle.entries.specs.Computes.{bytes_compute}
use Rattle.entries.specs.Caller.{Call, reply, seen, read, caller}
use Rattle.entries.proofs.CallerHistory.{caller_history}

-- THE CALLS: a request and the two slices lent
record Lent : Type 0 where
  request : List ℕ
  next : List ℕ
  outcome : List ℕ

abbrev asks : Action → List ℕ
asks a = encode_request (record { context = record { generation = 1; position = record { term = 1; index = 1 } }; faults = no_faults; action = a })

abbrev lent : List Lent
lent =
    record { request = asks (SetRetentionWindow 0 3); next = replicate 200 7; outcome = replicate 10 8 }
    ∷ record { request = asks (ObserveCommittedFrontier 10); next = replicate 300 0; outcome = replicate 1 255 }
    -- too little room
    ∷ record { request = asks (lease 8 9); next = replicate 158 1; outcome = replicate 500 2 }
    ∷ record { request = asks (lease 8 9); next = replicate 1000 1; outcome = replicate 500 2 }
    -- no request
    ∷ record { request = 7 ∷ 255 ∷ []; next = []; outcome = 9 ∷ [] }
    ∷ record { request = asks (RenewLease id 1 12); next = replicate 900 3; outcome = replicate 500 0 }
    ∷ record { request = asks (ReleaseLease id 2); next = replicate 800 4; outcome = replicate 400 5 }
    -- the same id again
    ∷ record { request = asks (lease 8 9); next = replicate 700 6; outcome = replicate 300 7 }
    ∷ []

-- its requests are bytes, and have no flag where they can be read
abbrev flags : Reply Request → PublicationAuthorityFaults
flags (answer q) = q.faults
flags (refusal n) = no_faults

abbrev Fair : Lent → Type 0
Fair l = (all (λ x. ltb x 256) l.request ≡ true) × (flags (decode_request l.request) ≡ no_faults)

small_bytes : (s : List ℕ) → all (λ x. ltb x 256) s ≡ true → Bytes s
unfolding all
small_bytes [] h i = omega arith
small_bytes (x ∷ s) h zero = ltb-true x 256 (and_true (ltb x 256) (all (λ x. ltb x 256) s) h).0
small_bytes (x ∷ s) h (suc i) = small_bytes s (and_true (ltb x 256) (all (λ x. ltb x 256) s) h).1 i

abbrev call : (l : Lent) → Fair l → Call
call l f = record { request = l.request; are_bytes = small_bytes l.request f.0; no_flags = λ q e. sym (ap flags e) ∙ f.1; next = l.next; outcome = l.outcome }

abbrev calls_of : (ls : List Lent) → Every Fair ls → List Call
calls_of [] k = []
calls_of (l ∷ ls) k = call l k.0 ∷ calls_of ls k.1

fair : Every Fair lent
unfolding bytes_compute
fair = ((refl, refl), ((refl, refl), ((refl, refl), ((refl, refl), ((refl, refl), ((refl, refl), ((refl, refl), ((refl, refl), tt))))))))

abbrev calls : List Call
calls = calls_of lent fair

-- WHAT IS COMPUTED of them
abbrev start : List ℕ
start = encode_image default

abbrev statuses : List ℕ → List Call → List ℕ
statuses x [] = []
statuses x (c ∷ cs) = (seen (reply x c) c).answered.status ∷ statuses (caller.call x c) cs

abbrev leased : List SnapshotLeaseToken → Lease
leased ts = record { version = 8; closure = closure; tokens = ts }

record Computed : Type 0 where
  answers : statuses start calls ≡ 0 ∷ 0 ∷ 45 ∷ 0 ∷ 41 ∷ 0 ∷ 0 ∷ 0 ∷ []
  -- after six calls the lease is live and its last token is the renewed one; after seven it has ended; after eight its id is live anew
  six : ledger caller start (take 6 calls) ≡ record { live = (id ⟼ leased (token 8 2 12 ∷ token 8 1 9 ∷ [])) ∷ []; ended = [] }
  seven : ledger caller start (take 7 calls) ≡ record { live = []; ended = token 8 2 12 ∷ token 8 1 9 ∷ [] }
  eight : ledger caller start (take 8 calls) ≡ record { live = (id ⟼ leased (token 8 4 9 ∷ [])) ∷ []; ended = token 8 2 12 ∷ token 8 1 9 ∷ [] }
  live : lookup id (ledger caller start (take 8 calls)).live ≡ Some (leased (token 8 4 9 ∷ []))
  spells_old : read (decode_token (encode_token (token 8 2 12))) ≡ Some (token 8 2 12)
  spells_new : read (decode_token (encode_token (token 8 4 9))) ≡ Some (token 8 4 9)

computed : Computed
unfolding bytes_compute
computed = record { answers = refl; six = refl; seven = refl; eight = refl; live = refl; spells_old = refl; spells_new = refl }

-- WHAT THE CLAIMS SAY of them: the token of the ended lease does not validate again, and the new one does
old_never : validate_bytes (image caller start (take 8 calls)) (encode_token (token 8 2 12)) ≡ 0 → ⊥
old_never = (caller_history calls (omega arith) 7 1 (omega arith)).4.never_again (encode_token (token 8 2 12)) (token 8 2 12) computed.spells_old (rw computed.seven (Memᴰ.head refl))

new-validates : validate_bytes (image caller start (take 8 calls)) (encode_token (token 8 4 9)) ≡ 0
new-validates = ((caller_history calls (omega arith) 7 1 (omega arith)).4.validates (encode_token (token 8 4 9))).1
    (token 8 4 9, computed.spells_new, record { id = id; lease = leased (token 8 4 9 ∷ []); earlier = []; live_now = computed.live; is_last = refl })
