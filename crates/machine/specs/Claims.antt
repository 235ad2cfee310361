-- DEMAND 3, the statement: machines, their moments, and what is claimed of two moments.
use Rattle.std.specs.Prelude.{ℕ, ◌+◌, ◌-◌, ◌^◌, ◌≤◌, ◌<◌, ◌≡◌, ◌↔◌, false, length, take, Option, Some}
use mathlib.Core.List.{List, [], ◌∷◌, Memᴰ}
use Rattle.state.specs.Maps.{Text, Map, lookup}
use Rattle.state.specs.Records.{AuthorityContext, no_faults, State, SnapshotClosure, SnapshotLeaseToken, DeletePermit, names}
use Rattle.machine.specs.Actions.{Action, Transition, rejected, accepted}
use Rattle.machine.specs.Machine.{apply, validate}
use Rattle.machine.specs.Ledger.{Event, refused, took, issued, Lease, Ledger, empty, after, Last}

-- A MACHINE: an image is what a call reads and leaves, a request what it is given, a token what is shown for validation.
-- Over plain maps these are the state, an action with its context, and a lease token; over bytes all three are bytes.
pub record Machine : Type 1 where
  pub Image : Type 0
  pub Request : Type 0
  pub Token : Type 0
  -- the image that the next call reads, and what the caller was told
  pub call : Image → Request → Image
  pub told : Image → Request → Event
  -- what validation answers, and the lease token that a shown token spells, if any
  pub check : Image → Token → ℕ
  pub spells : Token → Option SnapshotLeaseToken
  -- the state that an image holds
  pub Holds : Image → State → Type 0

-- MOMENTS: the start of a list of calls, or the end of one. After the requests so far: the image, what the calls told, and the
-- ledger of leases.
module _ (M : Machine) where
  abbrev pub image : M.Image → List M.Request → M.Image
  image x [] = x
  image x (r ∷ rs) = image (M.call x r) rs

  abbrev pub events : M.Image → List M.Request → List Event
  events x [] = []
  events x (r ∷ rs) = M.told x r ∷ events (M.call x r) rs

  abbrev pub ledger : M.Image → List M.Request → Ledger
  ledger x rs = after empty (events x rs)

-- THE FIVE NUMBERS of the scalars that the claims speak of
pub record Five : Type 0 where
  pub frontier : ℕ
  pub policy : ℕ
  pub readable : ℕ
  pub collected : ℕ
  pub clock : ℕ

abbrev pub five_of : State → Five
five_of s = record { frontier = s.observed_commit_frontier; policy = s.policy_floor; readable = s.minimum_readable_version; collected = s.physically_collected_through; clock = s.lease_clock_tick }

pub record Rises (a b : Five) : Type 0 where
  pub frontier : a.frontier ≤ b.frontier
  pub policy : a.policy ≤ b.policy
  pub readable : a.readable ≤ b.readable
  pub collected : a.collected ≤ b.collected
  pub clock : a.clock ≤ b.clock

pub record Ordered (a : Five) : Type 0 where
  pub collected≤readable : a.collected ≤ a.readable
  pub readable≤policy : a.readable ≤ a.policy
  pub policy≤frontier : a.policy ≤ a.frontier

-- A closure names no reserved key: none under which a permit is stored.
abbrev pub Unreserved : Map DeletePermit → SnapshotClosure → Type 0
Unreserved reservations c = (key : Text) (p : DeletePermit) → lookup key reservations ≡ Some p → names c key ≡ false

-- THE CLAIMS, of two moments of one list of calls. At the first the state is s₁ and the ledger L₁; at the second, not before
-- it, the image is x₂, the state s₂ and the ledger L₂. They are proved for every two moments, so what is said of the second
-- alone holds at each.
pub record Claims (M : Machine) (s₁ : State) (L₁ : Ledger) (x₂ : M.Image) (s₂ : State) (L₂ : Ledger) : Type 0 where
  -- The five numbers of the scalars never fall from the one moment to the other.
  pub never_fall : Rises (five_of s₁) (five_of s₂)
  -- Their order stands at both moments.
  pub ordered₁ : Ordered (five_of s₁)
  pub ordered₂ : Ordered (five_of s₂)
  -- The version of each live lease, the one its first request asked for, is from minimum readable to frontier, both included.
  pub in_range : (id : Text) (l : Lease) → lookup id L₂.live ≡ Some l
      → (s₂.minimum_readable_version ≤ l.version) × (l.version ≤ s₂.observed_commit_frontier)
  -- No call from here issues a delete permit for a key that a live lease names. The paper lets pass one that was stored since
  -- before the lease began; this is stronger, since no permit at all is issued: a stored one is never issued again.
  pub no_permit : (id : Text) (l : Lease) → lookup id L₂.live ≡ Some l
      → (r : M.Request) (p : DeletePermit) → issued (M.told x₂ r) ≡ Some p → names l.closure p.key ≡ false
  -- No live lease names a reserved key.
  pub unreserved : (id : Text) (l : Lease) → lookup id L₂.live ≡ Some l → Unreserved s₂.deletion_reservations l.closure
  -- A shown token validates exactly when it spells the last token given for a lease that is live.
  pub validates : (t : M.Token) → (M.check x₂ t ≡ 0) ↔ ((u : SnapshotLeaseToken) × (M.spells t ≡ Some u) × Last u L₂)
  -- A token of a lease that had ended by the first moment validates at no later one, though its id be live anew.
  pub never_again : (t : M.Token) (u : SnapshotLeaseToken) → M.spells t ≡ Some u → Memᴰ u L₁.ended → M.check x₂ t ≡ 0 → ⊥

-- They hold of every two moments of every list of fewer than 2^64 - 1 calls, the first of them on the image x: of moment i, and of
-- the moment j calls later.
abbrev pub Always : (M : Machine) → M.Image → Type 0
Always M x = (rs : List M.Request) → length rs < 2 ^ 64 - 1 → (i j : ℕ) → i + j ≤ length rs
    → (s₁ s₂ : State) × M.Holds (image M x (take i rs)) s₁ × M.Holds (image M x (take (i + j) rs)) s₂
    × Claims M s₁ (ledger M x (take i rs)) (image M x (take (i + j) rs)) s₂ (ledger M x (take (i + j) rs))

-- THE MACHINE OVER PLAIN MAPS
pub record Call : Type 0 where
  pub action : Action
  pub context : AuthorityContext

abbrev pub answered : State → Call → Transition
answered s r = apply s r.action r.context no_faults

abbrev pub left : State → Transition → State
left s (rejected n) = s
left s (accepted s' o) = s'

abbrev pub said : Action → Transition → Event
said a (rejected n) = refused
said a (accepted s' o) = took (Some a) (Some o)

abbrev pub maps : Machine
maps = record {
  Image = State;
  Request = Call;
  Token = SnapshotLeaseToken;
  call = λ s r. left s (answered s r);
  told = λ s r. said r.action (answered s r);
  check = validate;
  spells = λ t. Some t;
  Holds = λ x s. x ≡ s;
}
