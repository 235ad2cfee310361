-- A HISTORY AS ITS CALLER HOLDS IT: the calls, what the caller sees after one, and what follows from that alone. Definitions only;
-- the claims hold of them by `caller_history`.
use Rattle.std.specs.Prelude.{ℕ, ◌≡◌, cond, List, eqb, length, take, Option, None, Some, option_map}
use Rattle.parts.specs.Answer.{Answer, image_of, outcome_of, Told, applied_of}
use Rattle.parts.specs.Over.{over}
use Rattle.parts.specs.Digits.{Bytes}
use Rattle.state.specs.Records.{no_faults, State}
use Rattle.machine.specs.Ledger.{Event, refused, took}
use Rattle.machine.specs.Claims.{Machine}
use Rattle.image.specs.Contents.{Reply, answer, refusal}
use Rattle.image.specs.Layout.{decode_image}
use Rattle.requests.specs.Request.{Request, decode_request, decode_token}
use Rattle.requests.specs.Outcome.{decode_outcome}
use Rattle.entries.specs.Bytes.{apply_bytes, validate_bytes}

-- A CALL lends two slices, whatever they hold, and any bytes as its request; a request that can be read has its flags 0.
pub record Call : Type 0 where
  pub request : List ℕ
  pub are_bytes : Bytes request
  pub no_flags : (q : Request) → decode_request request ≡ answer q → q.faults ≡ no_faults
  pub next : List ℕ
  pub outcome : List ℕ

abbrev pub reply : List ℕ → Call → Answer
reply x c = apply_bytes x c.request (length c.next) (length c.outcome)

-- WHAT THE CALLER SEES after it: what was answered, and both slices. These are the three equations that the contract of
-- `transition::apply` ensures, where A is `reply` of the image and the call.
pub record Seen : Type 0 where
  pub answered : Told
  pub next : List ℕ
  pub outcome : List ℕ

abbrev pub seen : Answer → Call → Seen
seen A c = record { answered = applied_of A; next = over c.next 0 (image_of A); outcome = over c.outcome 0 (outcome_of A) }

-- THE IMAGE that the next call reads: where the status is 0, the first bytes of the next slice, as many as were answered; else the
-- old image.
abbrev pub left : List ℕ → Seen → List ℕ
left x v = cond (eqb v.answered.status 0) (take v.answered.image v.next) x

-- what bytes say, if they can be read
abbrev pub read : {A : Type 0} → Reply A → Option A
read (answer v) = Some v
read (refusal n) = None

abbrev pub event : (request outcome : List ℕ) → Event
event request outcome = took (option_map (λ q. q.action) (read (decode_request request))) (read (decode_outcome outcome))

-- THE EVENT: where the status is 0, the request and the first bytes of the outcome slice, as many as were answered, each as it reads.
abbrev pub heard : (request : List ℕ) → Seen → Event
heard request v = cond (eqb v.answered.status 0) (event request (take v.answered.outcome v.outcome)) refused

-- the state that an image holds
abbrev pub Holds : List ℕ → State → Type 0
Holds x s = Bytes x × (decode_image x ≡ Some s)

-- Images and tokens are bytes, and validation is `validate_bytes`.
abbrev pub over_bytes : (call : List ℕ → Call → List ℕ) (told : List ℕ → Call → Event) → Machine
over_bytes call told = record {
  Image = List ℕ;
  Request = Call;
  Token = List ℕ;
  call = call;
  told = told;
  check = validate_bytes;
  spells = λ b. read (decode_token b);
  Holds = Holds;
}

abbrev pub caller : Machine
caller = over_bytes (λ x c. left x (seen (reply x c) c)) (λ x c. heard c.request (seen (reply x c) c))
