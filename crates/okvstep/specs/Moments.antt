-- What the program hands on from frame to frame, and what it prints of each.
use Rattle.std.specs.Prelude.{ℕ, ◌≤◌, List, [], ◌∷◌, ◌++◌, ◌≡◌, length, take, Option, None, Some}
use Rattle.std.specs.Fmt.{decimal}
use Rattle.parts.specs.Answer.{Answer}
use Rattle.parts.specs.Digits.{Bytes}
use Rattle.state.specs.Maps.{Every}
use Rattle.state.specs.Records.{State, default}
use Rattle.image.specs.Layout.{encode_image, decode_image}
use Rattle.entries.specs.Bytes.{apply_bytes}
use Rattle.entries.specs.ByteHistory.{left_by as left}
use Rattle.okvstep.specs.declared.Line.{Line}
use Rattle.okvstep.specs.declared.Authority.{Authority}

-- the bytes that it lends for an image, and for an outcome
abbrev pub room : ℕ
room = 16384

abbrev pub outcome_room : ℕ
outcome_room = 8192

abbrev pub answered : (image request : List ℕ) → Answer
answered x q = apply_bytes x q room outcome_room

-- THE IMAGE AFTER SOME REQUESTS, each on what the one before left
unfoldable pub after : List ℕ → List (List ℕ) → List ℕ
after x [] = x
after x (q ∷ qs) = after (left x (answered x q)) qs

-- A MOMENT: x is the image after n requests from the default image. No contract can say what standard input holds, so they
-- are some requests of bytes.
pub record Moment (n : ℕ) (x : List ℕ) : Type 0 where
  pub requests : List (List ℕ)
  pub are_bytes : Every Bytes requests
  pub so_many : length requests ≡ n
  pub is : x ≡ after (encode_image default) requests

-- THE LINE of a frame: its number, the number answered, and six numbers of the state after it. Bytes that hold no state have
-- zeros: `moment_holds` says that there is a state at every moment.
abbrev pub line_showing : (step status : ℕ) → Option State → Line
line_showing step status None = record {
  step = step;
  status = status;
  frontier = 0;
  policy = 0;
  readable = 0;
  collected = 0;
  clock = 0;
  epoch = 0;
}
line_showing step status (Some s) = record {
  step = step;
  status = status;
  frontier = s.observed_commit_frontier;
  policy = s.policy_floor;
  readable = s.minimum_readable_version;
  collected = s.physically_collected_through;
  clock = s.lease_clock_tick;
  epoch = s.root_intent_epoch;
}

abbrev pub line_of : (step status : ℕ) (image : List ℕ) → Line
line_of step status x = line_showing step status (decode_image x)

-- numbers in decimal, one space apart
abbrev pub spaced : ℕ → List ℕ → List ℕ
spaced n [] = decimal n
spaced n (m ∷ ms) = decimal n ++ 32 ∷ spaced m ms

-- what is printed of a line
abbrev pub line_text : Line → List ℕ
line_text l = spaced l.step (l.status ∷ l.frontier ∷ l.policy ∷ l.readable ∷ l.collected ∷ l.clock ∷ l.epoch ∷ [])

-- THE AUTHORITY between frames: its image, and what it answers to a request
abbrev pub image_at : Authority → List ℕ
image_at a = take a.size a.image

abbrev pub answered_at : Authority → (request : List ℕ) → Answer
answered_at a q = answered (image_at a) q

-- the image that the request leaves
abbrev pub left_at : Authority → (request : List ℕ) → List ℕ
left_at a q = left (image_at a) (answered_at a q)

-- it is at a moment, that of its frames
abbrev pub AtMoment : Authority → Type 0
AtMoment a = Moment a.frames (image_at a) × (a.size ≤ room)
