-- The starred edges E2 to E10, and the order of ids, OVER BYTES: the rows of the machine's table, asked of the byte entries. Each
-- call is an encoded request on the image that the call before it wrote, the first on the default image, with as much room as
-- okvstep lends.
use Rattle.std.specs.Prelude.{ℕ, Bool, false, ◌&&◌, List, [], ◌∷◌, map, eqb, length, Option, None, Some}
use Rattle.text.specs.Same.{same_of}
use Rattle.parts.specs.Answer.{Answer, no, yes, status_of, outcome_of}
use Rattle.state.specs.Maps.{Text, ◌⟼◌, same_texts, is_empty}
use Rattle.state.specs.Records.{AuthorityContext, no_faults, State}
use Rattle.state.specs.Setters.{set_pins}
use Rattle.machine.specs.Actions.{Action, ObserveCommittedFrontier, SetRetentionWindow, LeasesExpired}
use Rattle.machine.specs.Edges.{Row, answers, answers_at, floors, ends, answers_loaded, ends_loaded, collects, validates, pins_are, precedes, keys, manifest}
use Rattle.image.specs.Layout.{encode_image, decode_image}
use Rattle.requests.specs.Request.{encode_request, encode_token}
use Rattle.requests.specs.Outcome.{encode_outcome}
use Rattle.entries.specs.Bytes.{apply_bytes, validate_bytes, test_bytes, default_bytes}

abbrev pub room : ℕ
room = 16384

abbrev outcome_room : ℕ
outcome_room = 8192

-- faults off
abbrev reply_at : AuthorityContext → Action → (image : List ℕ) → Answer
reply_at c a image = apply_bytes image (encode_request (record { context = c; faults = no_faults; action = a })) room outcome_room

-- generation 1
abbrev reply : Action → (image : List ℕ) → Answer
reply a image = reply_at (record { generation = 1; position = record { term = 1; index = 1 } }) a image

-- calls up to the first refusal, each on the image that the one before it wrote
abbrev step : Action → Answer → Answer
step a (no n) = no n
step a (yes image outcome) = reply a image

abbrev run : Answer → List Action → Answer
run A [] = A
run A (a ∷ calls) = run (step a A) calls

-- window 3, frontier 10
abbrev start : Answer
start = run (default_bytes room) (SetRetentionWindow 0 3 ∷ ObserveCommittedFrontier 10 ∷ [])

-- accepted, and p of the image written
abbrev wrote : (List ℕ → Bool) → Answer → Bool
wrote p (no n) = false
wrote p (yes image outcome) = p image

-- p of the state that an image holds
abbrev held : (State → Bool) → Option State → Bool
held p None = false
held p (Some s) = p s

abbrev leaves : (State → Bool) → Answer → Bool
leaves p A = wrote (λ image. held p (decode_image image)) A

-- accepted, with these ids in its outcome, and no lease is left
abbrev ends_all : List Text → Answer → Bool
ends_all l A = same_of (outcome_of A) (encode_outcome (LeasesExpired l)) && leaves (λ s. is_empty s.leases) A

-- the test of an image whose pins have these ids, in this order
abbrev tested : List Text → State → ℕ
tested ids s = test_bytes (encode_image (set_pins (map (λ id. id ⟼ manifest) ids) s))

abbrev pub on_bytes : Row → Bool
on_bytes (answers before a n) = wrote (λ image. eqb (status_of (reply a image)) n) (run start before)
on_bytes (answers_at c a n) = wrote (λ image. eqb (status_of (reply_at c a image)) n) start
on_bytes (floors before p r) = leaves (λ s. eqb s.policy_floor p && eqb s.minimum_readable_version r) (run start before)
on_bytes (ends before a l) = ends_all l (step a (run start before))
on_bytes (collects before c r j) = leaves (λ s. eqb s.physically_collected_through c && eqb s.minimum_readable_version r && eqb (length s.collection_jobs) j) (run start before)
on_bytes (answers_loaded load a n) = leaves (λ s. eqb (status_of (reply a (encode_image (load s)))) n) start
on_bytes (ends_loaded load a l) = leaves (λ s. ends_all l (reply a (encode_image (load s)))) start
on_bytes (validates load t n) = leaves (λ s. eqb (validate_bytes (encode_image (load s)) (encode_token t)) n) start
on_bytes (pins_are before ids) = leaves (λ s. same_texts (keys s.pins) ids) (run start before)
on_bytes (precedes a b) = leaves (λ s. eqb (tested (a ∷ b ∷ []) s) 0 && eqb (tested (b ∷ a ∷ []) s) 40) start
