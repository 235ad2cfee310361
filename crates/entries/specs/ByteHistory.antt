-- THE CLAIMS OF THE ANSWERS: a step to `caller_history`. The calls of `apply_bytes`, each on the image that the one before gave, follow
-- `apply` on the state; so the claims hold of them.
use Rattle.std.specs.Prelude.{ℕ, List}
use Rattle.parts.specs.Answer.{Answer, no, yes}
use Rattle.machine.specs.Ledger.{Event, refused}
use Rattle.machine.specs.Claims.{Machine}
use Rattle.entries.specs.Caller.{reply, event, over_bytes}

-- the image that a call leaves, and what was told, by its answer
abbrev pub left_by : List ℕ → Answer → List ℕ
left_by x (no n) = x
left_by x (yes next outcome) = next

abbrev pub heard_by : List ℕ → Answer → Event
heard_by request (no n) = refused
heard_by request (yes next outcome) = event request outcome

abbrev pub bytes : Machine
bytes = over_bytes (λ x c. left_by x (reply x c)) (λ x c. heard_by c.request (reply x c))
