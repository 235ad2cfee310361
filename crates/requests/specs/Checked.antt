-- Checked first, then read without checks: together they are what reading to the end finds.
use Rattle.std.specs.Prelude.{ℕ, zero, suc, List, [], ◌∷◌, Result, Ok, Err}
use Rattle.state.specs.Records.{AuthorityContext}
use Rattle.machine.specs.Actions.{Action, RetireDelete}
use Rattle.fields.specs.Format.{Field, ◌▹◌, El}
use Rattle.image.specs.Contents.{Reply, answer, refusal}
use Rattle.image.specs.Shapes.{u64, position, permit, position_from, permit_from}
use Rattle.requests.specs.Cases.{Case}
use Rattle.requests.specs.Request.{actions}
use Rattle.requests.specs.Peek.{peek}

abbrev pub context : Field
context = u64 ▹ position

abbrev pub context_from : El context → AuthorityContext
context_from v = record { generation = v.0; position = position_from v.1 }

-- whether it was read, or its first fault
abbrev pub checked_of : {A : Type 0} → Reply A → Result (Unit {0}) ℕ
checked_of (answer v) = Ok tt
checked_of (refusal e) = Err e

-- ONE OF A LIST OF CASES
abbrev pub nth : {A : Type 0} → A → List A → ℕ → A
nth d [] k = d
nth d (c ∷ cs) zero = c
nth d (c ∷ cs) (suc k) = nth d cs k

abbrev pub peek_case : {A : Type 0} → Case A → List ℕ → A
peek_case c s = c.make (peek c.shape s)

-- THE ACTION AFTER AN ACTION BYTE, its fields read without checks; a byte that is none is taken for the last
abbrev pub retire : Case Action
retire = record { shape = permit; make = λ v. RetireDelete (permit_from v) }

abbrev pub action_case : ℕ → Case Action
action_case k = nth retire (retire ∷ actions) k

abbrev pub peek_action : ℕ → List ℕ → Action
peek_action k s = peek_case (action_case k) s
