use Rattle.std.proofs.Common.{ℕ, ◌+◌, ◌≤◌, ◌≡◌, List, length, take, arith, sym, ap, ◌∙◌, subst}
use Rattle.refusals.proofs.NumberLaws.{number-nonzero}
use Rattle.std.specs.Prelude.{refl, Ok, Err}
use Rattle.parts.specs.Answer.{Answer, status_of, image_of, Told, told_of, applied_of}
use Rattle.parts.specs.Digits.{Bytes}
use Rattle.parts.specs.Over.{over}
use Rattle.entries.specs.Bytes.{apply_bytes}
use Rattle.okvstep.specs.declared.Authority.{Authority}
use Rattle.okvstep.specs.Moments.{room, outcome_room, answered, Moment, line_of, image_at, answered_at, left_at}
use Rattle.okvstep.proofs.MomentLaws.{fits}
use Rattle.okvstep.proofs.Steps.{Steps, refuses, accepts, left_is, onward, within}
use Rattle.okvstep.proofs.Authority.step.Goals as goal
use Rattle.okvstep.proofs.Authority.step.Goals.{After-apply-applied, After-self-2-1, in-Ok, in-Err}

within-image : (c : After-apply-applied) → c.args.self.now.size ≤ length c.args.self.now.image
within-image c = omega arith

-- what was answered, with the lengths that `apply` was lent
told : (c : After-apply-applied) → let a = c.args.self.now in apply_bytes (image_at a) c.args.request.now (length a.next) (length a.outcome) ≡ answered_at a c.args.request.now
told c =
    let a = c.args.self.now in
    let n : length a.next ≡ room = omega arith in
    let o : length a.outcome ≡ outcome_room = omega arith in
    λ i. apply_bytes (image_at a) c.args.request.now (n i) (o i)

answers : (c : After-apply-applied) → told_of c.apply-applied.result ≡ applied_of (answered_at c.args.self.now c.args.request.now)
answers c = c.apply-applied.ensures.answer ∙ ap applied_of (told c)

-- it fits
image-fits : (c : After-apply-applied) → (told_of c.apply-applied.result).image ≤ room
image-fits c =
    let x = image_at c.args.self.now in
    let q = c.args.request.now in
    let e : (told_of c.apply-applied.result).image ≡ length (image_of (answered x q)) = ap (λ (r : Told). r.image) (answers c) in
    omega (arith, fits x q)

pub keep-requires : goal.keep-requires
keep-requires c =
    let f : c.in-Ok.lengths.image ≤ room = rw c.in-Ok.is at (image-fits ((goal.at.keep-requires c).After-apply-applied)) in
    omega arith

pub shared_ref_as_front-line_of : goal.shared_ref_as_front-line_of
shared_ref_as_front-line_of c =
    let f = image-fits ((goal.at.shared_ref_as_front-line_of c).After-apply-applied) in
    elim c.match-applied.branch [
      | in-Ok v ↦ let g : v.in-Ok.lengths.image ≤ room = rw v.in-Ok.is at f in rw v.size-is (omega arith)
      | in-Err v ↦ rw v.size-is (omega arith)
    ]

-- what is left, either way
frames_is : (c : After-self-2-1) → c.match-applied.self.frames ≡ c.args.self.now.frames + 1
frames_is c = elim c.match-applied.branch [ in-Ok v ↦ ap (λ (a : Authority). a.frames) v.self-is | in-Err v ↦ ap (λ (a : Authority). a.frames) v.self-is ]

module _ (c : After-self-2-1) where
  abbrev w : After-apply-applied
  w = (goal.at.returns-clause-size c).After-apply-applied

  abbrev a : Authority
  a = c.args.self.now

  abbrev q : List ℕ
  q = c.args.request.now

  abbrev Left : ℕ → Authority → Type 0
  Left n r = Steps a.size a.image q (within-image w) n r.image

  steps : Left c.match-applied.size c.match-applied.self
  steps = elim c.match-applied.branch [
    | in-Ok v ↦ let n = c.apply-applied.ensures.bytes ∙ ap (λ (A : Answer). over a.next 0 (image_of A)) (told w) in
        subst (λ (n : ℕ). Left n c.match-applied.self) (sym v.size-is) (subst (Left v.in-Ok.lengths.image) (sym v.self-is) (accepts a.size a.image q (within-image w) (told_of (Ok v.in-Ok.lengths)) a.next _ _ (sym (ap told_of v.in-Ok.is) ∙ answers w) refl n v.keep.ensures))
    | in-Err v ↦ subst (λ (n : ℕ). Left n c.match-applied.self) (sym v.size-is) (subst (Left a.size) (sym v.self-is) (refuses a.size a.image q (within-image w) (told_of (Err v.in-Err.refusal)) (sym (ap told_of v.in-Err.is) ∙ answers w) (number-nonzero v.in-Err.refusal)))
  ]

  status : c.match-applied.status ≡ status_of (answered_at a q)
  status = elim c.match-applied.branch [
    | in-Ok v ↦ v.status-is ∙ ap (λ (r : Told). r.status) (sym (ap told_of v.in-Ok.is) ∙ answers w)
    | in-Err v ↦ v.status-is ∙ v.number-status.ensures ∙ ap (λ (r : Told). r.status) (sym (ap told_of v.in-Err.is) ∙ answers w)
  ]

  line : c.line_of-line.result ≡ line_of (a.frames + 1) (status_of (answered_at a q)) (left_at a q)
  line =
      let l = left_is a.size a.image q (within-image w) _ _ steps in
      c.line_of-line.ensures ∙ (λ i. line_of (frames_is c i) (status i) (l i))

  moment : Moment c.match-applied.self.frames (take c.match-applied.size c.match-applied.self.image) × (c.match-applied.size ≤ room)
  moment =
      let b : Bytes q = λ j. omega (arith, c.type_inv.request j) in
      let k : length a.image ≡ room = omega arith in
      (rw (frames_is c) (onward a.size a.image q (within-image w) _ _ steps a.frames c.requires.moment.0 b), within a.size a.image q (within-image w) _ _ steps k)

pub returns-clause-size : goal.returns-clause-size
returns-clause-size c = (steps c).size_is

pub returns-clause-bytes : goal.returns-clause-bytes
returns-clause-bytes c = (steps c).bytes

pub returns-clause-line : goal.returns-clause-line
returns-clause-line c = line c

pub returns-clause-moment : goal.returns-clause-moment
returns-clause-moment c = moment c
