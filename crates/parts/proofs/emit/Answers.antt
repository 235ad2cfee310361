use Rattle.std.proofs.Common.{ℕ, length-append, sym, ◌∙◌, arith}
use Rattle.refusals.specs.declared.Refusal.TheVariants.{TableFull, NoRoom, NoOutcomeRoom}
use Rattle.parts.specs.Over.{then}
use Rattle.parts.specs.Size.{size_of, size-over}
use Rattle.parts.specs.Answer.{gave_no, gave_exit, gave_yes, settle_44, settle_45_image, settle_45_room, settle_46, settle-yes}
use Rattle.parts.proofs.Steps.{refused-is}
use Rattle.parts.proofs.emit.Goals as goal

pub returns-then-over_limit : goal.returns-then-over_limit
returns-then-over_limit c = gave_no TableFull (rw c.if-over_limit.true (settle_44 _ _ _ _))

pub returns-then-x-gt-LONGEST : goal.returns-then-x-gt-LONGEST
returns-then-x-gt-LONGEST c = gave_no NoRoom (rw c.if-over_limit.false (settle_45_image _ _ _ _ (omega (arith, length-append {A = ℕ}))))

pub returns-in_err-y : goal.returns-in_err-y
returns-in_err-y c =
    let m = size-over _ _ (sym c.in_err-y.ensures.ok_part ∙ c.measure.ensures) in
    gave_exit NoRoom (rw (← (refused-is c.in_err-y.ensures.ok_part c.in_err-y.ensures.value)) c.from_residual.ensures.1)
    (rw c.if-over_limit.false (settle_45_image _ _ _ _ (omega (arith, length-append {A = ℕ}))))

pub returns-then-next-x : goal.returns-then-next-x
returns-then-next-x c =
    let m = size_of _ _ _ (sym c.in_ok-y.ensures.ok_part ∙ c.measure.ensures) in
    gave_no NoRoom (rw c.if-over_limit.false (settle_45_room _ _ _ _ (omega (arith, length-append {A = ℕ})) (omega (arith, length-append {A = ℕ}))))

pub returns-in_err-z : goal.returns-in_err-z
returns-in_err-z c =
    let m = size_of _ _ _ (sym c.in_ok-y.ensures.ok_part ∙ c.measure.ensures) in
    let o = size-over _ _ (sym c.in_err-z.ensures.ok_part ∙ c.measure-2.ensures) in
    gave_exit NoOutcomeRoom (rw (← (refused-is c.in_err-z.ensures.ok_part c.in_err-z.ensures.value)) c.from_residual-in_err-z.ensures.1)
    (rw c.if-over_limit.false (settle_46 _ _ _ _ (omega (arith, length-append {A = ℕ})) (omega (arith, length-append {A = ℕ})) o))

pub returns : goal.returns
returns c =
    let m = size_of _ _ _ (sym c.in_ok-y.ensures.ok_part ∙ c.measure.ensures) in
    let o = size_of _ _ _ (sym c.in_ok-z.ensures.ok_part ∙ c.measure-2.ensures) in
    gave_yes (rw c.if-over_limit.false (settle-yes _ _ _ _ (omega (arith, length-append {A = ℕ})) (omega (arith, length-append {A = ℕ})) o.0))
    (omega (arith, length-append {A = ℕ})) o.1 (then c.put-p.ensures c.gather.ensures (omega arith)).is c.gather-2.ensures.is
