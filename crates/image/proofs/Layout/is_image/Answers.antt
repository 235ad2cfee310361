use mathlib.Core.Path.{sym}
use Rattle.std.proofs.Common.{rules, tests, ◌∙◌}
use Rattle.image.proofs.WalkSteps.{verdict, outside}
use Rattle.image.proofs.Layout.is_image.Goals as goal

pub returns-then-contains : goal.returns-then-contains
returns-then-contains c =
    let k = rw (c.if-contains.true, c.new.ensures.start, c.new.ensures.end) at c.contains.ensures.cases in
    c.eq.ensures ∙ verdict c.args.self.now c.args.s.now (search rules) _ c.bodies_end.result (search (rules, tests)) c.bodies_end.ensures

pub returns-else-contains : goal.returns-else-contains
returns-else-contains c =
    let v = rw (c.if-contains.false, c.new.ensures.start, c.new.ensures.end, c.new.ensures.exhausted, c.first.ensures) at c.contains.ensures.value in
    c.if-contains.false ∙ sym (outside c.args.self.now c.args.s.now (search rules) (search rules) (λ low high. search (rules, tests)))
