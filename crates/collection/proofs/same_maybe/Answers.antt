use Rattle.std.proofs.Common.{rules, tests, ◌∙◌}
use Rattle.collection.proofs.Same.{maybe_same}
use Rattle.collection.proofs.same_maybe.Goals as goal

pub returns : goal.returns
returns c = let a = c.args in
    c.eq.ensures ∙ maybe_same a.a.now a.b.now (λ v r k. search (rules, tests)) (λ v r k. search (rules, tests)) a.t a.u c.map.result c.map-2.result c.map.ensures.cases c.map-2.ensures.cases
