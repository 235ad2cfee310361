use Rattle.std.proofs.Common.{rules, tests, sym, ◌∙◌}
use Rattle.std.proofs.lemmas.Iterator.Consumers.{YieldsList-from_first}
use Rattle.std.proofs.lemmas.Iterator.Search.{any_from_yields_List}
use Rattle.state.specs.Maps.{same}
use Rattle.sets.specs.Sets.{keys_left}
use Rattle.sets.proofs.Steps.{any_listed}
use Rattle.sets.proofs.set_has.Goals as goal

pub returns : goal.returns
returns c = any_from_yields_List (same c.args.key.now) c.any.new.self _ _ c.any.ensures.ran (YieldsList-from_first (λ x. x.now) keys_left _ c.keys.ensures) (λ x b q k. search (rules, tests)) ∙ sym (any_listed _ _)
