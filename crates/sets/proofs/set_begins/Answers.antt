use Rattle.std.proofs.Common.{rules, tests, sym, ◌∙◌}
use Rattle.std.proofs.lemmas.Iterator.Consumers.{YieldsList-from_first}
use Rattle.std.proofs.lemmas.Iterator.Search.{all_from_yields_List}
use Rattle.state.specs.Maps.{starts_with}
use Rattle.sets.specs.Sets.{keys_left}
use Rattle.sets.proofs.Steps.{all_listed}
use Rattle.sets.proofs.set_begins.Goals as goal

pub returns : goal.returns
returns c = all_from_yields_List (λ k. starts_with k c.args.prefix.now) c.all.new.self _ _ c.all.ensures.ran (YieldsList-from_first (λ x. x.now) keys_left _ c.keys.ensures) (λ x b q k. search (rules, tests)) ∙ sym (all_listed _ _)
