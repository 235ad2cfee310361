use Rattle.std.specs.Prelude.{refl}
use Rattle.std.proofs.Common.{rules, tests, sym, ◌∙◌}
use Rattle.std.proofs.lemmas.Iterator.Consumers.{YieldsList-from_first}
use Rattle.std.proofs.lemmas.Iterator.Search.{any_from_yields_List}
use Rattle.tables.specs.Seek.{rows_left}
use Rattle.sets.proofs.Steps.{any_listed}
use Rattle.scans.specs.Scans.{names_at}
use Rattle.scans.proofs.any_names.Goals as goal

pub returns : goal.returns
returns c = any_from_yields_List (names_at c.args.hops.now c.args.key.now) c.any.new.self _ _ c.any.ensures.ran (YieldsList-from_first (λ x. x.now) rows_left _ refl) (λ x b q k. search (rules, tests)) ∙ sym (any_listed _ _)
