use Rattle.std.specs.Prelude.{ltb}
use Rattle.std.proofs.Common.{rules, tests, ◌∙◌}
use Rattle.std.proofs.lemmas.Iterator.{YieldsList-from_slice, YieldsList-from_zip}
use Rattle.std.proofs.lemmas.Iterator.Search.{any_from_yields_List}
use Rattle.image.specs.Layout.{written}
use Rattle.image.proofs.FrontSteps.{limits_of, over_is}
use Rattle.image.proofs.Contents.over_limit.Goals as goal

pub returns : goal.returns
returns c =
    let ts = c.args.self.now.tables in
    let pairs = YieldsList-from_zip {s = c.zip.result} (YieldsList-from_slice ts (search rules)) (YieldsList-from_slice (limits_of written.tables) (search rules)) in
    any_from_yields_List (λ p. ltb p.1 p.0.count) c.any.new.self _ c.any.result c.any.ensures.ran pairs (λ x b q k. search (rules, tests))
    ∙ over_is written.tables ts
