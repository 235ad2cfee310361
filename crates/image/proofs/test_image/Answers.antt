use mathlib.Core.Path.{◌∙◌, sym}
use Rattle.image.proofs.Steps.{test-none, test_some}
use Rattle.image.proofs.test_image.Goals as goal

pub returns-then-not-is_image : goal.returns-then-not-is_image
returns-then-not-is_image c = test-none c.args.image.now (sym c.is_image.ensures ∙ c.if-not-is_image.true)

pub returns : goal.returns
returns c = test_some c.args.image.now (sym c.is_image.ensures ∙ c.if-not-is_image.false)
