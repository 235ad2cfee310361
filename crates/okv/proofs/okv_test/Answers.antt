use Rattle.std.proofs.Common.{◌∙◌}
use Rattle.okv.specs.Tests.{test-bytes}
use Rattle.okv.proofs.okv_test.Goals as goal

pub returns-in-Ok : goal.returns-in-Ok
returns-in-Ok c = c.in-Ok.ensures ∙ test-bytes c.args.image.now

pub returns-in-Err : goal.returns-in-Err
returns-in-Err c = c.number.ensures ∙ c.in-Err.ensures ∙ test-bytes c.args.image.now
