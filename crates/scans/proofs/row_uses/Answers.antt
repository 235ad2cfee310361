use Rattle.std.proofs.Common.{ap, ◌∙◌}
use Rattle.scans.specs.Scans.{uses_at}
use Rattle.scans.proofs.Steps.{uses_own}
use Rattle.scans.proofs.row_uses.Goals as goal

pub returns : goal.returns
returns c = c.job_uses.ensures ∙ ap (uses_at c.args.key.now) c.row_at.ensures ∙ uses_own c.args.key.now c.args.row.now
