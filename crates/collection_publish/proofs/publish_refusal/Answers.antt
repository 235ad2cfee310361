use mathlib.Core.Path.{◌∙◌}
use Rattle.collection_jobs.specs.FirstLaws.{first_stops, first_past}
use Rattle.collection_publish.proofs.publish_refusal.Goals as goal

pub returns-in_err-receipt_refusal : goal.returns-in_err-receipt_refusal
returns-in_err-receipt_refusal c = first_stops _ _ _ _ c.from_residual.ensures.1 c.in_err-receipt_refusal.ensures

pub returns-in_err-stale : goal.returns-in_err-stale
returns-in_err-stale c = first_stops _ _ _ _ c.from_residual-in_err-stale.ensures.1 c.in_err-stale.ensures
    ∙ first_past _ _ tt c.in_ok-receipt_refusal.ensures
