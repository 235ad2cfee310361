use borrow.Author.Tests.{le-leb, le-ltb, lt-leb, lt-ltb}
use mathlib.Core.Path.{sym, ◌∙◌}
use Rattle.machine.proofs.TestLaws.{first-here, first_on}
use Rattle.collection_jobs.specs.Conflicts.{conflict_given}
use Rattle.collection_jobs.specs.FirstLaws.{first_stops, first_past}
use Rattle.collection_jobs.proofs.prepare_refusal.Goals as goal

pub returns-in_err-malformed : goal.returns-in_err-malformed
returns-in_err-malformed c = first_stops _ _ _ _ c.from_residual.ensures.1 c.in_err-malformed.ensures

pub returns-then-any_conflict : goal.returns-then-any_conflict
returns-then-any_conflict c = first-here _ _ _ (conflict_given c.rows.ensures _ _ _ _ _ c.text_of-root.ensures c.text_of-namespace.ensures c.any_conflict.ensures ∙ c.if-any_conflict.true)
    ∙ first_on _ _ _ (le-ltb _ _ c.if-place.false)
    ∙ first_past _ _ tt c.in_ok-malformed.ensures

pub returns-in_err-stale : goal.returns-in_err-stale
returns-in_err-stale c = first_stops _ _ _ _ c.from_residual-in_err-stale.ensures.1 c.in_err-stale.ensures
    ∙ first_on _ _ _ (conflict_given c.rows.ensures _ _ _ _ _ c.text_of-root.ensures c.text_of-namespace.ensures c.any_conflict.ensures ∙ c.if-any_conflict.false)
    ∙ first_on _ _ _ (le-ltb _ _ c.if-place.false)
    ∙ first_past _ _ tt c.in_ok-malformed.ensures

pub returns-then-n-a : goal.returns-then-n-a
returns-then-n-a c = first-here _ _ _ (lt-ltb _ _ c.if-n-a.true)
    ∙ first_on _ _ _ (lt-leb _ _ c.if-a-n.false)
    ∙ first_past _ _ tt c.in_ok-stale.ensures
    ∙ first_on _ _ _ (conflict_given c.rows.ensures _ _ _ _ _ c.text_of-root.ensures c.text_of-namespace.ensures c.any_conflict.ensures ∙ c.if-any_conflict.false)
    ∙ first_on _ _ _ (le-ltb _ _ c.if-place.false)
    ∙ first_past _ _ tt c.in_ok-malformed.ensures

pub returns-then-a-n : goal.returns-then-a-n
returns-then-a-n c = first-here _ _ _ (le-leb _ _ c.if-a-n.true)
    ∙ first_past _ _ tt c.in_ok-stale.ensures
    ∙ first_on _ _ _ (conflict_given c.rows.ensures _ _ _ _ _ c.text_of-root.ensures c.text_of-namespace.ensures c.any_conflict.ensures ∙ c.if-any_conflict.false)
    ∙ first_on _ _ _ (le-ltb _ _ c.if-place.false)
    ∙ first_past _ _ tt c.in_ok-malformed.ensures

pub returns-then-other_input : goal.returns-then-other_input
returns-then-other_input c = first-here _ _ _ (sym c.other_input.ensures ∙ c.if-other_input.true)
    ∙ first_on _ _ _ (le-ltb _ _ c.if-n-a.false)
    ∙ first_on _ _ _ (lt-leb _ _ c.if-a-n.false)
    ∙ first_past _ _ tt c.in_ok-stale.ensures
    ∙ first_on _ _ _ (conflict_given c.rows.ensures _ _ _ _ _ c.text_of-root.ensures c.text_of-namespace.ensures c.any_conflict.ensures ∙ c.if-any_conflict.false)
    ∙ first_on _ _ _ (le-ltb _ _ c.if-place.false)
    ∙ first_past _ _ tt c.in_ok-malformed.ensures
