use Rattle.std.proofs.Common.{ap, ◌∙◌}
use Rattle.refusals.specs.declared.Refusal.TheVariants.{InvalidRequest, CommittedFrontierRetreated}
use Rattle.parts.specs.declared.Part.TheVariants.{First}
use native.Mathlib.Omega.{arith}
use mathlib.Core.List.{[], ◌∷◌}
use mathlib.Core.Path.{refl}
use lib.ListN.{length, get_or}
use Rattle.image.specs.Opened.{nowhere}
use Rattle.machine.specs.Actions.{Applied}
use Rattle.machine.specs.Next.{frontier_observed}
use Rattle.requests.specs.Meaning.{context_of, faults_of}
use Rattle.floor.specs.Floors.{oldest_at}
use Rattle.image.specs.Rows.{rows_as}
use Rattle.next.specs.Call.{refused, done}
use Rattle.next.specs.Kept.{number_is, small-held, small-scalars, whole-tables}
use Rattle.next.specs.declared.PublicationOutcome.{PublicationOutcome}
use Rattle.floor.specs.Frontier.{frontier-zero, frontier-back, frontier-taken, floor_shows}
use Rattle.floor.proofs.observe_committed_frontier.Goals as goal

pub returns-then-committed_frontier-eq0 : goal.returns-then-committed_frontier-eq0
returns-then-committed_frontier-eq0 c = let r = c.requires in let a = c.args in refused r InvalidRequest (frontier-zero r.state (context_of a.call.now.context) (faults_of a.call.now.faults) a.committed_frontier c.if-committed_frontier-eq0.true)

pub returns-then-committed_frontier-n : goal.returns-then-committed_frontier-n
returns-then-committed_frontier-n c = let r = c.requires in let a = c.args in let n = number_is r.holds 3 in refused r CommittedFrontierRetreated (frontier-back r.state (context_of a.call.now.context) (faults_of a.call.now.faults) a.committed_frontier c.if-committed_frontier-eq0.false (omega (arith, c.if-committed_frontier-n.true)))

pub emit_applied-requires : goal.emit_applied-requires
emit_applied-requires c = let k = small-held c.requires.formed c.requires.holds c.requires.short in small-scalars k _ k.root

pub returns : goal.returns
returns c = let r = c.requires in let a = c.args in let n = number_is r.holds 3 in done r (frontier_observed r.state a.committed_frontier) Applied a.call.now.image.now _ (First (get_or a.call.now.contents.now.tables 0 nowhere).at (length a.call.now.image.now) ∷ []) a.call.now.image.now PublicationOutcome.Applied (frontier-taken r.state (context_of a.call.now.context) (faults_of a.call.now.faults) a.committed_frontier c.if-committed_frontier-eq0.false (omega (arith, c.if-committed_frontier-n.false))) (floor_shows r.holds r.formed a.call.now.context.position.term a.call.now.context.position.index a.committed_frontier r.state.retention_policy_epoch r.state.retention_window _ _ _ _ _ _ refl (number_is r.holds 4) r.holds.shows.window c.policy_for-policy.ensures (c.oldest-candidate.ensures ∙ ap (oldest_at _) (rows_as c.rows.ensures)) c.readable_for-readable.ensures) (whole-tables r.holds a.call.now.request.now) refl c.emit_applied.ensures
