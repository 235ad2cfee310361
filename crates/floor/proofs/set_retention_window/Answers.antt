use Rattle.refusals.specs.declared.Refusal.TheVariants.{RetentionPolicyEpochMismatch}
use Rattle.parts.specs.declared.Part.TheVariants.{First}
use mathlib.Core.List.{[], ◌∷◌}
use mathlib.Core.Path.{refl, ◌∙◌}
use lib.ListN.{length, get_or}
use Rattle.image.specs.Opened.{nowhere}
use Rattle.machine.specs.Actions.{Applied}
use Rattle.machine.specs.Next.{window_set}
use Rattle.requests.specs.Meaning.{context_of, faults_of}
use Rattle.floor.specs.Floors.{oldest_at}
use Rattle.image.specs.Rows.{rows_as}
use Rattle.next.specs.Call.{refused, done}
use Rattle.next.specs.Kept.{number_is, small-held, small-scalars, whole-tables}
use Rattle.next.specs.declared.PublicationOutcome.{PublicationOutcome}
use Rattle.floor.specs.Frontier.{window_other, window-taken, floor_shows}
use Rattle.std.specs.Prelude.{Some}
use mathlib.Core.Path.{ap, sym}
use Rattle.machine.specs.Next.{up}
use Rattle.floor.proofs.set_retention_window.Goals as goal

pub returns-then-a-n : goal.returns-then-a-n
returns-then-a-n c = let r = c.requires in let a = c.args in refused r RetentionPolicyEpochMismatch (window_other r.state (context_of a.call.now.context) (faults_of a.call.now.faults) a.a.now.expected_policy_epoch a.a.now.retention_window (λ z. c.if-a-n.true (z ∙ sym (number_is r.holds 4))))

pub emit_applied-requires : goal.emit_applied-requires
emit_applied-requires c = let k = small-held c.requires.formed c.requires.holds c.requires.short in small-scalars k _ k.root

pub returns : goal.returns
returns c = let r = c.requires in let a = c.args in done r (window_set r.state a.a.now.retention_window) Applied a.call.now.image.now _ (First (get_or a.call.now.contents.now.tables 0 nowhere).at (length a.call.now.image.now) ∷ []) a.call.now.image.now PublicationOutcome.Applied (window-taken r.state (context_of a.call.now.context) (faults_of a.call.now.faults) a.a.now.expected_policy_epoch a.a.now.retention_window (c.if-a-n.false ∙ number_is r.holds 4)) (floor_shows r.holds r.formed a.call.now.context.position.term a.call.now.context.position.index r.state.observed_commit_frontier (up r.state.retention_policy_epoch) (Some a.a.now.retention_window) _ _ _ _ _ _ (number_is r.holds 3) (c.up.ensures ∙ ap up (number_is r.holds 4)) refl c.policy_for-policy.ensures (c.oldest-candidate.ensures ∙ ap (oldest_at _) (rows_as c.rows.ensures)) c.readable_for-readable.ensures) (whole-tables r.holds a.call.now.request.now) refl c.emit_applied.ensures
