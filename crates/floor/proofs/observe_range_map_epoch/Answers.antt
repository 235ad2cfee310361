use Rattle.refusals.specs.declared.Refusal.TheVariants.{InvalidRequest, RangeMapEpochRetreated}
use Rattle.parts.specs.declared.Part.TheVariants.{First}
use native.Mathlib.Omega.{arith}
use mathlib.Core.List.{[], ◌∷◌}
use mathlib.Core.Path.{refl}
use lib.ListN.{length, get_or}
use Rattle.image.specs.Opened.{nowhere}
use Rattle.machine.specs.Actions.{Applied}
use Rattle.machine.specs.Next.{range_map_observed}
use Rattle.requests.specs.Meaning.{context_of, faults_of}
use Rattle.next.specs.Call.{refused, done}
use Rattle.next.specs.Kept.{number_is, small-held, small-scalars, whole-tables}
use Rattle.next.specs.declared.PublicationOutcome.{PublicationOutcome}
use Rattle.floor.specs.Frontier.{range_zero, range_back, range_taken, range_shows}
use Rattle.floor.proofs.observe_range_map_epoch.Goals as goal

pub returns-then-range_map_epoch-eq0 : goal.returns-then-range_map_epoch-eq0
returns-then-range_map_epoch-eq0 c = let r = c.requires in let a = c.args in refused r InvalidRequest (range_zero r.state (context_of a.call.now.context) (faults_of a.call.now.faults) a.range_map_epoch c.if-range_map_epoch-eq0.true)

pub returns-then-range_map_epoch-n : goal.returns-then-range_map_epoch-n
returns-then-range_map_epoch-n c = let r = c.requires in let a = c.args in let n = number_is r.holds 10 in refused r RangeMapEpochRetreated (range_back r.state (context_of a.call.now.context) (faults_of a.call.now.faults) a.range_map_epoch c.if-range_map_epoch-eq0.false (omega (arith, c.if-range_map_epoch-n.true)))

pub emit_applied-requires : goal.emit_applied-requires
emit_applied-requires c = let k = small-held c.requires.formed c.requires.holds c.requires.short in small-scalars k _ k.root

pub returns : goal.returns
returns c = let r = c.requires in let a = c.args in let n = number_is r.holds 10 in done r (range_map_observed r.state a.range_map_epoch) Applied a.call.now.image.now _ (First (get_or a.call.now.contents.now.tables 0 nowhere).at (length a.call.now.image.now) ∷ []) a.call.now.image.now PublicationOutcome.Applied (range_taken r.state (context_of a.call.now.context) (faults_of a.call.now.faults) a.range_map_epoch c.if-range_map_epoch-eq0.false (omega (arith, c.if-range_map_epoch-n.false))) (range_shows r.holds r.formed a.call.now.context.position.term a.call.now.context.position.index a.range_map_epoch) (whole-tables r.holds a.call.now.request.now) refl c.emit_applied.ensures
