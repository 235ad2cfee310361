use Rattle.parts.specs.declared.Part.TheVariants.{First, Second, Number}
use mathlib.Core.Path.{ap, ◌∙◌}
use mathlib.Core.List.{[], ◌∷◌}
use native.Mathlib.Omega.{arith}
use lib.ListN.{length}
use Rattle.image.specs.Layout.{leases}
use Rattle.image.specs.TableLaws.{tables_place}
use Rattle.machine.specs.Actions.{LeaseAcquired}
use Rattle.machine.specs.Next.{acquired}
use Rattle.requests.specs.Meaning.{text_of}
use Rattle.image.specs.Rows.{rows_as}
use Rattle.next.specs.Call.{done}
use Rattle.next.specs.declared.PublicationOutcome.{PublicationOutcome}
use Rattle.floor.specs.Floors.{oldest_at}
use Rattle.edits.specs.PlaceLaws.{table_bounds}
use Rattle.leases.specs.Acquire.{new, end_low, runs_low, acquire-small, acquire-shows, acquire-tables, told, acquire-fits, acquire-told}
use Rattle.leases.proofs.put_lease.Goals as goal

pub overflow_add-keys : goal.overflow_add-keys
overflow_add-keys c = omega (arith, end_low c.requires)

pub overflow_add-first : goal.overflow_add-first
overflow_add-first c = omega (arith, runs_low c.requires c.saturating_sub-start.ensures c.saturating_sub-rest.ensures c.saturating_sub-first.ensures c.saturating_sub-second.ensures)

pub overflow_add-first-2 : goal.overflow_add-first-2
overflow_add-first-2 c = omega (arith, runs_low c.requires c.saturating_sub-start.ensures c.saturating_sub-rest.ensures c.saturating_sub-first.ensures c.saturating_sub-second.ensures)

pub after_insert-requires : goal.after_insert-requires
after_insert-requires c = let low = table_bounds c.requires.ready.holds leases in
    let short = c.requires.ready.short in
    (omega (arith, low.0), omega (arith, low.1), omega (arith, runs_low c.requires c.saturating_sub-start.ensures c.saturating_sub-rest.ensures c.saturating_sub-first.ensures c.saturating_sub-second.ensures))

pub emit-requires : goal.emit-requires
emit-requires c = let w = c.requires in
    let start = c.saturating_sub-start.ensures in
    let rest = c.saturating_sub-rest.ensures in
    let first = c.saturating_sub-first.ensures in
    let second = c.saturating_sub-second.ensures in
    (acquire-small w start rest first second c.after_insert.ensures, acquire-fits w start rest first second c.up-epoch.ensures)

pub returns : goal.returns
returns c = let w = c.requires in
    let a = c.args in
    let start = c.saturating_sub-start in
    let rest = c.saturating_sub-rest in
    let first = c.saturating_sub-first in
    let second = c.saturating_sub-second in
    let before = c.saturating_sub in
    let epoch = c.up-epoch in
    done w.ready (acquired w.ready.state (text_of a.call.now.request.now a.a.now.lease_id) (new w.ready) a.call.now.faults.omit_lease_root_epoch) (LeaseAcquired (new w.ready)) a.call.now.image.now _
    (First (tables_place a.call.now.contents.now) before.result ∷ Second start.result first.result ∷ Number epoch.result 8 ∷ Second rest.result second.result ∷ Number a.call.now.context.generation 8 ∷ Number a.call.now.context.position.term 8 ∷ Number a.call.now.context.position.index 8 ∷ First a.p.end (length a.call.now.image.now) ∷ [])
    a.call.now.image.now (PublicationOutcome.LeaseAcquired (told w start.ensures rest.ensures first.ensures second.ensures epoch.ensures))
    w.taken
    (acquire-shows w start.ensures rest.ensures first.ensures second.ensures c.after_insert.ensures epoch.ensures c.up_unless.ensures c.policy_for-policy.ensures (c.oldest.ensures ∙ ap (oldest_at _) (rows_as c.rows.ensures)) c.min-candidate.ensures c.readable_for.ensures)
    (acquire-tables w start.ensures rest.ensures first.ensures second.ensures epoch.ensures _ before.ensures)
    (acquire-told w start.ensures rest.ensures first.ensures second.ensures epoch.ensures)
    c.emit.ensures
