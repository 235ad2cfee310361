use Rattle.parts.specs.declared.Part.TheVariants.{First, Number}
use Prim.Native.Nat.{◌+◌}
use mathlib.Core.List.{[], ◌∷◌}
use native.Mathlib.Omega.{arith}
use lib.ListN.{length}
use Rattle.image.specs.Layout.{leases}
use Rattle.image.specs.TableLaws.{tables_place}
use Rattle.machine.specs.Actions.{LeaseRenewed}
use Rattle.machine.specs.Next.{renewed}
use Rattle.requests.specs.Meaning.{text_of}
use Rattle.next.specs.Call.{done}
use Rattle.next.specs.declared.PublicationOutcome.{PublicationOutcome}
use Rattle.edits.specs.PlaceLaws.{table_bounds}
use Rattle.leases.specs.Renew.{new, ends_low, renew-small, renew-shows, renew-tables, told, renew-fits, renew-told}
use Rattle.leases.proofs.put_renewed.Goals as goal

pub after_insert-requires : goal.after_insert-requires
after_insert-requires c = let low = table_bounds c.requires.ready.holds leases in
    let short = c.requires.ready.short in
    (omega (arith, low.0), omega (arith, low.1), (ends_low c.requires).4)

pub overflow_add-deadline : goal.overflow_add-deadline
overflow_add-deadline c = let low = ends_low c.requires in omega (arith, low.2)

pub overflow_add-body : goal.overflow_add-body
overflow_add-body c = let low = ends_low c.requires in omega (arith, low.0, low.1, low.2, low.3, c.saturating_sub-rest.ensures)

pub overflow_add-body-2 : goal.overflow_add-body-2
overflow_add-body-2 c = let low = ends_low c.requires in omega (arith, low.0, low.1, low.2, low.3, c.saturating_sub-rest.ensures)

pub overflow_add-body-3 : goal.overflow_add-body-3
overflow_add-body-3 c = let low = ends_low c.requires in omega (arith, low.0, low.1, low.2, low.3, c.saturating_sub-rest.ensures)

pub overflow_add-keys : goal.overflow_add-keys
overflow_add-keys c = let low = ends_low c.requires in omega (arith, low.0, low.1, low.2, low.3, c.saturating_sub-rest.ensures)

pub overflow_add-deadline-2 : goal.overflow_add-deadline-2
overflow_add-deadline-2 c = let low = ends_low c.requires in omega (arith, low.0, low.1, low.2, low.3, c.saturating_sub-rest.ensures)

pub emit-requires : goal.emit-requires
emit-requires c = let w = c.requires in (renew-small w c.after_insert.ensures, renew-fits w c.saturating_sub-rest.ensures c.up-epoch.ensures c.saturating_sub-2.ensures c.saturating_sub-3.ensures c.saturating_sub-4.ensures)

pub returns : goal.returns
returns c = let w = c.requires in
    let a = c.args in
    let deadline = a.held.now.purpose.at + a.held.now.purpose.len in
    let rest = c.saturating_sub-rest in
    let before = c.saturating_sub in
    let first = c.saturating_sub-2 in
    let second = c.saturating_sub-3 in
    let third = c.saturating_sub-4 in
    let epoch = c.up-epoch in
    done w.ready (renewed w.ready.state (text_of a.call.now.request.now a.a.now.lease_id) (new w) a.call.now.faults.omit_lease_root_epoch) (LeaseRenewed (new w)) a.call.now.image.now _
    (First (tables_place a.call.now.contents.now) before.result ∷ First a.p.start first.result ∷ Number epoch.result 8 ∷ First (a.p.start + rest.result) second.result ∷ Number a.a.now.new_deadline_tick 8 ∷ First (a.p.start + (deadline + 8)) third.result ∷ Number a.call.now.context.generation 8 ∷ Number a.call.now.context.position.term 8 ∷ Number a.call.now.context.position.index 8 ∷ First a.p.end (length a.call.now.image.now) ∷ [])
    a.row.now (PublicationOutcome.LeaseRenewed (told w rest.ensures epoch.ensures first.ensures second.ensures third.ensures))
    w.taken
    (renew-shows w c.after_insert.ensures epoch.ensures c.up_unless.ensures)
    (renew-tables w rest.ensures epoch.ensures first.ensures second.ensures third.ensures _ before.ensures)
    (renew-told w rest.ensures epoch.ensures first.ensures second.ensures third.ensures)
    c.emit.ensures
