use mathlib.Core.Path.{sym, ap}
use Rattle.std.proofs.Common.{rules}
use Rattle.std.proofs.lemmas.Result.{err_from_is_err_and}
use Rattle.refusals.specs.Numbers.{numbered}
use Rattle.image.proofs.WalkSteps.{first_record, next_table, going_end}
use Rattle.image.proofs.Layout.bodies_end.Goals as goal

pub returns-in_err-at : goal.returns-in_err-at
returns-in_err-at c =
    let o = first_record c.args.self.now c.args.s.now (search rules) c.requires _ _ c.entry.ensures c.first.ensures _ c.scalars_end.ensures in
    let p = err_from_is_err_and c.from_residual.result c.from_residual.ensures.1 in
    rw (p.1, p.2) (sym (o.stop _ (ap numbered c.in_err-at.was)))

pub loop-table-init : goal.loop-table-init
loop-table-init c =
    let o = first_record c.args.self.now c.args.s.now (search rules) c.requires _ _ c.entry.ensures c.first.ensures _ c.scalars_end.ensures in
    o.on _ (ap numbered c.in_ok-at.was)

pub returns-in_err-at-2 : goal.returns-in_err-at-2
returns-in_err-at-2 c =
    let l = c.loop-table in
    let o = next_table c.args.self.now c.args.s.now (search rules) l.table l.at (search rules) l.invariant _ c.entry-in-loop-table.ensures _ c.table_end.ensures in
    let p = err_from_is_err_and c.from_residual-in_err-at-2.result c.from_residual-in_err-at-2.ensures.1 in
    rw (p.1, p.2) (sym (o.stop _ (ap numbered c.in_err-at-2.was)))

pub loop-table-preserved : goal.loop-table-preserved
loop-table-preserved c =
    let l = c.loop-table in
    let o = next_table c.args.self.now c.args.s.now (search rules) l.table l.at (search rules) l.invariant _ c.entry-in-loop-table.ensures _ c.table_end.ensures in
    o.on _ (ap numbered c.in_ok-at-2.was)

pub returns : goal.returns
returns c = let l = c.loop-table in going_end c.args.self.now c.args.s.now l.table _ l.at (search rules) l.invariant
