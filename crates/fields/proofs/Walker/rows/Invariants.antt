use Rattle.std.proofs.Common.{◌≡◌, ◌-◌, None, option_copied}
use Rattle.fields.specs.Rows.{walk_rows}
use Rattle.fields.proofs.Walker.rows.Given as goal

abbrev pub invariant-loop : goal.invariant-loop
invariant-loop l = walk_rows l.codes l.n None l.fn.self.rest.now ≡ walk_rows l.codes (l.n - l.counter) (option_copied l.before) l.self.rest.now
