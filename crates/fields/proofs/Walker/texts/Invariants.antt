use Rattle.std.proofs.Common.{◌≡◌, ◌-◌, None, option_copied}
use Rattle.fields.proofs.WalkSteps.{texts_read}
use Rattle.fields.proofs.Walker.texts.Given as goal

abbrev pub invariant-loop : goal.invariant-loop
invariant-loop l = texts_read l.limit l.n None l.fn.self.rest.now ≡ texts_read l.limit (l.n - l.counter) (option_copied l.before) l.self.rest.now
