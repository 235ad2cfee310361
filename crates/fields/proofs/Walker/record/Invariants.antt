use Rattle.std.proofs.Common.{◌≡◌, drop}
use Rattle.fields.specs.Codes.{walk}
use Rattle.fields.proofs.Walker.«record».Given as goal

abbrev pub invariant-loop-code : goal.invariant-loop-code
invariant-loop-code l = walk 0 l.codes l.fn.self.rest.now ≡ walk l.over (drop l.code-index l.codes) l.self.rest.now
