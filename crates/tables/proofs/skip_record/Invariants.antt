use Rattle.std.proofs.Common.{◌≡◌, drop}
use Rattle.fields.specs.Codes.{skip}
use Rattle.tables.proofs.skip_record.Given as goal

abbrev pub invariant-loop-code : goal.invariant-loop-code
invariant-loop-code l = skip 0 l.codes (drop l.at l.s) ≡ skip l.here.over (drop l.code-index l.codes) (drop l.here.at l.s)
