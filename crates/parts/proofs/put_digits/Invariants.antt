use Rattle.std.proofs.Common.{◌≡◌, ◌-◌, ◌++◌, length, take}
use Rattle.parts.specs.Digits.{digits}
use Rattle.parts.proofs.put_digits.Given as goal

abbrev pub invariant-loop-byte : goal.invariant-loop-byte
invariant-loop-byte l = (length l.byte-items ≡ l.n) × (take l.byte-index l.byte-items ++ digits (l.n - l.byte-index) l.rest ≡ digits l.n l.v)
