-- Both texts are the same in the words passed, and then in the bytes passed.
use Rattle.std.proofs.Common.{◌≡◌, ◌*◌, ◌≤◌, ◌/◌, take}
use Rattle.text.proofs.compare.Given as goal

abbrev pub invariant-loop-k : goal.invariant-loop-k
invariant-loop-k l = (l.k ≤ l.n / 8) × (take (8 * l.k) l.a ≡ take (8 * l.k) l.b)

abbrev pub invariant-loop-i : goal.invariant-loop-i
invariant-loop-i l = take l.i l.a ≡ take l.i l.b
