-- The loop has passed whole chars: the text is UTF-8 exactly where what is left is.
use Rattle.std.proofs.Common.{◌≡◌, length}
use Rattle.text.specs.Utf8.{utf8}
use Rattle.text.proofs.is_chars.Given as goal

abbrev pub invariant-loop-n : goal.invariant-loop-n
invariant-loop-n l = utf8 l.s ≡ utf8 l.rest

abbrev pub decreases-loop-n : goal.decreases-loop-n
decreases-loop-n l = length l.rest
