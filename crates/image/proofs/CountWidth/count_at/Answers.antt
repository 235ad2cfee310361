use mathlib.Core.Path.{sym, ◌∙◌}
use Rattle.image.proofs.PlacedLaws.{value-one, value-two}
use Rattle.image.proofs.CountWidth.count_at.Goals as goal

pub returns-in-One : goal.returns-in-One
returns-in-One c = rw c.in-One.is (c.byte_at-low.ensures ∙ sym (value-one c.args.s.now c.args.at))

pub returns-in-Two : goal.returns-in-Two
returns-in-Two c = rw (c.in-Two.is, c.byte_at-low.ensures, c.byte_at.ensures) (sym (value-two c.args.s.now c.args.at))
