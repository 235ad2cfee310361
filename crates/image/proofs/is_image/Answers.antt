use borrow.Author.Tests.{ne_eqb}
use mathlib.Core.Path.{◌∙◌, sym}
use Rattle.image.proofs.Steps.{in_base, in_none}
use Rattle.image.proofs.is_image.Goals as goal

pub returns-then-offset-first : goal.returns-then-offset-first
returns-then-offset-first c = c.is_image.ensures ∙ in_base c.args.s.now (sym c.u32_at-offset.ensures ∙ c.if-offset-first.true ∙ c.first.ensures)

pub returns-else-offset-first : goal.returns-else-offset-first
returns-else-offset-first c =
    let n = c.if-offset-first.false in
    rw (ne_eqb _ _ n) (in_none c.args.s.now (λ z. n (c.u32_at-offset.ensures ∙ z ∙ sym c.first.ensures)))
