use mathlib.Core.Path.{refl, ◌∙◌}
use Rattle.image.specs.Placed.{bytes_of}
use Rattle.image.proofs.Steps.{entry_is}
use Rattle.image.proofs.Layout.entry.Goals as goal

pub returns : goal.returns
returns c =
    (λ i. record { at = c.u32_at.ensures i; size = c.u32_at-2.ensures i; count = c.count_at.ensures i })
    ∙ entry_is c.args.s.now (bytes_of c.args.self.now.counts) c.args.body c.entry_size-size.result c.entry_size-size.ensures _ refl
