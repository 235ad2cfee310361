use native.Mathlib.Omega.{arith}
use mathlib.Core.Path.{ap, ◌∙◌}
use Prim.Native.Nat.{◌+◌}
use Rattle.std.proofs.Common.{rules, tests}
use Rattle.image.specs.Opened.{nowhere}
use Rattle.image.specs.Placed.{bytes_of, body_at, scalars_at}
use Rattle.image.proofs.Steps.{given-all, tables-placed}
use Rattle.image.proofs.Layout.contents.Goals as goal

pub returns : goal.returns
returns c =
    let s = c.args.s.now in
    let a = bytes_of c.args.self.now.counts in
    let tables = given-all _ _ (λ k. body_at s a (k + 1)) (λ i y q k. search (rules, tests)) c.from_fn.result nowhere 6 c.from_fn.ensures.items ∙ tables-placed s a 6 (4 + (8 + a)) 0 (omega arith) in
    λ i. record { format_version = c.u32_at.ensures i; scalars = (c.scalars_at.ensures ∙ ap (scalars_at s) c.first.ensures) i; tables = tables i }
