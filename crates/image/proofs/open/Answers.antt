use Rattle.std.proofs.Common.{rules}
use mathlib.Core.Path.{◌∙◌, sym, ap}
use Rattle.std.specs.Prelude.{Some}
use Rattle.image.specs.Layout.{read_image}
use Rattle.image.proofs.Steps.{opened-none, opened_some, read-long}
use Rattle.image.proofs.open.Goals as goal

pub returns-then-not-is_image : goal.returns-then-not-is_image
returns-then-not-is_image c = opened-none (read_image c.args.s.now) (sym c.is_image.ensures ∙ c.if-not-is_image.true)

pub contents-requires : goal.contents-requires
contents-requires c = read-long c.args.s.now (search rules) (sym c.is_image.ensures ∙ c.if-not-is_image.false)

pub returns : goal.returns
returns c = ap Some c.contents.ensures ∙ opened_some c.args.s.now (search rules) (sym c.is_image.ensures ∙ c.if-not-is_image.false)
