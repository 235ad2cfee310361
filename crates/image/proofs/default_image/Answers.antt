use mathlib.Core.Path.{ap, ◌∙◌}
use Rattle.parts.specs.Answer.{written_of, laid_over}
use Rattle.image.proofs.FrontLaws.{front-held}
use Rattle.image.proofs.Default.{default-contents, default_is}
use Rattle.image.proofs.default_image.Goals as goal

pub returns : goal.returns
returns c =
    let none = default-contents c.default.result c.default.ensures in
    let e = default_is none c.as_slice-bytes.result.now (c.as_slice-bytes.ensures ∙ (front-held _ c.front_of-front.ensures.bytes c.front_of-front.ensures.len).1) in
    let out = c.args.out.now in
    record {
      answer = c.write.ensures.answer ∙ ap (written_of out) e;
      bytes = c.write.ensures.bytes ∙ ap (laid_over out) e;
    }
