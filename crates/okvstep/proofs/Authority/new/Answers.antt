use Rattle.std.proofs.Common.{ℕ, replicate}
use Rattle.std.proofs.lemmas.List.{length-replicate}
use Rattle.okvstep.proofs.Steps.{first-within, first_moment}
use Rattle.okvstep.proofs.Authority.new.Goals as goal

pub returns-clause-moment : goal.returns-clause-moment
returns-clause-moment c =
    let w = c.default_image in
    let d = replicate {A = ℕ} 16384 0 in
    let h = length-replicate {A = ℕ} 16384 0 in
    (first_moment d w.new.out w.result _ c.unwrap_or-size.ensures h w.ensures.answer w.ensures.bytes, first-within d w.new.out w.result _ c.unwrap_or-size.ensures h w.ensures.answer w.ensures.bytes)
