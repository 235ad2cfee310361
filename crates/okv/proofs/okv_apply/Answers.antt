use Rattle.std.proofs.Common.{ap, ◌∙◌}
use Rattle.parts.specs.Answer.{Told}
use Rattle.okv.proofs.okv_apply.Goals as goal

pub returns-in-Ok : goal.returns-in-Ok
returns-in-Ok c = let answer = c.in-Ok.ensures.answer in record {
  status = ap (λ (t : Told). t.status) answer;
  size = ap (λ (t : Told). t.image) answer;
  told = ap (λ (t : Told). t.outcome) answer;
  bytes = c.in-Ok.ensures.bytes;
  outcome = c.in-Ok.ensures.told;
}

pub returns-in-Err : goal.returns-in-Err
returns-in-Err c = let answer = c.in-Err.ensures.answer in record {
  status = c.number.ensures ∙ ap (λ (t : Told). t.status) answer;
  size = ap (λ (t : Told). t.image) answer;
  told = ap (λ (t : Told). t.outcome) answer;
  bytes = c.in-Err.ensures.bytes;
  outcome = c.in-Err.ensures.told;
}
