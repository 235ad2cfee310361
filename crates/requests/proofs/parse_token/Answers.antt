use Rattle.std.proofs.Common.{ap, ◌∙◌, arith}
use Rattle.std.proofs.lemmas.Grind.{common_steps}
use Rattle.requests.specs.Meaning.{token_read_of}
use Rattle.requests.proofs.Heads.{token_steps, token_means}
use Rattle.requests.proofs.parse_token.Goals as goal

pub returns-in_err-check_record-clause-placed : goal.returns-in_err-check_record-clause-placed
returns-in_err-check_record-clause-placed c = rw (token_steps, ← c.check_record.ensures, c.in_err-check_record.was) (grind (arith, common_steps))

pub returns-in_err-check_record-clause-result_value : goal.returns-in_err-check_record-clause-result_value
returns-in_err-check_record-clause-result_value c = ap (token_read_of c.args.s.now) (returns-in_err-check_record-clause-placed c) ∙ token_means c.args.s.now

pub returns-clause-placed : goal.returns-clause-placed
returns-clause-placed c = rw (token_steps, ← c.check_record.ensures, c.in_ok-check_record.was, ← c.lease_token_at.ensures)

pub returns-clause-result_value : goal.returns-clause-result_value
returns-clause-result_value c = ap (token_read_of c.args.s.now) (returns-clause-placed c) ∙ token_means c.args.s.now
