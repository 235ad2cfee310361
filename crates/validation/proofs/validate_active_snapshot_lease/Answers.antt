use Rattle.std.proofs.Common.{◌≡◌, None, Some, sym, ◌∙◌, arith}
use Rattle.std.proofs.lemmas.Grind.{common_steps}
use Rattle.image.proofs.OpenedLaws.{opened_as, not_opened}
use Rattle.requests.proofs.Faults.{token-faults}
use Rattle.validation.specs.Validation.{ready-token, not_an_image, not_a_token, tests_validate}
use Rattle.validation.proofs.validate_active_snapshot_lease.Goals as goal

pub returns-in_err-c-clause-answers : goal.returns-in_err-c-clause-answers
returns-in_err-c-clause-answers c =
    let none : c.open.result ≡ None = grind (arith, common_steps) in
    grind (arith, common_steps, not_an_image c.args.image.now c.args.token.now (not_opened c.args.image.now _ c.open.ensures none))

pub returns-in_err-t-clause-answers : goal.returns-in_err-t-clause-answers
returns-in_err-t-clause-answers c =
    let some : c.open.result ≡ Some c.in_ok-c.c = grind (arith, common_steps) in
    let opened = opened_as c.args.image.now _ c.open.ensures (λ i. omega (arith, c.type_inv.image i)) _ some in
    grind (arith, common_steps, not_a_token c.args.image.now c.args.token.now _ _ opened.reads (sym c.in_err-t.ensures.result_value))

pub returns-in_err-t-clause-unread : goal.returns-in_err-t-clause-unread
returns-in_err-t-clause-unread c r h = grind (arith, common_steps, (token-faults c.args.token.now _ (sym c.in_err-t.ensures.result_value)).low)

pub returns-clause-answers : goal.returns-clause-answers
returns-clause-answers c =
    let some : c.open.result ≡ Some c.in_ok-c.c = grind (arith, common_steps) in
    let opened = opened_as c.args.image.now _ c.open.ensures (λ i. omega (arith, c.type_inv.image i)) _ some in
    let ready = ready-token c.args.image.now c.args.token.now _ c.in_ok-t.t opened (λ i. omega (arith, c.type_inv.token i)) c.in_ok-t.ensures.result_value in
    c.validate_opened.ensures.answers ∙ sym (tests_validate ready)
