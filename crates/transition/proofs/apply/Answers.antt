use Rattle.std.proofs.Common.{◌≡◌, None, Some, sym, arith}
use Rattle.std.proofs.lemmas.Grind.{common_steps}
use Rattle.image.proofs.OpenedLaws.{opened_as, not_opened}
use Rattle.transition.specs.Asked.{asked_of, no-image, no-request}
use Rattle.transition.proofs.apply.Goals as goal

pub returns-in_err-contents : goal.returns-in_err-contents
returns-in_err-contents c =
    let a = c.args in
    let none : c.open.result ≡ None = grind (arith, common_steps) in
    let g = no-image a.image.now a.request.now _ c.from_residual.ensures.1 (grind (arith, common_steps)) (not_opened a.image.now _ c.open.ensures none) in
    record { answer = g.answer; bytes = g.image; told = g.outcome }

pub returns-in_err-asked : goal.returns-in_err-asked
returns-in_err-asked c =
    let a = c.args in
    let some : c.open.result ≡ Some c.in_ok-contents.contents = grind (arith, common_steps) in
    let opened = opened_as a.image.now _ c.open.ensures (λ i. omega (arith, c.type_inv.image i)) _ some in
    let g = no-request a.image.now a.request.now _ _ c.from_residual-in_err-asked.ensures.1 opened.reads (sym c.in_err-asked.ensures.result_value) in
    record { answer = g.answer; bytes = g.image; told = g.outcome }

pub apply_request-requires : goal.apply_request-requires
apply_request-requires c =
    let a = c.args in
    let some : c.open.result ≡ Some c.in_ok-contents.contents = grind (arith, common_steps) in
    let opened = opened_as a.image.now _ c.open.ensures (λ i. omega (arith, c.type_inv.image i)) _ some in
    asked_of a.image.now a.request.now _ c.in_ok-asked.asked opened (λ i. omega (arith, c.type_inv.request i)) c.in_ok-asked.ensures.result_value c.in_ok-asked.ensures.placed

pub returns : goal.returns
returns c = let g = c.apply_request.ensures in record { answer = g.answer; bytes = g.image; told = g.outcome }
