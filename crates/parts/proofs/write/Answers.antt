use Rattle.std.proofs.Common.{sym, ◌∙◌, length, le-leb, arith}
use Rattle.std.proofs.lemmas.Bool.{lt-leb}
use Rattle.std.proofs.lemmas.Result.{err_from_is_err_and}
use Rattle.parts.specs.Size.{size_of, size-over}
use Rattle.parts.specs.Gather.{gather_of}
use Rattle.parts.proofs.Steps.{refused-is}
use Rattle.parts.proofs.write.Goals as goal

pub returns-in_err-n : goal.returns-in_err-n
returns-in_err-n c = let a = c.args in
    let q = size-over (length a.out.now) (length (gather_of a.a.now a.b.now a.parts.now)) (sym c.in_err-n.ensures.ok_part ∙ c.measure.ensures) in
    let p = err_from_is_err_and c.from_residual.result c.from_residual.ensures.1 in
    record {
      answer = rw (p.1, p.2, refused-is c.in_err-n.ensures.ok_part c.in_err-n.ensures.value) (simp (lt-leb _ _ q));
      bytes = simp (lt-leb _ _ q);
    }

pub gather-requires : goal.gather-requires
gather-requires c = let a = c.args in let q = size_of (length a.out.now) (length (gather_of a.a.now a.b.now a.parts.now)) _ (sym c.in_ok-n.ensures.ok_part ∙ c.measure.ensures) in omega arith

pub returns : goal.returns
returns c = let a = c.args in let q = size_of (length a.out.now) (length (gather_of a.a.now a.b.now a.parts.now)) _ (sym c.in_ok-n.ensures.ok_part ∙ c.measure.ensures) in record {
  answer = simp (le-leb _ _ q.0, q.1);
  bytes = simp (le-leb _ _ q.0) c.gather.ensures.is;
}
