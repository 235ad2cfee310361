use Rattle.std.specs.Prelude.{ℕ, ◌≡◌, refl, length, Result, Ok, Err}
use Rattle.std.proofs.Common.{◌∙◌}
use Rattle.parts.specs.Answer.{Answer, no, yes, status_of, image_of}
use Rattle.entries.proofs.Agrees.{written_as, default-written, default-laid}
use Rattle.okv.proofs.okv_default.Goals as goal

written : (a : Answer) (n : ℕ) → ◌≡◌ {A = Result ℕ ℕ} (Ok n) (written_as a) → (0 ≡ status_of a) × (n ≡ length (image_of a))
written (no k) n e = absurd cc
written (yes x y) n e = (refl, cc)

not_written : (a : Answer) (n : ℕ) → ◌≡◌ {A = Result ℕ ℕ} (Err n) (written_as a) → (n ≡ status_of a) × (0 ≡ length (image_of a))
not_written (no k) n e = (cc, refl)
not_written (yes x y) n e = absurd cc

pub returns-in-Ok : goal.returns-in-Ok
returns-in-Ok c = let w = written _ _ (c.in-Ok.ensures.answer ∙ default-written c.args.image.now) in record {
  status = w.0;
  size = w.1;
  bytes = c.in-Ok.ensures.bytes ∙ default-laid c.args.image.now;
}

pub returns-in-Err : goal.returns-in-Err
returns-in-Err c = let w = not_written _ _ (c.in-Err.ensures.answer ∙ default-written c.args.image.now) in record {
  status = c.number.ensures ∙ w.0;
  size = w.1;
  bytes = c.in-Err.ensures.bytes ∙ default-laid c.args.image.now;
}
