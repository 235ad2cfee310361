-- ASCII is UTF-8; any other text is read char by char.
use Rattle.std.proofs.Common.{sym, ◌∙◌}
use Rattle.text.proofs.Utf8Steps.{ascii-utf8}
use Rattle.text.proofs.is_utf8.Goals as goal

pub returns-then-is_ascii : goal.returns-then-is_ascii
returns-then-is_ascii c = cc (ascii-utf8 c.args.s.now (sym c.is_ascii.ensures ∙ c.if-is_ascii.true))
