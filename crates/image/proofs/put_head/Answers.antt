use native.Mathlib.Omega.{arith}
use Rattle.std.proofs.Common.{rules}
use Rattle.parts.specs.DigitLaws.{length_digits}
use Rattle.image.proofs.FrontSteps.{length-entry, head-laid}
use Rattle.image.proofs.put_head.Goals as goal

pub put_entry-q-requires : goal.put_entry-q-requires
put_entry-q-requires c = omega (arith, c.put_digits-p.ensures.place, length_digits 4 c.args.c.now.format_version)

pub put_entries-requires-clause-room : goal.put_entries-requires-clause-room
put_entries-requires-clause-room c = omega (arith, c.put_digits-p.ensures.place, c.put_entry-q.ensures.place, length-entry, length_digits 4 c.args.c.now.format_version)

pub returns : goal.returns
returns c =
    let entry = rw c.first.ensures at c.put_entry-q.ensures in
    let entries = rw c.first.ensures at c.put_entries.ensures in
    head-laid c.args.c.now c.args.size c.put_digits-p.ensures entry entries (search rules) c.requires.room
