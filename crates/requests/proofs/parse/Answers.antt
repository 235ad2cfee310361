use Rattle.std.proofs.Common.{ap, ◌∙◌}
use Rattle.requests.specs.Meaning.{parsed_of}
use Rattle.requests.proofs.Heads.{parsed_steps, parsed_means}
use Rattle.requests.proofs.parse.Goals as goal

-- the cursor's places are those of the steps
pub returns-clause-placed : goal.returns-clause-placed
returns-clause-placed c =
    let flags = rw c.context-context.ensures.on at c.flags.ensures.value in
    let flags_on = rw c.context-context.ensures.on at c.flags.ensures.on in
    let byte = rw flags_on at c.byte.ensures.value in
    let byte_on = rw flags_on at c.byte.ensures.on in
    let checked = rw (byte_on, c.shape.ensures) at c.check_record.ensures in
    let action = rw byte_on at c.action.ensures in
    rw (
      parsed_steps,
      ← c.walk_record.ensures.read,
      c.in_ok-walk_record.was,
      ← flags,
      ← c.try_from.ensures,
      c.in_ok-faults.was,
      ← byte,
      ← c.try_from-2.ensures,
      c.in_ok-tag.was,
      ← checked,
      c.in_ok-check_record.was,
      ← c.context-context.ensures.value,
      ← action,
    )

pub returns-clause-result_value : goal.returns-clause-result_value
returns-clause-result_value c = ap (parsed_of c.args.s.now) (returns-clause-placed c) ∙ parsed_means c.args.s.now
