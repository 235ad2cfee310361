use Rattle.transition.specs.Asked.{other_format, no-generation, no_index, ready_of}
use Rattle.transition.proofs.apply_request.Goals as goal

pub returns-then-call-ne1 : goal.returns-then-call-ne1
returns-then-call-ne1 c = other_format c.requires c.if-call-ne1.true

pub returns-then-call-eq0 : goal.returns-then-call-eq0
returns-then-call-eq0 c = no-generation c.requires c.if-call-ne1.false c.if-call-eq0.true

pub returns-then-call-eq0-2 : goal.returns-then-call-eq0-2
returns-then-call-eq0-2 c = no_index c.requires c.if-call-ne1.false c.if-call-eq0.false c.if-call-eq0-2.true

pub apply_action-requires : goal.apply_action-requires
apply_action-requires c = ready_of c.requires c.if-call-ne1.false c.if-call-eq0.false c.if-call-eq0-2.false
