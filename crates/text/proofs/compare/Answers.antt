use Rattle.std.proofs.Common.{arith, ◌∙◌}
use Rattle.text.proofs.Decides.{word_on, word_tells, byte_tells, end_differs, end_same}
use Rattle.text.proofs.compare.Goals as goal

pub loop-k-preserved : goal.loop-k-preserved
loop-k-preserved c = (
  omega arith,
  word_on c.args.a.now c.args.b.now c.min-n.result c.min-n.ensures c.loop-k.k c.loop-k-test.true c.loop-k.invariant.1
      c.as_chunks.result.0.now c.as_chunks-2.result.0.now c.as_chunks.ensures.front c.as_chunks-2.ensures.front c.if-ne.ensures,
)

pub returns-then-ne : goal.returns-then-ne
returns-then-ne c = c.differ.ensures ∙ word_tells c.args.a.now c.args.b.now c.min-n.result c.min-n.ensures c.loop-k.k c.loop-k-test.true c.loop-k.invariant.1
    c.as_chunks.result.0.now c.as_chunks-2.result.0.now c.as_chunks.ensures.front c.as_chunks-2.ensures.front c.if-ne.ensures
    (λ j. omega (arith, c.type_inv.a j)) (λ j. omega (arith, c.type_inv.b j)) c.earlier.result c.earlier.ensures

pub returns-then-a-i : goal.returns-then-a-i
returns-then-a-i c = c.differ-then-a-i.ensures ∙ byte_tells c.args.a.now c.args.b.now c.min-n.result c.min-n.ensures c.loop-i.i c.loop-i.invariant
    c.steps_of.result c.steps_of.ensures (omega arith) c.loop-i-test.true c.if-a-i.true

pub returns-then-a-b : goal.returns-then-a-b
returns-then-a-b c = c.differ-then-a-b.ensures ∙ end_differs c.args.a.now c.args.b.now c.min-n.result c.min-n.ensures c.loop-i.i c.loop-i.invariant
    c.steps_of-then-a-b.result (omega arith) (omega arith) c.if-a-b.true

pub returns : goal.returns
returns c = end_same c.args.a.now c.args.b.now c.min-n.result c.min-n.ensures c.loop-i.i c.loop-i.invariant c.steps_of-2.result (omega arith) (omega arith) c.if-a-b.false
