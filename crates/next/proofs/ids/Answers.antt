use Rattle.std.proofs.Common.{ℕ, List, ◌+◌, length, ap, arith}
use Rattle.next.specs.Outcome.{listed_none, listed_on}
use Rattle.next.proofs.ids.Goals as goal

pub loop-i-init : goal.loop-i-init
loop-i-init c = listed_none c.args.s.now 2 c.args.parts.now c.requires.2

pub loop-i-preserved : goal.loop-i-preserved
loop-i-preserved c = let a = c.args in
    let l = c.loop-i in
    listed_on a.s.now 2 a.parts.now a.places.now l.i c.loop-i-test.true (omega (arith, c.requires.0, c.requires.1)) l.parts _ l.invariant (ap (λ (t : List ℕ). length t + 1) c.text_at-id.ensures)
