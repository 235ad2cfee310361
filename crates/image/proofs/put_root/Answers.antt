use native.Mathlib.Omega.{arith}
use mathlib.Core.Path.{ap}
use Prim.Native.Nat.{◌+◌, ◌-◌}
use lib.ListN.{length, drop, length-take}
use Rattle.parts.specs.DigitLaws.{length_digits}
use Rattle.parts.specs.Over.{then}
use Rattle.image.proofs.put_root.Goals as goal

pub put-requires : goal.put-requires
put-requires c =
    let t = c.in-Some.t in
    let r = rw c.in-Some.is at c.requires in
    omega (arith, c.put_digits-p.ensures.place, length_digits 1 1, ap length c.clip.ensures, length-take (t.len + 1) (drop c.saturating_sub.result c.args.x.now))

pub returns-in-Some : goal.returns-in-Some
returns-in-Some c =
    let t = c.in-Some.t in
    let r = rw c.in-Some.is at c.requires in
    let w = rw (c.clip.ensures, c.saturating_sub.ensures) at c.put.ensures in
    rw c.in-Some.is (then c.put_digits-p.ensures w (omega (arith, length_digits 1 1, length-take (t.len + 1) (drop (t.at - 1) c.args.x.now))))
