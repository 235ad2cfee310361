use native.Mathlib.Omega.{arith}
use Rattle.std.proofs.Common.{rules}
use Rattle.image.proofs.FrontLaws.{laid-front, front_fits, length-head}
use Rattle.std.specs.Prelude.{◌≡◌, length}
use lib.ListN.{length-append}
use Rattle.image.specs.Front.{head_of, scalars_size, scalars_front}
use Rattle.image.proofs.front_of.Goals as goal

pub put_scalars-len-requires-clause-room : goal.put_scalars-len-requires-clause-room
put_scalars-len-requires-clause-room c = omega (arith, c.put_head-p.ensures.place, length-head c.args.c.now c.size-size.result (search rules))

pub invariant_of-result : goal.invariant_of-result
invariant_of-result c =
    let c' = c.args.c.now in
    let f = front_fits c.args.x.now c' c.requires (search rules) in
    let l = length-append (head_of c' (scalars_size c'.scalars)) (scalars_front c.args.x.now c'.scalars) in
    let p = (rw c.size-size.ensures at c.put_head-p.ensures).place in
    let n : length c.put_scalars-len.new.out ≡ 232 = search rules in
    omega (arith, c.put_scalars-len.ensures.place)

pub returns : goal.returns
returns c =
    let w = laid-front c.args.x.now c.args.c.now c.requires (search rules) (rw c.size-size.ensures at c.put_head-p.ensures) c.put_scalars-len.ensures in
    record { bytes = w.0; len = w.1 }
