-- no more than there is room for, and so many places
use Rattle.std.proofs.Common.{refl, arith}
use lib.Seq.{length-take-le}
use Rattle.next.specs.Outcome.{two-filled, places-low, expired_as}
use Rattle.next.proofs.expired_parts.Goals as goal

pub ids-requires : goal.ids-requires
ids-requires c = let e = c.in_order-ended in
    let few = places-low c.args.s.now c.args.o.now c.requires e.result e.ensures.value in
    (omega (arith, few, length-take-le e.result e.new.out), refl, two-filled e.result)

pub returns : goal.returns
returns c = let e = c.in_order-ended in expired_as c.args.s.now c.args.o.now c.requires _ _ _ e.result e.ensures.value e.ensures.places c.ids.ensures
