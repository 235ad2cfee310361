use Rattle.std.proofs.Common.{refl, arith}
use Rattle.clock.specs.Parts.{start-filled, body_is, body_filled}
use Rattle.clock.proofs.body_parts.Goals as goal

pub stays-requires : goal.stays-requires
stays-requires c = (omega (arith, c.requires, c.rows.ensures.left), refl, start-filled _ c.saturating_sub.result)

pub returns : goal.returns
returns c =
    let r = c.rows.ensures in
    let call = c.args.call.now in
    let added = rw (r.bytes, r.at, r.left) at c.stays.ensures in
    record {
      body_is = body_is c.args.tick call.image.now call.contents.now _ _ c.requires c.saturating_sub.ensures added;
      filled = body_filled c.args.tick call.image.now call.contents.now _ _ c.requires c.saturating_sub.ensures added;
    }
