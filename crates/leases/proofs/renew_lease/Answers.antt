use mathlib.Core.Path.{refl}
use Rattle.refusals.proofs.NumberLaws.{number-nonzero}
use Rattle.image.specs.Layout.{leases}
use Rattle.next.specs.Call.{refused_exit}
use Rattle.edits.specs.PlaceLaws.{located_as}
use Rattle.leases.specs.Renew.{renew-refused, renewing}
use Rattle.leases.proofs.renew_lease.Goals as goal

pub returns-in_err-renew_refusal : goal.returns-in_err-renew_refusal
returns-in_err-renew_refusal c = let r = c.requires in refused_exit r _ c.from_residual.ensures.1 (renew-refused r (located_as leases c.text_of-id.ensures c.locate-p.ensures) c.row-row.ensures c.lease_token_at-held.ensures c.in_err-renew_refusal.ensures (number-nonzero _))

pub put_renewed-requires : goal.put_renewed-requires
put_renewed-requires c = renewing c.requires (located_as leases c.text_of-id.ensures c.locate-p.ensures) c.row-row.ensures c.lease_token_at-held.ensures c.in_ok-renew_refusal.ensures refl
