use mathlib.Core.Path.{refl}
use Rattle.refusals.proofs.NumberLaws.{number-nonzero}
use Rattle.image.specs.Layout.{leases}
use Rattle.next.specs.Call.{refused_exit}
use Rattle.edits.specs.PlaceLaws.{located_as}
use Rattle.leases.specs.Acquire.{acquire-refused, acquiring}
use Rattle.leases.proofs.acquire_lease.Goals as goal

pub returns-in_err-acquire_refusal : goal.returns-in_err-acquire_refusal
returns-in_err-acquire_refusal c = let r = c.requires in refused_exit r _ c.from_residual.ensures.1 (acquire-refused r (located_as leases c.text_of-id.ensures c.locate-p.ensures) c.in_err-acquire_refusal.ensures (number-nonzero _))

pub put_lease-requires : goal.put_lease-requires
put_lease-requires c = acquiring c.requires (located_as leases c.text_of-id.ensures c.locate-p.ensures) c.in_ok-acquire_refusal.ensures refl
