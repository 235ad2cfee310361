-- Where the fields of an action that `parse` has read stand, as sums of lengths: for who writes runs of the request.
use Rattle.std.specs.Prelude.{ℕ, ◌+◌, List, [], ◌≡◌, refl, length}
use Rattle.std.proofs.Common.{ap, ◌∙◌}
use Rattle.image.specs.declared.Contents.{Contents}
use Rattle.requests.specs.Request.{action_parts}
use Rattle.requests.specs.Meaning.{text_of, action_of, request_of}
use Rattle.requests.specs.Positions.{acquire_in, collect_in, receipt_in, reserve_in, action_in}
use Rattle.requests.proofs.PositionLaws.{Written, first, text-length}
use Rattle.requests.proofs.RequestPlaces.{fields_written, acquire-lease_id, acquire-owner, acquire-end, collect-job_id, collect-frozen_floor, collect-end, receipt-job_id, receipt-end, reserve-plan_id, reserve-key, reserve-end}
use Rattle.requests.specs.declared.AuthorityContext.{AuthorityContext as ContextAt}
use Rattle.requests.specs.declared.PublicationAuthorityFaults.{PublicationAuthorityFaults as FaultsAt}
use Rattle.requests.specs.declared.PublicationAction.{PublicationAction}
use Rattle.requests.specs.declared.AcquireLease.{AcquireLease}
use Rattle.requests.specs.declared.PrepareCollection.{PrepareCollection}
use Rattle.requests.specs.declared.CollectionReceipt.{CollectionReceipt}
use Rattle.requests.specs.declared.ReserveDelete.{ReserveDelete}
use Rattle.requests.specs.declared.Request.{Request as RequestAt}
use Rattle.next.specs.Asked.{byte-here}
use Rattle.next.specs.Call.{Ready}

abbrev asks : ContextAt → FaultsAt → PublicationAction → RequestAt
asks u f a = record { context = u; faults = f; action = a }

module _ {x : List ℕ} {c : Contents} {q : List ℕ} {u : ContextAt} {f : FaultsAt} where
  -- the action is the one that the positions say
  action-is : {a : PublicationAction} → Ready x c q (asks u f a) → a ≡ action_in q (action_parts (action_of q a)).tag 27
  action-is {a} ready = ap (λ (r : RequestAt). r.action) ready.placed ∙ ap (λ (k : ℕ). action_in q k 27) (byte-here (request_of q (asks u f a)) q ready.request_is)

  written : {a : PublicationAction} → Ready x c q (asks u f a) → Written q (action_parts (action_of q a)).shape 27 (action_parts (action_of q a)).values []
  written {a} ready = fields_written q (request_of q (asks u f a)) ready.request_is ready.within (action_of q a) refl

  module _ {l : AcquireLease} (ready : Ready x c q (asks u f (PublicationAction.AcquireLease l))) where
    lease-is : l ≡ acquire_in q 27
    lease-is = let e = action-is ready in cc

    pub lease-places : (l.lease_id.at ≡ 28)
        × (l.owner.at ≡ 27 + (1 + length (text_of q l.lease_id)) + (1 + length (text_of q l.tenant_id)) + 8 + 1)
        × (l.closure.object_keys.at + l.closure.object_keys.len ≡ length q)
    lease-places = (
      ap (λ (k : AcquireLease). k.lease_id.at) lease-is ∙ acquire-lease_id (written ready),
      ap (λ (k : AcquireLease). k.owner.at) lease-is ∙ acquire-owner (written ready),
      ap (λ (k : AcquireLease). k.closure.object_keys.at + k.closure.object_keys.len) lease-is ∙ acquire-end (written ready),
    )

  module _ {l : PrepareCollection} (ready : Ready x c q (asks u f (PublicationAction.PrepareCollection l))) where
    job_is : l ≡ collect_in q 27
    job_is = let e = action-is ready in cc

    pub job-places : (l.job_id.at ≡ 28)
        × (l.job_id.at + l.job_id.len ≡ 27 + (1 + length (text_of q l.job_id)))
        × (l.output_namespace.at + l.output_namespace.len ≡ length q)
    job-places = (
      ap (λ (k : PrepareCollection). k.job_id.at) job_is ∙ collect-job_id (written ready),
      ap (λ (k : PrepareCollection). k.job_id.at + k.job_id.len) job_is ∙ collect-frozen_floor (written ready),
      ap (λ (k : PrepareCollection). k.output_namespace.at + k.output_namespace.len) job_is ∙ collect-end (written ready),
    )

  module _ {l : CollectionReceipt} (ready : Ready x c q (asks u f (PublicationAction.PublishCollection l))) where
    receipt-is : l ≡ receipt_in q 27
    receipt-is = let e = action-is ready in cc

    pub receipt-places : (l.token.job_id.at ≡ 28) × (l.object_keys.at + l.object_keys.len ≡ length q)
    receipt-places = (
      ap (λ (k : CollectionReceipt). k.token.job_id.at) receipt-is ∙ receipt-job_id (written ready),
      ap (λ (k : CollectionReceipt). k.object_keys.at + k.object_keys.len) receipt-is ∙ receipt-end (written ready),
    )

  module _ {l : ReserveDelete} (ready : Ready x c q (asks u f (PublicationAction.ReserveDelete l))) where
    permit-is : l ≡ reserve_in q 27
    permit-is = let e = action-is ready in cc

    pub permit-places : (l.plan_id.at ≡ 28)
        × (l.plan_id.len ≡ length (text_of q l.plan_id))
        × (l.key.at ≡ 27 + (1 + length (text_of q l.plan_id)) + 8 + 1)
        × (l.identity.sha256.at + l.identity.sha256.len ≡ length q)
    permit-places = (
      ap (λ (k : ReserveDelete). k.plan_id.at) permit-is ∙ reserve-plan_id (written ready),
      ap (λ (k : ReserveDelete). k.plan_id.len) permit-is ∙ text-length (first (written ready)),
      ap (λ (k : ReserveDelete). k.key.at) permit-is ∙ reserve-key (written ready),
      ap (λ (k : ReserveDelete). k.identity.sha256.at + k.identity.sha256.len) permit-is ∙ reserve-end (written ready),
    )
