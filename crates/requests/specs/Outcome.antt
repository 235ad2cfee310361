-- Outcomes as bytes: a byte 0 to 6 in declared order, then the fields.
use Rattle.std.specs.Prelude.{ℕ, zero, suc, ◌≤◌, List, [], ◌∷◌, leb, length}
use Rattle.state.specs.Maps.{Text}
use Rattle.machine.specs.Actions.{Outcome, Applied, DeleteReserved, LeaseAcquired, LeaseRenewed, LeasesExpired, CollectionPrepared, CollectionPublished}
use Rattle.fields.specs.Format.{Malformed, OverLimit, Res, ok, bad, bind, check, byte, enc_text, read_text, all, Field, El, enc, dec, TextOk, Every, Within}
use Rattle.image.specs.Contents.{Reply, whole}
use Rattle.image.specs.Shapes.{short, lease, job, permit, receipt, lease_parts, lease_from, job_parts, job_of, permit_parts, permit_from, receipt_parts, receipt_from}
use Rattle.image.specs.Layout.{most_leases}

-- A LIST of texts: how many they are and each, in whatever order they stand. `lease_ids` is one, of up to as many as there are leases.
unfoldable pub enc_list : List Text → List ℕ
enc_list ts = length ts ∷ all enc_text ts

unfoldable pub read_texts : (limit n : ℕ) → List ℕ → Res (List Text)
read_texts limit zero s = ok [] s
read_texts limit (suc n) s = bind (read_text limit s) (λ t r. bind (read_texts limit n r) (λ ts r. ok (t ∷ ts) r))

unfoldable pub read_list : (most limit : ℕ) → List ℕ → Res (List Text)
read_list most limit s = bind (byte s) (λ n r. check (leb n most) OverLimit (read_texts limit n r))

pub record ListOk (most limit : ℕ) (ts : List Text) : Type 0 where
  pub count : length ts ≤ most
  pub each : Every (TextOk limit) ts

unfoldable pub encode_outcome : Outcome → List ℕ
encode_outcome Applied = 0 ∷ []
encode_outcome (DeleteReserved p) = 1 ∷ enc permit (permit_parts p)
encode_outcome (LeaseAcquired t) = 2 ∷ enc lease (lease_parts t)
encode_outcome (LeaseRenewed t) = 3 ∷ enc lease (lease_parts t)
encode_outcome (LeasesExpired ids) = 4 ∷ enc_list ids
encode_outcome (CollectionPrepared t) = 5 ∷ enc job (job_parts t)
encode_outcome (CollectionPublished r) = 6 ∷ enc receipt (receipt_parts r)

abbrev pub WithinOutcome : Outcome → Type 0
WithinOutcome Applied = Unit {0}
WithinOutcome (DeleteReserved p) = Within permit (permit_parts p)
WithinOutcome (LeaseAcquired t) = Within lease (lease_parts t)
WithinOutcome (LeaseRenewed t) = Within lease (lease_parts t)
WithinOutcome (LeasesExpired ids) = ListOk most_leases short ids
WithinOutcome (CollectionPrepared t) = Within job (job_parts t)
WithinOutcome (CollectionPublished r) = Within receipt (receipt_parts r)

-- and read again, by a caller: what the fields behind each byte make
abbrev made : (f : Field) → (El f → Outcome) → List ℕ → Res Outcome
made f make s = bind (dec f s) (λ v r. ok (make v) r)

unfoldable pub read_outcome : ℕ → List ℕ → Res Outcome
read_outcome zero s = ok Applied s
read_outcome (suc zero) s = made permit (λ v. DeleteReserved (permit_from v)) s
read_outcome (suc (suc zero)) s = made lease (λ v. LeaseAcquired (lease_from v)) s
read_outcome (suc (suc (suc zero))) s = made lease (λ v. LeaseRenewed (lease_from v)) s
read_outcome (suc (suc (suc (suc zero)))) s = bind (read_list most_leases short s) (λ ids r. ok (LeasesExpired ids) r)
read_outcome (suc (suc (suc (suc (suc zero))))) s = made job (λ v. CollectionPrepared (job_of v)) s
read_outcome (suc (suc (suc (suc (suc (suc zero)))))) s = made receipt (λ v. CollectionPublished (receipt_from v)) s
read_outcome (suc (suc (suc (suc (suc (suc (suc k))))))) s = bad Malformed

unfoldable pub decode_outcome : List ℕ → Reply Outcome
decode_outcome s = whole (bind (byte s) (λ k r. read_outcome k r))
