-- A request or a token within the limits is read back; and what is read was written so and is within the limits.
use Rattle.std.specs.Prelude.{ℕ, zero, suc, ◌+◌, ◌^◌, ◌<◌, ◌≡◌, refl, List, [], ◌∷◌, ◌++◌, ltb, Option}
use Rattle.std.proofs.Common.{arith, sym, ap, ◌∙◌, subst, append-nil, lt-ltb, ltb-true}
use Rattle.parts.specs.Digits.{Bytes}
use Rattle.parts.specs.DigitLaws.{bytes_right}
use Rattle.state.specs.Records.{ObjectReference, SnapshotLeaseToken}
use Rattle.machine.specs.Actions.{Action, ObserveCommittedFrontier, SetRetentionWindow, ObserveRangeMapEpoch, ConfigureCollectionRoot, AcquireLease, RenewLease, ReleaseLease, AdvanceLeaseClock, PrepareCollection, PublishCollection, AbandonCollection, Prepare, Publish, Pin, Unpin, ReserveDelete, RetireDelete}
use Rattle.fields.specs.Format.{Malformed, ok, byte, Field, El, enc, dec, Within}
use Rattle.fields.proofs.FormatLaws.{never, bind_ok, check-ok, byte-ok, dec-enc, enc-dec}
use Rattle.image.specs.Contents.{answer, whole}
use Rattle.image.specs.Shapes.{u64, reference, lease, job, permit, receipt, each_option, option-there, reference_parts, reference_from, reference-there, reference-back, identity_parts, intent_parts, closure_parts, lease_parts, lease_from, job_parts, permit_parts, receipt_parts}
use Rattle.requests.specs.Cases.{read_case, write_parts}
use Rattle.requests.proofs.CaseLaws.{whole_is, dec-all, AllSay, case_written}
use Rattle.requests.specs.Flags.{faults_number}
use Rattle.requests.proofs.FlagLaws.{number_of-faults, faults-back, flags-below}
use Rattle.requests.specs.Request.{set_window, configure, acquire, renew, release, advance_clock, collect, prepare, publish, pin, unpin, reserve, actions, read_fields, read_action, action_parts, Request, head, request, head_parts, read_request, decode_request, encode_request, read_token, decode_token, encode_token, WithinAction, WithinRequest}

-- ACTIONS
abbrev write_action : Action → List ℕ
write_action a = write_parts (action_parts a)

abbrev prior_back : (o : Option (El reference)) → each_option reference_parts (each_option reference_from o) ≡ o
prior_back o = option-there reference_from reference_parts reference-back o

abbrev prior_there : (o : Option ObjectReference) → each_option reference_from (each_option reference_parts o) ≡ o
prior_there o = option-there reference_parts reference_from reference-there o

action-back : (a : Action) → WithinAction a → read_action (write_action a) ≡ ok a []
unfolding read_action read_fields read_case byte write_parts
action-back (ObserveCommittedFrontier n) h = rw (dec-all u64 n h)
action-back (SetRetentionWindow e n) h = rw (dec-all set_window (e, n) h)
action-back (ObserveRangeMapEpoch e) h = rw (dec-all u64 e h)
action-back (ConfigureCollectionRoot x r) h = rw (dec-all configure (x, r) h)
action-back (AcquireLease id t v o p d c) h = rw (dec-all acquire (id, (t, (v, (o, (p, (d, closure_parts c)))))) h)
action-back (RenewLease id e d) h = rw (dec-all renew (id, (e, d)) h)
action-back (ReleaseLease id e) h = rw (dec-all release (id, e) h)
action-back (AdvanceLeaseClock e n) h = rw (dec-all advance_clock (e, n) h)
action-back (PrepareCollection id f m r e x ns) h = rw (dec-all collect (id, (f, (reference_parts m, (r, (e, (x, ns)))))) h)
action-back (PublishCollection r) h = rw (dec-all receipt (receipt_parts r) h)
action-back (AbandonCollection t) h = rw (dec-all job (job_parts t) h)
action-back (Prepare id i) h =
    rw (dec-all prepare (id, intent_parts i) h)
    (λ j. ok (Prepare id (record { object_keys = i.object_keys; manifest = i.manifest; destination_root = i.destination_root; expected_prior_root = prior_there i.expected_prior_root j })) [])
action-back (Publish id r x m) h =
    rw (dec-all publish (id, (r, (each_option reference_parts x, reference_parts m))) h) (λ j. ok (Publish id r (prior_there x j) m) [])
action-back (Pin id x m) h = rw (dec-all pin (id, (each_option reference_parts x, reference_parts m)) h) (λ j. ok (Pin id (prior_there x j) m) [])
action-back (Unpin id x) h = rw (dec-all unpin (id, reference_parts x) h)
action-back (ReserveDelete p e k i) h = rw (dec-all reserve (p, (e, (k, identity_parts i))) h)
action-back (RetireDelete p) h = rw (dec-all permit (permit_parts p) h)

actions_say : AllSay write_action WithinAction 1 actions
unfolding write_parts
actions_say = (
  λ v h. (refl, h),
  (
    λ v h. (refl, h),
    (
      λ v h. (refl, h),
      (
        λ v h. (refl, h),
        (
          λ v h. (refl, h),
          (
            λ v h. (refl, h),
            (
              λ v h. (refl, h),
              (
                λ v h. (refl, h),
                (
                  λ v h. (refl, h),
                  (
                    λ v h. (refl, h),
                    (
                      λ v h. (refl, h),
                      (
                        λ v h. again 12 prepare (λ o. (v.0, (v.1.0, (v.1.1.0, (v.1.1.1.0, o))))) v.1.1.1.1 h,
                        (
                          λ v h. again 13 publish (λ o. (v.0, (v.1.0, (o, v.1.1.1)))) v.1.1.0 h,
                          (
                            λ v h. again 14 pin (λ o. (v.0, (o, v.1.1))) v.1.0 h,
                            (λ v h. (refl, h), (λ v h. (refl, h), (λ v h. (refl, h), tt))),
                          ),
                        ),
                      ),
                    ),
                  ),
                ),
              ),
            ),
          ),
        ),
      ),
    ),
  ),
)
  where
    -- an option of a reference, taken apart and put together again
    again : (n : ℕ) (f : Field) (with : Option (El reference) → El f) (o : Option (El reference)) → Within f (with o)
        → (n ∷ enc f (with (each_option reference_parts (each_option reference_from o))) ≡ n ∷ enc f (with o)) × Within f (with (each_option reference_parts (each_option reference_from o)))
    again n f with o h = (ap (λ (p : Option (El reference)). n ∷ enc f (with p)) (prior_back o), subst (λ (p : Option (El reference)). Within f (with p)) (sym (prior_back o)) h)

action-written : (s : List ℕ) (a : Action) (r : List ℕ) → Bytes s → read_action s ≡ ok a r → (s ≡ write_action a ++ r) × WithinAction a
unfolding read_action read_fields
action-written s a r b h =
    let (k, r₁, e₁, h₁) = bind_ok (byte s) _ a r h in
    let i : s ≡ k ∷ r₁ = byte-ok s k r₁ e₁ in
    fields k r₁ i (bytes_right (k ∷ []) r₁ (rw i at b)) h₁
  where
    fields : (k : ℕ) (r₁ : List ℕ) → s ≡ k ∷ r₁ → Bytes r₁ → read_fields k r₁ ≡ ok a r → (s ≡ write_action a ++ r) × WithinAction a
    fields zero r₁ i b h = absurd (never Malformed a r h)
    fields (suc k) r₁ i b h =
        let (j, w) = case_written write_action WithinAction actions 1 actions_say k r₁ a r b h in
        let z : k + 1 ≡ suc k = omega arith in
        (i ∙ ap (λ (n : ℕ). n ∷ r₁) (sym z) ∙ j, w)

-- REQUESTS
pub request-back : (q : Request) → WithinRequest q → decode_request (encode_request q) ≡ answer q
unfolding decode_request read_request encode_request whole
request-back q h =
    let f : faults_number q.faults < 2 ^ 11 = flags-below q.faults in
    rw (dec-enc head (head_parts q) (write_action q.action) (h.0.0, (h.0.1, omega arith)), lt-ltb (faults_number q.faults) (2 ^ 11) f, action-back q.action h.1, faults-back q.faults)

pub request-written : (b : List ℕ) (q : Request) → Bytes b → decode_request b ≡ answer q → (b ≡ encode_request q) × WithinRequest q
unfolding decode_request read_request encode_request
request-written b q k h =
    let g = whole_is (read_request b) q h in
    let (v, r₁, e₁, h₁) = bind_ok (dec head b) _ q [] g in
    let (c, h₂) = check-ok (ltb v.1.1 (2 ^ 11)) Malformed _ q [] h₁ in
    let (a, r₂, e₂, h₃) = bind_ok (read_action r₁) _ q [] h₂ in
    let (i, w) = enc-dec head b v r₁ k e₁ in
    let (j, u) = action-written r₁ a r₂ (bytes_right (enc head v) r₁ (rw i at k)) e₂ in
    joined v a r₁ r₂ (ltb-true v.1.1 (2 ^ 11) c) i w j u h₃
  where
    joined : (v : El head) (a : Action) (r₁ r₂ : List ℕ) → v.1.1 < 2 ^ 11 → b ≡ enc head v ++ r₁ → Within head v → r₁ ≡ write_action a ++ r₂ → WithinAction a
        → ok (request v a) r₂ ≡ ok q [] → (b ≡ encode_request q) × WithinRequest q
    joined v a r₁ r₂ l i w j u h =
        let e : request v a ≡ q = cc in
        let z : r₂ ≡ [] = cc in
        let n : head_parts (request v a) ≡ v = λ m. (v.0, (v.1.0, number_of-faults v.1.1 l m)) in
        subst (λ (y : Request). (b ≡ encode_request y) × WithinRequest y) e
        (i ∙ (λ m. enc head (sym n m) ++ (j ∙ ap (λ (t : List ℕ). write_action a ++ t) z ∙ append-nil (write_action a)) m), ((w.0, w.1.0), u))

-- TOKENS
pub token_back : (t : SnapshotLeaseToken) → Within lease (lease_parts t) → decode_token (encode_token t) ≡ answer t
unfolding decode_token read_token encode_token whole
token_back t h = rw (dec-all lease (lease_parts t) h)

pub token-written : (b : List ℕ) (t : SnapshotLeaseToken) → Bytes b → decode_token b ≡ answer t → (b ≡ encode_token t) × Within lease (lease_parts t)
unfolding decode_token read_token encode_token
token-written b t k h =
    let (v, r, e, h₁) = bind_ok (dec lease b) _ t [] (whole_is (read_token b) t h) in
    let (i, w) = enc-dec lease b v r k e in
    let q : lease_from v ≡ t = cc in
    let z : r ≡ [] = cc in
    subst (λ (y : SnapshotLeaseToken). (b ≡ enc lease (lease_parts y)) × Within lease (lease_parts y)) q (i ∙ ap (λ (l : List ℕ). enc lease v ++ l) z ∙ append-nil (enc lease v), w)

-- so no two requests, and no two tokens, share their bytes
one_answer : {A : Type 0} (v w : A) → answer v ≡ answer w → v ≡ w
one_answer v w h = cc

pub request_injective : (q r : Request) → WithinRequest q → WithinRequest r → encode_request q ≡ encode_request r → q ≡ r
request_injective q r h k e = one_answer q r (sym (request-back q h) ∙ ap decode_request e ∙ request-back r k)

pub token_injective : (t u : SnapshotLeaseToken) → Within lease (lease_parts t) → Within lease (lease_parts u) → encode_token t ≡ encode_token u → t ≡ u
token_injective t u h k e = one_answer t u (sym (token_back t h) ∙ ap decode_token e ∙ token_back u k)
