-- Where the fields of a request stand that was written from its values: sums of lengths, for who writes runs of its bytes.
-- A text's length byte is the byte before the text.
use Rattle.std.specs.Prelude.{ℕ, ◌+◌, ◌≡◌, List, [], ◌∷◌, ◌++◌, length, drop}
use Rattle.std.proofs.Common.{arith, sym, ap, ◌∙◌, subst, append_assoc, append-nil, length-append, drop_at}
use Rattle.parts.specs.DigitLaws.{length_digits}
use Rattle.machine.specs.Actions.{Action}
use Rattle.fields.specs.Format.{option, El, enc}
use Rattle.image.specs.Shapes.{name, receipt}
use Rattle.requests.specs.Cases.{write_parts}
use Rattle.requests.specs.Request.{acquire, collect, reserve, Request, head, head_parts, action_parts, encode_request, WithinRequest}
use Rattle.requests.specs.Positions.{fields_place, acquire_in, collect_in, receipt_in, reserve_in}
use Rattle.requests.proofs.PositionLaws.{Written, first, second, behind-all, behind-number, behind-text, behind_both, text-place, text-end, keys-end, closure-end}

-- THE FIELDS of the action stand behind the head and the action byte, and end the request
head-size : (q : Request) → length (enc head (head_parts q)) ≡ 26
unfolding enc
head-size q = simp (length-append, length_digits)

pub fields_written : (s : List ℕ) (q : Request) → s ≡ encode_request q → WithinRequest q
    → (a : Action) → q.action ≡ a → Written s (action_parts a).shape fields_place (action_parts a).values []
unfolding encode_request write_parts
fields_written s q e w a h = subst (λ (b : Action). Written s (action_parts b).shape fields_place (action_parts b).values []) h
    (record { reach = omega (arith, ap length split, length-append before fields, size); bytes = ap (drop 27) split ∙ drop_at before fields 27 size ∙ sym (append-nil fields); within = w.1 })
  where
    before : List ℕ
    before = enc head (head_parts q) ++ ((action_parts q.action).tag ∷ [])

    fields : List ℕ
    fields = enc (action_parts q.action).shape (action_parts q.action).values

    split : s ≡ before ++ fields
    split = e ∙ sym (append_assoc (enc head (head_parts q)) ((action_parts q.action).tag ∷ []) fields)

    size : length before ≡ 27
    size = length-append (enc head (head_parts q)) ((action_parts q.action).tag ∷ []) ∙ (let z : length (enc head (head_parts q)) + 1 ≡ 27 = omega (arith, head-size q) in z)

-- ACQUIRELEASE: from the lease id up to the owner, and from there to the end
module _ {s : List ℕ} {p : ℕ} {v : El acquire} (a : Written s acquire p v []) where
  pub acquire-lease_id : (acquire_in s p).lease_id.at ≡ p + 1
  acquire-lease_id = text-place (first a)

  pub acquire-owner : (acquire_in s p).owner.at ≡ p + (1 + length v.0) + (1 + length v.1.0) + 8 + 1
  acquire-owner =
      let b = second a in
      let c = second b in
      omega (arith, text-place (first (second c)), behind-number (first c), behind-text (first b), behind-text (first a))

  pub acquire-end : (acquire_in s p).closure.object_keys.at + (acquire_in s p).closure.object_keys.len ≡ length s
  acquire-end = closure-end s _ ∙ behind-all (second (second (second (second (second (second a))))))

-- PREPARECOLLECTION: the job id, then from the frozen floor to the end
module _ {s : List ℕ} {p : ℕ} {v : El collect} (a : Written s collect p v []) where
  pub collect-job_id : (collect_in s p).job_id.at ≡ p + 1
  collect-job_id = text-place (first a)

  pub collect-frozen_floor : (collect_in s p).job_id.at + (collect_in s p).job_id.len ≡ p + (1 + length v.0)
  collect-frozen_floor = text-end (first a) ∙ behind-text (first a)

  pub collect-end : (collect_in s p).output_namespace.at + (collect_in s p).output_namespace.len ≡ length s
  collect-end =
      let last = second (second (second (second (second (second a))))) in
      text-end last ∙ behind-all last

-- PUBLISHCOLLECTION: the receipt, from its token to the end
module _ {s : List ℕ} {p : ℕ} {v : El receipt} (a : Written s receipt p v []) where
  pub receipt-job_id : (receipt_in s p).token.job_id.at ≡ p + 1
  receipt-job_id = text-place (first (first a))

  pub receipt-end : (receipt_in s p).object_keys.at + (receipt_in s p).object_keys.len ≡ length s
  receipt-end = let last = second (second a) in keys-end s _ last.reach ∙ behind-all last

-- RESERVEDELETE: the plan id, then from the key to the end
module _ {s : List ℕ} {p : ℕ} {v : El reserve} (a : Written s reserve p v []) where
  pub reserve-plan_id : (reserve_in s p).plan_id.at ≡ p + 1
  reserve-plan_id = text-place (first a)

  pub reserve-key : (reserve_in s p).key.at ≡ p + (1 + length v.0) + 8 + 1
  reserve-key = let b = second a in omega (arith, text-place (first (second b)), behind-number (first b), behind-text (first a))

  pub reserve-end : (reserve_in s p).identity.sha256.at + (reserve_in s p).identity.sha256.len ≡ length s
  reserve-end =
      let last = second (second (second (second (second a)))) in
      rw (← behind_both (option name) s _ (option name)) (text-end last ∙ behind-all last)
