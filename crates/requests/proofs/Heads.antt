-- What reading a request finds: each way that its check ends, and what is read of one that is whole.
use Rattle.std.specs.Prelude.{ℕ, ◌≡◌, ◌≤◌, ◌<◌, refl, Bool, true, false, cond, List, [], ◌∷◌, ltb, leb, length, take, drop, get_or, Result, Ok, Err}
use Rattle.std.proofs.Common.{arith, sym, ap, ◌∙◌, drop-drop, lt-ltb, le-ltb, ltb-true, ltb-false, leb-true, leb-false}
use Rattle.parts.specs.Digits.{value}
use Rattle.state.specs.Records.{SnapshotLeaseToken}
use Rattle.machine.specs.Actions.{Action}
use Rattle.fields.specs.Format.{Malformed, Res, ok, bad, bind, byte, kind, number, El, dec}
use Rattle.fields.specs.Codes.{codes, walk, forget, past, passed, skip}
use Rattle.fields.proofs.CodeLaws.{walk-codes}
use Rattle.fields.specs.Walks.{walk_of}
use Rattle.image.specs.Contents.{Reply, answer, refusal, whole}
use Rattle.image.specs.Shapes.{u64, position, lease, lease_from}
use Rattle.requests.specs.Flags.{faults_from}
use Rattle.requests.specs.Request.{Request, head, request, read_fields, read_action, read_request, decode_request, read_token, decode_token}
use Rattle.requests.specs.Peek.{peek}
use Rattle.requests.proofs.PeekLaws.{peek-dec, skip_field}
use Rattle.requests.specs.Checked.{context, checked_of, action_case, peek_action}
use Rattle.requests.proofs.CheckedLaws.{check_is, made_whole, fields_whole}
use Rattle.requests.specs.Tags.{byte_of, tag_in}
use Rattle.requests.proofs.TagLaws.{tag_checked, tag_none, tag_not_zero}
use Rattle.requests.specs.Meaning.{request_of, parsed_of, token_read_of}
use Rattle.requests.specs.Positions.{behind, faults_at, flags_in, context_in, lease_token_in, action_in, request_in, parsed_in, token_in}
use Rattle.requests.proofs.PositionLaws.{left, behind_both}
use Rattle.requests.proofs.CursorLaws.{behind_number, behind_kind, reach}
use Rattle.requests.proofs.PositionMeaning.{first_byte, context_means, lease_means, action_means}
use Rattle.requests.specs.declared.ActionTag.{ActionTag}
use Rattle.requests.specs.declared.PublicationAuthorityFaults.{PublicationAuthorityFaults as FaultsAt}
use Rattle.requests.specs.declared.Request.{Request as RequestAt}

abbrev replied : El head → Reply Action → Reply Request
replied v (answer a) = answer (request v a)
replied v (refusal e) = refusal e

whole-bind : (v : El head) (m : Res Action) → whole (bind m (λ a r. ok (request v a) r)) ≡ replied v (whole m)
unfolding whole
whole-bind v (ok a []) = refl
whole-bind v (ok a (x ∷ r)) = refl
whole-bind v (bad e) = refl

replied-check : (v : El head) (m : Reply Action) → checked_of m ≡ checked_of (replied v m)
replied-check v (answer a) = refl
replied-check v (refusal e) = refl

never_whole : {A : Type 0} {B : Type 0} (r : Reply A) (e : ℕ) → checked_of r ≡ Err e → checked_of r ≡ Ok tt → B
never_whole r e q h = cc

-- an action byte, 0 past the end, and then its fields
action_read : (s : List ℕ) → read_action s ≡ read_fields (get_or s 0 0) (drop 1 s)
unfolding read_action byte read_fields
action_read [] = refl
action_read (k ∷ s) = refl

-- a number of flags that is read has but the eleven
flags-read : (n : ℕ) (f : FaultsAt) → Ok f ≡ flags_in n → (n < 2048) × (f ≡ faults_at (faults_from n))
flags-read n f h = go (ltb n 2048) refl h
  where
    go : (b : Bool) → ltb n 2048 ≡ b → Ok f ≡ cond b (Ok (faults_at (faults_from n))) (Err Malformed) → (n < 2048) × (f ≡ faults_at (faults_from n))
    go true e k = (ltb-true n 2048 e, (cc))
    go false e k = cc

flags-refused : (n e : ℕ) → Err e ≡ flags_in n → (2048 ≤ n) × (Malformed ≡ e)
flags-refused n e h = go (ltb n 2048) refl h
  where
    go : (b : Bool) → ltb n 2048 ≡ b → Err e ≡ cond b (Ok (faults_at (faults_from n))) (Err Malformed) → (2048 ≤ n) × (Malformed ≡ e)
    go true q k = cc
    go false q k = (ltb-false n 2048 q, (cc))

-- what is answered of bytes that are refused
refused : (s : List ℕ) {A : Type 0} (m : Reply A) (e : ℕ) → checked_of m ≡ Err e → parsed_in s m ≡ Err e
refused s (answer v) e h = cc
refused s (refusal x) e h = cc

accepted : (s : List ℕ) {A : Type 0} (m : Reply A) → checked_of m ≡ Ok tt → parsed_in s m ≡ Ok (request_in s)
accepted s (answer v) h = refl
accepted s (refusal x) h = cc

module _ (s : List ℕ) where
  abbrev head_walk : Res (Unit {0})
  head_walk = walk 0 (codes head) s

  abbrev flags : ℕ
  flags = value (take 2 (drop 24 s))

  abbrev action : ℕ
  action = get_or s 26 0

  to-flags : drop 8 (drop 8 (drop 8 s)) ≡ drop 24 s
  to-flags = ap (drop 8) (drop-drop 8 8 s) ∙ drop-drop 8 16 s

  to-action : skip 0 (codes head) s ≡ drop 26 s
  unfolding skip past passed
  to-action = ap (drop 2) to-flags ∙ drop-drop 2 24 s

  flags_are : (peek head s).1.1 ≡ flags
  unfolding peek skip past passed
  flags_are = ap (λ (x : List ℕ). value (take 2 x)) to-flags

  -- THE HEAD: a fault, or it reads as it stands and the action follows
  abbrev HeadRead : Type 0
  HeadRead = dec head s ≡ ok (peek head s) (drop 26 s)

  head_read : (v : El head) (r : List ℕ) → dec head s ≡ ok v r → HeadRead
  head_read v r e = e ∙ (λ i. ok (sym (peek-dec head s v r e) i) ((sym (skip_field head s v r e) ∙ to-action) i))

  head-ended : (p : ℕ) → Ok p ≡ walk_of s head_walk → HeadRead
  head-ended p h = go (dec head s) refl (h ∙ ap (walk_of s) (walk-codes head s))
    where
      go : (m : Res (El head)) → dec head s ≡ m → Ok p ≡ walk_of s (forget m) → HeadRead
      go (ok v r) e k = head_read v r e
      go (bad x) e k = cc

  head-bad : (e : ℕ) → dec head s ≡ bad e → checked_of (decode_request s) ≡ Err e
  unfolding decode_request read_request whole
  head-bad e q = rw q

  pub head_fault : (e : ℕ) → Err e ≡ walk_of s head_walk → parsed_in s (decode_request s) ≡ Err e
  head_fault e h = refused s (decode_request s) e (head-bad e (go (dec head s) (h ∙ ap (walk_of s) (walk-codes head s))))
    where
      go : (m : Res (El head)) → Err e ≡ walk_of s (forget m) → m ≡ bad e
      go (ok v r) k = cc
      go (bad x) k = cc

  -- THE PLACES behind the context, the flags and the action byte
  abbrev flags_at : ℕ
  flags_at = behind context s 0

  abbrev action_at : ℕ
  action_at = behind (number 2) s flags_at

  abbrev fields_at : ℕ
  fields_at = behind kind s action_at

  at-flags : drop flags_at s ≡ drop 24 s
  unfolding skip past passed
  at-flags = left context s 0 ∙ to-flags

  at-action : drop action_at s ≡ drop 26 s
  unfolding skip past passed
  at-action = left (number 2) s flags_at ∙ ap (drop 2) at-flags ∙ drop-drop 2 24 s

  at-fields : drop fields_at s ≡ drop 27 s
  unfolding skip past passed
  at-fields = left kind s action_at ∙ ap (drop 1) at-action ∙ drop-drop 1 26 s

  flags-here : value (take 2 (drop flags_at s)) ≡ flags
  flags-here = ap (λ (x : List ℕ). value (take 2 x)) at-flags

  action-here : get_or s action_at 0 ≡ action
  action-here = sym (first_byte s action_at) ∙ ap (λ (x : List ℕ). get_or x 0 0) at-action ∙ first_byte s 26

  -- where an action byte stands, its fields stand behind it
  fields_place-is : (action ≡ 0 → ⊥) → fields_at ≡ 27
  fields_place-is h =
      let l : 26 < length s = reach s 26 h in
      omega (arith, behind_kind s action_at, behind_number s flags_at 2, behind_both u64 s 0 position, behind_both u64 s (behind u64 s 0) u64, behind_number s (behind u64 s (behind u64 s 0)) 8, behind_number s (behind u64 s 0) 8, behind_number s 0 8)

  flags-over : HeadRead → 2048 ≤ flags → checked_of (decode_request s) ≡ Err Malformed
  unfolding decode_request read_request whole
  flags-over d k = rw (d, flags_are, le-ltb flags 2048 k)

  asked : HeadRead → flags < 2048 → decode_request s ≡ replied (peek head s) (whole (read_fields action (drop 27 s)))
  unfolding decode_request read_request
  asked d k =
      let q : ltb (peek head s).1.1 2048 ≡ true = ap (λ (n : ℕ). ltb n 2048) flags_are ∙ lt-ltb flags 2048 k in
      rw (d, q) (whole-bind (peek head s) (read_action (drop 26 s)))
      ∙ ap (λ (m : Res Action). replied (peek head s) (whole m)) (action_read (drop 26 s) ∙ (λ i. read_fields (first_byte s 26 i) (drop-drop 1 26 s i)))

  action-checked : HeadRead → flags < 2048 → checked_of (whole (read_fields action (drop 27 s))) ≡ checked_of (decode_request s)
  action-checked d k = replied-check (peek head s) (whole (read_fields action (drop 27 s))) ∙ ap checked_of (sym (asked d k))

  module _ (p : ℕ) (h : Ok p ≡ walk_of s head_walk) where
    pub flags_fault : (e : ℕ) → Err e ≡ flags_in (value (take 2 (drop flags_at s))) → parsed_in s (decode_request s) ≡ Err e
    flags_fault e k =
        let (l, z) = flags-refused flags e (k ∙ ap flags_in flags-here) in
        refused s (decode_request s) e (flags-over (head-ended p h) l ∙ ap Err z)

    module _ (f : FaultsAt) (k : Ok f ≡ flags_in (value (take 2 (drop flags_at s)))) where
      flags_of : (flags < 2048) × (f ≡ faults_at (faults_from flags))
      flags_of = flags-read flags f (k ∙ ap flags_in flags-here)

      checked : checked_of (whole (read_fields action (drop 27 s))) ≡ checked_of (decode_request s)
      checked = action-checked (head-ended p h) flags_of.0

      pub tag_fault : (e : ℕ) → Err e ≡ tag_in (get_or s action_at 0) → parsed_in s (decode_request s) ≡ Err e
      unfolding whole
      tag_fault e t =
          refused s (decode_request s) e (sym checked ∙ ap (λ (m : Res Action). checked_of (whole m)) (tag_none action e (drop 27 s) (sym (t ∙ ap tag_in action-here))))

      module _ (t : ActionTag) (q : Ok t ≡ tag_in (get_or s action_at 0)) where
        abbrev fields_walk : Res (Unit {0})
        fields_walk = walk 0 (codes (action_case (byte_of t)).shape) (drop fields_at s)

        tag : (byte_of t ≡ action) × (checked_of (whole fields_walk) ≡ checked_of (decode_request s))
        tag =
            let (b, e) = tag_checked action t (drop 27 s) (sym (q ∙ ap tag_in action-here)) in
            (b, ap (λ (x : List ℕ). checked_of (whole (walk 0 (codes (action_case (byte_of t)).shape) x))) at-fields ∙ e ∙ checked)

        pub fields_fault : (e : ℕ) → Err e ≡ checked_of (whole fields_walk) → parsed_in s (decode_request s) ≡ Err e
        fields_fault e r = refused s (decode_request s) e (sym (r ∙ tag.1))

        pub request_read : Ok tt ≡ checked_of (whole fields_walk)
            → parsed_in s (decode_request s) ≡ Ok (record { context = context_in s 0; faults = f; action = action_in s (byte_of t) fields_at })
        request_read r =
            let z : fields_at ≡ 27 = fields_place-is (tag_not_zero action t (sym (q ∙ ap tag_in action-here))) in
            accepted s (decode_request s) (sym (r ∙ tag.1))
            ∙ (λ i. Ok (record { context = context_in s 0; faults = sym flags_of.1 i; action = action_in s (sym tag.0 i) (sym z i) }))

  -- A REQUEST THAT IS WHOLE is what its parts are, read without checks
  abbrev looked : Reply Request
  looked = answer (request (peek head s) (peek_action action (drop 27 s)))

  request-whole : checked_of (decode_request s) ≡ Ok tt → looked ≡ decode_request s
  request-whole h = go (dec head s) refl
    where
      flags-seen : HeadRead → (b : Bool) → leb 2048 flags ≡ b → looked ≡ decode_request s
      flags-seen d true e = never_whole (decode_request s) Malformed (flags-over d (leb-true 2048 flags e)) h
      flags-seen d false e =
          let l : flags < 2048 = leb-false 2048 flags e in
          ap (replied (peek head s)) (fields_whole action (drop 27 s) (action-checked d l ∙ h)) ∙ sym (asked d l)

      go : (m : Res (El head)) → dec head s ≡ m → looked ≡ decode_request s
      go (ok v r) e = flags-seen (head_read v r e) (leb 2048 flags) refl
      go (bad x) e = never_whole (decode_request s) x (head-bad x e) h

  -- THE PLACES OF A REQUEST, and that what stands there is what was read
  request_means : answer (request_of s (request_in s)) ≡ looked
  unfolding peek
  request_means = λ i. answer (record { context = context_means s 0 i; faults = faults_from (sym flags_are i); action = action_means s action 27 i })

  pub parsed_means : parsed_of s (parsed_in s (decode_request s)) ≡ decode_request s
  parsed_means = go (decode_request s) refl
    where
      go : (m : Reply Request) → decode_request s ≡ m → parsed_of s (parsed_in s m) ≡ m
      go (answer q) e = request_means ∙ request-whole (ap checked_of e) ∙ e
      go (refusal x) e = refl

  -- A TOKEN
  pub token_checked : checked_of (whole (walk 0 (codes lease) s)) ≡ checked_of (decode_token s)
  unfolding decode_token read_token
  token_checked = check_is lease lease_from s

  token-whole : checked_of (decode_token s) ≡ Ok tt → answer (lease_from (peek lease s)) ≡ decode_token s
  unfolding decode_token read_token
  token-whole = made_whole lease lease_from s

  pub token_means : token_read_of s (token_in s (decode_token s)) ≡ decode_token s
  token_means = go (decode_token s) refl
    where
      go : (m : Reply SnapshotLeaseToken) → decode_token s ≡ m → token_read_of s (token_in s m) ≡ m
      go (answer t) e = ap answer (lease_means s 0) ∙ token-whole (ap checked_of e) ∙ e
      go (refusal x) e = refl

-- THE STEPS OF READING A REQUEST, as the code takes them
abbrev pub on : {A B : Type 0} → Result A ℕ → (A → Result B ℕ) → Result B ℕ
on (Ok v) k = k v
on (Err e) k = Err e

module _ (s : List ℕ) where
  abbrev pub read_action_as : FaultsAt → ActionTag → Result RequestAt ℕ
  read_action_as f t =
      on (checked_of (whole (walk 0 (codes (action_case (byte_of t)).shape) (drop (fields_at s) s)))) (λ _.
      Ok (record { context = context_in s 0; faults = f; action = action_in s (byte_of t) (fields_at s) }))

  abbrev pub read_tag : FaultsAt → Result RequestAt ℕ
  read_tag f = on (tag_in (get_or s (action_at s) 0)) (λ t. read_action_as f t)

  abbrev pub read_flags : Result RequestAt ℕ
  read_flags = on (flags_in (value (take 2 (drop (flags_at s) s)))) (λ f. read_tag f)

  abbrev pub steps : Result RequestAt ℕ
  steps = on (walk_of s (head_walk s)) (λ _. read_flags)

  abbrev asked_for : Result RequestAt ℕ
  asked_for = parsed_in s (decode_request s)

  module _ (p : ℕ) (h : Ok p ≡ walk_of s (head_walk s)) where
    module _ (f : FaultsAt) (k : Ok f ≡ flags_in (value (take 2 (drop (flags_at s) s)))) where
      fields-step : (t : ActionTag) (q : Ok t ≡ tag_in (get_or s (action_at s) 0)) (m : Result (Unit {0}) ℕ)
          → m ≡ checked_of (whole (walk 0 (codes (action_case (byte_of t)).shape) (drop (fields_at s) s)))
          → asked_for ≡ on m (λ _. Ok (record { context = context_in s 0; faults = f; action = action_in s (byte_of t) (fields_at s) }))
      fields-step t q (Ok u) e = request_read s p h f k t q e
      fields-step t q (Err x) e = fields_fault s p h f k t q x e

      tag-step : (m : Result ActionTag ℕ) → m ≡ tag_in (get_or s (action_at s) 0) → asked_for ≡ on m (λ t. read_action_as f t)
      tag-step (Ok t) e = fields-step t e _ refl
      tag-step (Err x) e = tag_fault s p h f k x e

    flags-step : (m : Result FaultsAt ℕ) → m ≡ flags_in (value (take 2 (drop (flags_at s) s))) → asked_for ≡ on m (λ f. read_tag f)
    flags-step (Ok f) e = tag-step f e _ refl
    flags-step (Err x) e = flags_fault s p h x e

  head-step : (m : Result ℕ ℕ) → m ≡ walk_of s (head_walk s) → asked_for ≡ on m (λ _. read_flags)
  head-step (Ok p) e = flags-step p e _ refl
  head-step (Err x) e = head_fault s x e

  pub parsed_steps : parsed_in s (decode_request s) ≡ steps
  parsed_steps = head-step _ refl

  pub decoded_steps : decode_request s ≡ parsed_of s steps
  decoded_steps = sym (parsed_means s) ∙ ap (parsed_of s) parsed_steps

pub ruleset parses = (parsed_steps, decoded_steps)

-- THE STEP OF READING A TOKEN
pub token_steps : (s : List ℕ) → token_in s (decode_token s) ≡ on (checked_of (whole (walk 0 (codes lease) s))) (λ _. Ok (lease_token_in s 0))
token_steps s = go (decode_token s) ∙ ap (λ (m : Result (Unit {0}) ℕ). on m (λ _. Ok (lease_token_in s 0))) (sym (token_checked s))
  where
    go : (m : Reply SnapshotLeaseToken) → token_in s m ≡ on (checked_of m) (λ _. Ok (lease_token_in s 0))
    go (answer v) = refl
    go (refusal x) = refl
