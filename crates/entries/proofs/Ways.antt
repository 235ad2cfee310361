-- The ways in which `apply_bytes` comes to its answer, and what each answer tells.
use Rattle.std.specs.Prelude.{ℕ, ◌≤◌, ◌<◌, ◌≡◌, Bool, true, false, cond, not, List, ltb, length, Option, None, Some}
use Rattle.std.proofs.Common.{arith, sym, ◌∙◌, ltb-true, ltb-false}
use Rattle.std.proofs.Math.Path.{refl}
use Rattle.parts.specs.Answer.{Answer, no, yes, longest, settle}
use Rattle.state.specs.Records.{State}
use Rattle.machine.specs.Actions.{Outcome, Transition, rejected, accepted}
use Rattle.machine.specs.Machine.{apply}
use Rattle.machine.proofs.Statuses.{apply-status}
use Rattle.image.specs.Body.{roomy}
use Rattle.image.specs.Contents.{Reply, answer, refusal}
use Rattle.image.specs.Layout.{bodies, state_parts, encode_image, decode_image}
use Rattle.requests.specs.Request.{Request, decode_request}
use Rattle.requests.specs.Outcome.{encode_outcome}
use Rattle.requests.proofs.Faults.{request-faults}
use Rattle.entries.specs.Bytes.{◌>>=◌, or_40, over_limit, settled, apply_bytes}

-- THE LAST TESTS: 44, 45, 46, in that order
pub data Settled (over_limit : Bool) (image outcome : List ℕ) (room outcome_room : ℕ) (A : Answer) : Type 0 where
  over : over_limit ≡ true → A ≡ no 44 → Settled over_limit image outcome room outcome_room A
  long : over_limit ≡ false → longest < length image → A ≡ no 45 → Settled over_limit image outcome room outcome_room A
  no_room : over_limit ≡ false → length image ≤ longest → room < length image → A ≡ no 45 → Settled over_limit image outcome room outcome_room A
  no_outcome_room : over_limit ≡ false → length image ≤ longest → length image ≤ room → outcome_room < length outcome → A ≡ no 46 → Settled over_limit image outcome room outcome_room A
  fits : over_limit ≡ false → length image ≤ longest → length image ≤ room → length outcome ≤ outcome_room → A ≡ yes image outcome → Settled over_limit image outcome room outcome_room A

pub settles : (over_limit : Bool) (image outcome : List ℕ) (room outcome_room : ℕ) → Settled over_limit image outcome room outcome_room (settle over_limit image outcome room outcome_room)
unfolding settle
settles true x y room oroom = over refl refl
settles false x y room oroom = go₁ (ltb longest (length x)) refl
  where
    go₃ : length x ≤ longest → length x ≤ room → (b : Bool) → ltb oroom (length y) ≡ b → Settled false x y room oroom (cond b (no 46) (yes x y))
    go₃ h k true e = no_outcome_room refl h k (ltb-true oroom (length y) e) refl
    go₃ h k false e = fits refl h k (ltb-false oroom (length y) e) refl

    go₂ : length x ≤ longest → (b : Bool) → ltb room (length x) ≡ b → Settled false x y room oroom (cond b (no 45) (cond (ltb oroom (length y)) (no 46) (yes x y)))
    go₂ h true e = no_room refl h (ltb-true room (length x) e) refl
    go₂ h false e = go₃ h (ltb-false room (length x) e) (ltb oroom (length y)) refl

    go₁ : (b : Bool) → ltb longest (length x) ≡ b → Settled false x y room oroom (cond b (no 45) (cond (ltb room (length x)) (no 45) (cond (ltb oroom (length y)) (no 46) (yes x y))))
    go₁ true e = long refl (ltb-true longest (length x) e) refl
    go₁ false e = go₂ (ltb-false longest (length x) e) (ltb room (length x)) refl

-- THE WHOLE CALL
-- one that `apply` accepted
pub record Applied (image request : List ℕ) : Type 0 where
  pub now : State
  pub asked : Request
  pub next : State
  pub outcome : Outcome
  pub holds : decode_image image ≡ Some now
  pub reads : decode_request request ≡ answer asked
  pub applies : apply now asked.action asked.context asked.faults ≡ accepted next outcome

module _ (image request : List ℕ) (room outcome_room : ℕ) where
  -- what is left to test of it
  abbrev pub Last : Applied image request → Answer → Type 0
  Last t A = Settled (over_limit t.next) (encode_image t.next) (encode_outcome t.outcome) room outcome_room A

  pub data Way (A : Answer) : Type 0 where
    no-image : decode_image image ≡ None → A ≡ no 40 → Way A
    no-request : (s : State) → decode_image image ≡ Some s → (n : ℕ) → decode_request request ≡ refusal n → A ≡ no n → Way A
    rejects : (s : State) → decode_image image ≡ Some s → (q : Request) → decode_request request ≡ answer q → (n : ℕ) → apply s q.action q.context q.faults ≡ rejected n → A ≡ no n → Way A
    accepts : (t : Applied image request) → Last t A → Way A

  abbrev rest : State → Reply Transition
  rest s = ◌>>=◌ (decode_request request) (λ q. answer (apply s q.action q.context q.faults))

  pub way : Way (apply_bytes image request room outcome_room)
  unfolding apply_bytes
  way = from-image (decode_image image) refl
    where
      from-apply : (s : State) → decode_image image ≡ Some s → (q : Request) → decode_request request ≡ answer q → (t : Transition) → apply s q.action q.context q.faults ≡ t → Way (settled room outcome_room (answer t))
      from-apply s hs q hq (rejected n) e = rejects s hs q hq n e refl
      from-apply s hs q hq (accepted next o) e =
          accepts (record { now = s; asked = q; next = next; outcome = o; holds = hs; reads = hq; applies = e }) (settles (over_limit next) (encode_image next) (encode_outcome o) room outcome_room)

      from-request : (s : State) → decode_image image ≡ Some s → (r : Reply Request) → decode_request request ≡ r
          → Way (settled room outcome_room (◌>>=◌ r (λ q. answer (apply s q.action q.context q.faults))))
      from-request s hs (refusal n) e = no-request s hs n e refl
      from-request s hs (answer q) e = from-apply s hs q e (apply s q.action q.context q.faults) refl

      from-image : (o : Option State) → decode_image image ≡ o → Way (settled room outcome_room (◌>>=◌ (or_40 o) rest))
      from-image None e = no-image e refl
      from-image (Some s) e = from-request s e (decode_request request) refl

  -- WHAT AN ACCEPTANCE TELLS
  pub record Took (x y : List ℕ) : Type 0 where
    pub call : Applied image request
    pub roomy-is : roomy bodies (state_parts call.next).1 ≡ true
    pub size : length (encode_image call.next) ≤ longest
    pub room-is : length (encode_image call.next) ≤ room
    pub outcome_room-is : length (encode_outcome call.outcome) ≤ outcome_room
    pub image_is : encode_image call.next ≡ x
    pub outcome_is : encode_outcome call.outcome ≡ y

  -- WHAT A NUMBER OVER 43 TELLS: it is of the last tests, after an acceptance
  pub record Late (n : ℕ) : Type 0 where
    pub call : Applied image request
    pub last : Last call (apply_bytes image request room outcome_room)
    pub is : apply_bytes image request room outcome_room ≡ no n

no-yes : {X : Type 0} {n : ℕ} {x y : List ℕ} → no n ≡ yes x y → X
no-yes e = let z : ◌≡◌ {A = ℕ} 0 1 = cc in absurd (omega arith)

one-no : {m n : ℕ} → no m ≡ no n → m ≡ n
one-no e = cc

not_false : (b : Bool) → not b ≡ false → b ≡ true
not_false true h = refl
not_false false h = cc

module _ (image request : List ℕ) (room outcome_room : ℕ) where
  abbrev A : Answer
  A = apply_bytes image request room outcome_room

  pub took : (x y : List ℕ) → A ≡ yes x y → Took image request room outcome_room x y
  took x y h = by_way (way image request room outcome_room)
    where
      by_tests : (t : Applied image request) → Last image request room outcome_room t A → Took image request room outcome_room x y
      by_tests t (over b e) = no-yes (sym e ∙ h)
      by_tests t (long b l e) = no-yes (sym e ∙ h)
      by_tests t (no_room b l r e) = no-yes (sym e ∙ h)
      by_tests t (no_outcome_room b l r o e) = no-yes (sym e ∙ h)
      by_tests t (fits b l r o e) =
          let p : yes (encode_image t.next) (encode_outcome t.outcome) ≡ yes x y = sym e ∙ h in
          record { call = t; roomy-is = not_false _ b; size = l; room-is = r; outcome_room-is = o; image_is = cc; outcome_is = cc }

      by_way : Way image request room outcome_room A → Took image request room outcome_room x y
      by_way (no-image a e) = no-yes (sym e ∙ h)
      by_way (no-request s a n b e) = no-yes (sym e ∙ h)
      by_way (rejects s a q b n c e) = no-yes (sym e ∙ h)
      by_way (accepts t k) = by_tests t k

  pub late : (n : ℕ) → A ≡ no n → 43 < n → Late image request room outcome_room n
  late n h l = by_way (way image request room outcome_room)
    where
      by_way : Way image request room outcome_room A → Late image request room outcome_room n
      by_way (no-image a e) = let z : ◌≡◌ {A = ℕ} 40 n = one-no (sym e ∙ h) in absurd (omega arith)
      by_way (no-request s a m b e) = let z : m ≡ n = one-no (sym e ∙ h) in absurd (let u = request-faults request m b in omega (arith, u.high))
      by_way (rejects s a q b m c e) = let z : m ≡ n = one-no (sym e ∙ h) in absurd (let u = apply-status s q.action q.context q.faults m c in omega arith)
      by_way (accepts t k) = record { call = t; last = k; is = h }

  -- so the status 0 tells an acceptance: no refusal has it
  pub no_zero : A ≡ no 0 → ⊥
  no_zero h = by_way (way image request room outcome_room)
    where
      by_tests : (t : Applied image request) → Last image request room outcome_room t A → ⊥
      by_tests t (over b e) = let z : ◌≡◌ {A = ℕ} 44 0 = one-no (sym e ∙ h) in omega arith
      by_tests t (long b l e) = let z : ◌≡◌ {A = ℕ} 45 0 = one-no (sym e ∙ h) in omega arith
      by_tests t (no_room b l r e) = let z : ◌≡◌ {A = ℕ} 45 0 = one-no (sym e ∙ h) in omega arith
      by_tests t (no_outcome_room b l r o e) = let z : ◌≡◌ {A = ℕ} 46 0 = one-no (sym e ∙ h) in omega arith
      by_tests t (fits b l r o e) = no-yes (sym h ∙ e)

      by_way : Way image request room outcome_room A → ⊥
      by_way (no-image a e) = let z : ◌≡◌ {A = ℕ} 40 0 = one-no (sym e ∙ h) in omega arith
      by_way (no-request s a n b e) = let z : n ≡ 0 = one-no (sym e ∙ h) in let u = request-faults request n b in omega (arith, u.low)
      by_way (rejects s a q b n c e) = let z : n ≡ 0 = one-no (sym e ∙ h) in let u = apply-status s q.action q.context q.faults n c in omega arith
      by_way (accepts t k) = by_tests t k
