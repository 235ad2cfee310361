-- From a list of tests to the rule that it agrees with.
-- Assumes nothing.
use Rattle.std.specs.Prelude.{ℕ, ◌≡◌, refl, List, [], ◌∷◌, Bool, true, false, not, cond, ◌&&◌, eqb, Option, None, Some}
use Rattle.std.proofs.Common.{sym, ◌∙◌, subst}
use Rattle.std.proofs.Math.Path.{ap}
use borrow.Author.Tests.{eqb-true, eqb-false, not-true}
use Rattle.text.specs.SameLaws.{and_left, and_right}
use Rattle.machine.specs.Actions.{Transition, rejected, Rule, refuse_or, find_or, accept, decide}
use Rattle.machine.specs.Tests.{Refusal, ◌when◌, first_of}

-- A test that computes stands before T: with literals, what proves T proves it.
abbrev pub Provided : Bool → Type 0 → Type 0
Provided true T = T
Provided false T = ⊥

pub provided : (b : Bool) (T : Type 0) → Provided b T → (b ≡ true) × T
provided true T h = (refl, h)
provided false T h = absurd h

-- ONE TEST MORE
pub first-here : (n : ℕ) (b : Bool) (ts : List Refusal) → b ≡ true → n ≡ first_of ((n when b) ∷ ts)
unfolding first_of
first-here n b ts h = sym (ap (λ (c : Bool). cond c n (first_of ts)) h)

pub first_on : (n : ℕ) (b : Bool) (ts : List Refusal) → b ≡ false → first_of ts ≡ first_of ((n when b) ∷ ts)
unfolding first_of
first_on n b ts h = sym (ap (λ (c : Bool). cond c n (first_of ts)) h)

pub first-none : 0 ≡ first_of []
unfolding first_of
first-none = refl

-- THE TESTS AGREE WITH A RULE: their statuses are the rule's, and none is 0; a test holds just where the rule's does, or where its lookup
-- finds nothing; and so on with what is found, or where the test was passed. The rule may go on where the list ends.
abbrev same_status : ℕ → ℕ → Bool
same_status n m = eqb n m && not (eqb n 0)

abbrev pub Agrees : List Refusal → Rule → Type 0
Agrees [] r = Unit {0}
Agrees ((n when b) ∷ ts) (refuse_or m c r) = Provided (same_status n m) ((b ≡ c) × (c ≡ false → Agrees ts r))
Agrees ((n when b) ∷ ts) (find_or {A = A} m o k) = Provided (same_status n m) ((b ≡ true → o ≡ None) × (b ≡ false → (v : A) × (o ≡ Some v) × Agrees ts (k v)))
Agrees ((n when b) ∷ ts) (accept s o) = ⊥

-- a test, and those after it, which agree whether or not it was passed
infixr 1 ◌then◌
pub ◌then◌ : {A B C : Type 0} → A → B → A × (C → B)
◌then◌ a b = (a, λ _. b)

-- what the rule decides behind the tests, with what its lookups found
abbrev pub Behind : Transition → List Refusal → Rule → Type 0
Behind t [] r = decide r ≡ t
Behind t ((n when b) ∷ ts) (refuse_or m c r) = Behind t ts r
Behind t ((n when b) ∷ ts) (find_or {A = A} m o k) = (v : A) × (o ≡ Some v) × Behind t ts (k v)
Behind t ((n when b) ∷ ts) (accept s o) = ⊥

abbrev pub Passed : List Refusal → Type 0
Passed [] = Unit {0}
Passed ((n when b) ∷ ts) = (b ≡ false) × Passed ts

record Joined (ts : List Refusal) (r : Rule) : Type 0 where
  refuses : (first_of ts ≡ 0 → ⊥) → decide r ≡ rejected (first_of ts)
  passed : first_of ts ≡ 0 → Passed ts
  goes_on : first_of ts ≡ 0 → (t : Transition) → Behind t ts r → decide r ≡ t

module _ (n m : ℕ) (T : Type 0) (h : Provided (same_status n m) T) where
  tests : T
  tests = (provided (same_status n m) T h).1

  stops : (ts : List Refusal) (r : Rule) → decide r ≡ rejected m → Joined ((n when true) ∷ ts) r
  unfolding first_of
  stops ts r e =
      let s = (provided (same_status n m) T h).0 in
      let same : n ≡ m = eqb-true n m (and_left (eqb n m) (not (eqb n 0)) s) in
      let some-status : n ≡ 0 → ⊥ = eqb-false n 0 (not-true (eqb n 0) (and_right (eqb n m) (not (eqb n 0)) s)) in
      record { refuses = λ _. e ∙ ap rejected (sym same); passed = λ z. absurd (some-status z); goes_on = λ z. absurd (some-status z) }

passes : (n : ℕ) (ts : List Refusal) (r r' : Rule) → decide r ≡ decide r' → ((t : Transition) → Behind t ((n when false) ∷ ts) r → Behind t ts r') → Joined ts r' → Joined ((n when false) ∷ ts) r
unfolding first_of
passes n ts r r' e on j = record { refuses = λ z. e ∙ j.refuses z; passed = λ z. (refl, j.passed z); goes_on = λ z t h. e ∙ j.goes_on z t (on t h) }

joined : (ts : List Refusal) (r : Rule) → Agrees ts r → Joined ts r
unfolding decide
joined [] r a = record { refuses = λ z. absurd (z (sym first-none)); passed = λ _. tt; goes_on = λ _ _ h. h }
joined ((n when true) ∷ ts) (refuse_or m c r) a = stops n m _ a ts _ (ap (λ (b : Bool). decide (refuse_or m b r)) (sym (tests n m _ a).0))
joined ((n when false) ∷ ts) (refuse_or m c r) a =
    let e = sym (tests n m _ a).0 in
    passes n ts _ r (ap (λ (b : Bool). decide (refuse_or m b r)) e) (λ _ h. h) (joined ts r ((tests n m _ a).1 e))
joined ((n when true) ∷ ts) (find_or {A = A} m o k) a = stops n m _ a ts _ (ap (λ (p : Option A). decide (find_or m p k)) ((tests n m _ a).0 refl))
joined ((n when false) ∷ ts) (find_or {A = A} m o k) a =
    let f = (tests n m _ a).1 refl in
    passes n ts _ (k f.0) (ap (λ (p : Option A). decide (find_or m p k)) f.1) (λ t h. let q : h.0 ≡ f.0 = cc (h.1, f.1) in subst (λ (v : A). Behind t ts (k v)) q h.2) (joined ts (k f.0) f.2)
joined ((n when true) ∷ ts) (accept s o) a = absurd a
joined ((n when false) ∷ ts) (accept s o) a = absurd a

-- THE LAW, for code that answers n, the first refusal of its tests: the rule is rejected with it; where it is 0 each test was passed, and
-- what stands behind them decides.
module _ (ts : List Refusal) (r : Rule) (a : Agrees ts r) (n : ℕ) (told : n ≡ first_of ts) where
  pub first-refuses : (n ≡ 0 → ⊥) → decide r ≡ rejected n
  first-refuses z = (joined ts r a).refuses (λ h. z (told ∙ h)) ∙ ap rejected (sym told)

  pub first-passed : n ≡ 0 → Passed ts
  first-passed z = (joined ts r a).passed (sym told ∙ z)

  pub first_decides : n ≡ 0 → (t : Transition) → Behind t ts r → decide r ≡ t
  first_decides z = (joined ts r a).goes_on (sym told ∙ z)
