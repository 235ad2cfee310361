-- What an acceptance tells, and from the rule of an action to `apply`.
-- Assumes nothing.
use Rattle.std.specs.Prelude.{◌≡◌, refl, List, [], ◌∷◌, Bool, true, false, ◌||◌, ℕ, eqb, None, Some}
use Rattle.std.proofs.Common.{subst, arith}
use Rattle.state.specs.Records.{AuthorityPosition, AuthorityContext, PublicationAuthorityFaults, State, valid_context}
use Rattle.state.specs.Setters.{set_revision}
use Rattle.machine.specs.Actions.{Action, Outcome, Transition, rejected, accepted, Rule, refuse_or, find_or, accept, decide}
use Rattle.machine.specs.Machine.{act, rule, stamp, apply}

-- P HOLDS OF WHAT A RULE ACCEPTS WITH.
abbrev pub Accepts : (State → Outcome → Type 0) → Rule → Type 0
Accepts P r = (s : State) (o : Outcome) → decide r ≡ accepted s o → P s o

-- So it does where P holds at the rule's end, from what was found on the way. `rests` are the statuses of the tests that this rests on: of
-- these alone it is told that they were passed, so that no other test of the rule moves the proof.
abbrev among : ℕ → List ℕ → Bool
among n [] = false
among n (m ∷ ms) = eqb n m || among n ms

abbrev Told : (asked test : Bool) → Type 0 → Type 0
Told true b T = b ≡ false → T
Told false b T = T

abbrev pub Ends : (rests : List ℕ) → (State → Outcome → Type 0) → Rule → Type 0
Ends rests P (refuse_or n b r) = Told (among n rests) b (Ends rests P r)
Ends rests P (find_or {A = A} n x k) = (v : A) → x ≡ Some v → Ends rests P (k v)
Ends rests P (accept s o) = P s o

pub not_accepted {ℓ} : {B : Type ℓ} {n : ℕ} {s : State} {o : Outcome} → rejected n ≡ accepted s o → B
not_accepted e = let z : ◌≡◌ {A = ℕ} 0 1 = cc in absurd (omega arith)

pub not_rejected {ℓ} : {B : Type ℓ} {n : ℕ} {s : State} {o : Outcome} → accepted s o ≡ rejected n → B
not_rejected e = let z : ◌≡◌ {A = ℕ} 0 1 = cc in absurd (omega arith)

told : (asked : Bool) (T : Type 0) → Told asked false T → T
told true T h = h refl
told false T h = h

pub accepts : (rests : List ℕ) (P : State → Outcome → Type 0) (r : Rule) → Ends rests P r → Accepts P r
unfolding decide
accepts rests P (refuse_or n true r) h s o e = not_accepted e
accepts rests P (refuse_or n false r) h s o e = accepts rests P r (told (among n rests) _ h) s o e
accepts rests P (find_or n None k) h s o e = not_accepted e
accepts rests P (find_or n (Some x) k) h s o e = accepts rests P (k x) (h x refl) s o e
accepts rests P (accept s' o') h s o e = let p : s' ≡ s = cc in let q : o' ≡ o = cc in subst (λ (x : State). P x o) p (subst (P s') q h)

-- FROM THE RULE TO `apply`
-- what holds of every acceptance of the rule holds of what `apply` accepts with, where the revision is of no account
pub stamped : (P : State → Outcome → Type 0) (p : AuthorityPosition) (t : Transition) → ((s : State) (o : Outcome) → t ≡ accepted s o → P (set_revision p s) o)
    → (s' : State) (o : Outcome) → stamp p t ≡ accepted s' o → P s' o
unfolding stamp
stamped P p (rejected n) h s' o e = not_accepted e
stamped P p (accepted s₁ o₁) h s' o e =
    let q : set_revision p s₁ ≡ s' = cc in let r : o₁ ≡ o = cc in
    subst (λ (x : State). P x o) q (subst (P (set_revision p s₁)) r (h s₁ o₁ refl))

-- where format and context pass, `apply` answers as the rule of its action does
module _ (s : State) (a : Action) (c : AuthorityContext) (f : PublicationAuthorityFaults) (format : eqb s.format_version 1 ≡ true) (valid : valid_context c ≡ true) where
  pub apply_accepts : (s' : State) (o : Outcome) → decide (act s a c f) ≡ accepted s' o → apply s a c f ≡ accepted (set_revision c.position s') o
  unfolding apply rule decide stamp
  apply_accepts s' o e = simp (format, valid, e)

  pub apply_rejects : (n : ℕ) → decide (act s a c f) ≡ rejected n → apply s a c f ≡ rejected n
  unfolding apply rule decide stamp
  apply_rejects n e = simp (format, valid, e)
