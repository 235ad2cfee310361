-- Checked first, then read without checks: together they are what reading to the end finds.
use Rattle.std.specs.Prelude.{ℕ, zero, suc, ◌≡◌, ◌-◌, ◌≤◌, ◌<◌, refl, List, [], ◌∷◌, length, drop, leb, Bool, true, false, Ok, Err}
use Rattle.std.proofs.Common.{arith, ap, ◌∙◌, length-drop, leb-true, leb-false}
use Rattle.machine.specs.Actions.{Action}
use Rattle.fields.specs.Format.{Malformed, Res, ok, bad, bind, Field, El, dec}
use Rattle.fields.specs.Codes.{codes, walk, forget}
use Rattle.fields.specs.declared.Code.{Code}
use Rattle.fields.proofs.CodeLaws.{walk-codes}
use Rattle.fields.specs.Walks.{walk_of, Rest, Leaves}
use Rattle.fields.proofs.WalkLaws.{rest_trans, rest-drop, walk-leaves}
use Rattle.image.specs.Contents.{Reply, answer, refusal, whole}
use Rattle.requests.specs.Cases.{Case, read_case}
use Rattle.requests.specs.Request.{actions, read_fields}
use Rattle.requests.specs.Peek.{peek}
use Rattle.requests.proofs.PeekLaws.{peek-dec}
use Rattle.requests.specs.Checked.{checked_of, nth, action_case, peek_action, peek_case, retire}

-- A WALK THAT ENDED at a place: whole where that is the end, and else bytes are left
pub walk-whole : {A : Type 0} (s : List ℕ) (at e : ℕ) (m : Res A) → Leaves (drop at s) m → Ok e ≡ walk_of s m → length s ≤ e
    → checked_of (whole m) ≡ Ok tt
unfolding whole
walk-whole s at e (ok v []) l h k = refl
walk-whole s at e (ok v (x ∷ r)) l h k =
    let a : Rest s (x ∷ r) = rest_trans (rest-drop at s) (l.rest v (x ∷ r) refl) in
    let n : suc (length r) ≡ length s - a.bytes = ap length a.is ∙ length-drop a.bytes s in
    let z : length s - suc (length r) ≡ e = cc in
    absurd (omega arith)
walk-whole s at e (bad x) l h k = cc

pub walk_whole : (cs : List Code) (s : List ℕ) (at e : ℕ) → Ok e ≡ walk_of s (walk 0 cs (drop at s)) → length s ≤ e
    → checked_of (whole (walk 0 cs (drop at s))) ≡ Ok tt
walk_whole cs s at e h k = walk-whole s at e (walk 0 cs (drop at s)) (walk-leaves 0 cs (drop at s)) h k

pub walk_surplus : {A : Type 0} (s : List ℕ) (m : Res A) (e : ℕ) → Ok e ≡ walk_of s m → e < length s → checked_of (whole m) ≡ Err Malformed
unfolding whole
walk_surplus s (ok v []) e h k = let z : length s - 0 ≡ e = cc in absurd (omega arith)
walk_surplus s (ok v (x ∷ r)) e h k = refl
walk_surplus s (bad x) e h k = cc

pub walk_fault : {A : Type 0} (s : List ℕ) (m : Res A) (e : ℕ) → Err e ≡ walk_of s m → checked_of (whole m) ≡ Err e
unfolding whole
walk_fault s (ok v r) e h = cc
walk_fault s (bad x) e h = cc

pub reply-fault : {A : Type 0} (r : Reply A) (e : ℕ) → checked_of r ≡ Err e → refusal e ≡ r
reply-fault (answer v) e h = cc
reply-fault (refusal x) e h = let q : e ≡ x = cc in ap refusal q

pub ruleset checks = (walk_whole, walk_surplus, walk_fault)

-- ONE RECORD: the check says whether it is read; where it is, its fields are those that are read without checks
module _ {A : Type 0} (f : Field) (make : El f → A) (s : List ℕ) where
  abbrev made : Res (El f) → Reply A
  made m = whole (bind m (λ v r. ok (make v) r))

  same_check : (m : Res (El f)) → checked_of (whole (forget m)) ≡ checked_of (made m)
  unfolding whole
  same_check (ok v []) = refl
  same_check (ok v (x ∷ r)) = refl
  same_check (bad e) = refl

  pub check_is : checked_of (whole (walk 0 (codes f) s)) ≡ checked_of (made (dec f s))
  check_is = ap (λ (m : Res (Unit {0})). checked_of (whole m)) (walk-codes f s) ∙ same_check (dec f s)

  pub made_whole : checked_of (made (dec f s)) ≡ Ok tt → answer (make (peek f s)) ≡ made (dec f s)
  unfolding whole
  made_whole = go (dec f s) refl
    where
      go : (m : Res (El f)) → dec f s ≡ m → checked_of (made m) ≡ Ok tt → answer (make (peek f s)) ≡ made m
      go (ok v []) e h = ap (λ (w : El f). answer (make w)) (peek-dec f s v [] e)
      go (ok v (x ∷ r)) e h = cc
      go (bad x) e h = cc

-- ONE OF A LIST OF CASES
pub nth_past : {A : Type 0} (d : A) (cs : List A) (k : ℕ) → length cs ≤ k → nth d cs k ≡ d
nth_past d [] k h = refl
nth_past d (c ∷ cs) zero h = absurd (omega arith)
nth_past d (c ∷ cs) (suc k) h = nth_past d cs k (omega arith)

-- the last of a list is taken for every other byte
pub nth_other : {A : Type 0} (d : A) (cs : List A) (n : ℕ) → length cs ≡ suc n → nth d cs n ≡ d → (k : ℕ) → (1 ≤ k → n < k) → nth d (d ∷ cs) k ≡ d
nth_other d cs n m e zero h = refl
nth_other d cs n m e (suc k) h = go (leb (length cs) k) refl
  where
    l : n < suc k
    l = h (omega arith)

    go : (b : Bool) → leb (length cs) k ≡ b → nth d cs k ≡ d
    go true q = nth_past d cs k (leb-true (length cs) k q)
    go false q = let o : k < length cs = leb-false (length cs) k q in let z : k ≡ n = omega (arith, l, o, m) in ap (nth d cs) z ∙ e

case_checked : {A : Type 0} (d : Case A) (cs : List (Case A)) (k : ℕ) (s : List ℕ) → k < length cs
    → checked_of (whole (walk 0 (codes (nth d cs k).shape) s)) ≡ checked_of (whole (read_case cs k s))
unfolding read_case
case_checked d [] k s h = absurd (omega arith)
case_checked d (c ∷ cs) zero s h = check_is c.shape c.make s
case_checked d (c ∷ cs) (suc k) s h = case_checked d cs k s (omega arith)

pub case_whole : {A : Type 0} (d : Case A) (cs : List (Case A)) (k : ℕ) (s : List ℕ) → checked_of (whole (read_case cs k s)) ≡ Ok tt → answer (peek_case (nth d cs k) s) ≡ whole (read_case cs k s)
unfolding read_case whole
case_whole d [] k s h = cc
case_whole d (c ∷ cs) zero s h = made_whole c.shape c.make s h
case_whole d (c ∷ cs) (suc k) s h = case_whole d cs k s h

-- THE FIELDS OF AN ACTION, by its byte
pub fields_checked : (k : ℕ) (s : List ℕ) → k < length actions → checked_of (whole (walk 0 (codes (action_case (suc k)).shape) s)) ≡ checked_of (whole (read_fields (suc k) s))
unfolding read_fields
fields_checked k s h = case_checked retire actions k s h

pub fields_whole : (k : ℕ) (s : List ℕ) → checked_of (whole (read_fields k s)) ≡ Ok tt → answer (peek_action k s) ≡ whole (read_fields k s)
unfolding read_fields whole
fields_whole zero s h = cc
fields_whole (suc k) s h = case_whole retire actions k s h

-- no action has such a byte
pub fields_none : (k : ℕ) (s : List ℕ) → (1 ≤ k → 17 < k) → read_fields k s ≡ bad Malformed
unfolding read_fields read_case
fields_none zero s h = refl
fields_none (suc k) s h = go actions k (let l : 17 < suc k = h (omega arith) in omega arith)
  where
    go : (cs : List (Case Action)) (k : ℕ) → length cs ≤ k → read_case cs k s ≡ bad Malformed
    go [] k h = refl
    go (c ∷ cs) zero h = absurd (omega arith)
    go (c ∷ cs) (suc k) h = go cs k (omega arith)
