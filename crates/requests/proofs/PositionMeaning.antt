-- What stands at the places of a request is what is read there without checks.
use Prim.Native.Nat.{ℕ, zero, suc, ◌+◌, ◌≤◌, ◌<◌, min}
use native.Mathlib.Omega.{arith}
use Rattle.std.proofs.Common.{add-one, sym, ap, ◌∙◌, subst, drop-drop, get_or-drop}
use Rattle.std.specs.Prelude.{◌≡◌, Bool, List, [], ◌∷◌, eqb, drop, get_or, Option, None, Some}
use Rattle.std.proofs.Math.Path.{refl}
use Rattle.std.proofs.Math.Bool.{true, false, cond}
use Rattle.std.proofs.Math.Dec.{leb}
use Rattle.std.proofs.Math.ListN.{length, drop_of_length-le, get_or-eq_default}
use Rattle.std.proofs.Math.Seq.{drop-cons}
use borrow.Author.Tests.{leb-true, leb-false}
use Rattle.state.specs.Records.{Data, Manifest}
use Rattle.machine.specs.Actions.{Action}
use Rattle.machine.specs.Actions as machine
use Rattle.fields.specs.Format.{Field, kind, text, option, ◌▹◌, El}
use Rattle.fields.specs.Rows.{text_here}
use Rattle.image.specs.Shapes.{u64, name, keys, position, reference, identity, closure, lease, job, permit, receipt, each_option, option-there, position_parts, reference_parts, reference_from, reference-there, identity_parts, closure_parts, lease_parts, lease_from, job_parts, permit_parts, receipt_parts}
use Rattle.requests.specs.Cases.{Case}
use Rattle.requests.specs.Request.{actions}
use Rattle.requests.specs.Peek.{peek, peek_kind, peek_option}
use Rattle.requests.specs.Checked.{context, context_from, nth, peek_case, retire, action_case, peek_action}
use Rattle.requests.specs.Meaning.{text_of, maybe_text_of, kind_of, keys_of, position_of, context_of, reference_of, maybe_reference_of, identity_of, closure_of, lease_token_of, job_token_of, receipt_of, permit_of, action_of}
use Rattle.requests.specs.Positions.{behind, number_in, text_in, keys_in, either, kind_in, maybe_text_in, position_in, context_in, reference_in, maybe_reference_in, identity_in, closure_in, lease_token_in, job_token_in, receipt_in, permit_in, window_in, configure_in, acquire_in, renew_in, release_in, clock_in, collect_in, prepare_in, publish_in, pin_in, unpin_in, reserve_in, actions_in, action_in}
use Rattle.requests.proofs.PositionLaws.{left, behind_both}
use Rattle.requests.specs.declared.ObjectKind.{ObjectKind as KindAt}
use Rattle.requests.specs.declared.ObjectReference.{ObjectReference as ReferenceAt}
use Rattle.requests.specs.declared.PublicationAction.{PublicationAction}

-- the value of a field is what is read at its place
pub record Stands (s : List ℕ) (f : Field) (p : ℕ) (v : El f) : Type 0 where
  pub is : v ≡ peek f (drop p s)

-- ONE FIELD AFTER THE OTHER
then : {s : List ℕ} {f g : Field} {p : ℕ} {v : El f} {w : El g} → Stands s f p v → Stands s g (behind f s p) w → Stands s (f ▹ g) p (v, w)
unfolding peek
then {s} {f} {g} {p} a b = record { is = λ i. (a.is i, (b.is ∙ ap (peek g) (left f s p)) i) }

-- behind two fields that are one
then_on : {s : List ℕ} {f g k : Field} {p : ℕ} {v : El (f ▹ g)} {w : El k} → Stands s (f ▹ g) p v → Stands s k (behind g s (behind f s p)) w → Stands s ((f ▹ g) ▹ k) p (v, w)
then_on {s} {f} {g} {k} {p} {v} {w} a b = then a (subst (λ (q : ℕ). Stands s k q w) (sym (behind_both f s p g)) b)

pub first_byte : (s : List ℕ) (p : ℕ) → get_or (drop p s) 0 0 ≡ get_or s p 0
first_byte s p = get_or-drop p s 0 0 ∙ (let z : p + 0 ≡ p = omega arith in ap (λ (k : ℕ). get_or s k 0) z)

maybe : {s : List ℕ} {f : Field} {v : El f} (p : ℕ) → Stands s f (p + 1) v → Stands s (option f) p (either s p None (Some v))
unfolding peek peek_option
maybe {s} p a = record { is = rw (first_byte s p, drop-drop 1 p s, a.is) }

module _ (s : List ℕ) where
  number-stands : (p : ℕ) → Stands s u64 p (number_in s p)
  unfolding peek
  number-stands p = record { is = refl }

  text-is : (p : ℕ) → text_of s (text_in s p) ≡ text_here (drop p s)
  unfolding text_here
  text-is p = go (leb (length s) p) refl
    where
      go : (b : Bool) → leb (length s) p ≡ b → text_of s (text_in s p) ≡ text_here (drop p s)
      go true e =
          let h : length s ≤ p = leb-true _ _ e in
          rw (get_or-eq_default s 0 h, drop_of_length-le s h)
      go false e =
          let h : p < length s = leb-false _ _ e in
          let z : min (p + 1) (length s) ≡ p + 1 = omega arith in
          rw (z, drop-cons s p 0 h, add-one)

  text-stands : {n : ℕ} (p : ℕ) → Stands s (text n) p (text_of s (text_in s p))
  unfolding peek
  text-stands p = record { is = text-is p }

  keys_stand : (p : ℕ) → Stands s keys p (keys_of s (keys_in s p))
  unfolding peek
  keys_stand p = record { is = refl }

  kind-stands : (p : ℕ) → Stands s kind p (kind_of (kind_in s p))
  unfolding peek peek_kind
  kind-stands p = record { is = rw (first_byte s p) (go (eqb (get_or s p 0) 0)) }
    where
      go : (b : Bool) → kind_of (cond b KindAt.Data KindAt.Manifest) ≡ cond b Data Manifest
      go true = refl
      go false = refl

  maybe_text_is : (p : ℕ) → maybe_text_of s (maybe_text_in s p) ≡ either s p None (Some (text_of s (text_in s (p + 1))))
  maybe_text_is p = go (eqb (get_or s p 0) 0)
    where
      go : (b : Bool) → maybe_text_of s (cond b None (Some (text_in s (p + 1)))) ≡ cond b None (Some (text_of s (text_in s (p + 1))))
      go true = refl
      go false = refl

  maybe_text_stands : (p : ℕ) → Stands s (option name) p (maybe_text_of s (maybe_text_in s p))
  maybe_text_stands p = record { is = maybe_text_is p ∙ (maybe p (text-stands (p + 1))).is }

  -- RECORDS
  position-stands : (p : ℕ) → Stands s position p (position_parts (position_of (position_in s p)))
  position-stands p = then (number-stands p) (number-stands _)

  context-stands : (p : ℕ) → Stands s context p ((context_in s p).generation, position_parts (position_of (context_in s p).position))
  context-stands p = then (number-stands p) (position-stands _)

  reference-stands : (p : ℕ) → Stands s reference p (reference_parts (reference_of s (reference_in s p)))
  reference-stands p = then (kind-stands p) (then (text-stands _) (then (number-stands _) (text-stands _)))

  -- an option of a reference, taken apart
  abbrev maybe_reference_parts : ℕ → El (option reference)
  maybe_reference_parts p = each_option reference_parts (maybe_reference_of s (maybe_reference_in s p))

  maybe_reference_stands : (p : ℕ) → Stands s (option reference) p (maybe_reference_parts p)
  maybe_reference_stands p = record { is = go (eqb (get_or s p 0) 0) ∙ (maybe p (reference-stands (p + 1))).is }
    where
      go : (b : Bool) → each_option reference_parts (maybe_reference_of s (cond b None (Some (reference_in s (p + 1))))) ≡ cond b None (Some (reference_parts (reference_of s (reference_in s (p + 1)))))
      go true = refl
      go false = refl

  again : (m : Option ReferenceAt) → maybe_reference_of s m ≡ each_option reference_from (each_option reference_parts (maybe_reference_of s m))
  again m = sym (option-there reference_parts reference_from reference-there (maybe_reference_of s m))

  identity-stands : (p : ℕ) → Stands s identity p (identity_parts (identity_of s (identity_in s p)))
  identity-stands p = then_on (then (maybe_text_stands p) (maybe_text_stands _)) (then (number-stands _) (text-stands _))

  closure-stands : (p : ℕ) → Stands s closure p (closure_parts (closure_of s (closure_in s p)))
  closure-stands p = then (reference-stands p) (keys_stand _)

  lease-stands : (p : ℕ) → Stands s lease p (lease_parts (lease_token_of s (lease_token_in s p)))
  lease-stands p =
      then (text-stands p)
      (then (text-stands _)
      (then (number-stands _)
      (then (number-stands _)
      (then (text-stands _)
      (then (text-stands _)
      (then (number-stands _)
      (then (closure-stands _)
      (then (number-stands _) (position-stands _)))))))))

  job-stands : (p : ℕ) → Stands s job p (job_parts (job_token_of s (job_token_in s p)))
  job-stands p =
      then (text-stands p)
      (then (number-stands _)
      (then (position-stands _)
      (then (number-stands _)
      (then (reference-stands _)
      (then (text-stands _)
      (then (number-stands _)
      (then (number-stands _) (text-stands _))))))))

  receipt-stands : (p : ℕ) → Stands s receipt p (receipt_parts (receipt_of s (receipt_in s p)))
  receipt-stands p = then (job-stands p) (then (reference-stands _) (keys_stand _))

  permit-stands : (p : ℕ) → Stands s permit p (permit_parts (permit_of s (permit_in s p)))
  permit-stands p = then (text-stands p) (then (identity-stands _) (then (text-stands _) (then (number-stands _) (position-stands _))))

  pub lease_means : (p : ℕ) → lease_token_of s (lease_token_in s p) ≡ lease_from (peek lease (drop p s))
  lease_means p = ap lease_from (lease-stands p).is

  pub context_means : (p : ℕ) → context_of (context_in s p) ≡ context_from (peek context (drop p s))
  context_means p = ap context_from (context-stands p).is

  -- ACTIONS
  made : (k : ℕ) {p : ℕ} {v : El (action_case k).shape} → Stands s (action_case k).shape p v → (action_case k).make v ≡ peek_action k (drop p s)
  made k a = ap (action_case k).make a.is

  window_means : (p : ℕ) → action_of s (PublicationAction.SetRetentionWindow (window_in s p)) ≡ peek_action 2 (drop p s)
  window_means p = made 2 (then (number-stands p) (number-stands _))

  configure_means : (p : ℕ) → action_of s (PublicationAction.ConfigureCollectionRoot (configure_in s p)) ≡ peek_action 4 (drop p s)
  configure_means p = made 4 (then (maybe_text_stands p) (text-stands _))

  acquire_means : (p : ℕ) → action_of s (PublicationAction.AcquireLease (acquire_in s p)) ≡ peek_action 5 (drop p s)
  acquire_means p = made 5 (then (text-stands p) (then (text-stands _) (then (number-stands _) (then (text-stands _) (then (text-stands _) (then (number-stands _) (closure-stands _)))))))

  renew_means : (p : ℕ) → action_of s (PublicationAction.RenewLease (renew_in s p)) ≡ peek_action 6 (drop p s)
  renew_means p = made 6 (then (text-stands p) (then (number-stands _) (number-stands _)))

  release_means : (p : ℕ) → action_of s (PublicationAction.ReleaseLease (release_in s p)) ≡ peek_action 7 (drop p s)
  release_means p = made 7 (then (text-stands p) (number-stands _))

  clock_means : (p : ℕ) → action_of s (PublicationAction.AdvanceLeaseClock (clock_in s p)) ≡ peek_action 8 (drop p s)
  clock_means p = made 8 (then (number-stands p) (number-stands _))

  collect_means : (p : ℕ) → action_of s (PublicationAction.PrepareCollection (collect_in s p)) ≡ peek_action 9 (drop p s)
  collect_means p = made 9 (then (text-stands p) (then (number-stands _) (then (reference-stands _) (then (text-stands _) (then (number-stands _) (then (number-stands _) (text-stands _)))))))

  unpin_means : (p : ℕ) → action_of s (PublicationAction.Unpin (unpin_in s p)) ≡ peek_action 15 (drop p s)
  unpin_means p = made 15 (then (text-stands p) (reference-stands _))

  reserve_means : (p : ℕ) → action_of s (PublicationAction.ReserveDelete (reserve_in s p)) ≡ peek_action 16 (drop p s)
  reserve_means p = made 16 (then (text-stands p) (then (number-stands _) (then (text-stands _) (identity-stands _))))

  prepare_means : (p : ℕ) → action_of s (PublicationAction.Prepare (prepare_in s p)) ≡ peek_action 12 (drop p s)
  prepare_means p =
      let i = (prepare_in s p).intent in
      (λ j. machine.Prepare (text_of s (prepare_in s p).publication_id) (record { object_keys = keys_of s i.object_keys; manifest = reference_of s i.manifest; destination_root = text_of s i.destination_root; expected_prior_root = again i.expected_prior_root j }))
      ∙ made 12 (then (text-stands p) (then (keys_stand _) (then (reference-stands _) (then (text-stands _) (maybe_reference_stands _)))))

  publish_means : (p : ℕ) → action_of s (PublicationAction.Publish (publish_in s p)) ≡ peek_action 13 (drop p s)
  publish_means p =
      let a = publish_in s p in
      (λ j. machine.Publish (text_of s a.publication_id) (text_of s a.destination_root) (again a.expected_prior_root j) (reference_of s a.manifest))
      ∙ made 13 (then (text-stands p) (then (text-stands _) (then (maybe_reference_stands _) (reference-stands _))))

  pin_means : (p : ℕ) → action_of s (PublicationAction.Pin (pin_in s p)) ≡ peek_action 14 (drop p s)
  pin_means p =
      let a = pin_in s p in
      (λ j. machine.Pin (text_of s a.pin_id) (again a.expected j) (reference_of s a.manifest))
      ∙ made 14 (then (text-stands p) (then (maybe_reference_stands _) (reference-stands _)))

  -- one by one, each action at a place means what its case reads
  abbrev AllMean : List ℕ → List PublicationAction → List (Case Action) → Type 0
  AllMean r [] [] = Unit {0}
  AllMean r [] (c ∷ cs) = ⊥
  AllMean r (a ∷ ms) [] = ⊥
  AllMean r (a ∷ ms) (c ∷ cs) = (action_of s a ≡ peek_case c r) × AllMean r ms cs

  nth_means : (r : List ℕ) (d : PublicationAction) (e : Case Action) → action_of s d ≡ peek_case e r
      → (ms : List PublicationAction) (cs : List (Case Action)) → AllMean r ms cs → (k : ℕ) → action_of s (nth d ms k) ≡ peek_case (nth e cs k) r
  nth_means r d e h [] [] g k = h
  nth_means r d e h [] (c ∷ cs) g k = absurd g
  nth_means r d e h (a ∷ ms) [] g k = absurd g
  nth_means r d e h (a ∷ ms) (c ∷ cs) g zero = g.0
  nth_means r d e h (a ∷ ms) (c ∷ cs) g (suc k) = nth_means r d e h ms cs g.1 k

  actions_mean : (p : ℕ) → AllMean (drop p s) (actions_in s p) actions
  unfolding peek
  actions_mean p = (refl, (window_means p, (refl, (configure_means p, (acquire_means p, (renew_means p, (release_means p, (clock_means p, (collect_means p, (made 10 (receipt-stands p), (made 11 (job-stands p), (prepare_means p, (publish_means p, (pin_means p, (unpin_means p, (reserve_means p, (made 17 (permit-stands p), tt)))))))))))))))))

  pub action_means : (k p : ℕ) → action_of s (action_in s k p) ≡ peek_action k (drop p s)
  action_means k p =
      let last = made 17 (permit-stands p) in
      nth_means (drop p s) (PublicationAction.RetireDelete (permit_in s p)) retire last (PublicationAction.RetireDelete (permit_in s p) ∷ actions_in s p) (retire ∷ actions) (last, actions_mean p) k
