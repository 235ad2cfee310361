-- THE CLAIMS OF THE ANSWERS: a step to `caller_history`. The calls of `apply_bytes`, each on the image that the one before gave, follow
-- `apply` on the state; so the claims hold of them.
use Rattle.std.specs.Prelude.{ℕ, ◌≡◌, refl, ◌↔◌, List, length, Option, Some, option_map}
use Rattle.std.proofs.Common.{arith, sym, ap, ◌∙◌}
use Rattle.parts.specs.Answer.{Answer, no, yes}
use Rattle.state.specs.Records.{no_faults, State, default, SnapshotLeaseToken}
use Rattle.machine.specs.Actions.{accepted}
use Rattle.machine.specs.Machine.{apply, validate}
use Rattle.machine.specs.Claims.{Always}
use Rattle.machine.proofs.History.{Step, history}
use Rattle.image.specs.Contents.{Reply, answer, refusal}
use Rattle.image.specs.Layout.{encode_image, decode_image}
use Rattle.image.proofs.LayoutLaws.{decodes_back, bytes-image}
use Rattle.requests.specs.Request.{Request, decode_token}
use Rattle.requests.proofs.Faults.{token-faults}
use Rattle.entries.specs.Bytes.{◌>>=◌, status, validate_bytes}
use Rattle.entries.specs.Caller.{Call, reply, read, Holds}
use Rattle.entries.proofs.Ways.{Took, took as Took-of}
use Rattle.entries.proofs.Agrees.{took_again, default_has_image}
use Rattle.entries.specs.ByteHistory.{bytes, heard_by, left_by}

-- EACH CALL IS A STEP
one_state : (o : Option State) (s t : State) → o ≡ Some s → o ≡ Some t → s ≡ t
one_state o s t p q = cc

module _ (x : List ℕ) (s : State) (h : Holds x s) (c : Call) where
  step : (a : Answer) → reply x c ≡ a → (s' : State) × Step s (heard_by c.request a) s' × Holds (left_by x a) s'
  step (no n) e = (s, refl, h)
  step (yes next outcome) e =
      let t : Took x c.request (length c.next) (length c.outcome) next outcome = Took-of x c.request (length c.next) (length c.outcome) next outcome e in
      let k = took_again x c.request (length c.next) (length c.outcome) next outcome h.0 c.are_bytes t in
      let p : t.call.now ≡ s = one_state (decode_image x) t.call.now s t.call.holds h.1 in
      let f : t.call.asked.faults ≡ no_faults = c.no_flags t.call.asked t.call.reads in
      let a : apply s t.call.asked.action t.call.asked.context no_faults ≡ accepted t.call.next t.call.outcome = rw (← p, ← f) t.call.applies in (
        t.call.next,
        record { action = t.call.asked.action; context = t.call.asked.context; outcome = t.call.outcome; asks = ap (λ (r : Reply Request). option_map (λ q. q.action) (read r)) t.call.reads; answers = ap read k.outcome_is; applies = a },
        (k.image_bytes, k.image_is),
      )

-- VALIDATION OF ANY BYTES is that of the token that they spell
module _ (x b : List ℕ) (s : State) (h : decode_image x ≡ Some s) where
  abbrev Spells : Type 0
  Spells = (u : SnapshotLeaseToken) × (read (decode_token b) ≡ Some u) × (validate s u ≡ 0)

  validate-is : validate_bytes x b ≡ status (◌>>=◌ (decode_token b) (λ t. answer (validate s t)))
  unfolding validate_bytes
  validate-is = rw h

  checks : (validate_bytes x b ≡ 0) ↔ Spells
  checks = (λ z. there (decode_token b) refl (sym validate-is ∙ z), λ g. validate-is ∙ back (decode_token b) g)
    where
      there : (p : Reply SnapshotLeaseToken) → decode_token b ≡ p → status (◌>>=◌ p (λ t. answer (validate s t))) ≡ 0 → Spells
      there (answer t) q z = (t, ap read q, z)
      there (refusal e) q z = absurd (let u = token-faults b e q in omega (arith, u.low))

      back : (p : Reply SnapshotLeaseToken) → (u : SnapshotLeaseToken) × (read p ≡ Some u) × (validate s u ≡ 0) → status (◌>>=◌ p (λ t. answer (validate s t))) ≡ 0
      back (answer t) g = let e : t ≡ g.0 = cc g.1 in rw e g.2
      back (refusal n) g = let z : ◌≡◌ {A = ℕ} 0 1 = cc g.1 in absurd (omega arith)

pub byte_history : Always bytes (encode_image default)
byte_history = history bytes (record { each_call = λ x s h c. step x s h c (reply x c) refl; validation = λ x s h b. checks x b s h.1 })
    (encode_image default) (bytes-image default default_has_image, decodes_back default default_has_image)
