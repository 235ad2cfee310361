-- The lease that a request asks for: its fields as they stand in the request, and the parts that write it.
use Rattle.std.specs.Prelude.{ℕ, ◌+◌, ◌≡◌, refl, drop}
use native.Mathlib.Omega.{arith}
use mathlib.Core.List.{List, [], ◌∷◌, ◌++◌, append_assoc, append-nil}
use Rattle.std.proofs.Math.Path.{sym, ap}
use Rattle.std.proofs.Common.{◌∙◌, length-drop}
use Rattle.std.proofs.Math.ListN.{length, length-append}
use Rattle.parts.specs.Digits.{digits}
use Rattle.parts.specs.DigitLaws.{length_digits}
use Rattle.parts.specs.declared.Part.{Part}
use Rattle.parts.specs.declared.Part.TheVariants.{Second, Number}
use Rattle.parts.specs.Gather.{gather_of, run}
use Rattle.state.specs.Maps.{Text}
use Rattle.state.specs.Records.{SnapshotClosure, SnapshotLeaseToken, State, AuthorityContext}
use Rattle.fields.specs.Format.{Field, ◌▹◌, enc, enc_text}
use Rattle.image.specs.Shapes.{u64, name, closure, lease, lease_parts, closure_parts}
use Rattle.machine.specs.Next.{up, new_lease}
use Rattle.requests.specs.Request.{acquire}
use Rattle.image.proofs.OpenedLaws.{run-to, after_seam}

module _ (q : List ℕ) (id tenant : Text) (version : ℕ) (owner purpose : Text) (deadline : ℕ) (k : SnapshotClosure)
    (here : drop 27 q ≡ enc acquire (id, (tenant, (version, (owner, (purpose, (deadline, closure_parts k)))))))
  where
    abbrev first : Field
    first = name ▹ name ▹ u64

    -- up to the version
    abbrev pub a : List ℕ
    a = enc first (id, (tenant, version))

    abbrev second : Field
    second = name ▹ name ▹ u64 ▹ closure

    -- from the owner on
    abbrev pub b : List ℕ
    b = enc second (owner, (purpose, (deadline, closure_parts k)))

    pub front_length : length a ≡ 1 + length id + (1 + length tenant) + 8
    unfolding enc enc_text
    front_length = simp (length-append, length_digits) (omega arith)

    halves : drop 27 q ≡ a ++ b
    unfolding enc
    halves = here ∙ simp append_assoc

    pub halves_length : length q ≡ 27 + length a + length b
    unfolding enc enc_text
    halves_length = let n = sym (length-drop 27 q) ∙ ap length halves ∙ length-append a b in omega arith

    module _ (s : State) (x : AuthorityContext) where
      abbrev token : SnapshotLeaseToken
      token = new_lease s id tenant version owner purpose deadline k x

      row_is : (r : List ℕ) → enc lease (lease_parts token) ++ r ≡ a ++ (digits 8 (up s.lease_epoch) ++ (b ++ (digits 8 x.generation ++ (digits 8 x.position.term ++ (digits 8 x.position.index ++ r)))))
      unfolding enc
      row_is r = simp append_assoc

      -- THE LEASE'S BYTES: start and rest are where the id and the owner stand, and first and second how long the halves are
      pub asked-gathers : (y : List ℕ) (start rest first second epoch : ℕ) → start ≡ 27 → rest ≡ 27 + length a → first ≡ length a → second ≡ length b → epoch ≡ up s.lease_epoch
          → (ps : List Part)
          → gather_of y q (Second start first ∷ Number epoch 8 ∷ Second rest second ∷ Number x.generation 8 ∷ Number x.position.term 8 ∷ Number x.position.index 8 ∷ ps)
          ≡ enc lease (lease_parts token) ++ gather_of y q ps
      asked-gathers y start rest first second epoch e r f t u ps =
          let run-a : run q start first ≡ a = (λ i. run q (e i) (f i)) ∙ run-to q a b 27 (length a) halves refl in
          let run-b : run q rest second ≡ b = run-to q b [] rest second (after_seam q a b 27 rest halves r ∙ sym (append-nil b)) t in
          (λ i. run-a i ++ (digits 8 (u i) ++ (run-b i ++ (digits 8 x.generation ++ (digits 8 x.position.term ++ (digits 8 x.position.index ++ gather_of y q ps))))))
          ∙ sym (row_is (gather_of y q ps))

      pub asked-length : length (enc lease (lease_parts token)) ≡ length a + length b + 32
      asked-length =
          let e : ℕ = up s.lease_epoch in
          let l : length (a ++ (digits 8 e ++ (b ++ (digits 8 x.generation ++ (digits 8 x.position.term ++ (digits 8 x.position.index ++ [])))))) ≡ length a + length b + 32 = simp (length-append, length_digits) (omega arith) in
          ap length (sym (append-nil (enc lease (lease_parts token))) ∙ row_is []) ∙ l
