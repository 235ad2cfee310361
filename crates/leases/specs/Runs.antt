-- What a renewal keeps of a stored lease, by runs, and the parts that write the renewed one.
use Rattle.std.specs.Prelude.{ℕ, ◌+◌, ◌-◌, ◌≡◌, refl, length, drop}
use Rattle.std.proofs.Common.{arith, sym, ap, ◌∙◌}
use mathlib.Core.List.{List, [], ◌∷◌, ◌++◌, append_assoc, append-nil}
use Rattle.std.proofs.Math.ListN.{length-append}
use Rattle.parts.specs.Digits.{digits}
use Rattle.parts.specs.DigitLaws.{length_digits}
use Rattle.parts.specs.declared.Part.{Part}
use Rattle.parts.specs.declared.Part.TheVariants.{First, Number}
use Rattle.parts.specs.Gather.{gather_of, run}
use Rattle.state.specs.Records.{SnapshotLeaseToken, State, AuthorityContext}
use Rattle.fields.specs.Format.{Field, ◌▹◌, El, enc, enc_text}
use Rattle.image.specs.Shapes.{u64, name, closure, lease, lease_parts, closure_parts}
use Rattle.machine.specs.Next.{up, renewed_lease}
use Rattle.image.proofs.OpenedLaws.{run-to, after_seam}

-- A STORED LEASE: the fields up to the epoch, up to the deadline, and up to the generation
module _ (t : SnapshotLeaseToken) where
  abbrev first : Field
  first = name ▹ name ▹ u64

  abbrev first_parts : El first
  first_parts = (t.lease_id, (t.tenant_id, t.snapshot_version))

  abbrev pub a : List ℕ
  a = enc first first_parts

  abbrev second : Field
  second = name ▹ name

  abbrev second_parts : El second
  second_parts = (t.owner, t.purpose)

  abbrev pub b : List ℕ
  b = enc second second_parts

  abbrev pub d : List ℕ
  d = enc closure (closure_parts t.closure)

  pub a-length : length a ≡ 1 + length t.lease_id + (1 + length t.tenant_id) + 8
  unfolding enc enc_text
  a-length = simp (length-append, length_digits) (omega arith)

  pub b-length : length b ≡ 1 + length t.owner + (1 + length t.purpose)
  unfolding enc enc_text
  b-length = simp length-append (omega arith)

  -- with other numbers
  abbrev with_numbers : (epoch deadline generation term index : ℕ) → List ℕ → List ℕ
  with_numbers epoch deadline generation term index r =
      a ++ (digits 8 epoch ++ (b ++ (digits 8 deadline ++ (d ++ (digits 8 generation ++ (digits 8 term ++ (digits 8 index ++ r)))))))

  row_is : (r : List ℕ) → enc lease (lease_parts t) ++ r ≡ with_numbers t.lease_epoch t.deadline_tick t.owner_generation t.authority_position.term t.authority_position.index r
  unfolding enc
  row_is r = simp append_assoc

  with_length : (epoch deadline generation term index : ℕ) → length (with_numbers epoch deadline generation term index []) ≡ length a + length b + length d + 40
  with_length epoch deadline generation term index = simp (length-append, length_digits) (omega arith)

  module _ (s : State) (tick : ℕ) (x : AuthorityContext) where
    abbrev new : SnapshotLeaseToken
    new = renewed_lease s t tick x

    new_row : (r : List ℕ) → enc lease (lease_parts new) ++ r ≡ with_numbers (up s.lease_epoch) tick x.generation x.position.term x.position.index r
    unfolding enc
    new_row r = simp append_assoc

    -- A RENEWED LEASE IS AS LONG
    pub renewed-length : length (enc lease (lease_parts new)) ≡ length (enc lease (lease_parts t))
    renewed-length =
        let u = ap length (sym (append-nil (enc lease (lease_parts new))) ∙ new_row []) ∙ with_length (up s.lease_epoch) tick x.generation x.position.term x.position.index in
        let v = ap length (sym (append-nil (enc lease (lease_parts t))) ∙ row_is []) ∙ with_length t.lease_epoch t.deadline_tick t.owner_generation t.authority_position.term t.authority_position.index in
        u ∙ sym v

  -- WHERE IT STANDS in some bytes from p on: the owner's length byte, the deadline and the end, counted from p
  module _ (y r : List ℕ) (p : ℕ) (there : drop p y ≡ enc lease (lease_parts t) ++ r) (rest deadline end : ℕ)
      (rest-is : rest ≡ length a + 8) (deadline-is : deadline ≡ rest + length b) (end_is : end ≡ deadline + 8 + length d)
    where
      abbrev after_deadline : List ℕ
      after_deadline = d ++ (digits 8 t.owner_generation ++ (digits 8 t.authority_position.term ++ (digits 8 t.authority_position.index ++ r)))

      abbrev after_epoch : List ℕ
      after_epoch = b ++ (digits 8 t.deadline_tick ++ after_deadline)

      at_row : drop p y ≡ a ++ (digits 8 t.lease_epoch ++ after_epoch)
      at_row = there ∙ row_is r

      behind-epoch : drop (p + rest) y ≡ after_epoch
      behind-epoch =
          after_seam y (digits 8 t.lease_epoch) after_epoch (p + length a) (p + rest) (after_seam y a (digits 8 t.lease_epoch ++ after_epoch) p (p + length a) at_row refl) (omega (arith, rest-is, length_digits 8 t.lease_epoch))

      behind-deadline : drop (p + (deadline + 8)) y ≡ after_deadline
      behind-deadline =
          after_seam y (digits 8 t.deadline_tick) after_deadline (p + rest + length b) (p + (deadline + 8)) (after_seam y b (digits 8 t.deadline_tick ++ after_deadline) (p + rest) (p + rest + length b) behind-epoch refl)
          (omega (arith, deadline-is, length_digits 8 t.deadline_tick))

      -- THE PARTS OF A RENEWED LEASE: n₁, n₂ and n₃ bytes of what stays
      pub renewed-gathers : (q : List ℕ) (s : State) (tick : ℕ) (x : AuthorityContext) (epoch n₁ n₂ n₃ : ℕ) → epoch ≡ up s.lease_epoch → n₁ ≡ rest - 8 → n₂ ≡ deadline - rest → n₃ ≡ end - (deadline + 8)
          → (ps : List Part)
          → gather_of y q (First p n₁ ∷ Number epoch 8 ∷ First (p + rest) n₂ ∷ Number tick 8 ∷ First (p + (deadline + 8)) n₃ ∷ Number x.generation 8 ∷ Number x.position.term 8 ∷ Number x.position.index 8 ∷ ps)
          ≡ enc lease (lease_parts (renewed_lease s t tick x)) ++ gather_of y q ps
      renewed-gathers q s tick x epoch n₁ n₂ n₃ u e₁ e₂ e₃ ps =
          let run-a : run y p n₁ ≡ a = run-to y a (digits 8 t.lease_epoch ++ after_epoch) p n₁ at_row (omega (arith, e₁, rest-is)) in
          let run-b : run y (p + rest) n₂ ≡ b = run-to y b (digits 8 t.deadline_tick ++ after_deadline) (p + rest) n₂ behind-epoch (omega (arith, e₂, deadline-is)) in
          let run-d : run y (p + (deadline + 8)) n₃ ≡ d =
          run-to y d (digits 8 t.owner_generation ++ (digits 8 t.authority_position.term ++ (digits 8 t.authority_position.index ++ r))) (p + (deadline + 8)) n₃ behind-deadline (omega (arith, e₃, end_is)) in
          (λ i. run-a i ++ (digits 8 (u i) ++ (run-b i ++ (digits 8 tick ++ (run-d i ++ (digits 8 x.generation ++ (digits 8 x.position.term ++ (digits 8 x.position.index ++ gather_of y q ps))))))))
          ∙ sym (new_row s tick x (gather_of y q ps))
