-- RenewLease: its answers, and the contents that show its next state.
use Rattle.parts.specs.declared.Part.TheVariants.{First, Number}
use Rattle.std.specs.Prelude.{ℕ, ◌+◌, ◌-◌, ◌≤◌, ◌<◌, List, [], ◌∷◌, ◌++◌, ◌≡◌, refl, drop, set, eqb}
use Rattle.std.proofs.Common.{arith, append-nil, ◌∙◌, take-append-drop}
use Rattle.std.proofs.Math.Bool.{not, cond}
use Rattle.std.proofs.Math.Path.{sym, ap}
use Rattle.std.proofs.Math.ListN.{length}
use Rattle.std.proofs.Math.Dec.{leb}
use Rattle.parts.specs.Answer.{longest}
use Rattle.parts.specs.declared.Part.{Part}
use Rattle.parts.specs.Gather.{gather_of, run}
use Rattle.state.specs.Maps.{Text, insert}
use Rattle.state.specs.Records.{SnapshotLeaseToken, State}
use Rattle.state.specs.Setters.{set_revision}
use Rattle.fields.specs.Format.{◌▹◌, enc}
use Rattle.fields.proofs.FormatLaws.{dec-enc}
use Rattle.tables.specs.declared.Place.{Place}
use Rattle.image.specs.Layout.{leases}
use Rattle.image.specs.Front.{Small}
use Rattle.image.specs.Opened.{measures_in, Shows}
use Rattle.image.specs.Shapes.{u64, name, position, closure, lease, lease_parts, lease_from}
use Rattle.image.specs.ImageParts.{tables_of, joined}
use Rattle.image.specs.TableLaws.{index, table_in, tables_place}
use Rattle.image.specs.declared.Table.{Table}
use Rattle.image.specs.declared.Contents.{Contents}
use Rattle.machine.specs.Actions.{rejected, accepted, Rule, decide, LeaseRenewed}
use Rattle.machine.specs.Machine.{act, renew_lease, any_reserved}
use Rattle.machine.specs.Next.{up, renewed, renewed_lease}
use Rattle.machine.specs.Tests.{Refusal, first_of}
use Rattle.machine.proofs.TestLaws.{Agrees, ◌then◌, first-refuses, first-passed, first_decides}
use Rattle.requests.specs.Outcome.{encode_outcome}
use Rattle.requests.specs.Meaning.{text_of, keys_of, position_of, context_of, faults_of, action_of, lease_token_of}
use Rattle.requests.specs.Positions.{behind, lease_token_in}
use Rattle.requests.specs.Peek.{peek}
use Rattle.requests.proofs.PeekLaws.{peek-dec}
use Rattle.requests.proofs.PositionLaws.{Written, first, second, behind-written, behind-number, behind-text, text-place, text-end, closure-end, closure-within}
use Rattle.requests.proofs.PositionMeaning.{lease_means}
use Rattle.requests.specs.declared.SnapshotLeaseToken.{SnapshotLeaseToken as LeaseTokenAt}
use Rattle.requests.specs.declared.PublicationAction.{PublicationAction}
use Rattle.requests.specs.declared.RenewLease.{RenewLease as RenewLeaseAt}
use Rattle.requests.specs.declared.AuthorityContext.{AuthorityContext as ContextAt}
use Rattle.requests.specs.declared.PublicationAuthorityFaults.{PublicationAuthorityFaults as FaultsAt}
use Rattle.next.specs.Call.{Ready, ruled}
use Rattle.next.specs.Edit.{place-low}
use Rattle.next.specs.Kept.{number_is, small-held}
use Rattle.next.specs.Outcome.{outcome_bytes, Fits}
use Rattle.next.specs.declared.PublicationOutcome.{PublicationOutcome}
use Rattle.reserved.specs.Located.{reserved-here}
use Rattle.edits.specs.Changes.{after_insert}
use Rattle.edits.specs.PlaceLaws.{Located, Held, table_bounds, spot, missing, held, inserted_shown, inserted_tables}
use Rattle.leases.specs.Tests.{renew_tests}
use Rattle.leases.specs.RowLaws.{no_row, a-row, row-long}
use Rattle.leases.specs.Leased.{leased, leases-shown, small-leases}
use Rattle.leases.specs.Runs.{a as before-epoch-of, b as names_of, d as closure_from, a-length, b-length, renewed-length, renewed-gathers}

-- A CALL OF IT, by the place where the id stands or would stand
module _ {x : List ℕ} {c : Contents} {q : List ℕ} {a : ContextAt} {f : FaultsAt} {l : RenewLeaseAt} (ready : Ready x c q (record { context = a; faults = f; action = PublicationAction.RenewLease l }))
    {place : Place} (found : Located leases x c (text_of q l.lease_id) place)
  where
    abbrev s : State
    s = ready.state

    abbrev id : Text
    id = text_of q l.lease_id

    abbrev asked : Rule
    asked = act s (action_of q (PublicationAction.RenewLease l)) (context_of a) (faults_of f)

    module _ (there : place.start < place.end) where
      pub stands : Held ready.holds ready.formed leases found
      stands = held ready.holds ready.formed leases found there

      -- the renewed lease
      pub token : SnapshotLeaseToken
      token = renewed_lease s stands.value l.new_deadline_tick (context_of a)

      -- what is read from the row
      module _ {row : List ℕ} (row_is : row ≡ run x place.start (place.end - place.start)) {now : LeaseTokenAt} (read : now ≡ lease_token_in row 0) where
        pub means : lease_token_of row now ≡ stands.value
        means =
            let v = lease_parts stands.value in
            let b : row ≡ enc lease v ++ [] = row_is ∙ stands.row ∙ sym (append-nil (enc lease v)) in
            ap (lease_token_of row) read ∙ lease_means row 0 ∙ ap (λ (l : List ℕ). lease_from (peek lease l)) b ∙ ap lease_from (peek-dec lease (enc lease v ++ []) v [] (dec-enc lease v [] stands.within))

-- the acceptance that is left to be written
pub record Renewing (x : List ℕ) (c : Contents) (q : List ℕ) (a : ContextAt) (f : FaultsAt) (l : RenewLeaseAt) (place : Place) (row : List ℕ) (now : LeaseTokenAt) : Type 0 where
  pub ready : Ready x c q (record { context = a; faults = f; action = PublicationAction.RenewLease l })
  pub found : Located leases x c (text_of q l.lease_id) place
  pub there : place.start < place.end
  pub row_is : row ≡ run x place.start (place.end - place.start)
  pub read : now ≡ lease_token_in row 0
  pub taken : ruled ready ≡ accepted (renewed ready.state (text_of q l.lease_id) (token ready found there) f.omit_lease_root_epoch) (LeaseRenewed (token ready found there))

-- THE TESTS: of the row there, and of the lease read from it
module _ {x : List ℕ} {c : Contents} {q : List ℕ} {a : ContextAt} {f : FaultsAt} {l : RenewLeaseAt} (ready : Ready x c q (record { context = a; faults = f; action = PublicationAction.RenewLease l }))
    {place : Place} (found : Located leases x c (text_of q l.lease_id) place) {row : List ℕ} (row_is : row ≡ run x place.start (place.end - place.start)) {now : LeaseTokenAt} (read : now ≡ lease_token_in row 0)
  where
    abbrev tests : List Refusal
    tests = renew_tests x c l row now

    tests_agree : Agrees tests (asked ready found)
    unfolding act renew_lease
    tests_agree = (
      λ e. missing ready.holds ready.formed leases found (no_row found row_is e),
      λ e.
          let v = stands ready found (a-row found row_is e) in
          let m = means ready found (a-row found row_is e) row_is read in (
            v.value,
            v.looked,
            (ap (λ (t : SnapshotLeaseToken). not (eqb t.lease_epoch l.expected_lease_epoch)) m
                then ap (leb l.new_deadline_tick) (number_is ready.holds 8)
                then ap (λ (t : SnapshotLeaseToken). leb l.new_deadline_tick t.deadline_tick) m
                then reserved-here ready.holds ready.formed (keys_of row now.closure.object_keys) ∙ ap (λ (t : SnapshotLeaseToken). any_reserved ready.state t.closure.object_keys) m
                then tt),
          ),
    )

    module _ {n : ℕ} (told : n ≡ first_of tests) where
      pub renew-refused : (n ≡ 0 → ⊥) → ruled ready ≡ rejected n
      renew-refused = first-refuses tests (asked ready found) tests_agree n told

      pub renewing : n ≡ 0 → Renewing x c q a f l place row now
      unfolding act renew_lease decide token
      renewing z =
          let there = a-row found row_is (first-passed tests (asked ready found) tests_agree n told z).0 in
          let v = stands ready found there in
          record { ready = ready; found = found; there = there; row_is = row_is; read = read; taken = first_decides tests (asked ready found) tests_agree n told z _ (v.value, v.looked, refl) }

module _ {x : List ℕ} {c : Contents} {q : List ℕ} {a : ContextAt} {f : FaultsAt} {l : RenewLeaseAt} {place : Place} {row : List ℕ} {now : LeaseTokenAt} (g : Renewing x c q a f l place row now) where
  abbrev r : Ready x c q (record { context = a; faults = f; action = PublicationAction.RenewLease l })
  r = g.ready

  abbrev key : Text
  key = text_of q l.lease_id

  -- the lease that stands there, and its renewal
  abbrev was : Held r.holds r.formed leases g.found
  was = stands r g.found g.there

  abbrev old : SnapshotLeaseToken
  old = was.value

  abbrev pub new : SnapshotLeaseToken
  new = token r g.found g.there

  row_bytes : row ≡ enc lease (lease_parts old)
  row_bytes = g.row_is ∙ was.row

  abbrev after_row : List ℕ
  after_row = drop (place.end - place.start) (drop place.start x)

  row_here : drop place.start x ≡ enc lease (lease_parts old) ++ after_row
  row_here = sym (take-append-drop (place.end - place.start) (drop place.start x)) ∙ ap (λ (l : List ℕ). l ++ after_row) was.row

  -- where its fields stand in the row
  abbrev Rest : ℕ
  Rest = now.owner.at - 1

  abbrev Deadline : ℕ
  Deadline = now.purpose.at + now.purpose.len

  abbrev End : ℕ
  End = now.closure.object_keys.at + now.closure.object_keys.len

  written : Written row lease 0 (lease_parts old) []
  written = record { reach = omega arith; bytes = row_bytes ∙ sym (append-nil (enc lease (lease_parts old))); within = was.within }

  -- from the owner on
  from-owner : Written row (name ▹ name ▹ u64 ▹ closure ▹ u64 ▹ position) (behind u64 row (behind u64 row (behind name row (behind name row 0)))) (lease_parts old).1.1.1.1 []
  from-owner = second (second (second (second written)))

  id-is : now.lease_id.at ≡ 1
  id-is = ap (λ (t : LeaseTokenAt). t.lease_id.at) g.read ∙ text-place (first written)

  rest-is : Rest ≡ length (before-epoch-of old) + 8
  rest-is =
      let b = second written in
      let d = second b in
      omega (
        arith,
        ap (λ (t : LeaseTokenAt). t.owner.at) g.read ∙ text-place (first from-owner),
        behind-number (first (second d)),
        behind-number (first d),
        behind-text (first b),
        behind-text (first written),
        a-length old,
      )

  deadline-place : Deadline ≡ Rest + length (names_of old)
  deadline-place =
      let p = first (second from-owner) in
      omega (
        arith,
        ap (λ (t : LeaseTokenAt). t.owner.at) g.read ∙ text-place (first from-owner),
        ap (λ (t : LeaseTokenAt). t.purpose.at + t.purpose.len) g.read ∙ text-end p ∙ behind-text p,
        behind-text (first from-owner),
        b-length old,
      )

  end_is : End ≡ Deadline + 8 + length (closure_from old)
  end_is =
      let p = second (second from-owner) in
      omega (
        arith,
        ap (λ (t : LeaseTokenAt). t.purpose.at + t.purpose.len) g.read ∙ text-end (first (second from-owner)),
        ap (λ (t : LeaseTokenAt). t.closure.object_keys.at + t.closure.object_keys.len) g.read ∙ closure-end row _ ∙ behind-written (first (second p)),
        behind-number (first p),
      )

  pub ends_low : (place.start ≤ longest) × (Rest ≤ longest) × (Deadline ≤ longest) × (End ≤ longest) × (length row ≤ longest)
  ends_low =
      let low = place-low (spot r.holds r.formed leases g.found) in
      let start : place.start ≤ length x = omega (arith, low.1, low.2) in
      let long : length row ≤ length x = omega (arith, row-long g.found g.row_is, low.2) in
      let end : End ≤ length row = closure-within row _ now.closure (ap (λ (t : LeaseTokenAt). t.closure) g.read) in
      let size = r.short in
      (omega arith, omega (arith, deadline-place, end_is), omega (arith, end_is), omega arith, omega arith)

  module _ {root-epoch epoch : ℕ} {t : Table} (same : t ≡ after_insert (table_in leases c) place (length row)) where
    pub renew-small : Small (leased c a root-epoch c.scalars.policy_floor c.scalars.minimum_readable_version c.scalars.lease_clock_tick epoch t)
    renew-small = small-leases (small-held r.formed r.holds r.short) a t (omega (arith, ap (λ (u : Table). u.size) same, (table_bounds r.holds leases).0, r.short, ends_low.4))

    pub renew-shows : epoch ≡ up c.scalars.lease_epoch
        → root-epoch ≡ cond f.omit_lease_root_epoch c.scalars.root_intent_epoch (up c.scalars.root_intent_epoch)
        → Shows x (leased c a root-epoch c.scalars.policy_floor c.scalars.minimum_readable_version c.scalars.lease_clock_tick epoch t) (set_revision (position_of a.position) (renewed r.state key new f.omit_lease_root_epoch))
    unfolding token
    renew-shows ee er =
        let h = r.holds in
        leases-shown h a (insert key new r.state.leases) t
        (ap (λ (u : Table). measures_in (set c.tables (index leases) u)) same
        ∙ inserted_shown h r.formed leases g.found new (length row) (ap length row_bytes ∙ sym (renewed-length old r.state l.new_deadline_tick (context_of a))))
        (er ∙ ap (λ (n : ℕ). cond f.omit_lease_root_epoch n (up n)) (number_is h 2)) (number_is h 8) (ee ∙ ap up (number_is h 9)) (number_is h 5) (number_is h 6)

  -- what is written in place of the record, n₁, n₂ and n₃ bytes of it staying
  module _ {rest epoch n₁ n₂ n₃ : ℕ} (s₁ : rest ≡ Rest) (next : epoch ≡ up c.scalars.lease_epoch) (e₁ : n₁ ≡ rest - 8) (e₂ : n₂ ≡ Deadline - rest) (e₃ : n₃ ≡ End - (Deadline + 8)) where
    next_epoch : epoch ≡ up r.state.lease_epoch
    next_epoch = next ∙ ap up (number_is r.holds 9)

    abbrev parts_at : ℕ → List Part
    parts_at p =
        First p n₁ ∷ Number epoch 8 ∷ First (p + rest) n₂ ∷ Number l.new_deadline_tick 8 ∷ First (p + (Deadline + 8)) n₃
        ∷ Number a.generation 8 ∷ Number a.position.term 8 ∷ Number a.position.index 8 ∷ []

    gathers-at : (y rest_of : List ℕ) (p : ℕ) → drop p y ≡ enc lease (lease_parts old) ++ rest_of → (ps : List Part) → gather_of y q (parts_at p ++ ps) ≡ enc lease (lease_parts new) ++ gather_of y q ps
    unfolding token
    gathers-at y rest_of p h ps =
        renewed-gathers old y rest_of p h rest Deadline End (s₁ ∙ rest-is) (deadline-place ∙ ap (λ (n : ℕ). n + length (names_of old)) (sym s₁)) end_is q r.state l.new_deadline_tick (context_of a) epoch n₁ n₂ n₃ next_epoch e₁ e₂ e₃ ps

    pub renew-tables : (n : ℕ) → n ≡ place.start - tables_place c
        → gather_of x q (First (tables_place c) n ∷ (parts_at place.start ++ First place.end (length x) ∷ [])) ≡ joined (tables_of (renewed r.state key new f.omit_lease_root_epoch))
    renew-tables = inserted_tables r.holds r.formed leases g.found new q (parts_at place.start) (gathers-at x after_row place.start row_here)

    abbrev pub told : LeaseTokenAt
    told = record {
      lease_id = now.lease_id;
      tenant_id = now.tenant_id;
      snapshot_version = now.snapshot_version;
      lease_epoch = epoch;
      owner = now.owner;
      purpose = now.purpose;
      deadline_tick = l.new_deadline_tick;
      closure = now.closure;
      owner_generation = a.generation;
      authority_position = a.position;
    }

    token_is : lease_token_of row told ≡ new
    unfolding token
    token_is =
        let m = means r g.found g.there g.row_is g.read in
        λ i. record {
          lease_id = (m i).lease_id;
          tenant_id = (m i).tenant_id;
          snapshot_version = (m i).snapshot_version;
          lease_epoch = next_epoch i;
          owner = (m i).owner;
          purpose = (m i).purpose;
          deadline_tick = l.new_deadline_tick;
          closure = (m i).closure;
          owner_generation = a.generation;
          authority_position = position_of a.position;
        }

    pub renew-fits : Fits row q (PublicationOutcome.LeaseRenewed told)
    renew-fits =
        let z₁ : rest ≡ 0 + rest = omega arith in
        let z₂ : Deadline + 8 ≡ 0 + (Deadline + 8) = omega arith in (
          (omega (arith, id-is), ends_low.2, ends_low.3),
          (λ i. gather_of row q (First (id-is i - 1) (sym s₁ i - (id-is i - 1 + 8)) ∷ Number epoch 8 ∷ First (sym s₁ i) (Deadline - sym s₁ i) ∷ Number l.new_deadline_tick 8 ∷ First (Deadline + 8) (End - (Deadline + 8)) ∷ Number a.generation 8 ∷ Number a.position.term 8 ∷ Number a.position.index 8 ∷ []))
              ∙ (λ i. gather_of row q (First 0 (sym e₁ i) ∷ Number epoch 8 ∷ First rest (sym e₂ i) ∷ Number l.new_deadline_tick 8 ∷ First (Deadline + 8) (sym e₃ i) ∷ Number a.generation 8 ∷ Number a.position.term 8 ∷ Number a.position.index 8 ∷ []))
              ∙ (λ i. gather_of row q (First 0 n₁ ∷ Number epoch 8 ∷ First (z₁ i) n₂ ∷ Number l.new_deadline_tick 8 ∷ First (z₂ i) n₃ ∷ Number a.generation 8 ∷ Number a.position.term 8 ∷ Number a.position.index 8 ∷ []))
              ∙ gathers-at row [] 0 (row_bytes ∙ sym (append-nil (enc lease (lease_parts old)))) [] ∙ append-nil (enc lease (lease_parts new)) ∙ ap (λ (t : SnapshotLeaseToken). enc lease (lease_parts t)) (sym token_is),
        )

    pub renew-told : outcome_bytes row q (PublicationOutcome.LeaseRenewed told) ≡ encode_outcome (LeaseRenewed new)
    renew-told = ap (λ (t : SnapshotLeaseToken). encode_outcome (LeaseRenewed t)) token_is
