-- AcquireLease: its answers, and the contents that show its next state.
use Rattle.parts.specs.declared.Part.TheVariants.{First, Second, Number}
use Rattle.std.specs.Prelude.{ℕ, ◌+◌, ◌-◌, ◌≤◌, min, cond, ◌&&◌, List, [], ◌∷◌, ◌++◌, ◌≡◌, length, drop, set, leb, Option, None, Some, is_none}
use Rattle.std.proofs.Common.{arith, append-nil, sym, ◌∙◌, subst}
use Rattle.std.proofs.Math.Bool.{not}
use Rattle.std.proofs.Math.Path.{refl, ap}
use Rattle.std.proofs.Math.Dec.{ltb}
use borrow.Author.Tests.{ltb-true, ltb-false}
use Rattle.parts.specs.declared.Part.{Part}
use Rattle.parts.specs.Gather.{gather_of}
use Rattle.state.specs.Maps.{Text, is_some, has_key, insert}
use Rattle.state.proofs.MapLaws.{by_test}
use Rattle.state.specs.Records.{SnapshotLeaseToken, State}
use Rattle.state.specs.Setters.{set_revision}
use Rattle.fields.specs.Format.{enc}
use Rattle.fields.specs.Codes.{codes}
use Rattle.tables.specs.Seek.{rows_at}
use Rattle.tables.specs.declared.Place.{Place}
use Rattle.image.specs.Layout.{leases}
use Rattle.image.specs.Front.{Small}
use Rattle.image.specs.Opened.{measures_in, Shows, Holds}
use Rattle.image.specs.Shapes.{lease, lease_parts, closure_parts}
use Rattle.image.specs.ImageParts.{tables_of, joined}
use Rattle.image.specs.TableLaws.{index, table_in, tables_place}
use Rattle.image.specs.declared.Table.{Table}
use Rattle.image.specs.declared.Contents.{Contents}
use Rattle.machine.specs.Actions.{rejected, accepted, Rule, decide, LeaseAcquired}
use Rattle.machine.specs.Machine.{act, acquire_lease}
use Rattle.machine.specs.Next.{up, acquired, new_lease, policy_for}
use Rattle.machine.specs.Tests.{Refusal, first_of}
use Rattle.machine.proofs.TestLaws.{Agrees, ◌then◌, first-refuses, first-passed, first_decides}
use Rattle.requests.specs.Request.{acquire}
use Rattle.requests.specs.Outcome.{encode_outcome}
use Rattle.requests.specs.Meaning.{text_of, keys_of, position_of, context_of, faults_of, closure_of, action_of, lease_token_of, request_of}
use Rattle.requests.specs.declared.PublicationAction.{PublicationAction}
use Rattle.requests.specs.declared.AcquireLease.{AcquireLease as AcquireLeaseAt}
use Rattle.requests.specs.declared.AuthorityContext.{AuthorityContext as ContextAt}
use Rattle.requests.specs.declared.PublicationAuthorityFaults.{PublicationAuthorityFaults as FaultsAt}
use Rattle.requests.specs.declared.SnapshotLeaseToken.{SnapshotLeaseToken as LeaseTokenAt}
use Rattle.next.specs.Asked.{fields_here}
use Rattle.next.specs.AskedPlaces.{lease-places}
use Rattle.next.specs.Bounds.{request-small}
use Rattle.next.specs.Call.{Ready, ruled}
use Rattle.next.specs.Edit.{none-there}
use Rattle.next.specs.Kept.{number_is, small-held}
use Rattle.next.specs.Outcome.{outcome_bytes, Fits}
use Rattle.next.specs.declared.PublicationOutcome.{PublicationOutcome}
use Rattle.floor.specs.Floors.{readable_for_window, oldest_at}
use Rattle.floor.specs.Oldest.{oldest-here}
use Rattle.reserved.specs.Located.{reserved-here}
use Rattle.edits.specs.Changes.{after_insert}
use Rattle.edits.specs.PlaceLaws.{Located, table_bounds, spot, missing, held, inserted_shown, inserted_tables}
use Rattle.leases.specs.Tests.{acquire_tests}
use Rattle.leases.specs.Oldest.{oldest-insert}
use Rattle.leases.specs.Leased.{leased, recomputed, small-leases}
use Rattle.leases.specs.Asked.{a as front_of, b as back-of, front_length, halves_length, asked-gathers, asked-length}

-- A CALL OF IT
module _ {x : List ℕ} {c : Contents} {q : List ℕ} {a : ContextAt} {f : FaultsAt} {l : AcquireLeaseAt} (ready : Ready x c q (record { context = a; faults = f; action = PublicationAction.AcquireLease l })) where
  abbrev s : State
  s = ready.state

  abbrev id : Text
  id = text_of q l.lease_id

  abbrev pub new : SnapshotLeaseToken
  new = new_lease s id (text_of q l.tenant_id) l.snapshot_version (text_of q l.owner) (text_of q l.purpose) l.deadline_tick (closure_of q l.closure) (context_of a)

  here : drop 27 q ≡ enc acquire (id, (text_of q l.tenant_id, (l.snapshot_version, (text_of q l.owner, (text_of q l.purpose, (l.deadline_tick, closure_parts (closure_of q l.closure)))))))
  here = fields_here (request_of q (record { context = a; faults = f; action = PublicationAction.AcquireLease l })) q ready.request_is

  abbrev asked : Rule
  asked = act s (action_of q (PublicationAction.AcquireLease l)) (context_of a) (faults_of f)

  request-low : length q ≤ 8000
  request-low = subst (λ (r : List ℕ). length r ≤ 8000) (sym ready.request_is) (request-small (request_of q (record { context = a; faults = f; action = PublicationAction.AcquireLease l })) ready.within)

-- the acceptance that is left to be written
pub record Acquiring (x : List ℕ) (c : Contents) (q : List ℕ) (a : ContextAt) (f : FaultsAt) (l : AcquireLeaseAt) (place : Place) : Type 0 where
  pub ready : Ready x c q (record { context = a; faults = f; action = PublicationAction.AcquireLease l })
  pub found : Located leases x c (text_of q l.lease_id) place
  pub free : place.end ≤ place.start
  pub taken : ruled ready ≡ accepted (acquired ready.state (text_of q l.lease_id) (new ready) f.omit_lease_root_epoch) (LeaseAcquired (new ready))

-- THE TESTS
unset_is : (o : Option ℕ) → is_none o ≡ not (is_some o)
unset_is None = refl
unset_is (Some n) = refl

module _ {x : List ℕ} {c : Contents} {q : List ℕ} {a : ContextAt} {f : FaultsAt} {l : AcquireLeaseAt} (ready : Ready x c q (record { context = a; faults = f; action = PublicationAction.AcquireLease l }))
    {place : Place} (found : Located leases x c (text_of q l.lease_id) place)
  where
    abbrev h : Holds x c ready.state
    h = ready.holds

    abbrev tests : List Refusal
    tests = acquire_tests x c q f l place

    known : ltb place.start place.end ≡ has_key (text_of q l.lease_id) ready.state.leases
    known =
        by_test (λ b. ltb place.start place.end ≡ b → b ≡ has_key (text_of q l.lease_id) ready.state.leases) (ltb place.start place.end)
        (λ _ e. sym (ap is_some (held h ready.formed leases found (ltb-true _ _ e)).looked))
        (λ _ e. sym (ap is_some (missing h ready.formed leases found (ltb-false _ _ e)))) refl

    tests_agree : Agrees tests (asked ready)
    unfolding act acquire_lease
    tests_agree =
        refl
        then refl
        then refl
        then refl
        then refl
        then refl
        then ap is_none h.shows.window ∙ unset_is ready.state.retention_window
        then known
        then ap (λ (n : ℕ). not f.accept_backdated_lease && ltb l.snapshot_version n) (number_is h 6)
        then ap (λ (n : ℕ). ltb n l.snapshot_version) (number_is h 3)
        then ap (leb l.deadline_tick) (number_is h 8)
        then reserved-here h ready.formed (keys_of q l.closure.object_keys)
        then tt

    module _ {n : ℕ} (told : n ≡ first_of tests) where
      pub acquire-refused : (n ≡ 0 → ⊥) → ruled ready ≡ rejected n
      acquire-refused = first-refuses tests (asked ready) tests_agree n told

      pub acquiring : n ≡ 0 → Acquiring x c q a f l place
      unfolding act acquire_lease decide
      acquiring z = record {
        ready = ready;
        found = found;
        free = ltb-false _ _ (first-passed tests (asked ready) tests_agree n told z).1.1.1.1.1.1.1.0;
        taken = first_decides tests (asked ready) tests_agree n told z _ refl;
      }

module _ {x : List ℕ} {c : Contents} {q : List ℕ} {a : ContextAt} {f : FaultsAt} {l : AcquireLeaseAt} {place : Place} (g : Acquiring x c q a f l place) where
  abbrev r : Ready x c q (record { context = a; faults = f; action = PublicationAction.AcquireLease l })
  r = g.ready

  abbrev key : Text
  key = text_of q l.lease_id

  abbrev front_half : List ℕ
  front_half = front_of q key (text_of q l.tenant_id) l.snapshot_version (text_of q l.owner) (text_of q l.purpose) l.deadline_tick (closure_of q l.closure) (here r)

  abbrev back_half : List ℕ
  back_half = back-of q key (text_of q l.tenant_id) l.snapshot_version (text_of q l.owner) (text_of q l.purpose) l.deadline_tick (closure_of q l.closure) (here r)

  halves : length q ≡ 27 + length front_half + length back_half
  halves = halves_length q key (text_of q l.tenant_id) l.snapshot_version (text_of q l.owner) (text_of q l.purpose) l.deadline_tick (closure_of q l.closure) (here r)

  -- where they stand
  abbrev Start : ℕ
  Start = l.lease_id.at - 1

  abbrev Rest : ℕ
  Rest = l.owner.at - 1

  abbrev End : ℕ
  End = l.closure.object_keys.at + l.closure.object_keys.len

  start_is : Start ≡ 27
  start_is = omega (arith, (lease-places r).0)

  rest-is : Rest ≡ 27 + length front_half
  rest-is = omega (arith, (lease-places r).1, front_length q key (text_of q l.tenant_id) l.snapshot_version (text_of q l.owner) (text_of q l.purpose) l.deadline_tick (closure_of q l.closure) (here r))

  end_is : End ≡ length q
  end_is = (lease-places r).2

  pub end_low : End ≤ 8000
  end_low = omega (arith, end_is, request-low r)

  -- the lengths of the two runs, as the code has them
  module _ {start rest first second : ℕ} (s₁ : start ≡ Start) (s₂ : rest ≡ Rest) (s₃ : first ≡ rest - start) (s₄ : second ≡ End - rest) where
    first-is : first ≡ length front_half
    first-is = omega (arith, s₁, s₂, s₃, start_is, rest-is)

    second_is : second ≡ length back_half
    second_is = omega (arith, s₂, s₄, rest-is, end_is, halves)

    pub runs_low : first + second ≤ 8000
    runs_low = omega (arith, first-is, second_is, halves, request-low r)

    -- the row is as long as they and the numbers beside them
    row-size : first + second + 32 ≡ length (enc lease (lease_parts (new r)))
    row-size =
        (λ i. first-is i + second_is i + 32)
        ∙ sym (asked-length q key (text_of q l.tenant_id) l.snapshot_version (text_of q l.owner) (text_of q l.purpose) l.deadline_tick (closure_of q l.closure) (here r) r.state (context_of a))

    module _ {root-epoch policy readable epoch : ℕ} {t : Table} (more : t ≡ after_insert (table_in leases c) place (first + second + 32)) where
      pub acquire-small : Small (leased c a root-epoch policy readable c.scalars.lease_clock_tick epoch t)
      acquire-small = small-leases (small-held r.formed r.holds r.short) a t (omega (arith, ap (λ (u : Table). u.size) more, (table_bounds r.holds leases).0, r.short, runs_low))

      pub acquire-shows : {old candidate : ℕ}
          → epoch ≡ up c.scalars.lease_epoch
          → root-epoch ≡ cond f.omit_lease_root_epoch c.scalars.root_intent_epoch (up c.scalars.root_intent_epoch)
          → policy ≡ policy_for c.scalars.retention_window c.scalars.observed_commit_frontier c.scalars.policy_floor
          → old ≡ oldest_at policy (rows_at (codes lease) (table_in leases c).count (drop (table_in leases c).at x))
          → candidate ≡ min old l.snapshot_version
          → readable ≡ readable_for_window c.scalars.retention_window candidate c.scalars.minimum_readable_version
          → Shows x (leased c a root-epoch policy readable c.scalars.lease_clock_tick epoch t) (set_revision (position_of a.position) (acquired r.state key (new r) f.omit_lease_root_epoch))
      acquire-shows {old} ee er p k v u =
          let h = r.holds in
          let least : min old l.snapshot_version ≡ min l.snapshot_version old = omega arith in
          recomputed h a (insert key (new r) r.state.leases) t
          (ap (λ (u : Table). measures_in (set c.tables (index leases) u)) more ∙ inserted_shown h r.formed leases g.found (new r) (first + second + 32) row-size)
          (er ∙ ap (λ (n : ℕ). cond f.omit_lease_root_epoch n (up n)) (number_is h 2)) (number_is h 8) (ee ∙ ap up (number_is h 9)) p
          (v ∙ least ∙ ap (min l.snapshot_version) (k ∙ oldest-here h r.formed policy)
          ∙ sym (oldest-insert key (new r) r.state.leases policy (none-there (spot h r.formed leases g.found) g.free).0)) u

    -- what is written in its place
    module _ {epoch : ℕ} (next : epoch ≡ up c.scalars.lease_epoch) where
      epoch-is : epoch ≡ up r.state.lease_epoch
      epoch-is = next ∙ ap up (number_is r.holds 9)

      abbrev row : List Part
      row = Second start first ∷ Number epoch 8 ∷ Second rest second ∷ Number a.generation 8 ∷ Number a.position.term 8 ∷ Number a.position.index 8 ∷ []

      row-gathers : (ps : List Part) → gather_of x q (row ++ ps) ≡ enc lease (lease_parts (new r)) ++ gather_of x q ps
      row-gathers ps =
          asked-gathers q key (text_of q l.tenant_id) l.snapshot_version (text_of q l.owner) (text_of q l.purpose) l.deadline_tick (closure_of q l.closure) (here r) r.state (context_of a)
          x start rest first second epoch (s₁ ∙ start_is) (s₂ ∙ rest-is) first-is second_is epoch-is ps

      pub acquire-tables : (n : ℕ) → n ≡ place.start - tables_place c
          → gather_of x q (First (tables_place c) n ∷ (row ++ First place.end (length x) ∷ [])) ≡ joined (tables_of (acquired r.state key (new r) f.omit_lease_root_epoch))
      acquire-tables = inserted_tables r.holds r.formed leases g.found (new r) q row row-gathers

      abbrev pub told : LeaseTokenAt
      told = record {
        lease_id = l.lease_id;
        tenant_id = l.tenant_id;
        snapshot_version = l.snapshot_version;
        lease_epoch = epoch;
        owner = l.owner;
        purpose = l.purpose;
        deadline_tick = l.deadline_tick;
        closure = l.closure;
        owner_generation = a.generation;
        authority_position = a.position;
      }

      token_is : lease_token_of q told ≡ new r
      token_is = λ i. record {
        lease_id = key;
        tenant_id = text_of q l.tenant_id;
        snapshot_version = l.snapshot_version;
        lease_epoch = epoch-is i;
        owner = text_of q l.owner;
        purpose = text_of q l.purpose;
        deadline_tick = l.deadline_tick;
        closure = closure_of q l.closure;
        owner_generation = a.generation;
        authority_position = position_of a.position;
      }

      pub acquire-fits : Fits x q (PublicationOutcome.LeaseAcquired told)
      acquire-fits = (
        omega (arith, end_low),
        (λ i. gather_of x q (Second (sym s₁ i) (sym s₂ i - sym s₁ i) ∷ Number epoch 8 ∷ Second (sym s₂ i) (End - sym s₂ i) ∷ Number a.generation 8 ∷ Number a.position.term 8 ∷ Number a.position.index 8 ∷ []))
            ∙ (λ i. gather_of x q (Second start (sym s₃ i) ∷ Number epoch 8 ∷ Second rest (sym s₄ i) ∷ Number a.generation 8 ∷ Number a.position.term 8 ∷ Number a.position.index 8 ∷ []))
            ∙ row-gathers [] ∙ append-nil (enc lease (lease_parts (new r))) ∙ ap (λ (t : SnapshotLeaseToken). enc lease (lease_parts t)) (sym token_is),
      )

      pub acquire-told : outcome_bytes x q (PublicationOutcome.LeaseAcquired told) ≡ encode_outcome (LeaseAcquired (new r))
      acquire-told = ap (λ (t : SnapshotLeaseToken). encode_outcome (LeaseAcquired t)) token_is
