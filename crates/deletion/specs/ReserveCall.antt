-- ReserveDelete over bytes: from what the code has found to the rule's answer, and to the next image.
use Rattle.parts.specs.declared.Part.TheVariants.{First, Second, Number}
use Rattle.std.specs.Prelude.{ℕ, ◌+◌, ◌-◌, ◌≤◌, ◌&&◌, ◌≡◌, eqb, take, drop, set}
use Rattle.std.proofs.Common.{arith, sym, ◌∙◌, length-take, length-drop, length-append, take_all}
use Rattle.std.proofs.Math.Bool.{not}
use mathlib.Core.List.{List, [], ◌∷◌, ◌++◌, append_assoc, append-nil}
use Rattle.std.proofs.Math.Path.{refl, ap}
use Rattle.std.proofs.Math.ListN.{length}
use Rattle.parts.specs.Answer.{longest}
use Rattle.parts.specs.Digits.{digits}
use Rattle.parts.specs.DigitLaws.{length_digits}
use Rattle.parts.specs.Gather.{run, gather_of}
use Rattle.state.specs.Maps.{Text, insert}
use Rattle.state.specs.Records.{DeletePermit, ObjectIdentity, State}
use Rattle.state.specs.Setters.{set_revision}
use Rattle.fields.specs.Format.{enc, enc_text, ◌▹◌}
use Rattle.fields.specs.Codes.{codes}
use Rattle.tables.specs.Seek.{seek, placed}
use Rattle.tables.specs.declared.Place.{Place}
use Rattle.image.specs.Shapes.{key, identity, permit, permit_parts, identity_parts}
use Rattle.image.specs.Layout.{reservations}
use Rattle.image.specs.ImageParts.{tables_of, joined}
use Rattle.image.specs.Opened.{measures_in, Shows}
use Rattle.image.proofs.OpenedLaws.{run-to, after_seam}
use Rattle.image.specs.TableLaws.{table_in, tables_place}
use Rattle.image.specs.Front.{Small}
use Rattle.image.specs.declared.Table.{Table}
use Rattle.image.specs.declared.Contents.{Contents}
use Rattle.machine.specs.Actions.{Rule, rejected, accepted, decide, DeleteReserved}
use Rattle.machine.specs.Next.{new_permit, reserved}
use Rattle.machine.specs.Machine.{act, reserve_delete}
use Rattle.machine.specs.Tests.{Refusal, first_of}
use Rattle.machine.proofs.TestLaws.{Agrees, ◌then◌, first-refuses, first_decides}
use Rattle.requests.specs.Meaning.{text_of, identity_of, position_of, context_of, faults_of, action_of, request_of}
use Rattle.requests.specs.declared.AuthorityContext.{AuthorityContext}
use Rattle.requests.specs.declared.PublicationAuthorityFaults.{PublicationAuthorityFaults}
use Rattle.requests.specs.declared.DeletePermit.{DeletePermit as PermitAt}
use Rattle.requests.specs.declared.ReserveDelete.{ReserveDelete}
use Rattle.requests.specs.declared.PublicationAction.{PublicationAction}
use Rattle.next.specs.Asked.{fields_here}
use Rattle.next.specs.AskedPlaces.{permit-places}
use Rattle.next.specs.Bounds.{request-small}
use Rattle.next.specs.Call.{Ready, ruled}
use Rattle.next.specs.Contents.{with_tables, revised}
use Rattle.next.specs.Kept.{number_is}
use Rattle.next.specs.Outcome.{Fits}
use Rattle.next.specs.declared.PublicationOutcome.{PublicationOutcome}
use Rattle.edits.specs.Changes.{after_insert}
use Rattle.edits.specs.PlaceLaws.{Located, located_as, table_bounds, known, inserted_shown, inserted_tables}
use Rattle.scans.specs.ScanLaws.{intents-name, leases-name, jobs_use}
use Rattle.deletion.specs.Tests.{reserve_tests}
use Rattle.deletion.specs.RevisedLaws.{revised-shows, revised-small}

module _ {x : List ℕ} {c : Contents} {q : List ℕ} {u : AuthorityContext} {g : PublicationAuthorityFaults} {a : ReserveDelete}
    (ready : Ready x c q (record { context = u; faults = g; action = PublicationAction.ReserveDelete a }))
  where
    abbrev st : State
    st = ready.state

    abbrev plan_asked : Text
    plan_asked = text_of q a.plan_id

    abbrev key_asked : Text
    key_asked = text_of q a.key

    abbrev identity_asked : ObjectIdentity
    identity_asked = identity_of q a.identity

    abbrev pub permit_made : DeletePermit
    permit_made = new_permit key_asked identity_asked plan_asked (context_of u)

    abbrev pub permit_told : PermitAt
    permit_told = record { key = a.key; identity = a.identity; plan_id = a.plan_id; owner_generation = u.generation; authority_position = u.position }

    abbrev asked : Rule
    asked = act st (action_of q (PublicationAction.ReserveDelete a)) (context_of u) (faults_of g)

    module _ (k : Text) (place : Place) (key-is : k ≡ key_asked)
        (found : place ≡ placed x (seek (codes permit) (table_in reservations c).count k (drop (table_in reservations c).at x)))
      where
        there : Located reservations x c key_asked place
        there = located_as reservations key-is found

        abbrev tests : List Refusal
        tests = reserve_tests x c q g a place

        -- the tests over bytes are those over the state
        tests_agree : Agrees tests asked
        unfolding act reserve_delete
        tests_agree =
            refl
            then refl
            then refl
            then ap (λ (n : ℕ). not g.ignore_root_epoch && not (eqb a.mark_epoch n)) (number_is ready.holds 2)
            then intents-name ready.holds ready.formed key_asked
            then leases-name ready.holds ready.formed key_asked
            then jobs_use ready.holds ready.formed key_asked
            then known ready.holds ready.formed reservations there
            then tt

        module _ (n : ℕ) (told : n ≡ first_of tests) where
          pub reserve-refused : (n ≡ 0 → ⊥) → ruled ready ≡ rejected n
          reserve-refused = first-refuses tests asked tests_agree n told

          pub reserve-taken : n ≡ 0 → ruled ready ≡ accepted (reserved st permit_made) (DeleteReserved permit_made)
          unfolding act reserve_delete decide
          reserve-taken z = first_decides tests asked tests_agree n told z _ refl

    -- ---- the permit's bytes: key and identity, and plan, stand in the request

    request-short : length q ≤ 8000
    request-short = omega (arith, ap length ready.request_is, request-small (request_of q (record { context = u; faults = g; action = PublicationAction.ReserveDelete a })) ready.within)

    pub plan_short : (plan : List ℕ) → plan ≡ plan_asked → length plan ≤ 8000
    plan_short plan e =
        let l = ap length e ∙ length-take a.plan_id.len (drop a.plan_id.at q) in
        let d = length-drop a.plan_id.at q in
        omega (arith, request-short)

    abbrev key_and_identity : List ℕ
    key_and_identity = enc (key ▹ identity) (key_asked, identity_parts identity_asked)

    asked_here : drop 27 q ≡ enc_text plan_asked ++ (digits 8 a.mark_epoch ++ key_and_identity)
    unfolding enc
    asked_here = fields_here (request_of q (record { context = u; faults = g; action = PublicationAction.ReserveDelete a })) q ready.request_is

    -- the permit's own order
    permit_order : (r : List ℕ) → key_and_identity ++ (enc_text plan_asked ++ (digits 8 u.generation ++ (digits 8 u.position.term ++ (digits 8 u.position.index ++ r)))) ≡ enc permit (permit_parts permit_made) ++ r
    unfolding enc
    permit_order r = simp append_assoc

    module _ (plan : List ℕ) (plan-is : plan ≡ plan_asked) (size : ℕ) (size_is : size ≡ length q - (35 + (1 + length plan))) where
      abbrev plan_size : ℕ
      plan_size = 1 + length plan

      abbrev start : ℕ
      start = 35 + plan_size

      plan_length : plan_size ≡ length (enc_text plan_asked)
      unfolding enc_text
      plan_length = omega (arith, ap length plan-is)

      plan_bytes : run q 27 plan_size ≡ enc_text plan_asked
      plan_bytes = run-to q (enc_text plan_asked) (digits 8 a.mark_epoch ++ key_and_identity) 27 plan_size asked_here plan_length

      rest-here : drop start q ≡ key_and_identity
      rest-here =
          after_seam q (enc_text plan_asked ++ digits 8 a.mark_epoch) key_and_identity 27 start
          (asked_here ∙ sym (append_assoc (enc_text plan_asked) (digits 8 a.mark_epoch) key_and_identity))
          (omega (arith, plan_length, length-append (enc_text plan_asked) (digits 8 a.mark_epoch), length_digits 8 a.mark_epoch))

      rest-length : length key_and_identity ≡ size
      rest-length = ap length (sym rest-here) ∙ length-drop start q ∙ sym size_is

      rest-bytes : run q start size ≡ key_and_identity
      rest-bytes = ap (take size) rest-here ∙ take_all size key_and_identity (omega (arith, rest-length))

      made : (r : List ℕ) → run q start size ++ (run q 27 plan_size ++ (digits 8 u.generation ++ (digits 8 u.position.term ++ (digits 8 u.position.index ++ r)))) ≡ enc permit (permit_parts permit_made) ++ r
      made r = (λ i. rest-bytes i ++ (plan_bytes i ++ (digits 8 u.generation ++ (digits 8 u.position.term ++ (digits 8 u.position.index ++ r))))) ∙ permit_order r

      made-length : length (enc permit (permit_parts permit_made)) ≡ size + plan_size + 24
      made-length =
          let t = digits 8 u.generation in
          let v = digits 8 u.position.term in
          let w = digits 8 u.position.index in
          let e = ap length (permit_order [] ∙ append-nil (enc permit (permit_parts permit_made))) in
          let l₁ = length-append key_and_identity (enc_text plan_asked ++ (t ++ (v ++ (w ++ [])))) in
          let l₂ = length-append (enc_text plan_asked) (t ++ (v ++ (w ++ []))) in
          let l₃ = length-append t (v ++ (w ++ [])) in
          let l₄ = length-append v (w ++ []) in
          let l₅ = length-append w [] in
          omega (arith, rest-length, plan_length, length_digits 8 u.generation, length_digits 8 u.position.term, length_digits 8 u.position.index)

      -- nothing is too large for the table with one row more
      pub reserve-room : ((table_in reservations c).size ≤ longest) × ((table_in reservations c).count ≤ longest) × (size + plan_size + 24 ≤ longest)
      reserve-room =
          let b = table_bounds ready.holds reservations in
          (omega (arith, b.0, ready.short), omega (arith, b.1, ready.short), omega (arith, request-short, plan_short plan plan-is, size_is))

      -- the runs that the permit's places say are these
      pub permit-fits : Fits x q (PublicationOutcome.DeleteReserved permit_told)
      permit-fits =
          let z = permit-places ready in
          let p₁ : a.key.at - 1 ≡ start = omega (arith, z.2, ap length plan-is) in
          let p₂ : a.identity.sha256.at + a.identity.sha256.len - (a.key.at - 1) ≡ size = omega (arith, z.3, p₁, size_is) in
          let p₃ : a.plan_id.at - 1 ≡ 27 = omega (arith, z.0) in
          let p₄ : a.plan_id.len + 1 ≡ plan_size = omega (arith, z.1, ap length plan-is) in (
            (omega (arith, z.3, request-short), omega (arith, z.1, plan_short plan plan-is, ap length plan-is)),
            (λ i. gather_of x q (Second (p₁ i) (p₂ i) ∷ Second (p₃ i) (p₄ i) ∷ Number u.generation 8 ∷ Number u.position.term 8 ∷ Number u.position.index 8 ∷ []))
                ∙ made [] ∙ append-nil (enc permit (permit_parts permit_made)),
          )

      module _ (k : Text) (place : Place) (key-is : k ≡ key_asked)
          (found : place ≡ placed x (seek (codes permit) (table_in reservations c).count k (drop (table_in reservations c).at x)))
        where
          pub reserve-tables : (n : ℕ) → n ≡ place.start - tables_place c
              → gather_of x q (First (tables_place c) n ∷ Second start size ∷ Second 27 plan_size ∷ Number u.generation 8 ∷ Number u.position.term 8 ∷ Number u.position.index 8 ∷ First place.end (length x) ∷ [])
              ≡ joined (tables_of (reserved st permit_made))
          reserve-tables n e =
              inserted_tables ready.holds ready.formed reservations (there k place key-is found) permit_made q
              (Second start size ∷ Second 27 plan_size ∷ Number u.generation 8 ∷ Number u.position.term 8 ∷ Number u.position.index 8 ∷ [])
              (λ ps. made (gather_of x q ps)) n e

          module _ (t : Table) (et : t ≡ after_insert (table_in reservations c) place (size + plan_size + 24)) (d : Contents) (ed : d ≡ revised c u.position) where
            pub reserve-shows : Shows x (with_tables d (set d.tables 3 t)) (set_revision (position_of u.position) (reserved st permit_made))
            reserve-shows =
                revised-shows ready u.position d ed t (insert key_asked permit_made st.deletion_reservations)
                (ap (λ (v : Table). measures_in (set c.tables 3 v)) et
                ∙ inserted_shown ready.holds ready.formed reservations (there k place key-is found) permit_made (size + plan_size + 24) (sym made-length))

            pub reserve-small : Small (with_tables d (set d.tables 3 t))
            reserve-small =
                revised-small ready u.position d ed t (omega (arith, ap (λ (v : Table). v.size) et, reserve-room.0, reserve-room.2))
