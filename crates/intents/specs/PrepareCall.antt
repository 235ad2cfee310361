-- Prepare: what its code computes, as the rule and the next state have it.
use Rattle.parts.specs.declared.Part.TheVariants.{First, Second, Number}
use Rattle.std.specs.Prelude.{ℕ, ◌+◌, ◌-◌, ◌≤◌, Bool, ◌&&◌, List, [], ◌∷◌, ◌++◌, ◌≡◌, drop, set}
use native.Mathlib.Omega.{arith}
use Rattle.std.proofs.Math.Bool.{not}
use Rattle.std.proofs.Common.{append_assoc, ◌∙◌, length-drop}
use Rattle.std.proofs.Math.Path.{refl, sym, ap}
use Rattle.std.proofs.Math.ListN.{length, length-append}
use Rattle.parts.specs.Answer.{longest}
use Rattle.parts.specs.Digits.{digits}
use Rattle.parts.specs.DigitLaws.{length_digits}
use Rattle.parts.specs.Gather.{run, gather_of}
use Rattle.state.specs.Maps.{Text, ◌⟼◌, insert}
use Rattle.state.specs.Records.{State, PreparedPublication}
use Rattle.state.specs.Setters.{set_revision}
use Rattle.fields.specs.Format.{enc, enc_text}
use Rattle.fields.specs.Codes.{codes}
use Rattle.tables.specs.Seek.{seek, placed}
use Rattle.tables.specs.declared.Place.{Place}
use Rattle.image.specs.Shapes.{intent, intent_parts}
use Rattle.image.specs.Layout.{intents, reservations, row_format}
use Rattle.image.specs.ImageParts.{row_bytes, tables_of, joined}
use Rattle.image.specs.Opened.{measures_in, Shows}
use Rattle.image.proofs.OpenedLaws.{run-to, after_seam}
use Rattle.image.specs.TableLaws.{table_in, tables_place}
use Rattle.image.specs.Front.{Small}
use Rattle.image.specs.declared.Table.{Table}
use Rattle.image.specs.declared.Contents.{Contents}
use Rattle.machine.specs.Actions.{Rule, rejected, accepted, decide, Applied}
use Rattle.machine.specs.Machine.{act, prepare}
use Rattle.machine.specs.Next.{intent_prepared}
use Rattle.machine.specs.Tests.{Refusal, first_of}
use Rattle.machine.proofs.TestLaws.{Agrees, ◌then◌, first-refuses, first_decides}
use Rattle.requests.specs.Meaning.{text_of, intent_of, keys_of, position_of, context_of, faults_of, action_of}
use Rattle.requests.specs.declared.AuthorityContext.{AuthorityContext as ContextAt}
use Rattle.requests.specs.declared.PublicationAuthorityFaults.{PublicationAuthorityFaults as FaultsAt}
use Rattle.requests.specs.declared.Prepare.{Prepare as PrepareAt}
use Rattle.requests.specs.declared.PublicationAction.{PublicationAction}
use Rattle.next.specs.Asked.{fields_here}
use Rattle.next.specs.Call.{Ready, ruled}
use Rattle.next.specs.Contents.{with_tables, raised}
use Rattle.next.specs.Kept.{run-rest}
use Rattle.reserved.specs.Located.{reserved-here}
use Rattle.edits.specs.Changes.{after_insert}
use Rattle.edits.specs.PlaceLaws.{Located, located_as, table_bounds, known, inserted_shown, inserted_tables}
use Rattle.publication.specs.RaisedLaws.{request_bounded, raised-shows, raised-small}
use Rattle.intents.specs.Tests.{prepare_tests}

module _ {x : List ℕ} {c : Contents} {q : List ℕ} {ctx : ContextAt} {f : FaultsAt} {a : PrepareAt} (ready : Ready x c q (record { context = ctx; faults = f; action = PublicationAction.Prepare a })) where
  abbrev st : State
  st = ready.state

  abbrev name : Text
  name = text_of q a.publication_id

  abbrev pub record_of : PreparedPublication
  record_of = record { owner_generation = ctx.generation; intent = intent_of q a.intent }

  abbrev asked : Rule
  asked = act st (action_of q (PublicationAction.Prepare a)) (context_of ctx) (faults_of f)

  -- the request
  abbrev intent_bytes : List ℕ
  intent_bytes = enc intent (intent_parts (intent_of q a.intent))

  fields : drop 27 q ≡ enc_text name ++ intent_bytes
  unfolding enc
  fields = fields_here _ q ready.request_is

  after-name : drop (27 + (length name + 1)) q ≡ intent_bytes
  unfolding enc_text
  after-name = after_seam q (enc_text name) intent_bytes 27 (27 + (length name + 1)) fields (omega arith)

  name-run : run q 27 (length name + 1) ≡ enc_text name
  unfolding enc_text
  name-run = run-to q (enc_text name) intent_bytes 27 (length name + 1) fields (omega arith)

  module _ (id : List ℕ) (e : id ≡ name) (place : Place) (found : place ≡ placed x (seek (codes (row_format intents)) (table_in intents c).count id (drop (table_in intents c).at x))) where
    there : Located intents x c name place
    there = located_as intents e found

    -- the tests
    abbrev tests : List Refusal
    tests = prepare_tests x (table_in reservations c) q f a place

    tests_agree : Agrees tests asked
    unfolding act prepare
    tests_agree =
        refl
        then refl
        then known ready.holds ready.formed intents there
        then ap (λ (b : Bool). not f.ignore_delete_reservation && b) (reserved-here ready.holds ready.formed (keys_of q a.intent.object_keys))
        then tt

    module _ (n : ℕ) (told : n ≡ first_of tests) where
      pub prepare-refused : (n ≡ 0 → ⊥) → ruled ready ≡ rejected n
      prepare-refused = first-refuses tests asked tests_agree n told

      pub prepare-taken : n ≡ 0 → ruled ready ≡ accepted (intent_prepared st name record_of) Applied
      unfolding act prepare decide
      prepare-taken z = first_decides tests asked tests_agree n told z _ refl

    -- what is written
    row_is : run q 27 (length id + 1) ++ (digits 8 ctx.generation ++ run q (27 + (length id + 1)) (length q)) ≡ row_bytes intents (name ⟼ record_of)
    unfolding enc
    row_is =
        ap (λ (k : Text). run q 27 (length k + 1) ++ (digits 8 ctx.generation ++ run q (27 + (length k + 1)) (length q))) e
        ∙ (λ i. name-run i ++ (digits 8 ctx.generation ++ run-rest q intent_bytes (27 + (length name + 1)) (length q) after-name (omega arith) i))

    row-size : length id + 1 + 8 + (length q - (27 + (length id + 1))) ≡ length (row_bytes intents (name ⟼ record_of))
    unfolding enc enc_text
    row-size =
        omega (
          arith,
          ap length e,
          sym (length-drop (27 + (length name + 1)) q) ∙ ap length after-name,
          length-append (enc_text name) (digits 8 ctx.generation ++ intent_bytes),
          length-append (digits 8 ctx.generation) intent_bytes,
          length_digits 8 ctx.generation,
        )

    pub prepare-tables : (n : ℕ) → n ≡ place.start - tables_place c
        → gather_of x q (First (tables_place c) n ∷ Second 27 (length id + 1) ∷ Number ctx.generation 8 ∷ Second (27 + (length id + 1)) (length q) ∷ First place.end (length x) ∷ [])
        ≡ joined (tables_of (intent_prepared st name record_of))
    prepare-tables n h =
        let g = digits 8 ctx.generation in
        let rest = run q (27 + (length id + 1)) (length q) in
        inserted_tables ready.holds ready.formed intents there record_of q (Second 27 (length id + 1) ∷ Number ctx.generation 8 ∷ Second (27 + (length id + 1)) (length q) ∷ [])
        (λ ps.
        ap (λ (l : List ℕ). run q 27 (length id + 1) ++ l) (sym (append_assoc g rest (gather_of x q ps)))
        ∙ sym (append_assoc (run q 27 (length id + 1)) (g ++ rest) (gather_of x q ps)) ∙ ap (λ (l : List ℕ). l ++ gather_of x q ps) row_is) n h

    module _ (l : ℕ) (el : l ≡ length q - (27 + (length id + 1))) where
      -- nothing is too large for the table with one row more
      pub prepare-room : ((table_in intents c).size ≤ longest) × ((table_in intents c).count ≤ longest) × (length id + 1 + 8 + l ≤ longest)
      prepare-room =
          let b = table_bounds ready.holds intents in
          (omega (arith, b.0, ready.short), omega (arith, b.1, ready.short), omega (arith, ap length e, ready.within.1.0.fits, request_bounded ready))

      module _ (t : Table) (et : t ≡ after_insert (table_in intents c) place (length id + 1 + 8 + l)) (d : Contents) (ed : d ≡ raised c ctx.position) where
        pub prepare-small : Small (with_tables d (set d.tables 0 t))
        prepare-small = raised-small ready ctx.position d ed intents t (omega (arith, ap (λ (u : Table). u.size) et, prepare-room.0, prepare-room.2))

        pub prepare-shows : Shows x (with_tables d (set d.tables 0 t)) (set_revision (position_of ctx.position) (intent_prepared st name record_of))
        prepare-shows =
            raised-shows ready ctx.position d ed intents t (insert name record_of st.intents)
            (ap (λ (u : Table). measures_in (set c.tables 0 u)) et
            ∙ inserted_shown ready.holds ready.formed intents there record_of (length id + 1 + 8 + l) (ap (λ (k : ℕ). length id + 1 + 8 + k) el ∙ row-size))
