-- Pin: what its code computes, as the rule and the next state have it.
use Rattle.parts.specs.declared.Part.TheVariants.{First, Second}
use Rattle.std.specs.Prelude.{ℕ, ◌+◌, ◌-◌, ◌≤◌, Bool, List, [], ◌∷◌, ◌++◌, ◌≡◌, drop, set, Option, Some}
use Rattle.std.proofs.Common.{arith, append_assoc, sym, ◌∙◌}
use Rattle.std.proofs.Math.Bool.{not}
use Rattle.std.proofs.Math.Path.{refl, ap}
use Rattle.std.proofs.Math.ListN.{length, length-append}
use Rattle.text.specs.Same.{same_of}
use Rattle.parts.specs.Answer.{longest}
use Rattle.parts.specs.Gather.{run, gather_of}
use Rattle.state.specs.Maps.{Text, ◌⟼◌, lookup, insert, same_option}
use Rattle.state.specs.Records.{State, ObjectReference, reference_eq}
use Rattle.state.specs.Setters.{set_revision}
use Rattle.fields.specs.Format.{enc, enc_text, option}
use Rattle.fields.specs.Codes.{codes}
use Rattle.tables.specs.Seek.{seek, placed}
use Rattle.tables.specs.declared.Place.{Place}
use Rattle.image.specs.Shapes.{reference, reference_parts, each_option}
use Rattle.image.specs.Layout.{pins, row_format}
use Rattle.image.specs.ImageParts.{row_bytes, tables_of, joined}
use Rattle.image.specs.Opened.{measures_in, Shows}
use Rattle.image.proofs.OpenedLaws.{run-to, after_seam}
use Rattle.image.specs.TableLaws.{table_in, tables_place}
use Rattle.image.specs.Front.{Small}
use Rattle.image.specs.declared.Table.{Table}
use Rattle.image.specs.declared.Contents.{Contents}
use Rattle.machine.specs.Actions.{Rule, rejected, accepted, decide, Applied}
use Rattle.machine.specs.Machine.{act, pin}
use Rattle.machine.specs.Next.{pinned}
use Rattle.machine.specs.Tests.{Refusal, first_of}
use Rattle.machine.proofs.TestLaws.{Agrees, ◌then◌, first-refuses, first_decides}
use Rattle.requests.specs.Meaning.{text_of, reference_of, maybe_reference_of, position_of, context_of, faults_of, action_of}
use Rattle.requests.specs.declared.AuthorityContext.{AuthorityContext as ContextAt}
use Rattle.requests.specs.declared.PublicationAuthorityFaults.{PublicationAuthorityFaults as FaultsAt}
use Rattle.requests.specs.declared.Pin.{Pin as PinAt}
use Rattle.requests.specs.declared.PublicationAction.{PublicationAction}
use Rattle.next.specs.Asked.{fields_here}
use Rattle.next.specs.Call.{Ready, ruled}
use Rattle.next.specs.Contents.{with_tables, raised}
use Rattle.edits.specs.Changes.{after_insert}
use Rattle.edits.specs.PlaceLaws.{Located, located_as, table_bounds, inserted_shown, inserted_tables}
use Rattle.publication.specs.Tests.{pin_tests}
use Rattle.publication.specs.References.{held, option_at, option-held, option-here, pin-same, last-here, last-length, lengths}
use Rattle.publication.specs.RaisedLaws.{request_bounded, raised-shows, raised-small}

module _ {x : List ℕ} {c : Contents} {q : List ℕ} {ctx : ContextAt} {f : FaultsAt} {a : PinAt} (ready : Ready x c q (record { context = ctx; faults = f; action = PublicationAction.Pin a })) where
  abbrev st : State
  st = ready.state

  abbrev name : Text
  name = text_of q a.pin_id

  abbrev expected : Option ObjectReference
  expected = maybe_reference_of q a.expected

  abbrev manifest : ObjectReference
  manifest = reference_of q a.manifest

  abbrev asked : Rule
  asked = act st (action_of q (PublicationAction.Pin a)) (context_of ctx) (faults_of f)

  -- the request
  abbrev option_bytes : List ℕ
  option_bytes = enc (option reference) (each_option reference_parts expected)

  fields : drop 27 q ≡ enc_text name ++ (option_bytes ++ held (Some manifest))
  unfolding enc
  fields = fields_here _ q ready.request_is

  after-name : drop (27 + (length name + 1)) q ≡ option_bytes ++ held (Some manifest)
  unfolding enc_text
  after-name = after_seam q (enc_text name) (option_bytes ++ held (Some manifest)) 27 (27 + (length name + 1)) fields (omega arith)

  name-run : run q 27 (length name + 1) ≡ enc_text name
  unfolding enc_text
  name-run = run-to q (enc_text name) (option_bytes ++ held (Some manifest)) 27 (length name + 1) fields (omega arith)

  module _ (id : List ℕ) (e : id ≡ name) (place : Place) (found : place ≡ placed x (seek (codes (row_format pins)) (table_in pins c).count id (drop (table_in pins c).at x)))
      (given : List ℕ) (g : given ≡ option_at q (27 + (length id + 1)))
    where
      there : Located pins x c name place
      there = located_as pins e found

      given_is : given ≡ option_bytes
      given_is = g ∙ ap (λ (k : Text). option_at q (27 + (length k + 1))) e ∙ option-here q (27 + (length name + 1)) expected manifest after-name

      abbrev last : ℕ
      last = 27 + (length id + 1) + length given

      last-is : last ≡ 27 + (length name + 1) + length option_bytes
      last-is = λ i. 27 + (length (e i) + 1) + length (given_is i)

      pub pin_bounds : (length id ≤ 64) × (length given ≤ 8000) × (length q ≤ 8000)
      pin_bounds = (
        omega (arith, ap length e, ready.within.1.0.fits),
        omega (arith, ap length given_is, lengths q (27 + (length name + 1)) expected manifest after-name, request_bounded ready),
        request_bounded ready,
      )

      -- the tests
      module _ (row : List ℕ) (r : row ≡ run x place.start (place.end - place.start)) where
        abbrev same : Bool
        same = same_of (drop (length id + 1) row) (drop 1 given)

        same-is : same ≡ same_option reference_eq (lookup name st.pins) expected
        same-is =
            (λ i. same_of (drop (length (e i) + 1) (r i)) ((ap (drop 1) given_is ∙ option-held expected) i))
            ∙ pin-same ready.holds ready.formed expected ready.within.1.1.0 there

        abbrev tests : List Refusal
        tests = pin_tests name manifest same

        tests_agree : Agrees tests asked
        unfolding act pin
        tests_agree = (refl then refl then refl then ap not same-is then tt)

        module _ (n : ℕ) (told : n ≡ first_of tests) where
          pub pin-refused : (n ≡ 0 → ⊥) → ruled ready ≡ rejected n
          pin-refused = first-refuses tests asked tests_agree n told

          pub pin-taken : n ≡ 0 → ruled ready ≡ accepted (pinned st name manifest) Applied
          unfolding act pin decide
          pin-taken z = first_decides tests asked tests_agree n told z _ refl

      -- what is written
      row_is : run q 27 (length id + 1) ++ run q last (length q) ≡ row_bytes pins (name ⟼ manifest)
      unfolding enc
      row_is =
          ap (λ (k : Text). run q 27 (length k + 1) ++ run q last (length q)) e
          ∙ (λ i. name-run i ++ last-here q (27 + (length name + 1)) expected manifest after-name last last-is i)

      row-size : length id + 1 + (length q - last) ≡ length (row_bytes pins (name ⟼ manifest))
      unfolding enc enc_text
      row-size = omega (arith, ap length e, last-length q (27 + (length name + 1)) expected manifest after-name last last-is, length-append (enc_text name) (held (Some manifest)))

      pub pin-tables : (n : ℕ) → n ≡ place.start - tables_place c
          → gather_of x q (First (tables_place c) n ∷ Second 27 (length id + 1) ∷ Second last (length q) ∷ First place.end (length x) ∷ []) ≡ joined (tables_of (pinned st name manifest))
      pin-tables n h =
          inserted_tables ready.holds ready.formed pins there manifest q (Second 27 (length id + 1) ∷ Second last (length q) ∷ [])
          (λ ps. sym (append_assoc (run q 27 (length id + 1)) (run q last (length q)) (gather_of x q ps)) ∙ ap (λ (l : List ℕ). l ++ gather_of x q ps) row_is) n h

      module _ (l : ℕ) (el : l ≡ length q - last) where
        -- nothing is too large for the table with one row more
        pub pin-room : ((table_in pins c).size ≤ longest) × ((table_in pins c).count ≤ longest) × (length id + 1 + l ≤ longest)
        pin-room =
            let b = table_bounds ready.holds pins in
            (omega (arith, b.0, ready.short), omega (arith, b.1, ready.short), omega (arith, pin_bounds.0, pin_bounds.2))

        module _ (t : Table) (et : t ≡ after_insert (table_in pins c) place (length id + 1 + l)) (d : Contents) (ed : d ≡ raised c ctx.position) where
          pub pin-small : Small (with_tables d (set d.tables 2 t))
          pin-small = raised-small ready ctx.position d ed pins t (omega (arith, ap (λ (u : Table). u.size) et, pin-room.0, pin-room.2))

          pub pin-shows : Shows x (with_tables d (set d.tables 2 t)) (set_revision (position_of ctx.position) (pinned st name manifest))
          pin-shows =
              raised-shows ready ctx.position d ed pins t (insert name manifest st.pins)
              (ap (λ (u : Table). measures_in (set c.tables 2 u)) et
              ∙ inserted_shown ready.holds ready.formed pins there manifest (length id + 1 + l) (ap (λ (k : ℕ). length id + 1 + k) el ∙ row-size))
