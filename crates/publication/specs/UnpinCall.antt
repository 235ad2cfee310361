-- Unpin: what its code computes, as the rule and the next state have it.
use Rattle.parts.specs.declared.Part.TheVariants.{First}
use Rattle.std.specs.Prelude.{ℕ, ◌+◌, ◌-◌, Bool, List, [], ◌∷◌, ◌≡◌, length, take, drop, set, Some}
use Rattle.std.proofs.Common.{arith, ◌∙◌}
use Rattle.std.proofs.Math.Bool.{not}
use Rattle.std.proofs.Math.Path.{refl, ap}
use Rattle.text.specs.Same.{same_of}
use Rattle.parts.specs.Gather.{run, gather_of}
use Rattle.state.specs.Maps.{Text, lookup, remove, same_option}
use Rattle.state.specs.Records.{State, ObjectReference, reference_eq}
use Rattle.state.specs.Setters.{set_revision}
use Rattle.fields.specs.Format.{enc, enc_text}
use Rattle.fields.specs.Codes.{codes}
use Rattle.tables.specs.Seek.{seek, placed}
use Rattle.tables.specs.declared.Place.{Place}
use Rattle.image.specs.Layout.{pins, row_format}
use Rattle.image.specs.ImageParts.{tables_of, joined}
use Rattle.image.specs.Opened.{measures_in, Shows}
use Rattle.image.proofs.OpenedLaws.{after_seam}
use Rattle.image.specs.TableLaws.{table_in, tables_place}
use Rattle.image.specs.Front.{Small}
use Rattle.image.specs.declared.Table.{Table}
use Rattle.image.specs.declared.Contents.{Contents}
use Rattle.machine.specs.Actions.{Rule, rejected, accepted, decide, Applied}
use Rattle.machine.specs.Machine.{act, unpin}
use Rattle.machine.specs.Next.{unpinned}
use Rattle.machine.specs.Tests.{Refusal, first_of}
use Rattle.machine.proofs.TestLaws.{Agrees, ◌then◌, first-refuses, first_decides}
use Rattle.requests.specs.Meaning.{text_of, reference_of, position_of, context_of, faults_of, action_of}
use Rattle.requests.specs.declared.AuthorityContext.{AuthorityContext as ContextAt}
use Rattle.requests.specs.declared.PublicationAuthorityFaults.{PublicationAuthorityFaults as FaultsAt}
use Rattle.requests.specs.declared.Unpin.{Unpin as UnpinAt}
use Rattle.requests.specs.declared.PublicationAction.{PublicationAction}
use Rattle.next.specs.Asked.{fields_here}
use Rattle.next.specs.Call.{Ready, ruled}
use Rattle.next.specs.Contents.{with_tables, raised}
use Rattle.next.specs.Kept.{run-rest}
use Rattle.edits.specs.Changes.{after_remove}
use Rattle.edits.specs.PlaceLaws.{Located, located_as, table_bounds, removed_shown, removed_tables}
use Rattle.publication.specs.Tests.{unpin_tests}
use Rattle.publication.specs.References.{held, pin-same}
use Rattle.publication.specs.RaisedLaws.{raised-shows, raised-small}

module _ {x : List ℕ} {c : Contents} {q : List ℕ} {ctx : ContextAt} {f : FaultsAt} {a : UnpinAt} (ready : Ready x c q (record { context = ctx; faults = f; action = PublicationAction.Unpin a })) where
  abbrev st : State
  st = ready.state

  abbrev name : Text
  name = text_of q a.pin_id

  abbrev expected : ObjectReference
  expected = reference_of q a.expected

  abbrev asked : Rule
  asked = act st (action_of q (PublicationAction.Unpin a)) (context_of ctx) (faults_of f)

  expected-here : run q (27 + (length name + 1)) (length q) ≡ held (Some expected)
  unfolding enc enc_text
  expected-here =
      let r = held (Some expected) in
      run-rest q r (27 + (length name + 1)) (length q) (after_seam q (enc_text name) r 27 (27 + (length name + 1)) (fields_here _ q ready.request_is) (omega arith)) (omega arith)

  module _ (id : List ℕ) (e : id ≡ name) (place : Place) (found : place ≡ placed x (seek (codes (row_format pins)) (table_in pins c).count id (drop (table_in pins c).at x))) where
    there : Located pins x c name place
    there = located_as pins e found

    -- the tests
    module _ (row part : List ℕ) (r : row ≡ run x place.start (place.end - place.start)) (p : part ≡ take (length q) (drop (27 + (length id + 1)) q)) where
      abbrev same : Bool
      same = same_of (drop (length id + 1) row) part

      same-is : same ≡ same_option reference_eq (lookup name st.pins) (Some expected)
      same-is =
          (λ i. same_of (drop (length (e i) + 1) (r i)) ((p ∙ ap (λ (k : Text). run q (27 + (length k + 1)) (length q)) e ∙ expected-here) i))
          ∙ pin-same ready.holds ready.formed (Some expected) ready.within.1.1 there

      abbrev tests : List Refusal
      tests = unpin_tests name expected same

      tests_agree : Agrees tests asked
      unfolding act unpin
      tests_agree = (refl then refl then ap not same-is then tt)

      module _ (n : ℕ) (told : n ≡ first_of tests) where
        pub unpin-refused : (n ≡ 0 → ⊥) → ruled ready ≡ rejected n
        unpin-refused = first-refuses tests asked tests_agree n told

        pub unpin-taken : n ≡ 0 → ruled ready ≡ accepted (unpinned st name) Applied
        unfolding act unpin decide
        unpin-taken z = first_decides tests asked tests_agree n told z _ refl

    -- what is written
    module _ (t : Table) (et : t ≡ after_remove (table_in pins c) place) (d : Contents) (ed : d ≡ raised c ctx.position) where
      pub unpin-small : Small (with_tables d (set d.tables 2 t))
      unpin-small = raised-small ready ctx.position d ed pins t (omega (arith, ap (λ (u : Table). u.size) et, (table_bounds ready.holds pins).0, ready.short))

      pub unpin-shows : Shows x (with_tables d (set d.tables 2 t)) (set_revision (position_of ctx.position) (unpinned st name))
      unpin-shows =
          raised-shows ready ctx.position d ed pins t (remove name st.pins)
          (ap (λ (u : Table). measures_in (set c.tables 2 u)) et ∙ removed_shown ready.holds ready.formed pins there)

    pub unpin-tables : (n : ℕ) → n ≡ place.start - tables_place c → gather_of x q (First (tables_place c) n ∷ First place.end (length x) ∷ []) ≡ joined (tables_of (unpinned st name))
    unpin-tables n h = removed_tables ready.holds ready.formed pins there q n h
