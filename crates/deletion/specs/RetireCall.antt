-- RetireDelete over bytes: from what the code has found to the rule's answer, and to the next image.
use Rattle.parts.specs.declared.Part.TheVariants.{First}
use Rattle.std.specs.Prelude.{ℕ, ◌-◌, List, [], ◌∷◌, ◌++◌, Bool, true, false, ◌&&◌, ◌||◌, ◌≡◌, refl, length, drop, set}
use Rattle.std.proofs.Common.{arith, append_assoc, ◌∙◌, eqb-true}
use Rattle.std.proofs.Math.Bool.{not}
use Rattle.std.proofs.Math.Path.{ap}
use Rattle.std.proofs.lemmas.Bool.{eqb-false}
use Rattle.parts.specs.Gather.{gather_of, run}
use Rattle.state.specs.Maps.{Text, same, remove}
use Rattle.state.specs.Records.{DeletePermit, State, permit_eq}
use Rattle.state.specs.Setters.{set_revision}
use Rattle.fields.specs.Format.{◌▹◌, enc, enc_text, Within}
use Rattle.fields.specs.Codes.{codes, skip}
use Rattle.fields.specs.Rows.{text_here}
use Rattle.fields.proofs.RowLaws.{text-there}
use Rattle.tables.specs.Seek.{Seen, seek, placed}
use Rattle.tables.specs.declared.Place.{Place}
use Rattle.image.specs.Shapes.{u64, position, permit, permit_rest, permit_parts, identity_parts, position_parts, before_plan}
use Rattle.image.proofs.SameBytes.{same-permit}
use Rattle.image.specs.Layout.{reservations}
use Rattle.image.specs.ImageParts.{tables_of, joined}
use Rattle.image.specs.Opened.{measures_in, Shows}
use Rattle.image.specs.TableLaws.{table_in, tables_place}
use Rattle.image.specs.Front.{Small}
use Rattle.image.specs.declared.Table.{Table}
use Rattle.image.specs.declared.Contents.{Contents}
use Rattle.machine.specs.Actions.{Rule, rejected, accepted, decide, Applied}
use Rattle.machine.specs.Machine.{act, retire_delete}
use Rattle.machine.specs.Next.{retired}
use Rattle.machine.specs.Tests.{Refusal, first_of}
use Rattle.machine.proofs.TestLaws.{Agrees, ◌then◌, first-refuses, first-passed, first_decides}
use Rattle.requests.specs.Meaning.{text_of, permit_of, position_of, context_of, faults_of, action_of}
use Rattle.requests.specs.declared.AuthorityContext.{AuthorityContext}
use Rattle.requests.specs.declared.PublicationAuthorityFaults.{PublicationAuthorityFaults}
use Rattle.requests.specs.declared.DeletePermit.{DeletePermit as PermitAt}
use Rattle.requests.specs.declared.PublicationAction.{PublicationAction}
use Rattle.next.specs.Asked.{fields_here}
use Rattle.next.specs.Call.{Ready, ruled}
use Rattle.next.specs.Contents.{with_tables, revised}
use Rattle.next.specs.Edit.{row-none, row_some}
use Rattle.next.specs.Kept.{run-rest}
use Rattle.next.specs.Peeks.{skip-to}
use Rattle.edits.specs.Changes.{after_remove}
use Rattle.edits.specs.PlaceLaws.{Located, located_as, table_bounds, missing, Held, held, removed_shown, removed_tables}
use Rattle.deletion.specs.Tests.{matches_of, retire_tests}
use Rattle.deletion.specs.RevisedLaws.{revised-shows, revised-small}

-- A STORED PERMIT AGAINST A SHOWN ONE: by their bytes as by their values
abbrev matched : Bool → DeletePermit → DeletePermit → Bool
matched weak v p = permit_eq v p || weak && same v.plan_id p.plan_id && same v.key p.key

not_either : (a b : Bool) → not (a || b) ≡ (not a && not b)
not_either true b = refl
not_either false b = refl

-- a permit's row: its key, and its plan after key and identity
key-there : (v : DeletePermit) → text_here (enc permit (permit_parts v)) ≡ v.key
unfolding enc
key-there v = text-there v.key (enc permit_rest (permit_parts v).1)

plan_there : (v : DeletePermit) → text_here (skip 0 (codes before_plan) (enc permit (permit_parts v))) ≡ v.plan_id
unfolding enc
plan_there v =
    let b = enc (u64 ▹ position) (v.owner_generation, position_parts v.authority_position) in
    let e : enc permit (permit_parts v) ≡ enc before_plan (v.key, identity_parts v.identity) ++ (enc_text v.plan_id ++ b) = simp append_assoc in
    ap (λ (l : List ℕ). text_here (skip 0 (codes before_plan) l)) e
    ∙ ap (λ (l : List ℕ). text_here l) (skip-to before_plan (v.key, identity_parts v.identity) (enc_text v.plan_id ++ b))
    ∙ text-there v.plan_id b

matches_is : (weak : Bool) (v p : DeletePermit) → Within permit (permit_parts v) → Within permit (permit_parts p)
    → matches_of weak (enc permit (permit_parts v)) (enc permit (permit_parts p)) p.plan_id p.key ≡ matched weak v p
unfolding matches_of
matches_is weak v p h k = λ i. same-permit v p h k i || weak && same (plan_there v i) p.plan_id && same (key-there v i) p.key

-- THE CALL
module _ {x : List ℕ} {c : Contents} {q : List ℕ} {u : AuthorityContext} {g : PublicationAuthorityFaults} {a : PermitAt}
    (ready : Ready x c q (record { context = u; faults = g; action = PublicationAction.RetireDelete a }))
    (k : Text) (place : Place) (key-is : k ≡ text_of q a.key)
    (found : place ≡ placed x (seek (codes permit) (table_in reservations c).count k (drop (table_in reservations c).at x)))
  where
    abbrev st : State
    st = ready.state

    abbrev asked_permit : DeletePermit
    asked_permit = permit_of q a

    there : Located reservations x c asked_permit.key place
    there = located_as reservations key-is found

    abbrev asked : Rule
    asked = act st (action_of q (PublicationAction.RetireDelete a)) (context_of u) (faults_of g)

    module _ (row : List ℕ) (row_is : row ≡ run x place.start (place.end - place.start)) where
      abbrev sought : Seen
      sought = seek (codes permit) (table_in reservations c).count k (drop (table_in reservations c).at x)

      stored : (length row ≡ 0 → ⊥) → Held ready.holds ready.formed reservations there
      stored h = held ready.holds ready.formed reservations there (row_some x sought place found row row_is h)

      abbrev shown : List ℕ
      shown = run q 27 (length q)

      shown-here : shown ≡ enc permit (permit_parts asked_permit)
      shown-here = run-rest q (enc permit (permit_parts asked_permit)) 27 (length q) (fields_here _ q ready.request_is) (omega arith)

      abbrev weak : Bool
      weak = g.retire_by_plan_key_only

      abbrev tests : List Refusal
      tests = retire_tests row shown asked_permit.plan_id asked_permit.key a.owner_generation u.generation weak

      tests_agree : Agrees tests asked
      unfolding act retire_delete
      tests_agree = (
        λ e. missing ready.holds ready.formed reservations there (row-none x sought place found row row_is (eqb-true _ _ e)),
        λ e.
            let v = stored (eqb-false _ _ e) in
            let m : matches_of weak row shown asked_permit.plan_id asked_permit.key ≡ matched weak v.value asked_permit =
            (λ i. matches_of weak ((row_is ∙ v.row) i) (shown-here i) asked_permit.plan_id asked_permit.key) ∙ matches_is weak v.value asked_permit v.within ready.within.1 in
            (v.value, v.looked, (refl then ap not m ∙ not_either (permit_eq v.value asked_permit) _ then tt)),
      )

      module _ (n : ℕ) (told : n ≡ first_of tests) where
        pub retire-refused : (n ≡ 0 → ⊥) → ruled ready ≡ rejected n
        retire-refused = first-refuses tests asked tests_agree n told

        pub retire-taken : n ≡ 0 → ruled ready ≡ accepted (retired st asked_permit.key) Applied
        unfolding act retire_delete decide
        retire-taken z =
            let v = stored (eqb-false _ _ (first-passed tests asked tests_agree n told z).0) in
            first_decides tests asked tests_agree n told z _ (v.value, v.looked, refl)

    -- what is written
    module _ (t : Table) (et : t ≡ after_remove (table_in reservations c) place) (d : Contents) (ed : d ≡ revised c u.position) where
      pub retire-shows : Shows x (with_tables d (set d.tables 3 t)) (set_revision (position_of u.position) (retired st asked_permit.key))
      retire-shows =
          revised-shows ready u.position d ed t (remove asked_permit.key st.deletion_reservations)
          (ap (λ (v : Table). measures_in (set c.tables 3 v)) et ∙ removed_shown ready.holds ready.formed reservations there)

      pub retire-small : Small (with_tables d (set d.tables 3 t))
      retire-small = revised-small ready u.position d ed t (omega (arith, ap (λ (v : Table). v.size) et, (table_bounds ready.holds reservations).0, ready.short))

    pub retire-tables : (n : ℕ) → n ≡ place.start - tables_place c → gather_of x q (First (tables_place c) n ∷ First place.end (length x) ∷ []) ≡ joined (tables_of (retired st asked_permit.key))
    retire-tables n h = removed_tables ready.holds ready.formed reservations there q n h
