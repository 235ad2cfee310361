-- AbandonCollection: its answers, and the contents that show its next state.
use Rattle.parts.specs.declared.Part.TheVariants.{First}
use Rattle.std.specs.Prelude.{ℕ, ◌-◌, List, [], ◌∷◌, ◌≡◌, length, take, drop, set}
use Rattle.std.proofs.Common.{arith, sym, ap, ◌∙◌, subst, eqb-true}
use Rattle.std.proofs.Math.Bool.{not}
use Rattle.std.proofs.Math.Path.{refl}
use Rattle.std.proofs.lemmas.Bool.{eqb-false}
use Rattle.text.specs.Same.{same_of}
use Rattle.parts.specs.Gather.{run, gather_of}
use Rattle.state.specs.Maps.{remove}
use Rattle.state.specs.Records.{State, CollectionJobToken, job_eq}
use Rattle.state.specs.Setters.{set_revision}
use Rattle.fields.specs.Format.{enc}
use Rattle.fields.specs.Codes.{codes}
use Rattle.tables.specs.Seek.{Seen, seek, placed}
use Rattle.tables.specs.declared.Place.{Place}
use Rattle.image.specs.Shapes.{job, job_parts}
use Rattle.image.specs.Layout.{jobs}
use Rattle.image.proofs.SameBytes.{same-job}
use Rattle.image.specs.ImageParts.{joined, tables_of}
use Rattle.image.specs.Opened.{Shows}
use Rattle.image.specs.TableLaws.{table_in, tables_place}
use Rattle.image.specs.Front.{Small}
use Rattle.image.specs.declared.Table.{Table}
use Rattle.image.specs.declared.Contents.{Contents}
use Rattle.machine.specs.Actions.{Rule, rejected, accepted, decide, Applied}
use Rattle.machine.specs.Machine.{act, abandon_collection}
use Rattle.machine.specs.Next.{collection_abandoned}
use Rattle.machine.specs.Tests.{Refusal, first_of}
use Rattle.machine.proofs.TestLaws.{Agrees, ◌then◌, first-refuses, first-passed, first_decides}
use Rattle.requests.specs.Meaning.{text_of, job_token_of, position_of, context_of, faults_of, action_of, request_of}
use Rattle.requests.specs.declared.AuthorityContext.{AuthorityContext as ContextAt}
use Rattle.requests.specs.declared.PublicationAuthorityFaults.{PublicationAuthorityFaults as FaultsAt}
use Rattle.requests.specs.declared.CollectionJobToken.{CollectionJobToken as JobTokenAt}
use Rattle.requests.specs.declared.PublicationAction.{PublicationAction}
use Rattle.next.specs.Call.{Ready, ruled}
use Rattle.next.specs.Asked.{fields_here}
use Rattle.next.specs.Contents.{with_tables, raised}
use Rattle.next.specs.Edit.{row-none, row_some}
use Rattle.next.specs.Kept.{run-rest, small-held, small-scalars}
use Rattle.next.specs.ShownLaws.{shows-raised, shows-map, small-table}
use Rattle.edits.specs.Changes.{after_remove}
use Rattle.edits.specs.PlaceLaws.{Located, located_as, table_bounds, missing, Held, held, removed_shown, removed_tables}
use Rattle.collection.specs.Tests.{abandon_tests}

module _ {x q : List ℕ} {c : Contents} {y : ContextAt} {g : FaultsAt} {a : JobTokenAt}
    (pre : Ready x c q (record { context = y; faults = g; action = PublicationAction.AbandonCollection a }))
    (id : List ℕ) (clipped : id ≡ text_of q a.job_id) (place : Place)
    (located : place ≡ placed x (seek (codes job) (table_in jobs c).count id (drop (table_in jobs c).at x)))
  where
    abbrev s : State
    s = pre.state

    abbrev token : CollectionJobToken
    token = job_token_of q a

    here : Located jobs x c token.job_id place
    here = located_as jobs clipped located

    abbrev asked : Rule
    asked = act s (action_of q (PublicationAction.AbandonCollection a)) (context_of y) (faults_of g)

    module _ (stored shown : List ℕ) (stored_is : stored ≡ run x place.start (place.end - place.start)) (shown-is : shown ≡ take (length q) (drop 27 q)) where
      abbrev sought : Seen
      sought = seek (codes job) (table_in jobs c).count id (drop (table_in jobs c).at x)

      there : (length stored ≡ 0 → ⊥) → Held pre.holds pre.formed jobs here
      there h = held pre.holds pre.formed jobs here (row_some x sought place located stored stored_is h)

      abbrev tests : List Refusal
      tests = abandon_tests stored shown a.owner_generation y.generation

      tests_agree : Agrees tests asked
      unfolding act abandon_collection
      tests_agree = (
        λ e. missing pre.holds pre.formed jobs here (row-none x sought place located stored stored_is (eqb-true _ _ e)),
        λ e.
            let v = there (eqb-false _ _ e) in
            let t : shown ≡ enc job (job_parts token) =
            shown-is ∙ run-rest q (enc job (job_parts token)) 27 (length q) (fields_here (request_of q (record { context = y; faults = g; action = PublicationAction.AbandonCollection a })) q pre.request_is) (omega arith) in
            let equal : same_of stored shown ≡ job_eq v.value token = (λ i. same_of ((stored_is ∙ v.row) i) (t i)) ∙ same-job v.value token v.within pre.within.1 in
            (v.value, v.looked, (ap not equal then refl then tt)),
      )

      module _ (n : ℕ) (told : n ≡ first_of tests) where
        pub abandon_refused : (n ≡ 0 → ⊥) → ruled pre ≡ rejected n
        abandon_refused = first-refuses tests asked tests_agree n told

        pub abandoned : n ≡ 0 → ruled pre ≡ accepted (collection_abandoned s token.job_id) Applied
        unfolding act abandon_collection decide
        abandoned z =
            let v = there (eqb-false _ _ (first-passed tests asked tests_agree n told z).0) in
            first_decides tests asked tests_agree n told z _ (v.value, v.looked, refl)

    module _ (left : Table) (shrunk : left ≡ after_remove (table_in jobs c) place) (d : Contents) (is-raised : d ≡ raised c y.position) where
      abbrev contents_with : Contents → Table → Contents
      contents_with k t = with_tables k (set k.tables 5 t)

      contents_are : contents_with d left ≡ contents_with (raised c y.position) (after_remove (table_in jobs c) place)
      contents_are = λ i. contents_with (is-raised i) (shrunk i)

      pub abandoned_shows : Shows x (contents_with d left) (set_revision (position_of y.position) (collection_abandoned s token.job_id))
      abandoned_shows =
          subst (λ (k : Contents). Shows x k (set_revision (position_of y.position) (collection_abandoned s token.job_id))) (sym contents_are)
          (shows-raised (shows-map pre.holds.shows jobs (remove token.job_id s.collection_jobs) _ (removed_shown pre.holds pre.formed jobs here)) y.position)

      pub abandoned_small : Small (contents_with d left)
      abandoned_small =
          let k = small-held pre.formed pre.holds pre.short in
          subst Small (sym contents_are) (small-table (small-scalars k (raised c y.position).scalars k.root) 5 _ (omega (arith, (table_bounds pre.holds jobs).0, pre.short)))

    pub abandoned_body : (n : ℕ) → n ≡ place.start - tables_place c → gather_of x q (First (tables_place c) n ∷ First place.end (length x) ∷ []) ≡ joined (tables_of (collection_abandoned s token.job_id))
    abandoned_body n h = removed_tables pre.holds pre.formed jobs here q n h
