-- PrepareCollection: its answers, the contents that show its next state, and what is written.
use Rattle.parts.specs.declared.Part.TheVariants.{First, Second, Number}
use Prim.Native.Nat.{ℕ, suc, ◌+◌, ◌-◌, ◌≤◌}
use Rattle.std.proofs.Common.{arith, ◌∙◌, subst, length-drop, ltb-true, ltb-false}
use Rattle.std.specs.Prelude.{Bool, true, false, cond, ◌&&◌, ◌≡◌, leb, eqb, drop, set, Option, Some}
use Rattle.std.proofs.Math.Bool.{not}
use mathlib.Core.List.{List, [], ◌∷◌, ◌++◌, append_assoc, append-nil}
use Rattle.std.proofs.Math.Path.{refl, sym, ap}
use Rattle.std.proofs.Math.Dec.{ltb}
use Rattle.std.proofs.Math.ListN.{length, length-append}
use Rattle.parts.specs.Answer.{longest}
use Rattle.parts.specs.Digits.{digits}
use Rattle.parts.specs.DigitLaws.{length_digits}
use Rattle.parts.specs.Gather.{run, gather_of}
use Rattle.state.specs.Maps.{Text, ◌⟼◌, same, same_option, is_some, has_key, insert}
use Rattle.state.proofs.MapLaws.{by_test}
use Rattle.state.specs.Records.{State, ObjectReference, CollectionJobToken}
use Rattle.state.specs.Setters.{set_revision}
use Rattle.fields.specs.Format.{Field, ◌▹◌, enc, enc_text}
use Rattle.fields.specs.Codes.{codes}
use Rattle.tables.specs.Seek.{seek, placed}
use Rattle.tables.specs.declared.Place.{Place}
use Rattle.image.specs.Shapes.{u64, name, key, reference, job, job_parts, reference_parts}
use Rattle.image.specs.Layout.{roots, jobs, row_format}
use Rattle.image.specs.ImageParts.{row_bytes, joined, tables_of}
use Rattle.image.specs.Opened.{Shows}
use Rattle.image.proofs.OpenedLaws.{run-to, after_seam}
use Rattle.image.specs.TableLaws.{table_in, tables_place}
use Rattle.image.specs.Front.{Small}
use Rattle.image.specs.declared.Table.{Table}
use Rattle.image.specs.declared.Contents.{Contents}
use Rattle.machine.specs.Actions.{Rule, rejected, accepted, decide, CollectionPrepared}
use Rattle.machine.specs.Machine.{act, prepare_collection}
use Rattle.machine.specs.Next.{collection_prepared, new_job}
use Rattle.machine.specs.Tests.{Refusal, first_of}
use Rattle.machine.proofs.TestLaws.{Agrees, ◌then◌, first-refuses, first_decides}
use Rattle.requests.specs.Meaning.{text_of, reference_of, context_of, faults_of, position_of, action_of, request_of}
use Rattle.requests.specs.declared.AuthorityContext.{AuthorityContext as ContextAt}
use Rattle.requests.specs.declared.PublicationAuthorityFaults.{PublicationAuthorityFaults as FaultsAt}
use Rattle.requests.specs.declared.PrepareCollection.{PrepareCollection as PrepareAt}
use Rattle.requests.specs.declared.CollectionJobToken.{CollectionJobToken as JobTokenAt}
use Rattle.requests.specs.declared.PublicationAction.{PublicationAction}
use Rattle.next.specs.Call.{Ready, ruled}
use Rattle.next.specs.Asked.{fields_here}
use Rattle.next.specs.AskedPlaces.{job-places}
use Rattle.next.specs.Contents.{with_tables, raised}
use Rattle.next.specs.Kept.{run-rest, number_is, small-held, small-scalars}
use Rattle.next.specs.Outcome.{Fits}
use Rattle.next.specs.ShownLaws.{shows-raised, shows-map, small-table}
use Rattle.next.specs.declared.PublicationOutcome.{PublicationOutcome}
use Rattle.edits.specs.Changes.{after_insert}
use Rattle.edits.specs.PlaceLaws.{Located, located_as, table_bounds, missing, held, inserted_shown, inserted_tables}
use Rattle.publication.specs.RaisedLaws.{request_bounded}
use Rattle.collection.specs.After.{collected_to}
use Rattle.collection.specs.AfterLaws.{shows-collected}
use Rattle.collection_jobs.specs.Conflicts.{conflicts-here}
use Rattle.collection_jobs.specs.Input.{input_stands, input-stands}
use Rattle.collection_jobs.specs.Tests.{prepare_tests}

five : (a b c d e z : List ℕ) → (a ++ (b ++ (c ++ (d ++ e)))) ++ z ≡ a ++ (b ++ (c ++ (d ++ (e ++ z))))
five a b c d e z = simp append_assoc

-- one of two numbers, as it was chosen
pub chosen_first : {b : Bool} {m k : ℕ} (n : ℕ) → b ≡ true → k ≡ m → k ≡ cond b m n
chosen_first {b} {m} n e h = h ∙ sym (ap (λ (t : Bool). cond t m n) e)

pub chosen_second : {b : Bool} {n k : ℕ} (m : ℕ) → b ≡ false → k ≡ n → k ≡ cond b m n
chosen_second {b} {n} m e h = h ∙ sym (ap (λ (t : Bool). cond t m n) e)

abbrev after_floor : Field
after_floor = name ▹ u64 ▹ u64 ▹ key

module _ {x q : List ℕ} {c : Contents} {y : ContextAt} {g : FaultsAt} {a : PrepareAt}
    (pre : Ready x c q (record { context = y; faults = g; action = PublicationAction.PrepareCollection a }))
  where
    abbrev s : State
    s = pre.state

    abbrev asked : Text
    asked = text_of q a.job_id

    abbrev root : Text
    root = text_of q a.destination_root

    abbrev namespace : Text
    namespace = text_of q a.output_namespace

    abbrev manifest : ObjectReference
    manifest = reference_of q a.input_manifest

    abbrev pub token : CollectionJobToken
    token = new_job asked a.frozen_floor manifest root a.range_map_epoch a.expected_collected_through namespace (context_of y)

    -- ---- the request's fields

    -- those after the id
    abbrev rest : List ℕ
    rest = enc (u64 ▹ reference ▹ name ▹ u64 ▹ u64 ▹ key) (a.frozen_floor, (reference_parts manifest, (root, (a.range_map_epoch, (a.expected_collected_through, namespace)))))

    here : drop 27 q ≡ enc_text asked ++ rest
    unfolding enc
    here = fields_here (request_of q (record { context = y; faults = g; action = PublicationAction.PrepareCollection a })) q pre.request_is

    long : length q - 27 ≡ suc (length asked) + length rest
    unfolding enc_text
    long = sym (length-drop 27 q) ∙ ap length here ∙ length-append (enc_text asked) rest

    manifest-here : drop (length asked + 36) q ≡ enc reference (reference_parts manifest) ++ enc after_floor (root, (a.range_map_epoch, (a.expected_collected_through, namespace)))
    unfolding enc enc_text
    manifest-here =
        let r = enc reference (reference_parts manifest) ++ enc after_floor (root, (a.range_map_epoch, (a.expected_collected_through, namespace))) in
        let b = enc_text asked ++ digits 8 a.frozen_floor in
        let l : length b ≡ suc (length asked) + 8 = length-append (enc_text asked) (digits 8 a.frozen_floor) ∙ ap (λ (n : ℕ). suc (length asked) + n) (length_digits 8 a.frozen_floor) in
        after_seam q b r 27 (length asked + 36) (here ∙ sym (append_assoc (enc_text asked) (digits 8 a.frozen_floor) r)) (omega arith)

    rest-long : 8 ≤ length rest
    unfolding enc
    rest-long =
        let r = enc reference (reference_parts manifest) ++ enc after_floor (root, (a.range_map_epoch, (a.expected_collected_through, namespace))) in
        omega (arith, length-append (digits 8 a.frozen_floor) r, length_digits 8 a.frozen_floor)

    pub prepare-short : (length asked ≤ 64) × (length root ≤ 64)
    prepare-short = (pre.within.1.0.fits, pre.within.1.1.1.1.0.fits)

    -- ---- what is told

    abbrev pub job_told : JobTokenAt
    job_told = record {
      job_id = a.job_id;
      owner_generation = y.generation;
      authority_position = y.position;
      frozen_floor = a.frozen_floor;
      input_manifest = a.input_manifest;
      destination_root = a.destination_root;
      range_map_epoch = a.range_map_epoch;
      expected_collected_through = a.expected_collected_through;
      output_namespace = a.output_namespace;
    }

    -- the runs that its places say are the request's fields, with generation and position after the id
    pub job-fits : Fits x q (PublicationOutcome.CollectionPrepared job_told)
    unfolding enc enc_text
    job-fits =
        let z = job-places pre in
        let p₁ : a.job_id.at - 1 ≡ 27 = omega (arith, z.0) in
        let p₂ : a.job_id.len + 1 ≡ length asked + 1 = omega (arith, z.0, z.1) in
        let p₃ : a.job_id.at + a.job_id.len ≡ length asked + 28 = omega (arith, z.1) in
        let p₄ : a.output_namespace.at + a.output_namespace.len - (a.job_id.at + a.job_id.len) ≡ length rest = omega (arith, z.1, z.2, long) in
        let e₁ : run q 27 (length asked + 1) ≡ enc_text asked = run-to q (enc_text asked) rest 27 (length asked + 1) here (omega arith) in
        let e₂ : run q (length asked + 28) (length rest) ≡ rest = run-to q rest [] (length asked + 28) (length rest) (after_seam q (enc_text asked) rest 27 (length asked + 28) here (omega arith) ∙ sym (append-nil rest)) refl in (
          (omega (arith, z.1, z.2, long, request_bounded pre), omega (arith, z.2, request_bounded pre)),
          (λ i. gather_of x q (Second (p₁ i) (p₂ i) ∷ Number y.generation 8 ∷ Number y.position.term 8 ∷ Number y.position.index 8 ∷ Second (p₃ i) (p₄ i) ∷ []))
              ∙ (λ i. e₁ i ++ (digits 8 y.generation ++ (digits 8 y.position.term ++ (digits 8 y.position.index ++ append-nil (e₂ i) i)))) ∙ simp append_assoc,
        )

    module _ (id key : List ℕ) (id-is : id ≡ asked) (key-is : key ≡ root)
        (place : Place) (located : place ≡ placed x (seek (codes job) (table_in jobs c).count id (drop (table_in jobs c).at x)))
      where
        found : Located jobs x c asked place
        found = located_as jobs id-is located

        -- ---- the answers

        module _ (spot : Place) (spotted : spot ≡ placed x (seek (codes (row_format roots)) (table_in roots c).count key (drop (table_in roots c).at x)))
            (row : List ℕ) (row_is : row ≡ run x spot.start (spot.end - spot.start)) (stands : Bool) (compared : stands ≡ input_stands row key q (length id + 36))
          where
            abbrev tests : List Refusal
            tests = prepare_tests x c q g a place stands

            abbrev rule : Rule
            rule = act s (action_of q (PublicationAction.PrepareCollection a)) (context_of y) (faults_of g)

            known : ltb place.start place.end ≡ has_key asked s.collection_jobs
            known =
                by_test (λ t. ltb place.start place.end ≡ t → t ≡ has_key asked s.collection_jobs) (ltb place.start place.end)
                (λ _ e. sym (ap is_some (held pre.holds pre.formed jobs found (ltb-true _ _ e)).looked))
                (λ _ e. sym (ap is_some (missing pre.holds pre.formed jobs found (ltb-false _ _ e)))) refl

            tests_agree : Agrees tests rule
            unfolding act prepare_collection
            tests_agree =
                let at = ap (λ (l : List ℕ). length l + 36) id-is in
                let collected = number_is pre.holds 7 in
                refl then refl then refl then refl then refl then refl then refl then refl
                then known
                then conflicts-here root namespace pre.holds pre.formed
                then ap (λ (n : ℕ). not g.ignore_collection_range_epoch && not (eqb a.range_map_epoch n)) (number_is pre.holds 10)
                then ap (λ (o : Option Text). not (same_option same o (Some root))) pre.holds.root_text
                then ap (λ (n : ℕ). not (eqb a.expected_collected_through n)) collected
                then ap (leb a.frozen_floor) collected
                then ap (λ (n : ℕ). ltb n a.frozen_floor) (number_is pre.holds 6)
                then ap (λ (b : Bool). not g.ignore_collection_input_root && not b) (compared ∙ ap (input_stands row key q) at
                ∙ input-stands pre.holds pre.formed (located_as roots key-is spotted) row row_is key key-is q (length asked + 36) manifest _ manifest-here pre.within.1.1.1.0)
                then tt

            module _ (n : ℕ) (told : n ≡ first_of tests) where
              pub prepare-refused : (n ≡ 0 → ⊥) → ruled pre ≡ rejected n
              prepare-refused = first-refuses tests rule tests_agree n told

              pub prepared : n ≡ 0 → ruled pre ≡ accepted (collection_prepared s token g.advance_collection_without_publication) (CollectionPrepared token)
              unfolding act prepare_collection decide
              prepared z = first_decides tests rule tests_agree n told z _ refl

        -- ---- what is written

        -- the new row: the request's fields, with generation and position after the id
        row-parts : run q 27 (length id + 1) ++ (digits 8 y.generation ++ (digits 8 y.position.term ++ (digits 8 y.position.index ++ run q (length id + 28) (length q)))) ≡ enc job (job_parts token)
        unfolding enc enc_text
        row-parts =
            let l : length id ≡ length asked = ap length id-is in
            let e₁ : run q 27 (length id + 1) ≡ enc_text asked = run-to q (enc_text asked) rest 27 (length id + 1) here (omega arith) in
            let e₂ : run q (length id + 28) (length q) ≡ rest = run-rest q rest (length id + 28) (length q) (after_seam q (enc_text asked) rest 27 (length id + 28) here (omega arith)) (omega arith) in
            (λ i. e₁ i ++ (digits 8 y.generation ++ (digits 8 y.position.term ++ (digits 8 y.position.index ++ e₂ i)))) ∙ simp append_assoc

        pub prepared_body : (early : Bool) (n : ℕ) → n ≡ place.start - tables_place c
            → gather_of x q (First (tables_place c) n ∷ Second 27 (length id + 1) ∷ Number y.generation 8 ∷ Number y.position.term 8 ∷ Number y.position.index 8 ∷ Second (length id + 28) (length q) ∷ First place.end (length x) ∷ [])
            ≡ joined (tables_of (collection_prepared s token early))
        prepared_body early n h =
            inserted_tables pre.holds pre.formed jobs found token q
            (Second 27 (length id + 1) ∷ Number y.generation 8 ∷ Number y.position.term 8 ∷ Number y.position.index 8 ∷ Second (length id + 28) (length q) ∷ [])
            (λ ps. sym (five (run q 27 (length id + 1)) (digits 8 y.generation) (digits 8 y.position.term) (digits 8 y.position.index) (run q (length id + 28) (length q)) (gather_of x q ps))
            ∙ ap (λ (l : List ℕ). l ++ gather_of x q ps) row-parts) n h

        row-size : length q - 3 ≡ length (row_bytes jobs (asked ⟼ token))
        unfolding enc enc_text
        row-size =
            let b = digits 8 y.generation ++ ((digits 8 y.position.term ++ digits 8 y.position.index) ++ rest) in
            let k : length b ≡ 24 + length rest = simp (length-append, length_digits) (omega arith) in
            omega (arith, long, length-append (enc_text asked) b)

        module _ (bytes : ℕ) (sized : bytes ≡ length q - 3) where
          pub insert-fits : ((table_in jobs c).size ≤ longest) × ((table_in jobs c).count ≤ longest) × (bytes ≤ longest)
          insert-fits = let z = table_bounds pre.holds jobs in (omega (arith, z.0, pre.short), omega (arith, z.1, pre.short), omega (arith, request_bounded pre))

          module _ (more : Table) (grown : more ≡ after_insert (table_in jobs c) place bytes) (collected : ℕ)
              (moved : collected ≡ cond g.advance_collection_without_publication a.frozen_floor c.scalars.physically_collected_through)
              (d : Contents) (is-raised : d ≡ raised c y.position)
            where
              abbrev contents_with : Contents → ℕ → Table → Contents
              contents_with k n t = with_tables (collected_to k n) (set k.tables 5 t)

              abbrev collected_then : ℕ
              collected_then = cond g.advance_collection_without_publication a.frozen_floor s.physically_collected_through

              contents_are : contents_with d collected more ≡ contents_with (raised c y.position) collected_then (after_insert (table_in jobs c) place bytes)
              contents_are =
                  let m = moved ∙ ap (cond g.advance_collection_without_publication a.frozen_floor) (number_is pre.holds 7) in
                  λ i. contents_with (is-raised i) (m i) (grown i)

              pub prepared-shows : Shows x (contents_with d collected more) (set_revision (position_of y.position) (collection_prepared s token g.advance_collection_without_publication))
              prepared-shows =
                  subst (λ (k : Contents). Shows x k (set_revision (position_of y.position) (collection_prepared s token g.advance_collection_without_publication))) (sym contents_are)
                  (shows-raised (shows-collected (shows-map pre.holds.shows jobs (insert asked token s.collection_jobs) _
                  (inserted_shown pre.holds pre.formed jobs found token bytes (sized ∙ row-size))) collected_then) y.position)

              pub prepared-small : Small (contents_with d collected more)
              prepared-small =
                  let k = small-held pre.formed pre.holds pre.short in
                  let z = insert-fits in
                  subst Small (sym contents_are) (small-table (small-scalars k (collected_to (raised c y.position) collected_then).scalars k.root) 5 _ (omega (arith, z.0, z.2)))
