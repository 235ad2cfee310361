-- PublishCollection: its answers, the contents that show its next state, and what is written.
use Rattle.parts.specs.declared.Part.TheVariants.{First, Second}
use Rattle.std.specs.Prelude.{ℕ, ◌+◌, ◌-◌, ◌≤◌, Bool, false, cond, ◌&&◌, ◌≡◌, ltb, eqb, set, Some}
use Rattle.std.proofs.Common.{arith, ◌∙◌, subst, length-drop}
use Rattle.std.proofs.Math.Bool.{not}
use mathlib.Core.List.{List, [], ◌∷◌, ◌++◌, append_assoc, append-nil}
use Rattle.std.proofs.Math.Path.{refl, sym, ap}
use Rattle.std.proofs.Math.ListN.{length, drop, length-append}
use borrow.Author.Tests.{eqb-true, eqb-false, not-false}
use Rattle.text.specs.Same.{same_of}
use Rattle.parts.specs.Answer.{longest}
use Rattle.parts.specs.Digits.{digits}
use Rattle.parts.specs.DigitLaws.{length_digits}
use Rattle.parts.specs.Gather.{run, gather_of}
use Rattle.state.specs.Maps.{Text, Map, ◌⟼◌, same, same_option, lookup, insert, remove}
use Rattle.state.proofs.Places.{ahead, at, behind}
use Rattle.state.specs.Records.{State, ObjectReference, CollectionJobToken, CollectionReceipt, reference_eq, job_eq}
use Rattle.state.proofs.RecordLaws.{job_sound}
use Rattle.state.specs.Setters.{set_revision, set_roots}
use Rattle.fields.specs.Format.{◌▹◌, enc, enc_text, all}
use Rattle.fields.specs.Codes.{codes, skip}
use Rattle.fields.specs.Walks.{place_of}
use Rattle.reader.specs.Records.{record_of}
use Rattle.tables.specs.Seek.{Seen, seek, placed}
use Rattle.tables.specs.declared.Place.{Place}
use Rattle.image.specs.Shapes.{u64, key, keys, reference, job, reference_parts, job_parts}
use Rattle.image.specs.Layout.{intents, pins, roots, reservations, leases, jobs, row_format}
use Rattle.image.proofs.SameBytes.{same-reference, same-job}
use Rattle.image.proofs.TableRowLaws.{bytes_split, bytes-insert, bytes-remove}
use Rattle.image.specs.ImageParts.{row_bytes, table_of, tables_of, joined}
use Rattle.image.specs.Opened.{measure_in, Shows}
use Rattle.image.proofs.OpenedLaws.{run-to, after_seam}
use Rattle.image.proofs.StoredLaws.{stored_in}
use Rattle.image.specs.TableLaws.{table_in, tables_place}
use Rattle.image.proofs.TablePlaceLaws.{size_is, count-is, measures-set, measures_with}
use Rattle.image.specs.Front.{Small}
use Rattle.image.specs.declared.Table.{Table}
use Rattle.image.specs.declared.Contents.{Contents}
use Rattle.machine.specs.Actions.{Rule, rejected, accepted, decide, CollectionPublished}
use Rattle.machine.specs.Machine.{act, publish_collection}
use Rattle.machine.specs.Next.{collection_published}
use Rattle.machine.specs.Tests.{Refusal, first_of}
use Rattle.machine.proofs.TestLaws.{Agrees, ◌then◌, first-refuses, first-passed, first_decides}
use Rattle.requests.specs.Meaning.{receipt_of, context_of, faults_of, position_of, action_of, request_of}
use Rattle.requests.specs.declared.AuthorityContext.{AuthorityContext as ContextAt}
use Rattle.requests.specs.declared.PublicationAuthorityFaults.{PublicationAuthorityFaults as FaultsAt}
use Rattle.requests.specs.declared.CollectionReceipt.{CollectionReceipt as ReceiptAt}
use Rattle.requests.specs.declared.PublicationAction.{PublicationAction}
use Rattle.next.specs.Call.{Ready, ruled}
use Rattle.next.specs.Asked.{fields_here}
use Rattle.next.specs.AskedPlaces.{receipt-places}
use Rattle.next.specs.Contents.{with_tables, raised}
use Rattle.next.specs.Edit.{row-none, row_some, place-low, from_place, past-place, run-ahead, run-behind, remove-size, remove-count}
use Rattle.next.specs.Kept.{number_is, small-held, small-scalars}
use Rattle.next.specs.Outcome.{Fits}
use Rattle.next.specs.Peeks.{skip-to}
use Rattle.next.specs.ShownLaws.{shows-raised, shows-map, small-table}
use Rattle.next.specs.declared.PublicationOutcome.{PublicationOutcome}
use Rattle.reserved.specs.Located.{reserved-here}
use Rattle.edits.specs.Changes.{after_insert, after_remove}
use Rattle.edits.specs.PlaceLaws.{Located, located_as, table_bounds, spot, missing, Held, held, inserted_shown}
use Rattle.publication.specs.References.{record-to}
use Rattle.publication.specs.RaisedLaws.{request_bounded}
use Rattle.collection.specs.After.{collected_to}
use Rattle.collection.specs.AfterLaws.{shows-collected}
use Rattle.collection_jobs.specs.Input.{manifest_end, manifest-end, manifest_at, input_stands, manifest-is, input-stands}
use Rattle.collection_publish.specs.Tests.{same_manifest, token_in, token_end, publish_tests}

module _ {x q : List ℕ} {c : Contents} {y : ContextAt} {g : FaultsAt} {a : ReceiptAt}
    (pre : Ready x c q (record { context = y; faults = g; action = PublicationAction.PublishCollection a }))
  where
    abbrev s : State
    s = pre.state

    abbrev pub receipt : CollectionReceipt
    receipt = receipt_of q a

    abbrev token : CollectionJobToken
    token = receipt.token

    abbrev id : Text
    id = token.job_id

    abbrev root : Text
    root = token.destination_root

    abbrev output : ObjectReference
    output = receipt.output_manifest

    abbrev input : ObjectReference
    input = token.input_manifest

    abbrev token_bytes : List ℕ
    token_bytes = enc job (job_parts token)

    abbrev output_bytes : List ℕ
    output_bytes = enc reference (reference_parts output)

    abbrev keys_bytes : List ℕ
    keys_bytes = enc keys receipt.object_keys

    -- ---- where the parts of the receipt stand

    here : drop 27 q ≡ token_bytes ++ (output_bytes ++ keys_bytes)
    unfolding enc
    here = fields_here (request_of q (record { context = y; faults = g; action = PublicationAction.PublishCollection a })) q pre.request_is

    long : length q - 27 ≡ length token_bytes + length (output_bytes ++ keys_bytes)
    long = sym (length-drop 27 q) ∙ ap length here ∙ length-append token_bytes (output_bytes ++ keys_bytes)

    -- the token up to its manifest, and after it
    abbrev token_front : List ℕ
    token_front = enc_text id ++ (digits 8 token.owner_generation ++ (digits 8 token.authority_position.term ++ (digits 8 token.authority_position.index ++ digits 8 token.frozen_floor)))

    abbrev token_rest : List ℕ
    token_rest = enc (u64 ▹ u64 ▹ key) (token.range_map_epoch, (token.expected_collected_through, token.output_namespace))

    token-parts : token_bytes ≡ token_front ++ (enc reference (reference_parts input) ++ (enc_text root ++ token_rest))
    unfolding enc
    token-parts = simp append_assoc

    front_long : length token_front ≡ length id + 33
    unfolding enc_text
    front_long = simp (length-append, length_digits) (omega arith)

    front_fits : length token_front ≤ length token_bytes
    front_fits = omega (arith, ap length token-parts ∙ length-append token_front (enc reference (reference_parts input) ++ (enc_text root ++ token_rest)))

    token-is : token_in q ≡ token_bytes
    token-is = ap (record_of (codes job)) here ∙ record-to job (job_parts token) (output_bytes ++ keys_bytes)

    token_end_lem : token_end q ≡ 27 + length token_bytes
    token_end_lem = ap (λ (l : List ℕ). 27 + length l) token-is

    output-here : drop (token_end q) q ≡ output_bytes ++ keys_bytes
    output-here = after_seam q token_bytes (output_bytes ++ keys_bytes) 27 (token_end q) here token_end_lem

    abbrev after_input : List ℕ
    after_input = enc_text root ++ (token_rest ++ (output_bytes ++ keys_bytes))

    input-here : drop (length id + 60) q ≡ enc reference (reference_parts input) ++ after_input
    input-here =
        after_seam q token_front (enc reference (reference_parts input) ++ after_input) 27 (length id + 60)
        (here ∙ ap (λ (l : List ℕ). l ++ (output_bytes ++ keys_bytes)) token-parts ∙ three token_front (enc reference (reference_parts input)) (enc_text root) token_rest (output_bytes ++ keys_bytes))
        (omega (arith, front_long))
      where
        three : (a b c d e : List ℕ) → (a ++ (b ++ (c ++ d))) ++ e ≡ a ++ (b ++ (c ++ (d ++ e)))
        three a b c d e = simp append_assoc

    input-low : length id + 60 ≤ length q
    input-low = omega (arith, long, front_fits, front_long)

    pub publish-short : (length id ≤ 64) × (length root ≤ 64)
    publish-short = (pre.within.1.0.0.fits, pre.within.1.0.1.1.1.1.1.0.fits)

    manifests : same_manifest q (token_end q) (length id + 60) ≡ reference_eq output input
    unfolding same_manifest
    manifests =
        (λ i. same_of (manifest-is q (token_end q) output keys_bytes output-here i) (manifest-is q (length id + 60) input after_input input-here i))
        ∙ same-reference output input pre.within.1.1.0 pre.within.1.0.1.1.1.1.0

    -- the receipt is all of the request's fields
    pub receipt-fits : Fits x q (PublicationOutcome.CollectionPublished a)
    unfolding enc
    receipt-fits =
        let z = receipt-places pre in
        let p₁ : a.token.job_id.at - 1 ≡ 27 = omega (arith, z.0) in
        let p₂ : a.object_keys.at + a.object_keys.len - (a.token.job_id.at - 1) ≡ length q - 27 = omega (arith, z.1, p₁) in (
          omega (arith, z.1, request_bounded pre),
          (λ i. run q (p₁ i) (p₂ i) ++ []) ∙ append-nil (run q 27 (length q - 27))
              ∙ run-to q (token_bytes ++ (output_bytes ++ keys_bytes)) [] 27 (length q - 27) (here ∙ sym (append-nil (token_bytes ++ (output_bytes ++ keys_bytes)))) (sym (length-drop 27 q) ∙ ap length here),
        )

    module _ (id' root' : List ℕ) (id-is : id' ≡ id) (root_is : root' ≡ root)
        (place : Place) (placed_at_lem : place ≡ placed x (seek (codes (row_format roots)) (table_in roots c).count root' (drop (table_in roots c).at x)))
        (gone : Place) (Gone-at : gone ≡ placed x (seek (codes job) (table_in jobs c).count id' (drop (table_in jobs c).at x)))
      where
        root-found : Located roots x c root place
        root-found = located_as roots root_is placed_at_lem

        job-found : Located jobs x c id gone
        job-found = located_as jobs id-is Gone-at

        -- ---- the answers

        module _ (row stored : List ℕ) (row_is : row ≡ run x place.start (place.end - place.start)) (stored_is : stored ≡ run x gone.start (gone.end - gone.start))
            (stands : Bool) (compared : stands ≡ input_stands row root' q (length id' + 60))
          where
            abbrev sought : Seen
            sought = seek (codes job) (table_in jobs c).count id' (drop (table_in jobs c).at x)

            abbrev tests : List Refusal
            tests = publish_tests x c q y g a stored stands

            abbrev rule : Rule
            rule = act s (action_of q (PublicationAction.PublishCollection a)) (context_of y) (faults_of g)

            there : eqb (length stored) 0 ≡ false → Held pre.holds pre.formed jobs job-found
            there e = held pre.holds pre.formed jobs job-found (row_some x sought gone Gone-at stored stored_is (eqb-false _ _ e))

            equal : (v : Held pre.holds pre.formed jobs job-found) → same_of stored (token_in q) ≡ job_eq v.value token
            equal v = (λ i. same_of ((stored_is ∙ v.row) i) (token-is i)) ∙ same-job v.value token v.within pre.within.1.0

            stands-is : stands ≡ same_option reference_eq (lookup root s.roots) (Some input)
            stands-is =
                compared ∙ ap (λ (l : List ℕ). input_stands row root' q (length l + 60)) id-is
                ∙ input-stands pre.holds pre.formed root-found row row_is root' root_is q (length id + 60) input after_input input-here pre.within.1.0.1.1.1.1.0

            tests_agree : Agrees tests rule
            unfolding act publish_collection
            tests_agree =
                refl
                then manifests
                then (
                  λ e. missing pre.holds pre.formed jobs job-found (row-none x sought gone Gone-at stored stored_is (eqb-true _ _ e)),
                  λ e.
                      let v = there e in (
                        v.value,
                        v.looked,
                        (
                          ap not (equal v),
                          λ z.
                              let t : token ≡ v.value = sym (job_sound v.value token (not-false _ z)) in
                              ap (λ (w : CollectionJobToken). not (eqb w.owner_generation y.generation)) t
                              then (λ i. not g.ignore_collection_range_epoch && not (eqb (t i).range_map_epoch (number_is pre.holds 10 i)))
                              then (λ i. not (same_option same (pre.holds.root_text i) (Some (t i).destination_root)))
                              then (λ i. not (eqb (t i).expected_collected_through (number_is pre.holds 7 i)))
                              then (λ i. not g.ignore_collection_input_root && not ((stands-is ∙ ap (λ (w : CollectionJobToken). same_option reference_eq (lookup w.destination_root s.roots) (Some w.input_manifest)) t) i))
                              then reserved-here pre.holds pre.formed receipt.object_keys
                              then tt,
                        ),
                      ),
                )

            module _ (n : ℕ) (told : n ≡ first_of tests) where
              pub publish-refused : (n ≡ 0 → ⊥) → ruled pre ≡ rejected n
              publish-refused = first-refuses tests rule tests_agree n told

              pub published : n ≡ 0 → ruled pre ≡ accepted (collection_published s token output) (CollectionPublished receipt)
              unfolding act publish_collection decide
              published z =
                  let passed = first-passed tests rule tests_agree n told z in
                  let v = there passed.1.1.0 in
                  let t = job_sound v.value token (sym (equal v) ∙ not-false _ passed.1.1.1.0) in
                  first_decides tests rule tests_agree n told z _ (token, v.looked ∙ ap Some t, refl)

        -- ---- what is written

        module _ (r-at : ℕ) (r-at-is : r-at ≡ manifest_end q (length id' + 60)) (shown : List ℕ) (shown-is : shown ≡ token_in q)
            (new : List ℕ) (new-is : new ≡ manifest_at q (27 + length shown))
          where
            abbrev start : ℕ
            start = 27 + length shown

            abbrev size : ℕ
            size = length new

            start-at : start ≡ token_end q
            start-at = ap (λ (l : List ℕ). 27 + length l) shown-is

            output-size : size ≡ length output_bytes
            output-size = ap length (new-is ∙ ap (manifest_at q) start-at ∙ manifest-is q (token_end q) output keys_bytes output-here)

            output-run : run q start size ≡ output_bytes
            output-run = run-to q output_bytes keys_bytes start size (ap (λ (n : ℕ). drop n q) start-at ∙ output-here) output-size

            root-run : run q r-at (length root' + 1) ≡ enc_text root
            unfolding enc_text
            root-run =
                let e = manifest-end q (length id + 60) input after_input input-here input-low in
                let r : r-at ≡ length id + 60 + length (enc reference (reference_parts input)) = r-at-is ∙ ap (λ (l : List ℕ). manifest_end q (length l + 60)) id-is ∙ e in
                let d : drop r-at q ≡ after_input = after_seam q (enc reference (reference_parts input)) after_input (length id + 60) r-at input-here r in
                run-to q (enc_text root) (token_rest ++ (output_bytes ++ keys_bytes)) r-at (length root' + 1) d (let l = ap length root_is in omega arith)

            row-size : length root' + 1 + size ≡ length (row_bytes roots (root ⟼ output))
            unfolding enc enc_text
            row-size = let l = ap length root_is in omega (arith, output-size, length-append (enc_text root) output_bytes)

            pub name-fits : length root' + 1 ≤ 65
            name-fits = let l = ap length root_is in omega (arith, publish-short.1)

            pub size_fits : size ≤ 8000
            size_fits = omega (arith, output-size, long, length-append output_bytes keys_bytes, request_bounded pre)

            pub insert-fits : ((table_in roots c).size ≤ longest) × ((table_in roots c).count ≤ longest) × (length root' + 1 + size ≤ longest)
            insert-fits = let z = table_bounds pre.holds roots in (omega (arith, z.0, pre.short), omega (arith, z.1, pre.short), omega (arith, name-fits, size_fits))

            -- the rows around both places
            abbrev before_root : List ℕ
            before_root = all (row_bytes roots) (ahead root s.roots)

            abbrev after_root : List ℕ
            after_root = all (row_bytes roots) (behind root s.roots)

            abbrev before_job : List ℕ
            before_job = all (row_bytes jobs) (ahead id s.collection_jobs)

            abbrev at_job : List ℕ
            at_job = all (row_bytes jobs) (at id s.collection_jobs)

            abbrev after_job : List ℕ
            after_job = all (row_bytes jobs) (behind id s.collection_jobs)

            abbrev between : List ℕ
            between = after_root ++ ((table_of pins s).bytes ++ ((table_of reservations s).bytes ++ ((table_of leases s).bytes ++ before_job)))

            run-between : run x place.end (gone.start - place.end) ≡ between
            run-between =
                let root_spot = spot pre.holds pre.formed roots root-found in
                let job-spot = spot pre.holds pre.formed jobs job-found in
                let d : drop place.end x ≡ between ++ (at_job ++ (after_job ++ [])) =
                past-place root_spot
                ∙ ap (λ (l : List ℕ). after_root ++ ((table_of pins s).bytes ++ ((table_of reservations s).bytes ++ ((table_of leases s).bytes ++ (l ++ []))))) (bytes_split (row_bytes jobs) id s.collection_jobs)
                ∙ seam after_root (table_of pins s).bytes (table_of reservations s).bytes (table_of leases s).bytes before_job at_job after_job in
                let l₁ = sym (length-drop place.end x) ∙ ap length d ∙ length-append between (at_job ++ (after_job ++ [])) in
                let l₂ = sym (length-drop gone.start x) ∙ ap length (from_place job-spot) in
                let z₁ = place-low root_spot in
                let z₂ = place-low job-spot in
                run-to x between (at_job ++ (after_job ++ [])) place.end (gone.start - place.end) d (omega (arith, z₁.2, z₂.1, z₂.2))
              where
                seam : (a b c d e f g : List ℕ) → a ++ (b ++ (c ++ (d ++ ((e ++ (f ++ g)) ++ [])))) ≡ (a ++ (b ++ (c ++ (d ++ e)))) ++ (f ++ (g ++ []))
                seam a b c d e f g = simp append_assoc

            pub published_body : (n m : ℕ) → n ≡ place.start - tables_place c → m ≡ gone.start - place.end
                → gather_of x q (First (tables_place c) n ∷ Second r-at (length root' + 1) ∷ Second start size ∷ First place.end m ∷ First gone.end (length x) ∷ [])
                ≡ joined (tables_of (collection_published s token output))
            unfolding enc
            published_body n m hn hm =
                let root_spot = spot pre.holds pre.formed roots root-found in
                let job-spot = spot pre.holds pre.formed jobs job-found in
                (λ j. (ap (run x (tables_place c)) hn ∙ run-ahead root_spot) j ++ (root-run j ++ (output-run j ++ ((ap (run x place.end) hm ∙ run-between) j ++ (run-behind job-spot j ++ [])))))
                ∙ in_order (table_of intents s).bytes before_root (enc_text root) output_bytes after_root (table_of pins s).bytes (table_of reservations s).bytes (table_of leases s).bytes before_job after_job
                ∙ (λ j. (table_of intents s).bytes ++ (sym (bytes-insert (row_bytes roots) root output s.roots) j ++ ((table_of pins s).bytes ++ ((table_of reservations s).bytes ++ ((table_of leases s).bytes
                ++ (sym (bytes-remove (row_bytes jobs) id s.collection_jobs (stored_in jobs s pre.formed).ascending) j ++ []))))))
              where
                in_order : (a b c d e f g h i j : List ℕ) → ((a ++ []) ++ b) ++ (c ++ (d ++ ((e ++ (f ++ (g ++ (h ++ i)))) ++ ((j ++ []) ++ [])))) ≡ a ++ ((b ++ ((c ++ d) ++ e)) ++ (f ++ (g ++ (h ++ ((i ++ j) ++ [])))))
                in_order a b c d e f g h i j = simp (append_assoc, append-nil)

            module _ (more left : Table) (grown : more ≡ after_insert (table_in roots c) place (length root' + 1 + size)) (shrunk : left ≡ after_remove (table_in jobs c) gone)
                (d : Contents) (is-raised : d ≡ raised c y.position)
              where
                abbrev contents_with : Contents → Table → Table → Contents
                contents_with k t u = with_tables (collected_to k token.frozen_floor) (set (set k.tables 1 t) 5 u)

                contents_are : contents_with d more left ≡ contents_with (raised c y.position) (after_insert (table_in roots c) place (length root' + 1 + size)) (after_remove (table_in jobs c) gone)
                contents_are = λ i. contents_with (is-raised i) (grown i) (shrunk i)

                abbrev roots_then : Map ObjectReference
                roots_then = insert root output s.roots

                abbrev jobs_then : Map CollectionJobToken
                jobs_then = remove id s.collection_jobs

                job_measured : measure_in (after_remove (table_in jobs c) gone) ≡ record { size = length (all (row_bytes jobs) jobs_then); count = length jobs_then }
                job_measured =
                    let job-spot = spot pre.holds pre.formed jobs job-found in
                    λ i. record {
                      size = (ap (λ (n : ℕ). n - (gone.end - gone.start)) (size_is pre.holds jobs) ∙ remove-size job-spot) i;
                      count = (ap (λ (n : ℕ). cond (ltb gone.start gone.end) (n - 1) n) (count-is pre.holds jobs) ∙ remove-count job-spot) i;
                    }

                pub published_shows : Shows x (contents_with d more left) (set_revision (position_of y.position) (collection_published s token output))
                published_shows =
                    let gone-then = after_remove (table_in jobs c) gone in
                    let rooted = set c.tables 1 (after_insert (table_in roots c) place (length root' + 1 + size)) in
                    let e = inserted_shown pre.holds pre.formed roots root-found output (length root' + 1 + size) row-size in
                    subst (λ (k : Contents). Shows x k (set_revision (position_of y.position) (collection_published s token output))) (sym contents_are)
                    (shows-raised (shows-collected (shows-map (shows-map pre.holds.shows roots roots_then rooted e) jobs jobs_then (set rooted 5 gone-then)
                    (measures-set rooted 5 gone-then ∙ (λ i. set (e i) 5 (job_measured i)) ∙ sym (measures_with jobs jobs_then (set_roots roots_then s)))) token.frozen_floor) y.position)

                pub published_small : Small (contents_with d more left)
                published_small =
                    let k = small-held pre.formed pre.holds pre.short in
                    let z = insert-fits in
                    subst Small (sym contents_are)
                    (small-table (small-table (small-scalars k (collected_to (raised c y.position) token.frozen_floor).scalars k.root) 1 _ (omega (arith, z.0, z.2))) 5 _ (omega (arith, (table_bounds pre.holds jobs).0, pre.short)))
