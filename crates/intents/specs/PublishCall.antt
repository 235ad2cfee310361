-- Publish: what its code computes, as the rule and the next state have it.
use Rattle.parts.specs.declared.Part.TheVariants.{First, Second}
use Rattle.std.specs.Prelude.{ℕ, ◌+◌, ◌-◌, ◌≤◌, Bool, ◌&&◌, ◌≡◌, drop, get_or, set, Option, Some}
use Rattle.std.proofs.Common.{arith, sym, ◌∙◌, subst, length-drop}
use Rattle.std.proofs.Math.Bool.{not}
use mathlib.Core.List.{List, [], ◌∷◌, ◌++◌, append_assoc}
use Rattle.std.proofs.Math.Path.{refl, ap}
use Rattle.std.proofs.Math.ListN.{length, length-append}
use Rattle.text.specs.Same.{same_of}
use Rattle.parts.specs.Answer.{longest}
use Rattle.parts.specs.Gather.{run, gather_of}
use Rattle.state.specs.Maps.{Text, ◌⟼◌, lookup, insert, remove}
use Rattle.state.proofs.Places.{ahead, behind}
use Rattle.state.specs.Records.{State, ObjectReference}
use Rattle.state.specs.Setters.{set_revision, set_intents, set_roots}
use Rattle.fields.specs.Format.{enc, enc_text, option, all}
use Rattle.fields.specs.Codes.{codes}
use Rattle.tables.specs.Seek.{seek, placed}
use Rattle.tables.specs.declared.Place.{Place}
use Rattle.image.specs.Shapes.{reference, reference_parts, each_option}
use Rattle.image.proofs.TableRowLaws.{bytes-remove}
use Rattle.image.specs.Layout.{intents, roots, row_format}
use Rattle.image.specs.ImageParts.{row_bytes, table_of, tables_of, joined, Measure, measure, measures}
use Rattle.image.specs.Opened.{measure_in, measures_in, Shows}
use Rattle.image.proofs.OpenedLaws.{run-to, after_seam}
use Rattle.image.proofs.StoredLaws.{stored_in}
use Rattle.image.specs.TableLaws.{table_in, tables_place, behind as behind-table}
use Rattle.image.proofs.TablePlaceLaws.{table-starts, measures-set}
use Rattle.image.specs.Front.{Small}
use Rattle.image.specs.declared.Table.{Table}
use Rattle.image.specs.declared.Contents.{Contents}
use Rattle.machine.specs.Actions.{Rule, rejected, accepted, decide, Applied}
use Rattle.machine.specs.Machine.{act, publish}
use Rattle.machine.specs.Next.{root_published}
use Rattle.machine.specs.Tests.{Refusal, first_of}
use Rattle.machine.proofs.TestLaws.{Agrees, ◌then◌, first-refuses, first_decides}
use Rattle.requests.specs.Meaning.{text_of, reference_of, maybe_reference_of, context_of, faults_of, position_of, action_of}
use Rattle.requests.specs.declared.AuthorityContext.{AuthorityContext as ContextAt}
use Rattle.requests.specs.declared.PublicationAuthorityFaults.{PublicationAuthorityFaults as FaultsAt}
use Rattle.requests.specs.declared.Publish.{Publish as PublishAt}
use Rattle.requests.specs.declared.PublicationAction.{PublicationAction}
use Rattle.next.specs.Asked.{fields_here}
use Rattle.next.specs.Call.{Ready, ruled}
use Rattle.next.specs.Contents.{with_tables, raised}
use Rattle.next.specs.Kept.{run-rest, small-held, small-scalars}
use Rattle.next.specs.ShownLaws.{shows-raised, small-table}
use Rattle.next.specs.Edit.{Spot, place-low, past-place, run_row, run-ahead, inserted_run}
use Rattle.edits.specs.Changes.{after_insert, after_remove}
use Rattle.edits.specs.PlaceLaws.{Located, located_as, table_bounds, spot, removed_shown, inserted_shown}
use Rattle.publication.specs.References.{held, option_at, option-held, option-here, root-same, last-here, last-length, lengths}
use Rattle.publication.specs.RaisedLaws.{request_bounded}
use Rattle.intents.specs.Tests.{differs_in, crosses_in, missing_in, publish_tests}
use Rattle.intents.specs.StoredLaws.{held_intent, intent-held, IntentWithin, intent-within, differs_is, crosses_is, missing_is}

module _ {x : List ℕ} {c : Contents} {q : List ℕ} {ctx : ContextAt} {f : FaultsAt} {a : PublishAt} (ready : Ready x c q (record { context = ctx; faults = f; action = PublicationAction.Publish a })) where
  abbrev st : State
  st = ready.state

  abbrev name : Text
  name = text_of q a.publication_id

  abbrev root : Text
  root = text_of q a.destination_root

  abbrev expected : Option ObjectReference
  expected = maybe_reference_of q a.expected_prior_root

  abbrev manifest : ObjectReference
  manifest = reference_of q a.manifest

  abbrev asked : Rule
  asked = act st (action_of q (PublicationAction.Publish a)) (context_of ctx) (faults_of f)

  abbrev option_bytes : List ℕ
  option_bytes = enc (option reference) (each_option reference_parts expected)

  -- ---- the request

  fields : drop 27 q ≡ enc_text name ++ (enc_text root ++ (option_bytes ++ held (Some manifest)))
  unfolding enc
  fields = fields_here _ q ready.request_is

  after-name : drop (27 + (length name + 1)) q ≡ enc_text root ++ (option_bytes ++ held (Some manifest))
  unfolding enc_text
  after-name = after_seam q (enc_text name) (enc_text root ++ (option_bytes ++ held (Some manifest))) 27 (27 + (length name + 1)) fields (omega arith)

  root-run : run q (27 + (length name + 1)) (length root + 1) ≡ enc_text root
  unfolding enc_text
  root-run = run-to q (enc_text root) (option_bytes ++ held (Some manifest)) (27 + (length name + 1)) (length root + 1) after-name (omega arith)

  abbrev option_place : ℕ
  option_place = 27 + (length name + 1) + (length root + 1)

  after_root : drop option_place q ≡ option_bytes ++ held (Some manifest)
  unfolding enc_text
  after_root = after_seam q (enc_text root) (option_bytes ++ held (Some manifest)) (27 + (length name + 1)) option_place after-name (omega arith)

  -- ---- what the code found

  module _ (id : List ℕ) (e : id ≡ name) (dest : List ℕ) (ed : dest ≡ root) where
    pub name_bounds : (length id ≤ 64) × (length dest ≤ 64)
    name_bounds = (omega (arith, ap length e, ready.within.1.0.fits), omega (arith, ap length ed, ready.within.1.1.0.fits))

    module _ (given : List ℕ) (g : given ≡ option_at q (27 + (length id + 1) + (length dest + 1))) where
      given_is : given ≡ option_bytes
      given_is = g ∙ (λ i. option_at q (27 + (length (e i) + 1) + (length (ed i) + 1))) ∙ option-here q option_place expected manifest after_root

      abbrev last : ℕ
      last = 27 + (length id + 1) + (length dest + 1) + length given

      last-is : last ≡ option_place + length option_bytes
      last-is = λ i. 27 + (length (e i) + 1) + (length (ed i) + 1) + length (given_is i)

      pub given_bounds : (length given ≤ 8000) × (length q ≤ 8000)
      given_bounds = (omega (arith, ap length given_is, lengths q option_place expected manifest after_root, request_bounded ready), request_bounded ready)

      module _ (p : Place) (found : p ≡ placed x (seek (codes (row_format intents)) (table_in intents c).count id (drop (table_in intents c).at x)))
          (o : Place) (found-root : o ≡ placed x (seek (codes (row_format roots)) (table_in roots c).count dest (drop (table_in roots c).at x)))
        where
          intent-there : Located intents x c name p
          intent-there = located_as intents e found

          root-there : Located roots x c root o
          root-there = located_as roots ed found-root

          -- ---- the tests
          module _ (stored rest shown old : List ℕ) (stored_is : stored ≡ run x p.start (p.end - p.start)) (rest-is : rest ≡ run stored (length id + 1) (length stored))
              (shown-is : shown ≡ run q last (length q)) (old-is : old ≡ run x o.start (o.end - o.start))
            where
              rest-held : rest ≡ held_intent (lookup name st.intents)
              rest-held =
                  rest-is ∙ run-rest stored (drop (length id + 1) stored) (length id + 1) (length stored) refl (omega arith)
                  ∙ (λ i. drop (length (e i) + 1) ((stored_is ∙ run_row (spot ready.holds ready.formed intents intent-there)) i))
                  ∙ intent-held name st.intents (stored_in intents st ready.formed).ascending

              within_it : IntentWithin (lookup name st.intents)
              within_it = intent-within st.intents (stored_in intents st ready.formed) name

              abbrev tests : List Refusal
              tests = publish_tests q a rest shown manifest.key root given (drop (length root + 1) old) ctx.generation f

              tests_agree : Agrees tests asked
              unfolding act publish
              tests_agree =
                  refl
                  then refl
                  then refl
                  then refl
                  then (λ i. differs_in (rest-held i) ((shown-is ∙ last-here q option_place expected manifest after_root last last-is) i) root (given_is i) manifest.key)
                  ∙ differs_is manifest root expected ready.within.1.1.1.1 ready.within.1.1.1.0 (lookup name st.intents) within_it
                  then ap (λ (l : List ℕ). crosses_in f.allow_cross_generation_intent l ctx.generation) rest-held
                  ∙ crosses_is f.allow_cross_generation_intent ctx.generation (lookup name st.intents) within_it
                  then ap (missing_in f.publish_without_intent) rest-held ∙ missing_is f.publish_without_intent (lookup name st.intents) within_it
                  then (λ i. not f.ignore_root_compare && not (same_of (drop (length root + 1) (old-is i)) ((ap (drop 1) given_is ∙ option-held expected) i)))
                  ∙ ap (λ (t : Bool). not f.ignore_root_compare && not t) (root-same ready.holds ready.formed expected ready.within.1.1.1.0 root-there)
                  then tt

              module _ (n : ℕ) (told : n ≡ first_of tests) where
                pub publish-refused : (n ≡ 0 → ⊥) → ruled ready ≡ rejected n
                publish-refused = first-refuses tests asked tests_agree n told

                pub publish-taken : n ≡ 0 → ruled ready ≡ accepted (root_published st name root manifest) Applied
                unfolding act publish decide
                publish-taken z = first_decides tests asked tests_agree n told z _ refl

          -- ---- what is written

          row_is : run q (27 + (length id + 1)) (length dest + 1) ++ run q last (length q) ≡ row_bytes roots (root ⟼ manifest)
          unfolding enc
          row_is =
              (λ i. run q (27 + (length (e i) + 1)) (length (ed i) + 1) ++ run q last (length q))
              ∙ (λ i. root-run i ++ last-here q option_place expected manifest after_root last last-is i)

          row-size : length dest + 1 + (length q - last) ≡ length (row_bytes roots (root ⟼ manifest))
          unfolding enc enc_text
          row-size = omega (arith, ap length ed, last-length q option_place expected manifest after_root last last-is, length-append (enc_text root) (held (Some manifest)))

          -- the roots stand after what is behind the intent's place
          abbrev behind_it : List ℕ
          behind_it = all (row_bytes intents) (behind name st.intents)

          root_spot : Spot (row_bytes roots) x p.end behind_it st.roots (behind-table roots st) root o
          root_spot =
              let y = spot ready.holds ready.formed intents intent-there in
              let z = spot ready.holds ready.formed roots root-there in
              let rest : List ℕ = joined (drop 1 (tables_of st)) in
              let n : length x - p.end ≡ length behind_it + length rest = sym (length-drop p.end x) ∙ ap length (past-place y) ∙ length-append behind_it rest in
              let low : p.end ≤ length x = (place-low y).2 in
              let at : (table_in roots c).at + length rest ≡ length x = ready.holds.ends 1 (omega arith) in
              record {
                codes = z.codes;
                table = z.table;
                here = past-place y;
                starts = omega (arith, z.starts, table-starts ready.holds roots);
                low = low;
                hops = z.hops;
                long = z.long;
                ascending = z.ascending;
                found = z.found;
              }

          pub publish-tables : (n₁ n₂ : ℕ) → n₁ ≡ p.start - tables_place c → n₂ ≡ o.start - p.end
              → gather_of x q (First (tables_place c) n₁ ∷ First p.end n₂ ∷ Second (27 + (length id + 1)) (length dest + 1) ∷ Second last (length q) ∷ First o.end (length x) ∷ [])
              ≡ joined (tables_of (root_published st name root manifest))
          publish-tables n₁ n₂ h₁ h₂ =
              let end : List ℕ = run x o.end (length x) ++ [] in
              let new = row_bytes roots (root ⟼ manifest) in
              let after : List ℕ = all (row_bytes roots) (insert root manifest st.roots) ++ behind-table roots st in
              (λ i. run x (tables_place c) (h₁ i) ++ (run x p.end (h₂ i)
              ++ (sym (append_assoc (run q (27 + (length id + 1)) (length dest + 1)) (run q last (length q)) end) ∙ ap (λ (l : List ℕ). l ++ end) row_is) i))
              ∙ (λ i. run-ahead (spot ready.holds ready.formed intents intent-there) i ++ inserted_run root_spot manifest new refl i)
              ∙ sym (append_assoc (all (row_bytes intents) (ahead name st.intents)) behind_it after)
              ∙ ap (λ (l : List ℕ). l ++ after) (sym (bytes-remove (row_bytes intents) name st.intents (stored_in intents st ready.formed).ascending))

          module _ (l : ℕ) (el : l ≡ length q - last) where
            -- nothing is too large for the table of roots with one row more
            pub publish-room : ((table_in roots c).size ≤ longest) × ((table_in roots c).count ≤ longest) × (length dest + 1 + l ≤ longest)
            publish-room =
                let b = table_bounds ready.holds roots in
                (omega (arith, b.0, ready.short), omega (arith, b.1, ready.short), omega (arith, name_bounds.1, given_bounds.1))

            module _ (fewer more : Table) (ei : fewer ≡ after_remove (table_in intents c) p) (er : more ≡ after_insert (table_in roots c) o (length dest + 1 + l)) (d : Contents) (ec : d ≡ raised c ctx.position) where
              abbrev after_both : Contents → Contents
              after_both k = with_tables k (set (set k.tables 0 fewer) 1 more)

              pub publish-small : Small (after_both d)
              publish-small =
                  let k = small-held ready.formed ready.holds ready.short in
                  let y = small-table k 0 fewer (omega (arith, ap (λ (u : Table). u.size) ei, (table_bounds ready.holds intents).0, ready.short)) in
                  let z = small-table y 1 more (omega (arith, ap (λ (u : Table). u.size) er, publish-room.0, publish-room.2)) in
                  subst (λ (kept : Contents). Small (after_both kept)) (sym ec) (small-scalars z (raised c ctx.position).scalars k.root)

              -- the roots' size and count, as the next state has them
              more-is : measure_in more ≡ measure (table_of roots (set_roots (insert root manifest st.roots) st))
              more-is =
                  ap (λ (ms : List Measure). get_or (set ms 1 (measure_in more)) 1 (measure_in more)) (sym ready.holds.shows.tables)
                  ∙ ap (λ (ms : List Measure). get_or ms 1 (measure_in more))
                  (sym (measures-set c.tables 1 more) ∙ ap (λ (u : Table). measures_in (set c.tables 1 u)) er
                  ∙ inserted_shown ready.holds ready.formed roots root-there manifest (length dest + 1 + l) (ap (λ (k : ℕ). length dest + 1 + k) el ∙ row-size))

              both_shown : measures_in (set (set c.tables 0 fewer) 1 more) ≡ measures (tables_of (root_published st name root manifest))
              both_shown =
                  measures-set (set c.tables 0 fewer) 1 more
                  ∙ (λ i. set ((ap (λ (u : Table). measures_in (set c.tables 0 u)) ei ∙ removed_shown ready.holds ready.formed intents intent-there) i) 1 (more-is i))

              pub publish-shows : Shows x (after_both d) (set_revision (position_of ctx.position) (root_published st name root manifest))
              publish-shows =
                  subst (λ (k : Contents). Shows x (after_both k) (set_revision (position_of ctx.position) (root_published st name root manifest))) (sym ec)
                  (shows-raised (shows_both both_shown) ctx.position)
                where
                  shows_both : measures_in (set (set c.tables 0 fewer) 1 more) ≡ measures (tables_of (root_published st name root manifest))
                      → Shows x (after_both c) (set_intents (remove name st.intents) (set_roots (insert root manifest st.roots) st))
                  shows_both e = record {
                    version = ready.holds.shows.version;
                    numbers = ready.holds.shows.numbers;
                    window = ready.holds.shows.window;
                    root = ready.holds.shows.root;
                    root_size = ready.holds.shows.root_size;
                    tables = e;
                  }
