-- ConfigureCollectionRoot: its answers, and the contents that show its next state.
use Rattle.std.specs.Prelude.{ℕ, suc, ◌+◌, ◌-◌, Bool, ◌≡◌, drop, Option, Some}
use native.Mathlib.Omega.{arith}
use Rattle.std.proofs.Math.Bool.{not}
use mathlib.Core.List.{List, [], ◌∷◌, ◌++◌, append-nil}
use Rattle.std.proofs.Math.Path.{refl, ap}
use Rattle.std.proofs.Common.{sym, ◌∙◌, subst, length-append, length-drop, ne_eqb}
use Rattle.std.proofs.Math.Dec.{eqb}
use Rattle.std.proofs.Math.ListN.{length}
use Rattle.parts.specs.Digits.{digits}
use Rattle.parts.specs.Gather.{run}
use Rattle.state.specs.Maps.{Text, same, same_option, is_empty, has_key}
use Rattle.state.specs.Records.{State}
use Rattle.state.specs.Setters.{set_revision}
use Rattle.fields.specs.Format.{option, enc, enc_option, enc_text}
use Rattle.fields.specs.Codes.{codes}
use Rattle.image.specs.Shapes.{name}
use Rattle.image.specs.Layout.{roots, jobs, row_format}
use Rattle.image.specs.Opened.{root_width, root_bytes, Shows}
use Rattle.image.specs.TableLaws.{table_in}
use Rattle.image.proofs.TablePlaceLaws.{count-is}
use Rattle.image.specs.Front.{Small}
use Rattle.image.specs.declared.TextAt.{TextAt}
use Rattle.image.specs.declared.Contents.{Contents}
use Rattle.machine.specs.Actions.{Rule, rejected, accepted, decide, Applied}
use Rattle.machine.specs.Machine.{act, configure_collection_root}
use Rattle.machine.specs.Next.{root_configured}
use Rattle.machine.specs.Tests.{Refusal, first_of}
use Rattle.machine.proofs.TestLaws.{Agrees, ◌then◌, first-refuses, first_decides}
use Rattle.requests.specs.Meaning.{text_of, maybe_text_of, position_of, context_of, faults_of, action_of, request_of}
use Rattle.requests.specs.declared.AuthorityContext.{AuthorityContext as ContextAt}
use Rattle.requests.specs.declared.PublicationAuthorityFaults.{PublicationAuthorityFaults as FaultsAt}
use Rattle.requests.specs.declared.ConfigureCollectionRoot.{ConfigureCollectionRoot as ConfigureAt}
use Rattle.requests.specs.declared.PublicationAction.{PublicationAction}
use Rattle.image.proofs.OpenedLaws.{run-to, after_seam}
use Rattle.next.specs.Call.{Ready, ruled}
use Rattle.next.specs.Asked.{fields_here}
use Rattle.next.specs.Contents.{raised}
use Rattle.next.specs.Kept.{with_scalars, small-held, small-scalars}
use Rattle.next.specs.ShownLaws.{shows-raised}
use Rattle.image.specs.Rows.{RowsOf, table_of}
use Rattle.tables.specs.declared.TableRows.{TableRows}
use Rattle.reserved.specs.Located.{located_in, located_of, has_row}
use Rattle.collection.specs.After.{rooted}
use Rattle.collection.specs.AfterLaws.{shows-rooted}
use Rattle.collection.specs.Tests.{configure_tests}

no-entries : {A : Type 0} (l : List A) → eqb (length l) 0 ≡ is_empty l
no-entries [] = refl
no-entries (v ∷ l) = ne_eqb (suc (length l)) 0 (λ z. absurd (omega arith))

-- whether one of the roots has the id
pub root_located : {x : List ℕ} {c : Contents} {r : TableRows} → RowsOf x c 1 r → (id : Text) → located_of r id ≡ located_in (codes (row_format roots)) (table_of c 1).count (drop (table_of c 1).at x) id
root_located h id = rw (h.codes, h.bytes, h.at, h.left)

-- the root is the last field of the request
root-asked : (q : List ℕ) (o : Option Text) (t : Text) → drop 27 q ≡ enc (option name) o ++ enc name t → (p : ℕ) → p ≡ length q - length t
    → digits 1 1 ++ run q (p - 1) (length t + 1) ≡ enc_option enc_text (Some t)
unfolding enc enc_text enc_option digits
root-asked q o t here p ends =
    let b = enc (option name) o in
    let l : length q - 27 ≡ length b + length (enc name t) = sym (length-drop 27 q) ∙ ap length here ∙ length-append b (enc name t) in
    let z : length (enc name t) ≡ length t + 1 = omega arith in
    let d : drop (p - 1) q ≡ enc name t = after_seam q b (enc name t) 27 (p - 1) here (omega arith) in
    ap (λ (l : List ℕ). 1 ∷ l) (run-to q (enc name t) [] (p - 1) (length t + 1) (d ∙ sym (append-nil (enc name t))) (sym z))

module _ {x q : List ℕ} {c : Contents} {y : ContextAt} {g : FaultsAt} {a : ConfigureAt}
    (pre : Ready x c q (record { context = y; faults = g; action = PublicationAction.ConfigureCollectionRoot a }))
    (id : List ℕ) (clipped : id ≡ text_of q a.destination_root)
  where
    abbrev s : State
    s = pre.state

    abbrev asked : Text
    asked = text_of q a.destination_root

    abbrev rule : Rule
    rule = act s (action_of q (PublicationAction.ConfigureCollectionRoot a)) (context_of y) (faults_of g)

    module _ (known equal : Bool)
        (located : known ≡ located_in (codes (row_format roots)) (table_in roots c).count (drop (table_in roots c).at x) id)
        (compared : equal ≡ same_option same (maybe_text_of x c.scalars.collection_root) (maybe_text_of q a.expected))
      where
        abbrev tests : List Refusal
        tests = configure_tests id known equal (table_in jobs c).count

        known_is : known ≡ has_key asked s.roots
        known_is =
            located
            ∙ (λ i. located_in (codes (row_format roots)) (table_in roots c).count (drop (table_in roots c).at x) (clipped i))
            ∙ has_row pre.holds pre.formed roots asked

        tests_agree : Agrees tests rule
        unfolding act configure_collection_root
        tests_agree =
            ap (λ (l : List ℕ). eqb (length l) 0) clipped ∙ no-entries asked
            then ap not known_is
            then ap not (compared ∙ ap (λ (o : Option Text). same_option same o (maybe_text_of q a.expected)) pre.holds.root_text)
            then ap (λ (n : ℕ). not (eqb n 0)) (count-is pre.holds jobs) ∙ ap not (no-entries s.collection_jobs)
            then tt

        module _ (n : ℕ) (told : n ≡ first_of tests) where
          pub configure-refused : (n ≡ 0 → ⊥) → ruled pre ≡ rejected n
          configure-refused = first-refuses tests rule tests_agree n told

          pub configured : n ≡ 0 → ruled pre ≡ accepted (root_configured s asked) Applied
          unfolding act configure_collection_root decide
          configured z = first_decides tests rule tests_agree n told z _ refl

    module _ (p : ℕ) (ends : p ≡ length q - length id) where
      abbrev root_at : Option TextAt
      root_at = Some (record { at = p; len = length id })

      root-bytes : root_bytes q root_at ≡ enc_option enc_text (Some asked)
      unfolding enc
      root-bytes =
          ap (λ (n : ℕ). digits 1 1 ++ run q (p - 1) (n + 1)) (ap length clipped)
          ∙ root-asked q (maybe_text_of q a.expected) asked (fields_here (request_of q (record { context = y; faults = g; action = PublicationAction.ConfigureCollectionRoot a })) q pre.request_is) p (ends ∙ ap (λ (l : List ℕ). length q - length l) clipped)

      root_sized : 1 + root_width root_at ≡ length (enc_option enc_text (Some asked))
      unfolding enc_option enc_text
      root_sized = let l = ap length clipped in omega arith

      module _ (c' : Contents) (contents_are : c' ≡ raised (with_scalars c (rooted c.scalars root_at)) y.position) where
        pub configured_shows : Shows q c' (set_revision (position_of y.position) (root_configured s asked))
        configured_shows =
            subst (λ (k : Contents). Shows q k (set_revision (position_of y.position) (root_configured s asked))) (sym contents_are)
            (shows-raised (shows-rooted pre.holds.shows q asked root_at root-bytes root_sized) y.position)

        pub configured_small : Small c'
        configured_small =
            let w = pre.within.1.1.fits in
            let l = ap length clipped in
            subst Small (sym contents_are) (small-scalars (small-held pre.formed pre.holds pre.short) _ (omega arith))
