-- ReleaseLease: its answers, and the contents that show its next state.
use Rattle.std.specs.Prelude.{ℕ, ◌-◌, false, cond, List, [], ◌≡◌, refl, length, take, drop, set, eqb}
use Rattle.std.proofs.Common.{arith, append-nil, sym, ap, ◌∙◌}
use Rattle.std.proofs.Math.Bool.{not}
use Rattle.parts.specs.Digits.{value}
use Rattle.parts.specs.Gather.{run}
use Rattle.state.specs.Maps.{Text, ◌⟼◌, remove}
use Rattle.state.specs.Records.{State}
use Rattle.state.specs.Setters.{set_revision}
use Rattle.fields.specs.Codes.{codes, skip}
use Rattle.tables.specs.Seek.{rows_at}
use Rattle.tables.specs.declared.Place.{Place}
use Rattle.image.specs.Layout.{leases}
use Rattle.image.specs.Front.{Small}
use Rattle.image.specs.Opened.{measures_in, Shows}
use Rattle.image.specs.Shapes.{lease, before_epoch}
use Rattle.image.specs.Tables.{lease_row}
use Rattle.image.specs.TableLaws.{index, table_in}
use Rattle.image.specs.declared.Table.{Table}
use Rattle.image.specs.declared.Contents.{Contents}
use Rattle.machine.specs.Actions.{rejected, accepted, Rule, decide, Applied}
use Rattle.machine.specs.Machine.{act, release_lease}
use Rattle.machine.specs.Next.{up, released, policy_for}
use Rattle.machine.specs.Tests.{Refusal, first_of}
use Rattle.machine.proofs.TestLaws.{Agrees, ◌then◌, first-refuses, first-passed, first_decides}
use Rattle.requests.specs.Meaning.{text_of, position_of, context_of, faults_of, action_of}
use Rattle.requests.specs.declared.PublicationAction.{PublicationAction}
use Rattle.requests.specs.declared.ReleaseLease.{ReleaseLease as ReleaseLeaseAt}
use Rattle.requests.specs.declared.PublicationAuthorityFaults.{PublicationAuthorityFaults as FaultsAt}
use Rattle.requests.specs.declared.AuthorityContext.{AuthorityContext as ContextAt}
use Rattle.next.specs.Kept.{number_is, small-held}
use Rattle.next.specs.Call.{Ready, ruled}
use Rattle.floor.specs.Floors.{readable_for_window}
use Rattle.edits.specs.Changes.{after_remove}
use Rattle.edits.specs.PlaceLaws.{Located, Held, table_bounds, missing, held, removed_shown}
use Rattle.leases.specs.Rows.{epoch-row}
use Rattle.leases.specs.Oldest.{named, oldest_kept, without-here}
use Rattle.leases.specs.Leased.{leased, recomputed, small-leases}
use Rattle.leases.specs.Tests.{release_tests}
use Rattle.leases.specs.RowLaws.{no_row, a-row}

-- A CALL OF IT, by the place where the id stands or would stand
module _ {x : List ℕ} {c : Contents} {q : List ℕ} {a : ContextAt} {f : FaultsAt} {l : ReleaseLeaseAt} (ready : Ready x c q (record { context = a; faults = f; action = PublicationAction.ReleaseLease l }))
    {place : Place} (found : Located leases x c (text_of q l.lease_id) place)
  where
    abbrev s : State
    s = ready.state

    abbrev id : Text
    id = text_of q l.lease_id

    abbrev asked : Rule
    asked = act s (action_of q (PublicationAction.ReleaseLease l)) (context_of a) (faults_of f)

    -- the row there, and the epoch read from it
    module _ {row : List ℕ} (row_is : row ≡ run x place.start (place.end - place.start)) {now : ℕ} (read : now ≡ value (take 8 (skip 0 (codes before_epoch) row))) where
      abbrev tests : List Refusal
      tests = release_tests row now l.expected_lease_epoch

      stands : eqb (length row) 0 ≡ false → Held ready.holds ready.formed leases found
      stands e = held ready.holds ready.formed leases found (a-row found row_is e)

      epoch-is : (v : Held ready.holds ready.formed leases found) → now ≡ v.value.lease_epoch
      epoch-is v =
          read ∙ (λ i. value (take 8 (skip 0 (codes before_epoch) ((row_is ∙ v.row ∙ sym (append-nil (lease_row (id ⟼ v.value)))) i))))
          ∙ epoch-row v.value [] v.within.1.1.1.0

      tests_agree : Agrees tests asked
      unfolding act release_lease
      tests_agree = (
        λ e. missing ready.holds ready.formed leases found (no_row found row_is e),
        λ e. let v = stands e in (v.value, v.looked, (ap (λ (n : ℕ). not (eqb n l.expected_lease_epoch)) (epoch-is v) then tt)),
      )

      module _ {n : ℕ} (told : n ≡ first_of tests) where
        pub release-refused : (n ≡ 0 → ⊥) → ruled ready ≡ rejected n
        release-refused = first-refuses tests asked tests_agree n told

        pub release-taken : n ≡ 0 → ruled ready ≡ accepted (released s id f.omit_lease_root_epoch) Applied
        unfolding act release_lease decide
        release-taken z = let v = stands (first-passed tests asked tests_agree n told z).0 in first_decides tests asked tests_agree n told z _ (v.value, v.looked, refl)

    -- what the code has computed by the end
    module _ {root-epoch policy readable epoch : ℕ} {t : Table} (left : t ≡ after_remove (table_in leases c) place) where
      pub release-small : Small (leased c a root-epoch policy readable c.scalars.lease_clock_tick epoch t)
      release-small = small-leases (small-held ready.formed ready.holds ready.short) a t (omega (arith, ap (λ (u : Table). u.size) left, (table_bounds ready.holds leases).0, ready.short))

      pub release-shows : {text : Text} → text ≡ id → {candidate : ℕ}
          → epoch ≡ up c.scalars.lease_epoch
          → root-epoch ≡ cond f.omit_lease_root_epoch c.scalars.root_intent_epoch (up c.scalars.root_intent_epoch)
          → policy ≡ policy_for c.scalars.retention_window c.scalars.observed_commit_frontier c.scalars.policy_floor
          → candidate ≡ oldest_kept (named text) policy (rows_at (codes lease) (table_in leases c).count (drop (table_in leases c).at x))
          → readable ≡ readable_for_window c.scalars.retention_window candidate c.scalars.minimum_readable_version
          → Shows x (leased c a root-epoch policy readable c.scalars.lease_clock_tick epoch t) (set_revision (position_of a.position) (released s id f.omit_lease_root_epoch))
      release-shows i ee er p k r =
          let h = ready.holds in
          recomputed h a (remove id s.leases) t (ap (λ (u : Table). measures_in (set c.tables (index leases) u)) left ∙ removed_shown h ready.formed leases found)
          (er ∙ ap (λ (n : ℕ). cond f.omit_lease_root_epoch n (up n)) (number_is h 2)) (number_is h 8) (ee ∙ ap up (number_is h 9)) p
          (k ∙ ap (λ (t : Text). oldest_kept (named t) policy (rows_at (codes lease) (table_in leases c).count (drop (table_in leases c).at x))) i ∙ without-here h ready.formed id policy) r
