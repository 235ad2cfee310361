-- AdvanceLeaseClock: its answers, and the contents that show its next state.
use Rattle.std.specs.Prelude.{ℕ, ◌+◌, ◌-◌, ◌≤◌, Bool, true, false, cond, ◌||◌, List, [], ◌∷◌, ◌++◌, map, ◌≡◌, eqb, leb, length, drop}
use Rattle.std.proofs.Common.{arith, append_assoc, sym, ◌∙◌, subst, length-append, ne_eqb}
use Rattle.std.proofs.Math.Bool.{not}
use Rattle.std.proofs.Math.Path.{refl, ap}
use Rattle.parts.specs.declared.Part.{Part}
use Rattle.parts.specs.Gather.{run, gather_of}
use Rattle.state.specs.Maps.{Text, Map, Every, select, ◌⟼◌, key_of, entries_where, remove_all}
use Rattle.state.proofs.MapLaws.{by_test}
use Rattle.state.proofs.Places.{without, remove_all-is, remove_all_rearranged}
use Rattle.state.specs.Sort.{Pairs}
use Rattle.state.proofs.SortedLaws.{in_order}
use Rattle.state.specs.Records.{SnapshotLeaseToken, State}
use Rattle.state.specs.Setters.{set_revision}
use Rattle.fields.specs.Format.{all}
use Rattle.fields.specs.Codes.{codes}
use Rattle.tables.specs.Seek.{rows_at}
use Rattle.tables.specs.SeekLaws.{tails, rows_are}
use Rattle.image.specs.Layout.{leases, jobs, with_map, Formed}
use Rattle.image.specs.Front.{Small}
use Rattle.image.specs.Opened.{Shows, Holds}
use Rattle.image.proofs.OpenedLaws.{run-to}
use Rattle.image.specs.Shapes.{lease}
use Rattle.image.specs.Tables.{lease_row}
use Rattle.image.proofs.TableRowLaws.{bytes-remove_all}
use Rattle.image.specs.ImageParts.{tables_of, joined}
use Rattle.image.proofs.ImagePartLaws.{rows-count}
use Rattle.image.proofs.StoredLaws.{stored_in}
use Rattle.image.specs.TableLaws.{table_in, tables_place, before, behind}
use Rattle.image.proofs.TablePlaceLaws.{joined_with, size_is, count-is, table_here, around_here, table-starts, tables_with}
use Rattle.image.specs.declared.Table.{Table}
use Rattle.image.specs.declared.Contents.{Contents}
use Rattle.machine.specs.Actions.{rejected, accepted, Rule, decide, LeasesExpired}
use Rattle.machine.specs.Machine.{act, advance_lease_clock}
use Rattle.machine.specs.Next.{up, oldest, ends_by, moved, ended, expired, clock_advanced, policy_for}
use Rattle.machine.proofs.ExpiredLaws.{expired_rearranged, expired-count}
use Rattle.machine.specs.Tests.{Refusal, ◌when◌, first_of}
use Rattle.machine.proofs.TestLaws.{Agrees, ◌then◌, first-refuses, first_decides}
use Rattle.entries.proofs.Sized.{well_formed}
use Rattle.requests.specs.Outcome.{encode_outcome}
use Rattle.requests.specs.Meaning.{position_of, context_of, faults_of, action_of}
use Rattle.requests.specs.declared.PublicationAction.{PublicationAction}
use Rattle.requests.specs.declared.AdvanceLeaseClock.{AdvanceLeaseClock as AdvanceLeaseClockAt}
use Rattle.requests.specs.declared.AuthorityContext.{AuthorityContext as ContextAt}
use Rattle.requests.specs.declared.PublicationAuthorityFaults.{PublicationAuthorityFaults as FaultsAt}
use Rattle.next.specs.Kept.{run-rest, number_is, small-held}
use Rattle.next.specs.Call.{Ready, ruled}
use Rattle.next.specs.Expired.{lease_in, leases_at, ById, WholeId}
use Rattle.next.specs.Outcome.{RowsStand, outcome_bytes}
use Rattle.next.specs.declared.LeasesExpired.{LeasesExpired as LeasesExpiredAt}
use Rattle.next.specs.declared.PublicationOutcome.{PublicationOutcome}
use Rattle.expiry.specs.Due.{due}
use Rattle.floor.specs.Floors.{readable_for_window}
use Rattle.edits.specs.PlaceLaws.{table_bounds}
use Rattle.leases.specs.Oldest.{oldest_kept}
use Rattle.leases.specs.Leased.{leased, recomputed, small-leases}
use Rattle.clock.specs.Due.{kept_bytes, ended_count, kept-rows, count-rows, oldest-rows, rows-leases, rows_whole, rows-by_id}
use Rattle.clock.specs.Tallies.{tally_of}
use Rattle.clock.specs.Parts.{BodyIs}
use Rattle.clock.specs.declared.Tally.{Tally}

-- THE TESTS
abbrev pub advance_tests : AdvanceLeaseClockAt → (clock : ℕ) → List Refusal
advance_tests l clock =
    (25 when not (eqb l.expected_tick clock))
    ∷ (26 when leb l.next_tick l.expected_tick)
    ∷ []

-- an epoch moves only if an id is told
moved-is : (ids : List Text) (n : ℕ) → cond (eqb (length ids) 0) n (up n) ≡ moved ids n
unfolding moved
moved-is [] n = refl
moved-is (id ∷ ids) n = simp (ne_eqb (length (id ∷ ids)) 0 (λ z. omega arith))

cond_either : (a b : Bool) (n m : ℕ) → cond (a || b) n m ≡ cond a n (cond b n m)
cond_either true b n m = refl
cond_either false b n m = refl

-- the value of `a || b`, as the code comes to it
pub either-first : {a k : Bool} (b : Bool) → a ≡ true → k ≡ a → k ≡ (a || b)
either-first b e h = h ∙ e ∙ sym (ap (λ (t : Bool). t || b) e)

pub either_second : {a k b : Bool} → a ≡ false → k ≡ b → k ≡ (a || b)
either_second {b = b} e h = h ∙ sym (ap (λ (t : Bool). t || b) e)

without-count : (p : SnapshotLeaseToken → Bool) (m : Map SnapshotLeaseToken) → length (without p m) + length (entries_where p m) ≡ length m
unfolding without select
without-count p [] = refl
without-count p ((k ⟼ v) ∷ m) =
    let i = without-count p m in
    by_test (λ b. length (cond b (without p m) ((k ⟼ v) ∷ without p m)) + length (cond b ((k ⟼ v) ∷ entries_where p m) (entries_where p m)) ≡ length ((k ⟼ v) ∷ m)) (p v)
    (λ _. omega arith) (λ _. omega arith)

without-size : (p : SnapshotLeaseToken → Bool) (m : Map SnapshotLeaseToken) → length (all lease_row (without p m)) ≤ length (all lease_row m)
unfolding without all
without-size p [] = omega arith
without-size p ((k ⟼ v) ∷ m) =
    let i = without-size p m in
    let n = length-append (lease_row (k ⟼ v)) (all lease_row m) in
    let o = length-append (lease_row (k ⟼ v)) (all lease_row (without p m)) in
    by_test (λ b. length (all lease_row (cond b (without p m) ((k ⟼ v) ∷ without p m))) ≤ length (lease_row (k ⟼ v) ++ all lease_row m)) (p v)
    (λ _. omega arith) (λ _. omega arith)

-- ON AN IMAGE: the rows of its leases
module _ {x : List ℕ} {c : Contents} {s : State} (h : Holds x c s) (w : Formed s) (tick : ℕ) where
  abbrev m : Map SnapshotLeaseToken
  m = s.leases

  abbrev ids : List Text
  ids = expired s tick

  abbrev left : Map SnapshotLeaseToken
  left = remove_all ids m

  abbrev rows : List (List ℕ)
  rows = rows_at (codes lease) (table_in leases c).count (drop (table_in leases c).at x)

  left_is : left ≡ without (ends_by tick) m
  left_is = remove_all_rearranged (expired_rearranged s tick) m ∙ remove_all-is (ends_by tick) m (stored_in leases s w).ascending

  rows_is : rows ≡ tails (codes lease) lease_row key_of m (behind leases s)
  rows_is = (λ i. rows_at (codes lease) (count-is h leases i) (table_here h leases i)) ∙ rows_are (codes lease) lease_row key_of m (behind leases s) (stored_in leases s w).hopped

  kept_here : kept_bytes tick rows ≡ all lease_row left
  kept_here =
      ap (kept_bytes tick) rows_is ∙ kept-rows tick (behind leases s) m (well_formed s w).leases.each (stored_in leases s w).hopped
      ∙ sym (bytes-remove_all lease_row (ends_by tick) m (stored_in leases s w).ascending (expired_rearranged s tick))

  leases-here : leases_at x (table_in leases c).at (table_in leases c).count ≡ m
  leases-here = ap (map lease_in) rows_is ∙ rows-leases (behind leases s) m (well_formed s w).leases.each (stored_in leases s w).hopped

  by_id-here : Pairs ById rows
  by_id-here = subst (Pairs ById) (sym rows_is) (rows-by_id (behind leases s) m (in_order m (stored_in leases s w).ascending) (stored_in leases s w).hopped)

  whole_here : Every WholeId rows
  whole_here = subst (Every WholeId) (sym rows_is) (rows_whole (behind leases s) m (well_formed s w).leases.each (stored_in leases s w).hopped)

  count-here : ended_count tick rows ≡ length ids
  count-here = ap (ended_count tick) rows_is ∙ count-rows tick (behind leases s) m (well_formed s w).leases.each (stored_in leases s w).hopped ∙ sym (expired-count s tick)

  oldest-left : (floor : ℕ) → oldest_kept (due tick) floor rows ≡ oldest floor left
  oldest-left floor =
      ap (oldest_kept (due tick) floor) rows_is ∙ oldest-rows tick (behind leases s) floor m (well_formed s w).leases.each (stored_in leases s w).hopped ∙ ap (oldest floor) (sym left_is)

  left-count : length left ≡ length m - length ids
  left-count = let a = ap length left_is in let b = without-count (ends_by tick) m in omega (arith, expired-count s tick)

  kept_low : length (kept_bytes tick rows) ≤ (table_in leases c).size
  kept_low =
      let a = ap length (kept_here ∙ ap (all lease_row) left_is) in
      let b = without-size (ends_by tick) m in
      omega (arith, size_is h leases)

  before-run : run x (tables_place c) ((table_in leases c).at - tables_place c) ≡ before leases s
  before-run = run-to x (before leases s) (all lease_row m ++ behind leases s) (tables_place c) ((table_in leases c).at - tables_place c) (around_here h leases) (omega (arith, table-starts h leases))

  after_run : run x (table_in jobs c).at (length x) ≡ behind leases s
  after_run = run-rest x (behind leases s) (table_in jobs c).at (length x) (table_here h jobs) (omega arith)

  tables-left : (run x (tables_place c) ((table_in leases c).at - tables_place c) ++ kept_bytes tick rows) ++ run x (table_in jobs c).at (length x) ≡ joined (tables_of (with_map leases left s))
  tables-left = (λ i. (before-run i ++ kept_here i) ++ after_run i) ∙ append_assoc (before leases s) (all lease_row left) (behind leases s) ∙ sym (joined_with leases left s)

abbrev pub ended_of : Contents → (tick : ℕ) → LeasesExpiredAt
ended_of c tick = record { at = (table_in leases c).at; count = (table_in leases c).count; tick = tick }

-- A CALL OF IT
module _ {x : List ℕ} {c : Contents} {q : List ℕ} {a : ContextAt} {f : FaultsAt} {l : AdvanceLeaseClockAt} (ready : Ready x c q (record { context = a; faults = f; action = PublicationAction.AdvanceLeaseClock l })) where
  abbrev s : State
  s = ready.state

  abbrev tick : ℕ
  tick = l.next_tick

  abbrev asked : Rule
  asked = act s (action_of q (PublicationAction.AdvanceLeaseClock l)) (context_of a) (faults_of f)

  abbrev tests : List Refusal
  tests = advance_tests l c.scalars.lease_clock_tick

  tests_agree : Agrees tests asked
  unfolding act advance_lease_clock
  tests_agree = ap (λ (n : ℕ). not (eqb l.expected_tick n)) (number_is ready.holds 8) then refl then tt

  module _ {n : ℕ} (told : n ≡ first_of tests) where
    pub advance-refused : (n ≡ 0 → ⊥) → ruled ready ≡ rejected n
    advance-refused = first-refuses tests asked tests_agree n told

    pub advance-taken : n ≡ 0 → ruled ready ≡ accepted (clock_advanced s tick f.omit_lease_root_epoch) (LeasesExpired (expired s tick))
    unfolding act advance_lease_clock decide
    advance-taken z = first_decides tests asked tests_agree n told z _ refl

  pub count_low : (table_in leases c).count ≤ 64
  count_low = omega (arith, count-is ready.holds leases, rows-count leases s, ready.formed.fits.1.1.1.1.1.0.count)

  -- the rows are those of the leases, so what is told is what the machine lists
  pub advance_stand : RowsStand x (ended_of c tick)
  advance_stand = record { few = count_low; by_id = by_id-here ready.holds ready.formed tick; whole_ids = whole_here ready.holds ready.formed tick }

  pub advance-told : outcome_bytes x q (PublicationOutcome.LeasesExpired (ended_of c tick)) ≡ encode_outcome (LeasesExpired (expired s tick))
  advance-told = ap (λ (m : Map SnapshotLeaseToken). encode_outcome (LeasesExpired (map key_of (ended tick m)))) (leases-here ready.holds ready.formed tick)

  pub advance-tables : {ps : List Part} → BodyIs tick x c ps
      → gather_of x q ps ≡ joined (tables_of (clock_advanced s tick f.omit_lease_root_epoch))
  advance-tables g = g.gathers q ∙ tables-left ready.holds ready.formed tick

  -- the leases that stay
  abbrev table : (size count : ℕ) → Table
  table size count = record { at = (table_in leases c).at; size = size; count = count }

  -- what the code has computed by the end
  module _ {root-epoch policy readable epoch count : ℕ} {t : Tally} (k : t ≡ tally_of tick policy x (table_in leases c).at (table_in leases c).count) (n : count ≡ (table_in leases c).count - t.ended)
    where
      pub advance-small : Small (leased c a root-epoch policy readable tick epoch (table t.size count))
      advance-small =
          small-leases (small-held ready.formed ready.holds ready.short) a (table t.size count)
          (omega (arith, ap (λ (u : Tally). u.size) k, kept_low ready.holds ready.formed tick, (table_bounds ready.holds leases).0, ready.short))

      pub advance-shows : policy ≡ policy_for c.scalars.retention_window c.scalars.observed_commit_frontier c.scalars.policy_floor
          → epoch ≡ cond (eqb t.ended 0) c.scalars.lease_epoch (up c.scalars.lease_epoch)
          → {still : Bool} → root-epoch ≡ cond still c.scalars.root_intent_epoch (up c.scalars.root_intent_epoch) → still ≡ (f.omit_lease_root_epoch || eqb t.ended 0)
          → readable ≡ readable_for_window c.scalars.retention_window t.oldest c.scalars.minimum_readable_version
          → Shows x (leased c a root-epoch policy readable tick epoch (table t.size count)) (set_revision (position_of a.position) (clock_advanced s tick f.omit_lease_root_epoch))
      advance-shows p ee er st r =
          let h = ready.holds in
          let w = ready.formed in
          let ids : List Text = expired s tick in
          let left : Map SnapshotLeaseToken = remove_all ids s.leases in
          let ended : t.ended ≡ length ids = ap (λ (u : Tally). u.ended) k ∙ count-here h w tick in
          recomputed h a left (table t.size count)
          (tables_with h leases left _ (ap (λ (u : Tally). u.size) k ∙ ap length (kept_here h w tick)) (n ∙ (λ i. count-is h leases i - ended i) ∙ sym (left-count h w tick)))
          (er ∙ ap (λ (b : Bool). cond b c.scalars.root_intent_epoch (up c.scalars.root_intent_epoch)) st ∙ cond_either f.omit_lease_root_epoch (eqb t.ended 0) c.scalars.root_intent_epoch (up c.scalars.root_intent_epoch) ∙ (λ i. cond f.omit_lease_root_epoch (number_is h 2 i) ((ap (λ (j : ℕ). cond (eqb j 0) c.scalars.root_intent_epoch (up c.scalars.root_intent_epoch)) ended ∙ moved-is ids c.scalars.root_intent_epoch ∙ ap (moved ids) (number_is h 2)) i)))
          refl
          (ee ∙ ap (λ (j : ℕ). cond (eqb j 0) c.scalars.lease_epoch (up c.scalars.lease_epoch)) ended ∙ moved-is ids c.scalars.lease_epoch ∙ ap (moved ids) (number_is h 9))
          p (ap (λ (u : Tally). u.oldest) k ∙ oldest-left h w tick policy) r
