-- A state has an image just where it is well formed, its texts within the limits, its tables and its image within theirs.
use Rattle.std.specs.Prelude.{ℕ, ◌≡◌, true, leb, length, Option, None, Some}
use Rattle.std.proofs.Math.Path.{refl}
use mathlib.Core.List.{[], ◌∷◌}
use Rattle.std.proofs.Common.{leb-true}
use Rattle.state.specs.Maps.{Text, Map, Entry, ◌⟼◌}
use Rattle.state.specs.Sorted.{Each}
use Rattle.state.specs.Sorted.{Below, Ascending}
use Rattle.state.specs.Records.{ObjectReference, PreparedPublication, State}
use Rattle.fields.specs.Format.{after, itself, ascends, TextOk, Every, Rows, Within}
use Rattle.fields.specs.Format.{Maybe as MaybeWithin}
use Rattle.fields.proofs.FormatLaws.{and_true}
use Rattle.fields.specs.Codes.{set_most, key_limit}
use Rattle.machine.specs.Formed.{Texts, Maybe, Table, ReferenceFits, IntentAt, Formed as WellFormed}
use Rattle.image.specs.Body.{row, id, roomy}
use Rattle.image.specs.Shapes.{short, reference, prepared, permit, lease, job, each_option, reference_parts, prepared_parts, permit_parts, lease_parts, job_parts}
use Rattle.image.specs.Stored.{OwnKey}
use Rattle.image.proofs.StoredLaws.{ascending_of, each_of}
use Rattle.image.proofs.StoredLaws.{own_keys}
use Rattle.image.specs.Layout.{bodies, each, row_of, own_row, state_parts, Formed}
use Rattle.image.proofs.LayoutLaws.{whole_of, reservations_own, leases_own, jobs_own}

-- THE TEXTS OF AN IMAGE: what `Formed` of the machine leaves open. With them what fits is what is within the formats, but for
-- an option of a reference, which needs its two cases.
abbrev pub image_texts : Texts
image_texts = record { Key = TextOk key_limit; Name = TextOk short; Keys = Rows (TextOk key_limit) itself set_most }

pub prior_within : (o : Option ObjectReference) → Maybe (ReferenceFits image_texts) o → MaybeWithin (Within reference) (each_option reference_parts o)
prior_within None h = tt
prior_within (Some r) h = h

pub prior_fits : (o : Option ObjectReference) → MaybeWithin (Within reference) (each_option reference_parts o) → Maybe (ReferenceFits image_texts) o
prior_fits None h = tt
prior_fits (Some r) h = h

-- ROWS AND TABLES
module _ {A B : Type 0} (at : Entry A → Text × B) (W : Text × B → Type 0) (P : Text → A → Type 0) where
  module _ (fits : (k : Text) (v : A) → P k v → OwnKey at (k ⟼ v) × W (at (k ⟼ v))) where
    owns : (m : Map A) → Each P m → Every (OwnKey at) m
    owns [] h = tt
    owns ((k ⟼ v) ∷ m) h = ((fits k v h.0).0, owns m h.1)

    within-each : (m : Map A) → Each P m → Every W (each at m)
    unfolding each
    within-each [] h = tt
    within-each ((k ⟼ v) ∷ m) h = ((fits k v h.0).1, within-each m h.1)

    ascends-below : (m : Map A) (k : Text) → Each P m → Below k m → Ascending m → ascends id (Some k) (each at m) ≡ true
    unfolding each ascends after
    ascends-below [] k h b a = refl
    ascends-below ((j ⟼ v) ∷ m) k h b a = rw ((fits j v h.0).0, b, ascends-below m j h.1 a.0 a.1)

    ascends-all : (m : Map A) → Each P m → Ascending m → ascends id None (each at m) ≡ true
    unfolding each ascends after
    ascends-all [] h a = refl
    ascends-all ((j ⟼ v) ∷ m) h a = rw (fits j v h.0).0 (ascends-below m j h.1 a.0 a.1)

    rows_of : (most : ℕ) (m : Map A) → leb (length (each at m)) most ≡ true → Table P m → Rows W id most (each at m)
    rows_of most m l t = record { count = leb-true _ _ l; each = within-each m t.each; ascending = ascends-all m t.each t.ascending }

  table_of : ((k : Text) (v : A) → OwnKey at (k ⟼ v) → W (at (k ⟼ v)) → P k v) → (most : ℕ) (m : Map A) → Every (OwnKey at) m → Rows W id most (each at m) → Table P m
  table_of holds most m o r = record { ascending = ascending_of at m o r.ascending; each = each_of at W P holds m o r.each }

-- each table of the state
abbrev IntentOk : Text → PreparedPublication → Type 0
IntentOk = IntentAt image_texts

intent-within : (k : Text) (v : PreparedPublication) → IntentOk k v → (k ≡ k) × Within (row short prepared) (row_of prepared_parts (k ⟼ v))
intent-within k v h = (refl, (h.0, (h.1.0, (h.1.1.0, (h.1.1.1.0, (h.1.1.1.1.0, prior_within v.intent.expected_prior_root h.1.1.1.1.1))))))

intent-fits : (k : Text) (v : PreparedPublication) → k ≡ k → Within (row short prepared) (row_of prepared_parts (k ⟼ v)) → IntentOk k v
intent-fits k v o h = (h.0, (h.1.0, (h.1.1.0, (h.1.1.1.0, (h.1.1.1.1.0, prior_fits v.intent.expected_prior_root h.1.1.1.1.1)))))

-- A WELL-FORMED STATE WHOSE TABLES AND IMAGE ARE WITHIN THEIR LIMITS HAS AN IMAGE
pub formed_of : (s : State) → WellFormed image_texts s → roomy bodies (state_parts s).1 ≡ true → Formed s
unfolding roomy
formed_of s w r =
    let (r₁, q₁) = and_true _ _ r in
    let (r₂, q₂) = and_true _ _ q₁ in
    let (r₃, q₃) = and_true _ _ q₂ in
    let (r₄, q₄) = and_true _ _ q₃ in
    let (r₅, q₅) = and_true _ _ q₄ in
    let (r₆, q₆) = and_true _ _ q₅ in
    let n = w.numbers in
    record {
      version = n.format_version_fits;
      fits = (
        (
          w.revision,
          (
            n.root_intent_epoch_fits,
            (
              n.observed_commit_frontier_fits,
              (
                w.retention_window,
                (
                  n.retention_policy_epoch_fits,
                  (
                    n.policy_floor_fits,
                    (n.minimum_readable_version_fits, (n.physically_collected_through_fits, (n.lease_clock_tick_fits, (n.lease_epoch_fits, (n.range_map_epoch_fits, w.collection_root))))),
                  ),
                ),
              ),
            ),
          ),
        ),
        (
          rows_of _ _ IntentOk intent-within _ s.intents r₁ w.intents,
          (
            rows_of _ _ _ (λ k v h. (refl, h)) _ s.roots r₂ w.roots,
            (
              rows_of _ _ _ (λ k v h. (refl, h)) _ s.pins r₃ w.pins,
              (
                rows_of _ _ _ (λ k v h. h) _ s.deletion_reservations r₄ w.deletion_reservations,
                (
                  rows_of _ _ _ (λ k v h. h) _ s.leases r₅ w.leases,
                  (rows_of _ _ _ (λ k v h. h) _ s.collection_jobs r₆ w.collection_jobs, tt),
                ),
              ),
            ),
          ),
        ),
      );
      whole = whole_of s (owns (own_row permit_parts) (Within permit) _ (λ k v h. h) s.deletion_reservations w.deletion_reservations.each)
          (owns (own_row lease_parts) (Within lease) _ (λ k v h. h) s.leases w.leases.each) (owns (own_row job_parts) (Within job) _ (λ k v h. h) s.collection_jobs w.collection_jobs.each);
    }

-- AND A STATE THAT HAS AN IMAGE IS WELL FORMED
pub well_formed : (s : State) → Formed s → WellFormed image_texts s
well_formed s f =
    let n = f.fits.0 in
    let x = n.1.1.1.1 in
    let z = x.1.1.1.1 in
    let t = f.fits.1 in
    record {
      numbers = record {
        format_version_fits = f.version;
        root_intent_epoch_fits = n.1.0;
        observed_commit_frontier_fits = n.1.1.0;
        retention_policy_epoch_fits = x.0;
        policy_floor_fits = x.1.0;
        minimum_readable_version_fits = x.1.1.0;
        physically_collected_through_fits = x.1.1.1.0;
        lease_clock_tick_fits = z.0;
        lease_epoch_fits = z.1.0;
        range_map_epoch_fits = z.1.1.0;
      };
      revision = n.0;
      retention_window = n.1.1.1.0;
      collection_root = z.1.1.1;
      intents = table_of _ _ IntentOk intent-fits _ s.intents (own_keys s.intents) t.0;
      roots = table_of _ _ _ (λ k v o h. h) _ s.roots (own_keys s.roots) t.1.0;
      pins = table_of _ _ _ (λ k v o h. h) _ s.pins (own_keys s.pins) t.1.1.0;
      deletion_reservations = table_of _ _ _ (λ k v o h. (o, h)) _ s.deletion_reservations (reservations_own s f) t.1.1.1.0;
      leases = table_of _ _ _ (λ k v o h. (o, h)) _ s.leases (leases_own s f) t.1.1.1.1.0;
      collection_jobs = table_of _ _ _ (λ k v o h. (o, h)) _ s.collection_jobs (jobs_own s f) t.1.1.1.1.1.0;
    }
