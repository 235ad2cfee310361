-- On the bytes of a state's tables, what the rows say of a key is what the maps say.
use Rattle.std.specs.Prelude.{ℕ, suc, List, [], ◌∷◌, ◌++◌, Bool, ◌||◌, ◌≡◌, refl, length, drop}
use Rattle.std.proofs.Common.{append_assoc, sym, ap, ◌∙◌}
use Rattle.state.specs.Maps.{Text, Map, Entry, ◌⟼◌, key_of, same, starts_with, contains, any, any_value}
use Rattle.state.specs.Records.{PreparedPublication, SnapshotLeaseToken, CollectionJobToken, State, names}
use Rattle.fields.specs.Format.{Field, option, set, ◌▹◌, El, enc, enc_text, all}
use Rattle.fields.specs.declared.Code.{Code}
use Rattle.fields.specs.Codes.{codes, skip, set_most, key_limit}
use Rattle.fields.specs.Rows.{text_here}
use Rattle.fields.proofs.RowLaws.{text-there}
use Rattle.sets.specs.Sets.{texts_of, set_of}
use Rattle.tables.specs.Seek.{rows_at}
use Rattle.tables.specs.SeekLaws.{tails, rows_are}
use Rattle.image.specs.Shapes.{u64, name, key, keys, position, reference, prepared, lease, job, reference_parts, prepared_parts, position_parts, before_closure_keys, before_intent_keys, before_manifest_key, before_namespace}
use Rattle.image.specs.Layout.{TableName, intents, leases, jobs, Value, map_of, row_format, Formed}
use Rattle.image.specs.Tables.{intent_row, lease_row, job_row}
use Rattle.image.specs.ImageParts.{row_bytes}
use Rattle.image.specs.Opened.{Holds}
use Rattle.image.proofs.StoredLaws.{stored_in}
use Rattle.image.specs.TableLaws.{table_in, behind}
use Rattle.image.proofs.TablePlaceLaws.{count-is, table_here}
use Rattle.image.specs.declared.Contents.{Contents}
use Rattle.next.specs.Peeks.{hop-text, skip-to}
use Rattle.scans.specs.Scans.{names_at, uses_at}

-- ---- texts and sets that were written

texts_there : (ts : List Text) (r : List ℕ) → texts_of (length ts) (all enc_text ts ++ r) ≡ ts
unfolding texts_of all
texts_there [] r = refl
texts_there (t ∷ ts) r =
    let u : List ℕ = all enc_text ts ++ r in
    ap (texts_of (suc (length ts))) (append_assoc (enc_text t) (all enc_text ts) r)
    ∙ (λ i. text-there t u i ∷ texts_of (length ts) (hop-text t u i))
    ∙ ap (λ (us : List Text). t ∷ us) (texts_there ts r)

set_there : (m n : ℕ) (ts : List Text) (r : List ℕ) → set_of (enc (set m n) ts ++ r) ≡ ts
unfolding enc set_of
set_there m n ts r = texts_there ts r

-- ---- rows

any-rows : {A : Type 0} (cs : List Code) (write : Entry A → List ℕ) (T : List ℕ → Bool) (P : A → Bool) → ((k : Text) (v : A) (r : List ℕ) → T (write (k ⟼ v) ++ r) ≡ P v)
    → (m : Map A) (r : List ℕ) → any T (tails cs write key_of m r) ≡ any_value P m
unfolding any any_value tails
any-rows cs write T P h [] r = refl
any-rows cs write T P h ((k ⟼ v) ∷ m) r = λ i. h k v (all write m ++ r) i || any-rows cs write T P h m r i

-- of a state's table
any_here : {x : List ℕ} {c : Contents} {s : State} → Holds x c s → Formed s → (t : TableName) (T : List ℕ → Bool) (P : Value t → Bool)
    → ((k : Text) (v : Value t) (r : List ℕ) → T (row_bytes t (k ⟼ v) ++ r) ≡ P v)
    → any T (rows_at (codes (row_format t)) (table_in t c).count (drop (table_in t c).at x)) ≡ any_value P (map_of t s)
any_here {x} {c} {s} h f t T P e =
    (λ i. any T (rows_at (codes (row_format t)) (count-is h t i) (table_here h t i)))
    ∙ ap (any T) (rows_are (codes (row_format t)) (row_bytes t) key_of (map_of t s) (behind t s) (stored_in t s f).hopped)
    ∙ any-rows (codes (row_format t)) (row_bytes t) T P e (map_of t s) (behind t s)

-- a set after some fields
names-row : (f : Field) (v : El f) (m n : ℕ) (ts : List Text) (k : Text) (r : List ℕ) → names_at (codes f) k (enc f v ++ (enc (set m n) ts ++ r)) ≡ contains k ts
unfolding names_at
names-row f v m n ts k r = ap (λ (l : List ℕ). contains k (set_of l)) (skip-to f v (enc (set m n) ts ++ r)) ∙ ap (contains k) (set_there m n ts r)

-- ---- intents: the set stands after id and owner

seam : (f g : Field) (v : El (f ▹ g)) (r : List ℕ) → enc (f ▹ g) v ++ r ≡ enc f v.0 ++ (enc g v.1 ++ r)
unfolding enc
seam f g v r = append_assoc (enc f v.0) (enc g v.1) r

intent-names : (k j : Text) (p : PreparedPublication) (r : List ℕ) → names_at (codes before_intent_keys) k (intent_row (j ⟼ p) ++ r) ≡ contains k p.intent.object_keys
intent-names k j p r =
    let g = reference ▹ name ▹ option reference in
    let b = enc g (prepared_parts p).1.1 in
    let e : intent_row (j ⟼ p) ++ r ≡ enc before_intent_keys (j, p.owner_generation) ++ (enc keys p.intent.object_keys ++ (b ++ r)) =
    seam name prepared (j, prepared_parts p) r
    ∙ ap (λ (l : List ℕ). enc name j ++ l) (seam u64 (keys ▹ g) (prepared_parts p) r ∙ ap (λ (l : List ℕ). enc u64 p.owner_generation ++ l) (seam keys g (prepared_parts p).1 r))
    ∙ sym (seam name u64 (j, p.owner_generation) (enc keys p.intent.object_keys ++ (b ++ r))) in
    ap (names_at (codes before_intent_keys) k) e ∙ names-row before_intent_keys (j, p.owner_generation) set_most key_limit p.intent.object_keys k (b ++ r)

-- ---- leases: the set stands after the closure's manifest

lease-names : (k j : Text) (t : SnapshotLeaseToken) (r : List ℕ) → names_at (codes before_closure_keys) k (lease_row (j ⟼ t) ++ r) ≡ names t.closure k
unfolding enc
lease-names k j t r =
    let v : El before_closure_keys = (t.lease_id, (t.tenant_id, (t.snapshot_version, (t.lease_epoch, (t.owner, (t.purpose, (t.deadline_tick, reference_parts t.closure.manifest))))))) in
    let b = enc (u64 ▹ position) (t.owner_generation, position_parts t.authority_position) in
    let e : lease_row (j ⟼ t) ++ r ≡ enc before_closure_keys v ++ (enc keys t.closure.object_keys ++ (b ++ r)) = simp append_assoc in
    ap (names_at (codes before_closure_keys) k) e ∙ names-row before_closure_keys v set_most key_limit t.closure.object_keys k (b ++ r)

-- ---- jobs

abbrev pub uses : Text → CollectionJobToken → Bool
uses k job = same job.input_manifest.key k || starts_with k job.output_namespace

text-row : (f : Field) (v : El f) (t r : List ℕ) → text_here (skip 0 (codes f) (enc f v ++ (enc_text t ++ r))) ≡ t
text-row f v t r = ap text_here (skip-to f v (enc_text t ++ r)) ∙ text-there t r

job-uses : (k j : Text) (t : CollectionJobToken) (r : List ℕ) → uses_at k (job_row (j ⟼ t) ++ r) ≡ uses k t
unfolding enc uses_at
job-uses k j t r =
    let m : El before_manifest_key = (t.job_id, (t.owner_generation, (position_parts t.authority_position, (t.frozen_floor, t.input_manifest.kind)))) in
    let b = enc (u64 ▹ name ▹ name ▹ u64 ▹ u64 ▹ key) (t.input_manifest.length, (t.input_manifest.sha256, (t.destination_root, (t.range_map_epoch, (t.expected_collected_through, t.output_namespace))))) in
    let e : job_row (j ⟼ t) ++ r ≡ enc before_manifest_key m ++ (enc_text t.input_manifest.key ++ (b ++ r)) = simp append_assoc in
    let n : El before_namespace = (t.job_id, (t.owner_generation, (position_parts t.authority_position, (t.frozen_floor, (reference_parts t.input_manifest, (t.destination_root, (t.range_map_epoch, t.expected_collected_through))))))) in
    let h : job_row (j ⟼ t) ++ r ≡ enc before_namespace n ++ (enc_text t.output_namespace ++ r) = simp append_assoc in
    let a : text_here (skip 0 (codes before_manifest_key) (job_row (j ⟼ t) ++ r)) ≡ t.input_manifest.key =
    ap (λ (l : List ℕ). text_here (skip 0 (codes before_manifest_key) l)) e ∙ text-row before_manifest_key m t.input_manifest.key (b ++ r) in
    let c : text_here (skip 0 (codes before_namespace) (job_row (j ⟼ t) ++ r)) ≡ t.output_namespace =
    ap (λ (l : List ℕ). text_here (skip 0 (codes before_namespace) l)) h ∙ text-row before_namespace n t.output_namespace r in
    λ i. same (a i) k || starts_with k (c i)

-- THE SCANS OF A STATE'S TABLES
module _ {x : List ℕ} {c : Contents} {s : State} (h : Holds x c s) (f : Formed s) (k : Text) where
  pub intents-name : any (names_at (codes before_intent_keys) k) (rows_at (codes (row_format intents)) (table_in intents c).count (drop (table_in intents c).at x))
      ≡ any_value (λ prepared. contains k prepared.intent.object_keys) s.intents
  intents-name = any_here h f intents (names_at (codes before_intent_keys) k) (λ p. contains k p.intent.object_keys) (intent-names k)

  pub leases-name : any (names_at (codes before_closure_keys) k) (rows_at (codes lease) (table_in leases c).count (drop (table_in leases c).at x))
      ≡ any_value (λ lease. names lease.closure k) s.leases
  leases-name = any_here h f leases (names_at (codes before_closure_keys) k) (λ t. names t.closure k) (lease-names k)

  pub jobs_use : any (uses_at k) (rows_at (codes job) (table_in jobs c).count (drop (table_in jobs c).at x)) ≡ any_value (uses k) s.collection_jobs
  jobs_use = any_here h f jobs (uses_at k) (uses k) (job-uses k)
