-- In every form a state that has an image is read back from it, and an image is that of the state it holds; and bytes are
-- an image in one form at most.
use Prim.Native.Nat.{ℕ, ◌^◌, ◌≤◌, ◌<◌}
use Rattle.std.proofs.Common.{arith, ◌∙◌, take_at, drop_at}
use Rattle.std.proofs.Math.Path.{◌≡◌, refl, sym, ap, subst}
use Rattle.std.specs.Prelude.{Bool, true, false, cond, leb, take, drop, Option, None, Some}
use mathlib.Core.List.{List, [], ◌∷◌, ◌++◌, append-nil, append_assoc}
use Rattle.std.proofs.Math.ListN.{length}
use borrow.Author.Tests.{le-leb, leb-true, eq-eqb, ne_eqb, eqb-true}
use Rattle.state.specs.Maps.{Text, Map, Entry, ◌⟼◌, key_of, value_of}
use Rattle.state.specs.Records.{State}
use Rattle.state.specs.Setters.{state}
use Rattle.parts.specs.Answer.{longest}
use Rattle.parts.specs.Digits.{Bytes, digits, value}
use Rattle.parts.specs.DigitLaws.{length_digits, value-digits}
use Rattle.fields.specs.Format.{Res, ok, bad, enc}
use Rattle.fields.proofs.FormatLaws.{small}
use Rattle.image.specs.Body.{Helds, FitsAll}
use Rattle.image.specs.Contents.{Widths, version_width, contents, encode, decode, whole}
use Rattle.image.proofs.BodyLaws.{small_bodies}
use Rattle.image.proofs.ContentsLaws.{ImageOk, countable, decode-encode, Decoded, encode-decode, bytes-encode}
use Rattle.image.specs.Shapes.{prepared_parts, prepared_from, reference_parts, reference_from, lease_parts, lease_from, job_parts, job_of, permit_parts, permit_from, prepared-there, prepared-back, reference-there, reference-back}
use Rattle.image.specs.Layout.{each, row_of, entry_of, own_row, own_entry, Own, intents, roots, pins, reservations, leases, jobs, plain, Form, bodies_in, first_in, parts_in, state_in, encode_in, decode_in, held_in, is_in, Read, read_as, read_in, FormedIn, base, forms, written, most_intents, most_roots, most_pins, most_reservations, most_leases, most_jobs, encode_image, read_image, state_read, decode_image, Formed, Imaged}

-- a form is sound where its parts come back as they went, its counts fit their width, and so does its first offset
pub record Sound (f : Form) : Type 0 where
  pub back : (x : ℕ × Helds (bodies_in f)) → parts_in f (state_in f x) ≡ x
  pub counts : countable f.widths (bodies_in f) ≡ true
  pub smalls : small_bodies (bodies_in f) ≡ true
  pub places : 65536 ≤ 256 ^ f.widths.place
  pub sizes : 65536 ≤ 256 ^ f.widths.size
  pub first_small : first_in f < 256 ^ f.widths.place

cond_some : {A : Type 0} (b : Bool) (o : Option A) (v : A) → cond b o None ≡ Some v → (b ≡ true) × (o ≡ Some v)
cond_some true o v h = (refl, h)
cond_some false o v h = let z : ◌≡◌ {A = ℕ} 0 1 = cc in absurd (omega arith)

number-second : (k n m : ℕ) (x y z : List ℕ) → m < 256 ^ k → value (take k (drop version_width ((digits version_width n ++ ((digits k m ++ x) ++ y)) ++ z))) ≡ m
number-second k n m x y z h =
    let e : (digits version_width n ++ ((digits k m ++ x) ++ y)) ++ z ≡ digits version_width n ++ (digits k m ++ (x ++ (y ++ z))) = simp append_assoc in
    ap (λ (l : List ℕ). value (take k (drop version_width l))) e
    ∙ ap (λ (l : List ℕ). value (take k l)) (drop_at (digits version_width n) (digits k m ++ (x ++ (y ++ z))) version_width (length_digits version_width n))
    ∙ ap value (take_at (digits k m) (x ++ (y ++ z)) k (length_digits k m))
    ∙ value-digits k m h

module _ (f : Form) (sound : Sound f) where
  held_some : (r : Res (ℕ × Helds (bodies_in f))) (s : State) → held_in f (whole r) ≡ Some s → (x : ℕ × Helds (bodies_in f)) × (r ≡ ok x []) × (state_in f x ≡ s)
  unfolding whole
  held_some (ok x []) s h = (x, refl, cc)
  held_some (ok x (b ∷ r)) s h = let z : ◌≡◌ {A = ℕ} 0 1 = cc in absurd (omega arith)
  held_some (bad e) s h = let z : ◌≡◌ {A = ℕ} 0 1 = cc in absurd (omega arith)

  image-ok : (s : State) → FormedIn f s → ImageOk f.widths (bodies_in f) (parts_in f s)
  unfolding encode_in
  image-ok s k = record { version = k.fitting.version; fits = k.fitting.fits; place-fits = omega (arith, k.size, sound.places); size_fits = omega (arith, k.size, sound.sizes) }

  -- a state is read back from its image
  pub reads_back_in : (s : State) → FormedIn f s → decode_in f (encode_in f s) ≡ Some s
  unfolding decode_in encode_in whole
  reads_back_in s k =
      let d : decode f.widths (bodies_in f) (encode f.widths (bodies_in f) (parts_in f s)) ≡ ok (parts_in f s) [] =
      rw append-nil at (decode-encode f.widths (bodies_in f) (parts_in f s) [] sound.counts (image-ok s k)) in
      rw (le-leb (length (encode f.widths (bodies_in f) (parts_in f s))) longest k.size, d) (ap Some k.fitting.whole)

  pub bytes_in : (s : State) → FormedIn f s → Bytes (encode_in f s)
  unfolding encode_in
  bytes_in s k = bytes-encode f.widths (bodies_in f) (parts_in f s) sound.counts sound.smalls (image-ok s k)

  -- what is read was written so: a state has one image in a form
  pub one_image_in : (b : List ℕ) (s : State) → Bytes b → decode_in f b ≡ Some s → (encode_in f s ≡ b) × FormedIn f s
  unfolding decode_in encode_in
  one_image_in b s k h =
      let (l, h₁) = cond_some (leb (length b) longest) (held_in f (whole (decode f.widths (bodies_in f) b))) s h in
      let (x, d, e) = held_some (decode f.widths (bodies_in f) b) s h₁ in
      subst (λ (y : State). (encode_in f y ≡ b) × FormedIn f y) e (of x (encode-decode f.widths (bodies_in f) b x [] k d) (leb-true (length b) longest l))
    where
      of : (x : ℕ × Helds (bodies_in f)) → Decoded f.widths (bodies_in f) b x [] → length b ≤ longest → (encode_in f (state_in f x) ≡ b) × FormedIn f (state_in f x)
      of x d l =
          let q : parts_in f (state_in f x) ≡ x = sound.back x in
          let i : b ≡ encode f.widths (bodies_in f) x = rw append-nil at d.is in
          let j : encode f.widths (bodies_in f) (parts_in f (state_in f x)) ≡ b = ap (encode f.widths (bodies_in f)) q ∙ sym i in (
            j,
            record {
              fitting = record {
                version = subst (λ (y : ℕ × Helds (bodies_in f)). y.0 < 256 ^ version_width) (sym q) d.version;
                fits = subst (λ (y : ℕ × Helds (bodies_in f)). FitsAll (bodies_in f) y.1) (sym q) d.fits;
                whole = ap (state_in f) q;
              };
              size = subst (λ (n : List ℕ). length n ≤ longest) (sym j) l;
            },
          )

  -- the first offset of an image tells its form
  pub is_in_own : (s : State) → is_in f (encode_in f s) ≡ true
  unfolding encode_in encode enc contents
  is_in_own s = eq-eqb _ _ (number-second f.widths.place s.format_version (first_in f) _ _ _ sound.first_small)

-- A LIST OF FORMS, each sound and each with a first offset of its own
pub data In (f : Form) : List Form → Type 0 where
  here : {fs : List Form} → In f (f ∷ fs)
  there : {g : Form} {fs : List Form} → In f fs → In f (g ∷ fs)

abbrev pub Sounds : List Form → Type 0
Sounds [] = Unit {0}
Sounds (f ∷ fs) = Sound f × Sounds fs

-- one width for all offsets, so that one reading serves every form
abbrev pub Apart : Form → List Form → Type 0
Apart f [] = Unit {0}
Apart f (g ∷ gs) = (f.widths.place ≡ g.widths.place) × (first_in f ≡ first_in g → ⊥) × Apart f gs

abbrev pub Distinct : List Form → Type 0
Distinct [] = Unit {0}
Distinct (f ∷ fs) = Apart f fs × Distinct fs

pub sound_of : {f : Form} {fs : List Form} → In f fs → Sounds fs → Sound f
sound_of here h = h.0
sound_of (there i) h = sound_of i h.1

apart_of : (f : Form) {g : Form} {fs : List Form} → In g fs → Apart f fs → (f.widths.place ≡ g.widths.place) × (first_in f ≡ first_in g → ⊥)
apart_of f here h = (h.0, h.1)
apart_of f (there i) h = apart_of f i h.2

-- bytes in one form are not in another
not_in : (f g : Form) (b : List ℕ) → f.widths.place ≡ g.widths.place → (first_in f ≡ first_in g → ⊥) → is_in g b ≡ true → is_in f b ≡ false
not_in f g b p d h =
    let z = eqb-true _ _ h in
    ne_eqb _ _ (λ y. d (sym y ∙ ap (λ (k : ℕ). value (take k (drop version_width b))) p ∙ z))

read_other : (f : Form) (o : Option State) (r : Read) → read_as f o ≡ Some r → (r.form ≡ f) × (o ≡ Some r.state)
read_other f None r h = let z : ◌≡◌ {A = ℕ} 0 1 = cc in absurd (omega arith)
read_other f (Some s) r h = (cc, cc)

-- a state that has an image in one of the forms is read back from it, and so is the form
pub reads_back_any : {f : Form} {fs : List Form} → In f fs → Sounds fs → Distinct fs → (s : State) → FormedIn f s → read_in fs (encode_in f s) ≡ Some (record { form = f; state = s })
unfolding read_in
reads_back_any {f} here so d s k = rw (is_in_own f so.0 s, reads_back_in f so.0 s k) refl
reads_back_any {f} (there {g} i) so d s k =
    let a = apart_of g i d.0 in
    rw (not_in g f (encode_in f s) a.0 a.1 (is_in_own f (sound_of i so.1) s)) (reads_back_any i so.1 d.1 s k)

-- what is read was written, in the form that was found
pub record Found (fs : List Form) (b : List ℕ) (r : Read) : Type 0 where
  pub known : In r.form fs
  pub is : encode_in r.form r.state ≡ b
  pub formed : FormedIn r.form r.state

pub one_image_any : (fs : List Form) → Sounds fs → (b : List ℕ) (r : Read) → Bytes b → read_in fs b ≡ Some r → Found fs b r
unfolding read_in
one_image_any [] so b r k h = let z : ◌≡◌ {A = ℕ} 0 1 = cc in absurd (omega arith)
one_image_any (f ∷ fs) so b r k h = go (λ q. one_image_any fs so.1 b r k q) (is_in f b) h
  where
    go : (read_in fs b ≡ Some r → Found fs b r) → (t : Bool) → cond t (read_as f (decode_in f b)) (read_in fs b) ≡ Some r → Found (f ∷ fs) b r
    go rest true q =
        let (e, d) = read_other f (decode_in f b) r q in
        let (i, m) = one_image_in f so.0 b r.state k d in
        record {
          known = subst (λ (g : Form). In g (f ∷ fs)) (sym e) here;
          is = subst (λ (g : Form). encode_in g r.state ≡ b) (sym e) i;
          formed = subst (λ (g : Form). FormedIn g r.state) (sym e) m;
        }
    go rest false q =
        let w = rest q in
        record { known = there w.known; is = w.is; formed = w.formed }

-- EXACTLY ONE: bytes are the image of one state in one form
pub only_one : (fs : List Form) → Sounds fs → Distinct fs → (b : List ℕ) (r : Read) → Found fs b r → read_in fs b ≡ Some r
only_one fs so d b r w = ap (read_in fs) (sym w.is) ∙ reads_back_any w.known so d r.state w.formed

pub same_read : (fs : List Form) → Sounds fs → Distinct fs → (b : List ℕ) (r q : Read) → Found fs b r → Found fs b q → r ≡ q
same_read fs so d b r q w v = let e : Some r ≡ Some q = sym (only_one fs so d b r w) ∙ only_one fs so d b q v in cc

-- THE FORMS OF THE SIX TABLES, with any limits: their parts come back
entry_η : {A : Type 0} (e : Entry A) → key_of e ⟼ value_of e ≡ e
entry_η (k ⟼ v) = refl

module _ {A B : Type 0} where
  module _ (parts : A → B) (of : B → A) where
    pub rows-there : ((v : A) → of (parts v) ≡ v) → (m : Map A) → each (entry_of of) (each (row_of parts) m) ≡ m
    unfolding each
    rows-there h [] = refl
    rows-there h (e ∷ m) = λ i. (ap (λ v. key_of e ⟼ v) (h (value_of e)) ∙ entry_η e) i ∷ rows-there h m i

    rows_back : ((v : B) → parts (of v) ≡ v) → (l : List (Text × B)) → each (row_of parts) (each (entry_of of) l) ≡ l
    unfolding each
    rows_back h [] = refl
    rows_back h (v ∷ l) = λ i. (v.0, h v.1 i) ∷ rows_back h l i

  module _ (parts : A → Text × B) (of : Text × B → A) where
    pub own_there : ((v : A) → of (parts v) ≡ v) → (m : Map A) → Own (λ v. (parts v).0) m → each (own_entry of) (each (own_row parts) m) ≡ m
    unfolding each
    own_there h [] o = refl
    own_there h (e ∷ m) o = λ i. ((λ j. o.0 j ⟼ h (value_of e) j) ∙ entry_η e) i ∷ own_there h m o.1 i

    own_back : ((v : Text × B) → parts (of v) ≡ v) → (l : List (Text × B)) → each (own_row parts) (each (own_entry of) l) ≡ l
    unfolding each
    own_back h [] = refl
    own_back h (v ∷ l) = λ i. h v i ∷ own_back h l i

    -- a map that comes back has every record under its own id
    pub own_of : (m : Map A) → each (own_entry of) (each (own_row parts) m) ≡ m → Own (λ v. (parts v).0) m
    unfolding each
    own_of [] h = tt
    own_of (e ∷ m) h = (ap head-key h, own_of m (ap rest_of h))
      where
        head-key : Map A → Text
        head-key [] = (parts (value_of e)).0
        head-key (e ∷ m) = key_of e

        rest_of : Map A → Map A
        rest_of [] = []
        rest_of (e ∷ m) = m

-- the rows of a table come back, one table after the other: so for every list of tables that names none twice
module _ (w : Widths) (n₀ n₁ n₂ n₃ n₄ n₅ : ℕ) where
  abbrev pub six_tables : Form
  six_tables = record {
    widths = w;
    scalars = plain;
    tables =
        record { name = intents; most = n₀ }
        ∷ record { name = roots; most = n₁ }
        ∷ record { name = pins; most = n₂ }
        ∷ record { name = reservations; most = n₃ }
        ∷ record { name = leases; most = n₄ }
        ∷ record { name = jobs; most = n₅ }
        ∷ [];
  }

  pub six-back : (x : ℕ × Helds (bodies_in six_tables)) → parts_in six_tables (state_in six_tables x) ≡ x
  six-back x =
      let t = x.1.1 in
      λ i. (
        x.0,
        (
          x.1.0,
          (
            rows_back prepared_parts prepared_from prepared-back t.0 i,
            (
              rows_back reference_parts reference_from reference-back t.1.0 i,
              (
                rows_back reference_parts reference_from reference-back t.1.1.0 i,
                (
                  own_back permit_parts permit_from (λ v. refl) t.1.1.1.0 i,
                  (
                    own_back lease_parts lease_from (λ v. refl) t.1.1.1.1.0 i,
                    (
                      own_back job_parts job_of (λ v. refl) t.1.1.1.1.1.0 i,
                      tt,
                    ),
                  ),
                ),
              ),
            ),
          ),
        ),
      )

  -- and a state comes back whose records stand under their own ids
  pub six-there : (s : State) → Own (λ p. p.key) s.deletion_reservations → Own (λ t. t.lease_id) s.leases → Own (λ j. j.job_id) s.collection_jobs
      → state_in six_tables (parts_in six_tables s) ≡ s
  six-there s r l j = λ i. state s.format_version s.revision s.root_intent_epoch
      (rows-there prepared_parts prepared_from prepared-there s.intents i)
      (rows-there reference_parts reference_from reference-there s.roots i)
      (rows-there reference_parts reference_from reference-there s.pins i)
      (own_there permit_parts permit_from (λ v. refl) s.deletion_reservations r i)
      s.observed_commit_frontier s.retention_window s.retention_policy_epoch s.policy_floor s.minimum_readable_version
      s.physically_collected_through s.lease_clock_tick s.lease_epoch
      (own_there lease_parts lease_from (λ v. refl) s.leases l i)
      s.range_map_epoch s.collection_root
      (own_there job_parts job_of (λ v. refl) s.collection_jobs j i)

  module _ (s : State) (whole_is : state_in six_tables (parts_in six_tables s) ≡ s) where
    pub own_reservations : Own (λ p. p.key) s.deletion_reservations
    own_reservations = own_of permit_parts permit_from s.deletion_reservations (ap (λ (s : State). s.deletion_reservations) whole_is)

    pub own_leases : Own (λ t. t.lease_id) s.leases
    own_leases = own_of lease_parts lease_from s.leases (ap (λ (s : State). s.leases) whole_is)

    pub own_jobs : Own (λ j. j.job_id) s.collection_jobs
    own_jobs = own_of job_parts job_of s.collection_jobs (ap (λ (s : State). s.collection_jobs) whole_is)

-- THE FORMS OF THE AUTHORITY
pub base_sound : Sound base
unfolding countable small_bodies small
base_sound = record {
  back = six-back base.widths most_intents most_roots most_pins most_reservations most_leases most_jobs;
  counts = refl;
  smalls = refl;
  places = omega arith;
  sizes = omega arith;
  first_small = omega arith;
}

module _ (s : State) (f : Formed s) where
  pub reservations_own : Own (λ p. p.key) s.deletion_reservations
  reservations_own = own_reservations base.widths most_intents most_roots most_pins most_reservations most_leases most_jobs s f.whole

  pub leases_own : Own (λ t. t.lease_id) s.leases
  leases_own = own_leases base.widths most_intents most_roots most_pins most_reservations most_leases most_jobs s f.whole

  pub jobs_own : Own (λ j. j.job_id) s.collection_jobs
  jobs_own = own_jobs base.widths most_intents most_roots most_pins most_reservations most_leases most_jobs s f.whole

pub whole_of : (s : State) → Own (λ p. p.key) s.deletion_reservations → Own (λ t. t.lease_id) s.leases → Own (λ j. j.job_id) s.collection_jobs → state_in written (parts_in written s) ≡ s
whole_of = six-there base.widths most_intents most_roots most_pins most_reservations most_leases most_jobs

pub forms_sound : Sounds forms
forms_sound = (base_sound, tt)

pub forms_apart : Distinct forms
forms_apart = (tt, tt)

pub written_known : In written forms
written_known = here

-- THE THEOREMS: a state that has an image is read back from it, with its form
pub reads-back : (s : State) → Imaged s → read_image (encode_image s) ≡ Some (record { form = written; state = s })
reads-back s k = reads_back_any written_known forms_sound forms_apart s k

pub decodes_back : (s : State) → Imaged s → decode_image (encode_image s) ≡ Some s
unfolding decode_image
decodes_back s k = ap state_read (reads-back s k)

pub bytes-image : (s : State) → Imaged s → Bytes (encode_image s)
bytes-image s k = bytes_in written base_sound s k

-- what is read was written, in one of the forms
pub one-image : (b : List ℕ) (r : Read) → Bytes b → read_image b ≡ Some r → Found forms b r
one-image b r k h = one_image_any forms forms_sound b r k h

-- and in no other, nor as another state
pub one_form : (b : List ℕ) (r q : Read) → Found forms b r → Found forms b q → r ≡ q
one_form b r q w v = same_read forms forms_sound forms_apart b r q w v

-- A state that is read is within the form that is written, whatever form it was read in: an older form has narrower limits,
-- and what it lacks is empty.
pub within-written : (f : Form) (s : State) → In f forms → FormedIn f s → Formed s
within-written f s here k = k.fitting
within-written f s (there x) k = elim x [ ]

state_some : (o : Option Read) (s : State) → state_read o ≡ Some s → (r : Read) × (o ≡ Some r) × (r.state ≡ s)
state_some None s h = let z : ◌≡◌ {A = ℕ} 0 1 = cc in absurd (omega arith)
state_some (Some r) s h = (r, refl, cc)

pub formed-read : (b : List ℕ) (s : State) → Bytes b → decode_image b ≡ Some s → Formed s
unfolding decode_image
formed-read b s k h =
    let (r, e, q) = state_some (read_image b) s h in
    let w = one-image b r k e in
    subst Formed q (within-written r.form r.state w.known w.formed)
