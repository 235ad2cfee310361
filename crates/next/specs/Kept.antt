-- What a transition keeps of the old image: its tables as they stand, and contents with other numbers or another table.
use Rattle.std.specs.Prelude.{ℕ, ◌≤◌, List, [], ◌∷◌, ◌≡◌, length, take, drop, get_or, Option, None, Some}
use Rattle.std.proofs.Common.{arith, append-nil, sym, ap, ◌∙◌, subst, length-append, length-drop, take_all}
use Rattle.parts.specs.Answer.{longest}
use Rattle.parts.specs.Gather.{run, gather_of}
use Rattle.parts.specs.declared.Part.TheVariants.{First}
use Rattle.state.specs.Maps.{Text}
use Rattle.state.specs.Records.{State}
use Rattle.fields.specs.Format.{enc_option, enc_text, TextOk, Maybe}
use Rattle.image.specs.Shapes.{short}
use Rattle.image.specs.Layout.{Formed}
use Rattle.image.specs.ImageParts.{TableBytes, tables_of, joined, measures, numbers_of}
use Rattle.image.specs.Opened.{numbers_in, root_width, Holds}
use Rattle.image.specs.TableLaws.{tables_place}
use Rattle.image.proofs.TablePlaceLaws.{tables_here, tables_end}
use Rattle.image.specs.Front.{Light, Small}
use Rattle.image.proofs.FrontLaws.{length-measures}
use Rattle.image.specs.declared.Scalars.{Scalars}
use Rattle.image.specs.declared.Contents.{Contents}

-- a run that goes on to the end
pub run-rest : (x r : List ℕ) (p n : ℕ) → drop p x ≡ r → length x ≤ n → run x p n ≡ r
run-rest x r p n e h = ap (take n) e ∙ take_all n r (let l = ap length (sym e) ∙ length-drop p x in omega arith)

-- ---- ALL TABLES AS THEY WERE: one run
module _ {x : List ℕ} {c : Contents} {s : State} (h : Holds x c s) where
  pub whole-tables : (q : List ℕ) → gather_of x q (First (tables_place c) (length x) ∷ []) ≡ joined (tables_of s)
  whole-tables q = append-nil (run x (tables_place c) (length x)) ∙ run-rest x (joined (tables_of s)) (tables_place c) (length x) (tables_here h) (omega arith)

  -- ---- A NUMBER, by its place in the list
  pub number_is : (i : ℕ) → get_or (numbers_in c.scalars) i 0 ≡ get_or (numbers_of s) i 0
  number_is i = ap (λ (l : List ℕ). get_or l i 0) h.shows.numbers

  pub six_tables : length c.tables ≡ 6
  six_tables = sym (length-measures c.tables) ∙ ap length h.shows.tables

-- ---- SIZES: every table of an image is small, and its root
joined-low : (n : ℕ) (ts : List TableBytes) → length (joined ts) ≤ n → n ≤ 1000000 → Light (measures ts)
joined-low n [] h k = tt
joined-low n (t ∷ ts) h k = let l = length-append t.bytes (joined ts) in (omega arith, joined-low n ts (omega arith) k)

root-low : (o : Option Text) → Maybe (TextOk short) o → length (enc_option enc_text o) ≤ 66
unfolding enc_option enc_text
root-low None h = omega arith
root-low (Some t) h = omega (arith, h.fits)

pub small-held : {x : List ℕ} {c : Contents} {s : State} → Formed s → Holds x c s → length x ≤ longest → Small c
small-held {x} {c} {s} f h l =
    let d = tables_end h in
    record {
      root = omega (arith, h.shows.root_size, root-low s.collection_root f.fits.0.1.1.1.1.1.1.1.1.1.1.1);
      tables = subst Light (sym h.shows.tables) (joined-low longest (tables_of s) (omega arith) (omega arith));
    }

-- ---- CONTENTS WITH OTHER SCALARS show the state with other scalars, where its tables and its version are the same
abbrev pub with_scalars : Contents → Scalars → Contents
with_scalars c n = record { format_version = c.format_version; scalars = n; tables = c.tables }

pub small-scalars : {c : Contents} → Small c → (n : Scalars) → root_width n.collection_root ≤ 65 → Small (with_scalars c n)
small-scalars k n h = record { root = h; tables = k.tables }
