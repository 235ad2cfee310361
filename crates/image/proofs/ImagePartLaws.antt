-- An image in any form, as its parts: the version, an entry to each body, the scalars, and the bytes of the tables.
-- The tables of a state are one list, so that what is said of them is said once, over the place in the list.
use Rattle.std.specs.Prelude.{ℕ, suc, ◌+◌, ◌*◌, ◌≡◌, take, drop}
use Rattle.std.proofs.Common.{arith, sym, ◌∙◌, length-append, drop-drop, drop_at}
use Rattle.std.proofs.Math.Path.{refl, ap}
use mathlib.Core.List.{List, [], ◌∷◌, ◌++◌, append_assoc}
use Rattle.std.proofs.Math.ListN.{length}
use Rattle.std.proofs.Math.Seq.{drop-append_seam, take-append_seam}
use Rattle.parts.specs.Digits.{digits}
use Rattle.parts.specs.DigitLaws.{length_digits}
use Rattle.parts.specs.Gather.{run}
use Rattle.state.specs.Records.{State}
use Rattle.fields.specs.Format.{enc, enc_option, enc_text}
use Rattle.image.specs.Body.{table, write, writes, count}
use Rattle.image.specs.Contents.{Widths, entries, contents, version_width, encode}
use Rattle.image.specs.Layout.{each, TableName, map_of, id_limit, under_id, row_format, row_in, rows_of, TableIn, table_bodies, rows_in, ScalarsForm, plain, scalars_field, scalars_of, Form, mark, first_in, encode_in}
use Rattle.image.proofs.TableRowLaws.{all-each}
use Rattle.image.specs.ImageParts.{Measure, before_window, entries_from, joined, measures, names_in, numbers_of, table_of, tables_named, words, here, scalars_bytes, tables_at, header_measures, header_bytes}

pub length-each : {A B : Type 0} (f : A → B) (l : List A) → length (each f l) ≡ length l
unfolding each
length-each f [] = refl
length-each f (v ∷ l) = ap suc (length-each f l)

-- ---- a table's rows are written as its bytes
write-is : (t : TableName) (n : ℕ) (s : State) → write (table n (id_limit t) (under_id t)) (rows_of t s) ≡ (table_of t s).bytes
unfolding write
write-is t n s = all-each (enc (row_format t)) (row_in t) (map_of t s)

pub rows-count : (t : TableName) (s : State) → length (rows_of t s) ≡ (table_of t s).rows
rows-count t s = length-each (row_in t) (map_of t s)

module _ (s : State) where
  writes_are : (ts : List TableIn) → writes (table_bodies ts) (rows_in ts s) ≡ joined (tables_named (names_in ts) s)
  unfolding writes
  writes_are [] = refl
  writes_are (t ∷ ts) = λ i. write-is t.name t.most s i ++ writes_are ts i

  entries_are : (w : Widths) (ts : List TableIn) (at : ℕ) → enc (entries w (table_bodies ts)) (contents w (table_bodies ts) at (rows_in ts s)) ≡ entries_from w at (measures (tables_named (names_in ts) s))
  unfolding enc contents count entries_from
  entries_are w [] at = refl
  entries_are w (t ∷ ts) at =
      let z = ap length (write-is t.name t.most s) in
      let b = table_of t.name s in
      append_assoc (digits w.place at) _ _
      ∙ ap (λ (l : List ℕ). digits w.place at ++ l) (append_assoc (digits w.size (length (write (table t.most (id_limit t.name) (under_id t.name)) (rows_of t.name s)))) _ _)
      ∙ (λ i. digits w.place at ++ (digits w.size (z i) ++ (digits w.amount (rows-count t.name s i) ++ enc (entries w (table_bodies ts)) (contents w (table_bodies ts) (at + z i) (rows_in ts s)))))
      ∙ ap (λ (l : List ℕ). digits w.place at ++ (digits w.size (length b.bytes) ++ (digits w.amount b.rows ++ l))) (entries_are w ts (at + length b.bytes))

  length-here : (ts : List TableIn) → length (measures (tables_named (names_in ts) s)) ≡ length (table_bodies ts)
  length-here [] = refl
  length-here (t ∷ ts) = ap suc (length-here ts)

pub length-entries : (w : Widths) (at : ℕ) (ms : List Measure) → length (entries_from w at ms) ≡ (w.place + w.size + w.amount) * length ms
unfolding entries_from
length-entries w at [] = omega arith
length-entries w at (m ∷ ms) =
    let i = length-entries w (at + m.size) ms in
    simp (length-append, length_digits, i) (omega arith)

-- FROM A PLACE ON: what stands there, and what comes after it
pub run_at : (x t r : List ℕ) (p : ℕ) → drop p x ≡ t ++ r → run x p (length t) ≡ t
run_at x t r p e = ap (take (length t)) e ∙ take-append_seam t r

pub next-at : (x t r : List ℕ) (p : ℕ) → drop p x ≡ t ++ r → drop (p + length t) x ≡ r
next-at x t r p e = sym (drop-drop (length t) p x) ∙ ap (drop (length t)) e ∙ drop-append_seam t r

-- THE SCALARS, number by number, and what follows them
pub scalars-is : (n : ScalarsForm) (s : State) (r : List ℕ) → enc (scalars_field n) (scalars_of n s) ++ r
    ≡ words (take before_window (numbers_of s)) ++ (enc_option (digits 8) s.retention_window ++ (words (drop before_window (numbers_of s)) ++ (enc_option enc_text s.collection_root ++ r)))
unfolding enc words
scalars-is plain s r = simp append_assoc

-- THE IMAGE IN A FORM
module _ (f : Form) (s : State) where
  pub image_is : encode_in f s ≡ (header_bytes f s) ++ (scalars_bytes f s ++ joined (here f s))
  unfolding encode_in encode enc contents writes write count entries_from
  image_is =
      let w = f.widths in
      (λ i. (digits version_width s.format_version ++ ((digits w.place (first_in f) ++ (digits w.size (length (scalars_bytes f s)) ++ digits w.amount (mark f.scalars)))
      ++ entries_are s w f.tables (tables_at f s) i)) ++ (scalars_bytes f s ++ writes_are s f.tables i))
      ∙ simp append_assoc

  length-header_bytes : length (header_bytes f s) ≡ first_in f
  length-header_bytes =
      let l = length-append (digits version_width s.format_version) (entries_from f.widths (first_in f) (header_measures f s)) in
      let k = length_digits version_width s.format_version in
      let n = length-entries f.widths (first_in f) (header_measures f s) in
      let m : length (header_measures f s) ≡ suc (length (table_bodies f.tables)) = ap suc (length-here s f.tables) in
      l ∙ rw (k, n, m) refl

  pub at-scalars : drop (first_in f) (encode_in f s) ≡ scalars_bytes f s ++ joined (here f s)
  at-scalars = ap (drop (first_in f)) image_is ∙ drop_at (header_bytes f s) (scalars_bytes f s ++ joined (here f s)) (first_in f) length-header_bytes

  pub at-tables : drop (tables_at f s) (encode_in f s) ≡ joined (here f s)
  at-tables = next-at (encode_in f s) (scalars_bytes f s) (joined (here f s)) (first_in f) at-scalars

  pub length-image : length (encode_in f s) ≡ tables_at f s + length (joined (here f s))
  length-image =
      ap length image_is ∙ length-append (header_bytes f s) (scalars_bytes f s ++ joined (here f s))
      ∙ (λ i. length-header_bytes i + length-append (scalars_bytes f s) (joined (here f s)) i) ∙ omega arith
