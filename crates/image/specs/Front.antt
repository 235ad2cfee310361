-- The front of an image, up to its tables, from the contents: version, entries, numbers, and the two options. Where contents
-- show a state, the front and the bytes of the state's tables are its image in the form that is written.
use Rattle.std.specs.Prelude.{ℕ, ◌+◌, ◌≤◌, Bool, false, ◌||◌, ltb, take, Option, None, Some}
use mathlib.Core.List.{List, [], ◌∷◌, ◌++◌}
use Rattle.std.proofs.Math.ListN.{drop}
use Rattle.parts.specs.Digits.{digits}
use Rattle.fields.specs.Format.{enc_option}
use Rattle.image.specs.Contents.{version_width}
use Rattle.image.specs.Layout.{TableIn, written, first_in, mark}
use Rattle.image.specs.ImageParts.{Measure, entries_from, before_window, words}
use Rattle.image.specs.Opened.{numbers_in, root_bytes, root_width, measures_in}
use Rattle.image.specs.declared.Table.{Table}
use Rattle.image.specs.declared.Scalars.{Scalars}
use Rattle.image.specs.declared.Contents.{Contents}

-- one entry
abbrev pub entry_bytes : Table → List ℕ
entry_bytes t = (digits written.widths.place t.at ++ digits written.widths.size t.size) ++ digits written.widths.amount t.count

abbrev pub window_width : Option ℕ → ℕ
window_width None = 0
window_width (Some n) = 8

-- eleven numbers, the two flags, and what the options hold
abbrev pub scalars_size : Scalars → ℕ
scalars_size n = 90 + window_width n.retention_window + root_width n.collection_root

-- the version and the entries, with scalars of a size
abbrev pub head_of : Contents → ℕ → List ℕ
head_of c size =
    (digits version_width c.format_version ++ entry_bytes (record { at = first_in written; size = size; count = mark written.scalars }))
    ++ entries_from written.widths (first_in written + size) (measures_in c.tables)

-- the scalars, whose root's text comes from the bytes x
abbrev pub scalars_front : List ℕ → Scalars → List ℕ
scalars_front x n =
    ((words (take before_window (numbers_in n))
    ++ enc_option (digits 8) n.retention_window)
    ++ words (drop before_window (numbers_in n)))
    ++ root_bytes x n.collection_root

abbrev pub front_of : List ℕ → Contents → List ℕ
front_of x c = head_of c (scalars_size c.scalars) ++ scalars_front x c.scalars

-- sizes whose sums are far from the end of a word
abbrev pub Light : List Measure → Type 0
Light [] = Unit {0}
Light (m ∷ ms) = (m.size ≤ 1000000) × Light ms

pub record Small (c : Contents) : Type 0 where
  pub root : root_width c.scalars.collection_root ≤ 65
  pub tables : Light (measures_in c.tables)

-- a table has more rows than the form that is written allows
unfoldable pub over_any : List TableIn → List Measure → Bool
over_any [] ms = false
over_any (t ∷ ts) [] = false
over_any (t ∷ ts) (m ∷ ms) = ltb t.most m.count || over_any ts ms

abbrev pub contents_over_limit : Contents → Bool
contents_over_limit c = over_any written.tables (measures_in c.tables)
