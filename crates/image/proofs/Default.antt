-- The default image is the front of contents with no row: format 1, and zeros.
use Rattle.std.specs.Prelude.{ℕ, None, List, [], ◌∷◌, ◌≡◌, refl, length, take}
use Rattle.std.proofs.Common.{append-nil, ap, sym, subst, arith, ◌∙◌}
use Rattle.std.proofs.Math.Seq.{take-length}
use Rattle.std.specs.Array.{AllOfLen}
use Rattle.std.proofs.lemmas.List.FromFn.{fill_by_all}
use Rattle.parts.specs.Digits.{digits}
use Rattle.parts.specs.Gather.{gather_of}
use Rattle.parts.specs.declared.Part.TheVariants.{First}
use Rattle.state.specs.Records.{default}
use Rattle.fields.specs.Format.{enc, enc_option, all}
use Rattle.image.specs.Body.{write, writes, count}
use Rattle.image.specs.Contents.{contents, encode}
use Rattle.image.specs.Layout.{each, encode_in, encode_image}
use Rattle.image.specs.ImageParts.{entries_from, words}
use Rattle.image.specs.Opened.{nowhere, no_contents}
use Rattle.image.specs.Front.{front_of, Small}
use Rattle.image.specs.declared.Table.{Table}
use Rattle.image.specs.declared.Scalars.{Scalars}
use Rattle.image.specs.declared.Contents.{Contents}

-- THE DEFAULT OF EVERY FIELD, as a derive tells it: no number, no option, no table
abbrev ZeroTable : Table → Type 0
ZeroTable t = (t.at ≡ 0) × ((t.size ≡ 0) × (t.count ≡ 0))

abbrev ZeroLater : Scalars → Type 0
ZeroLater n =
    (n.retention_policy_epoch ≡ 0) × ((n.policy_floor ≡ 0) × ((n.minimum_readable_version ≡ 0) × ((n.physically_collected_through ≡ 0)
    × ((n.lease_clock_tick ≡ 0) × ((n.lease_epoch ≡ 0) × ((n.range_map_epoch ≡ 0) × (n.collection_root ≡ None)))))))

abbrev ZeroScalars : Scalars → Type 0
ZeroScalars n = (n.term ≡ 0) × ((n.index ≡ 0) × ((n.root_intent_epoch ≡ 0) × ((n.observed_commit_frontier ≡ 0) × ((n.retention_window ≡ None) × ZeroLater n))))

zero-tables : (ts : List Table) → AllOfLen ZeroTable ts 6 → ts ≡ no_contents.tables
zero-tables ts h = fill_by_all (λ _. nowhere) ts 6 nowhere h.long (λ k l. zero-table _ (h.at k nowhere l))
  where
    zero-table : (t : Table) → ZeroTable t → t ≡ nowhere
    zero-table t h = λ i. record { at = h.0 i; size = h.1.0 i; count = h.1.1 i }

zero-scalars : (n : Scalars) → ZeroScalars n → n ≡ no_contents.scalars
zero-scalars n h =
    let w = h.1.1.1.1.1 in
    λ i. record {
      term = h.0 i;
      index = h.1.0 i;
      root_intent_epoch = h.1.1.0 i;
      observed_commit_frontier = h.1.1.1.0 i;
      retention_window = h.1.1.1.1.0 i;
      retention_policy_epoch = w.0 i;
      policy_floor = w.1.0 i;
      minimum_readable_version = w.1.1.0 i;
      physically_collected_through = w.1.1.1.0 i;
      lease_clock_tick = w.1.1.1.1.0 i;
      lease_epoch = w.1.1.1.1.1.0 i;
      range_map_epoch = w.1.1.1.1.1.1.0 i;
      collection_root = w.1.1.1.1.1.1.1 i;
    }

-- what `Contents::default` answers
pub default-contents : (c : Contents) → (c.format_version ≡ 0) × (ZeroScalars c.scalars × AllOfLen ZeroTable c.tables 6) → c ≡ no_contents
default-contents c h = λ i. record { format_version = h.0 i; scalars = zero-scalars c.scalars h.1.0 i; tables = zero-tables c.tables h.1.1 i }

-- contents in format 1
abbrev pub in_format1 : Contents → Contents
in_format1 c = record { format_version = 1; scalars = c.scalars; tables = c.tables }

pub default-small : {c : Contents} → c ≡ no_contents → Small (in_format1 c)
default-small e = subst (λ (d : Contents). Small (in_format1 d)) (sym e) none
  where
    none : Small (in_format1 no_contents)
    none = record { root = omega arith; tables = (omega arith, (omega arith, (omega arith, (omega arith, (omega arith, (omega arith, tt)))))) }

default-front : front_of [] (in_format1 no_contents) ≡ encode_image default
unfolding encode_in encode enc digits all enc_option contents write writes count each entries_from words
default-front = refl

-- the front of contents with no row, gathered from the bytes that it is
pub default_is : {c : Contents} → c ≡ no_contents → (f : List ℕ) → f ≡ front_of [] (in_format1 c) → gather_of f [] (First 0 (length f) ∷ []) ≡ encode_image default
default_is e f k =
    append-nil (take (length f) f)
    ∙ take-length f
    ∙ k ∙ ap (λ (d : Contents). front_of [] (in_format1 d)) e ∙ default-front
