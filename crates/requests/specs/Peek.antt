-- A field read without checks, for bytes that were checked before: the value that was read, on bytes that decode.
use Rattle.std.specs.Prelude.{ℕ, cond, List, eqb, take, drop, get_or, Option, None, Some}
use Rattle.parts.specs.Digits.{value}
use Rattle.state.specs.Records.{ObjectKind, Data, Manifest}
use Rattle.fields.specs.Format.{Field, nothing, number, kind, text, option, set, ◌▹◌, El}
use Rattle.fields.specs.Codes.{codes, skip}
use Rattle.fields.specs.Rows.{text_here}
use Rattle.sets.specs.Sets.{set_of}

-- by the first byte, 0 where there is none
unfoldable pub peek_kind : List ℕ → ObjectKind
peek_kind s = cond (eqb (get_or s 0 0) 0) Data Manifest

unfoldable pub peek_option : {A : Type 0} → (List ℕ → A) → List ℕ → Option A
peek_option item s = cond (eqb (get_or s 0 0) 0) None (Some (item (drop 1 s)))

unfoldable pub peek : (f : Field) → List ℕ → El f
peek nothing s = tt
peek (number k) s = value (take k s)
peek kind s = peek_kind s
peek (text n) s = text_here s
peek (option f) s = peek_option (peek f) s
peek (set m n) s = set_of s
peek (f ▹ g) s = (peek f s, peek g (skip 0 (codes f) s))
