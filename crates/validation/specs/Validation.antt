-- Validation of a token that was read against an image that was opened.
use Rattle.std.specs.Prelude.{ℕ, ◌≡◌, eqb, leb, drop, get_or, Option, None, Some}
use Rattle.std.proofs.Common.{◌∙◌}
use Rattle.std.proofs.Math.Bool.{cond}
use mathlib.Core.List.{List, [], ◌∷◌, append-nil}
use Rattle.std.proofs.Math.Path.{sym, ap}
use Rattle.text.specs.Same.{same_of}
use Rattle.parts.specs.Digits.{Bytes}
use Rattle.state.specs.Maps.{Map, ◌⟼◌, lookup}
use Rattle.state.proofs.Places.{at}
use Rattle.state.specs.Sorted.{Ascending}
use Rattle.next.specs.Edit.{Standing, absent, present, standing}
use Rattle.state.specs.Records.{State, SnapshotLeaseToken}
use Rattle.fields.specs.Format.{all, enc, enc_text, Within}
use Rattle.fields.specs.Codes.{codes}
use Rattle.tables.specs.Seek.{Seen, seek, row_of, found, unless_empty}
use Rattle.tables.specs.SeekLaws.{found-row}
use Rattle.image.specs.Contents.{answer, refusal}
use Rattle.image.specs.Layout.{leases, decode_image}
use Rattle.image.specs.Opened.{OpenedAs}
use Rattle.image.proofs.SameBytes.{same-lease}
use Rattle.image.specs.Shapes.{lease, lease_parts}
use Rattle.image.specs.Stored.{StoredIn}
use Rattle.image.proofs.StoredLaws.{stored_in, find_row}
use Rattle.image.specs.TableLaws.{table_in, behind}
use Rattle.image.proofs.TablePlaceLaws.{count-is, table_here}
use Rattle.image.specs.Tables.{lease_row}
use Rattle.image.specs.declared.Contents.{Contents}
use Rattle.machine.specs.Machine.{validate, validate_found}
use Rattle.requests.specs.Request.{decode_token, encode_token}
use Rattle.requests.proofs.RequestLaws.{token-written}
use Rattle.requests.specs.Meaning.{text_of, lease_token_of}
use Rattle.requests.specs.declared.SnapshotLeaseToken.{SnapshotLeaseToken as TokenAt}
use Rattle.entries.specs.Bytes.{validate_bytes}

pub record ReadyToken (x : List ℕ) (c : Contents) (q : List ℕ) (t : TokenAt) : Type 0 where
  pub opened : OpenedAs x c
  pub asked : decode_token q ≡ answer (lease_token_of q t)
  pub token_is : q ≡ encode_token (lease_token_of q t)
  pub within : Within lease (lease_parts (lease_token_of q t))

pub ready-token : (x q : List ℕ) (c : Contents) (t : TokenAt) → OpenedAs x c → Bytes q → answer (lease_token_of q t) ≡ decode_token q → ReadyToken x c q t
ready-token x q c t o bq d =
    let (w, v) = token-written q (lease_token_of q t) bq (sym d) in
    record { opened = o; asked = sym d; token_is = w; within = v }

pub not_an_image : (x q : List ℕ) → decode_image x ≡ None → 40 ≡ validate_bytes x q
unfolding validate_bytes
not_an_image x q e = rw e

pub not_a_token : (x q : List ℕ) (s : State) (n : ℕ) → decode_image x ≡ Some s → decode_token q ≡ refusal n → n ≡ validate_bytes x q
unfolding validate_bytes
not_a_token x q s n e d = rw (e, d)

-- THE TESTS, on the contents of the image and the row that stands under the token's id
module _ (x : List ℕ) (c : Contents) (q : List ℕ) (t : TokenAt) where
  abbrev pub seen : Seen
  seen = seek (codes lease) (table_in leases c).count (text_of q t.lease_id) (drop (table_in leases c).at x)

  abbrev pub tests_of : Option (List ℕ) → ℕ
  tests_of None = 2
  tests_of (Some r) = cond (same_of r q) (cond (leb t.deadline_tick c.scalars.lease_clock_tick) 4 0) 3

  abbrev pub tests : ℕ
  tests = cond (eqb c.format_version 1) (tests_of (found seen)) 1

module _ {x : List ℕ} {c : Contents} {q : List ℕ} {t : TokenAt} (ready : ReadyToken x c q t) where
  abbrev s : State
  s = ready.opened.state

  abbrev token : SnapshotLeaseToken
  token = lease_token_of q t

  token_bytes : q ≡ enc lease (lease_parts token)
  unfolding encode_token
  token_bytes = ready.token_is

  validated : validate_bytes x q ≡ validate s token
  unfolding validate_bytes
  validated = rw (ready.opened.reads, ready.asked)

  stored : StoredIn leases s
  stored = stored_in leases s ready.opened.formed

  row_is : row_of (seen x c q t) ≡ all lease_row (at token.lease_id s.leases)
  row_is =
      (λ i. row_of (seek (codes lease) (count-is ready.opened.holds leases i) token.lease_id (drop (table_in leases c).at x)))
      ∙ find_row (codes lease) lease_row x (table_in leases c).at s.leases (behind leases s) (table_here ready.opened.holds leases) stored.hopped token.lease_id

  -- the lease that stands under the token's id, if any
  ascends : Ascending s.leases
  ascends = stored.ascending

  found_as : (m : Map SnapshotLeaseToken) → at token.lease_id s.leases ≡ m → found (seen x c q t) ≡ unless_empty (all lease_row m)
  found_as m e = found-row (codes lease) (table_in leases c).count token.lease_id (drop (table_in leases c).at x) ∙ ap unless_empty (row_is ∙ ap (all lease_row) e)

  found_one : (v : SnapshotLeaseToken) → at token.lease_id s.leases ≡ (token.lease_id ⟼ v) ∷ [] → found (seen x c q t) ≡ Some (enc lease (lease_parts v))
  unfolding all enc enc_text
  found_one v e = found_as ((token.lease_id ⟼ v) ∷ []) e ∙ ap unless_empty (append-nil (enc lease (lease_parts v)))

  clock-is : s.lease_clock_tick ≡ c.scalars.lease_clock_tick
  clock-is = sym (ap (λ (l : List ℕ). get_or l 8 0) ready.opened.holds.shows.numbers)

  abbrev timely : ℕ → ℕ
  timely clock = cond (leb token.deadline_tick clock) 4 0

  found-is : validate_found s token (lookup token.lease_id s.leases) ≡ tests_of x c q t (found (seen x c q t))
  unfolding validate_found all
  found-is = go (standing token.lease_id s.leases ascends)
    where
      go : Standing token.lease_id s.leases → validate_found s token (lookup token.lease_id s.leases) ≡ tests_of x c q t (found (seen x c q t))
      go (absent e l) = ap (validate_found s token) l ∙ sym (ap (tests_of x c q t) (found_as [] e))
      go (present v e l) =
          ap (validate_found s token) l
          ∙ (λ i. cond (sym (same-lease v token (stored.found token.lease_id v l).1 ready.within) i) (timely (clock-is i)) 3)
          ∙ (λ i. cond (same_of (enc lease (lease_parts v)) (sym token_bytes i)) (timely c.scalars.lease_clock_tick) 3)
          ∙ sym (ap (tests_of x c q t) (found_one v e))

  pub tests_validate : validate_bytes x q ≡ tests x c q t
  unfolding validate
  tests_validate =
      let e : s.format_version ≡ c.format_version = sym ready.opened.holds.shows.version in
      validated ∙ (λ i. cond (eqb (e i) 1) (found-is i) 1)
