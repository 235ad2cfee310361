-- What the functions of the program rest on, on plain lists.
use Rattle.std.specs.Prelude.{ℕ, ◌+◌, ◌≤◌, ◌≡◌, refl, min, Bool, true, cond, List, ◌++◌, length, take, drop, leb, Option, None, Some, Result, Ok, Err}
use Rattle.std.specs.Option.{UnwrapsOrElse}
use Rattle.std.specs.Result.{result_unwrap_or}
use Rattle.std.proofs.Common.{arith, sym, ap, ◌∙◌, subst, length-take, length-take-le, le-leb}
use Rattle.std.proofs.Math.Seq.{take-append_seam}
use Rattle.std.proofs.lemmas.List.{take_min}
use Rattle.parts.specs.Answer.{Answer, no, yes, status_of, image_of, Told, applied_of, written_of, laid_over}
use Rattle.refusals.specs.Numbers.{numbered}
use Rattle.refusals.specs.declared.Refusal.{Refusal}
use Rattle.parts.specs.Digits.{Bytes}
use Rattle.parts.specs.Over.{over, over_none}
use Rattle.state.specs.Records.{default}
use Rattle.image.specs.Layout.{Read, read_image, state_read, decode_image, encode_image}
use Rattle.image.specs.Edges.{Measured}
use Rattle.image.proofs.EdgeLaws.{E1}
use Rattle.image.specs.declared.Contents.{Contents}
use Rattle.image.specs.Opened.{opened_of, no_contents}
use Rattle.entries.specs.ByteHistory.{left_by as left}
use Rattle.okvstep.specs.declared.Line.{Line}
use Rattle.okvstep.specs.Moments.{room, outcome_room, answered, Moment, line_showing, line_of}
use Rattle.okvstep.proofs.MomentLaws.{moment_start, moment_on, fits, handed}
use Rattle.entries.proofs.Ways.{no_zero}

-- what was laid over the front, read again
front : (d y : List ℕ) → take (length y) (over d 0 y) ≡ y
unfolding over
front d y = take-append_seam y (drop (0 + length y) d)

-- ---- keep: as much as there is, copied over the front

pub kept : (d x y : List ℕ) (n k : ℕ) → k ≡ min n (length x) → y ≡ take k x → y ++ drop k d ≡ over d 0 (take n x)
unfolding over
kept d x y n k e f =
    let t : y ≡ take n x = f ∙ ap (λ (j : ℕ). take j x) e ∙ take_min n x in
    let l : length (take n x) ≡ k = length-take n x ∙ sym e in
    let m : k ≡ 0 + length (take n x) = omega arith in
    λ i. t i ++ drop (m i) d

-- ---- line_of: what opening answers tells the numbers

abbrev line_with : (step status : ℕ) (c : Contents) → Line
line_with step status c = record {
  step = step;
  status = status;
  frontier = c.scalars.observed_commit_frontier;
  policy = c.scalars.policy_floor;
  readable = c.scalars.minimum_readable_version;
  collected = c.scalars.physically_collected_through;
  clock = c.scalars.lease_clock_tick;
  epoch = c.scalars.root_intent_epoch;
}

module _ (step status : ℕ) (c : Contents) (P : Contents → Type 0) (zeros : (k : Contents) → P k → k ≡ no_contents) where
  line_read : (o : Option Read) → UnwrapsOrElse (opened_of o) P c → line_with step status c ≡ line_showing step status (state_read o)
  line_read None u = ap (line_with step status) (zeros c u)
  line_read (Some r) u = ap (line_with step status) u

  pub line_is : (x : List ℕ) (o : Option Contents) → o ≡ opened_of (read_image x) → UnwrapsOrElse o P c → line_with step status c ≡ line_of step status x
  unfolding decode_image
  line_is x o e u = line_read (read_image x) (subst (λ (p : Option Contents). UnwrapsOrElse p P c) e u)

-- ---- step: the size and the bytes after what was answered on the image that it was handed

module _ (size : ℕ) (d q : List ℕ) (h : size ≤ length d) where
  abbrev x : List ℕ
  x = take size d

  abbrev A : Answer
  A = answered x q

  pub record Steps (size' : ℕ) (d' : List ℕ) : Type 0 where
    pub size_is : size' ≡ length (left x A)
    pub bytes : d' ≡ over d 0 (image_of A)

  -- refused: not a byte is changed
  pub refuses : (a : Told) → a ≡ applied_of A → (a.status ≡ 0 → ⊥) → Steps size d
  refuses a e k = go A refl
    where
      go : (B : Answer) → A ≡ B → Steps size d
      go (no n) w = record {
        size_is = sym (length-take-le size d h) ∙ sym (ap (λ (B : Answer). length (left x B)) w);
        bytes = over_none d 0 ∙ sym (ap (λ (B : Answer). over d 0 (image_of B)) w);
      }
      go (yes y z) w = absurd (k (ap (λ (r : Told). r.status) e ∙ ap status_of w))

  -- accepted: the next image is kept
  pub accepts : (a : Told) (next next' d' : List ℕ) → a ≡ applied_of A → a.status ≡ 0 → next' ≡ over next 0 (image_of A) → d' ≡ over d 0 (take a.image next') → Steps a.image d'
  accepts a next next' d' e k en ed = go A refl
    where
      go : (B : Answer) → A ≡ B → Steps a.image d'
      go (no n) w = let st : n ≡ 0 = sym (ap (λ (r : Told). r.status) e ∙ ap status_of w) ∙ k in absurd (no_zero x q room outcome_room (w ∙ ap no st))
      go (yes y z) w =
          let n : a.image ≡ length y = ap (λ (r : Told). r.image) e ∙ ap (λ (B : Answer). length (image_of B)) w in
          let p : take a.image next' ≡ y = (λ i. take (n i) ((en ∙ ap (λ (B : Answer). over next 0 (image_of B)) w) i)) ∙ front next y in
          record {
            size_is = n ∙ sym (ap (λ (B : Answer). length (left x B)) w);
            bytes = ed ∙ ap (over d 0) p ∙ sym (ap (λ (B : Answer). over d 0 (image_of B)) w);
          }

  module _ (size' : ℕ) (d' : List ℕ) (s : Steps size' d') where
    -- the image that is handed on
    pub left_is : take size' d' ≡ left x A
    left_is = (λ i. take (s.size_is i) (s.bytes i)) ∙ handed d size A h

    -- either way it is the next moment
    pub onward : (frames : ℕ) → Moment frames x → Bytes q → Moment (frames + 1) (take size' d')
    onward frames m b = subst (Moment (frames + 1)) (sym left_is) (moment_on frames x m q b)

    pub within : length d ≡ room → size' ≤ room
    within k = rw (s.size_is) (go A refl)
      where
        go : (B : Answer) → A ≡ B → length (left x B) ≤ room
        go (no n) w = rw (length-take-le size d h) (omega arith)
        go (yes y z) w = let f : length (image_of A) ≤ room = fits x q in let l : length (image_of A) ≡ length y = ap (λ (B : Answer). length (image_of B)) w in omega arith

-- ---- new: the default image is the first moment

default-length : length (encode_image default) ≤ room
default-length = let l : length (encode_image default) ≡ 157 = ap (λ (m : Measured). m.0) E1 in omega arith

module _ (d d' : List ℕ) (w : Result ℕ Refusal) (n : ℕ) (u : n ≡ result_unwrap_or w 0) (h : length d ≡ room) (e : numbered w ≡ written_of d (encode_image default)) (k : d' ≡ laid_over d (encode_image default)) where
  has_room : leb (length (encode_image default)) (length d) ≡ true
  has_room = le-leb (length (encode_image default)) (length d) (rw h default-length)

  size-first : n ≡ length (encode_image default)
  size-first = u ∙ go w (e ∙ ap (λ (b : Bool). cond {A = Result ℕ ℕ} b (Ok (length (encode_image default))) (Err 45)) has_room)
    where
      go : (v : Result ℕ Refusal) → numbered v ≡ Ok (length (encode_image default)) → result_unwrap_or v 0 ≡ length (encode_image default)
      go (Ok m) z = cc
      go (Err r) z = absurd cc

  pub first-within : n ≤ room
  first-within = rw size-first default-length

  pub first_moment : Moment 0 (take n d')
  first_moment =
      let o : d' ≡ over d 0 (encode_image default) = k ∙ ap (λ (b : Bool). cond b (over d 0 (encode_image default)) d) has_room in
      let t : take n d' ≡ encode_image default = (λ i. take (size-first i) (o i)) ∙ front d (encode_image default) in
      subst (Moment 0) (sym t) moment_start
