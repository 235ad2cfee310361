-- An image is tested by walks alone, with no value made: they accept just the images that `decode_in` reads.
use Rattle.std.specs.Prelude.{ℕ, ◌+◌, ◌-◌, ◌≡◌, Bool, cond, ◌&&◌, leb, None}
use native.Mathlib.Omega.{arith}
use Rattle.std.proofs.Math.Path.{refl, sym, ap}
use Rattle.std.proofs.Common.{◌∙◌}
use Rattle.std.proofs.Math.Bool.{true, false}
use mathlib.Core.List.{List, [], ◌∷◌}
use Rattle.std.proofs.Math.Dec.{eqb}
use Rattle.std.proofs.Math.ListN.{length, length-append}
use Rattle.state.specs.Maps.{is_some}
use Rattle.parts.specs.Answer.{longest}
use Rattle.parts.specs.Digits.{Bytes}
use Rattle.parts.specs.DigitLaws.{bytes_right}
use Rattle.fields.specs.Format.{Malformed, OverLimit, Res, ok, bad, bind, check, El, dec, enc}
use Rattle.fields.proofs.FormatLaws.{enc-dec}
use Rattle.fields.specs.Codes.{forget}
use Rattle.fields.proofs.CodeLaws.{walk-codes, bind-same}
use Rattle.fields.proofs.RowLaws.{walk_rows-is, forget-bind, bind-forget}
use Rattle.image.specs.Body.{Body, one, table, write, read, Helds}
use Rattle.image.specs.Contents.{Widths, entries, header, first, reads, decode, whole}
use Rattle.image.specs.Walked.{walk_body, walk_bodies, walk_image, walk_image_in}
use Rattle.image.proofs.BodyLaws.{BodyOk, body_ok}
use Rattle.image.specs.Layout.{Form, bodies_in, held_in, decode_in}

-- THEY ARE THE READERS, with the values forgotten
forget-check : {A : Type 0} (b : Bool) (e : ℕ) (m : Res A) → forget (check b e m) ≡ check b e (forget m)
forget-check true e m = refl
forget-check false e m = refl

pub body_forget : (b : Body) (k : ℕ) (s : List ℕ) → walk_body b k s ≡ forget (read b k s)
unfolding walk_body read
body_forget (one a f) k s = ap (check (eqb k a) Malformed) (walk-codes f s) ∙ sym (forget-check (eqb k a) Malformed (dec f s))
body_forget (table m n f) k s = ap (check (leb k m) OverLimit) (walk_rows-is n f k None s) ∙ sym (forget-check (leb k m) OverLimit _)

forget_pair : {A B : Type 0} (m : Res B) (v : A) → forget {A = A × B} (bind m (λ vs r. ok (v, vs) r)) ≡ forget m
forget_pair (ok vs r) v = refl
forget_pair (bad e) v = refl

check_pair : {A B : Type 0} (b : Bool) (m : Res B) (v : A) → check b Malformed (forget m) ≡ forget {A = A × B} (check b Malformed (bind m (λ vs r. ok (v, vs) r)))
check_pair true (ok vs r) v = refl
check_pair true (bad e) v = refl
check_pair false m v = refl

module _ (w : Widths) where
  pub bodies-forget : (bs : List Body) (at : ℕ) (e : El (entries w bs)) (s : List ℕ) → Bytes s → walk_bodies w bs at e s ≡ forget (reads w bs at e s)
  unfolding walk_bodies reads
  bodies-forget [] at e s b = refl
  bodies-forget (c ∷ bs) at e s b =
      ap (λ (m : Res (Unit {0})). bind m (λ _ r. check (eqb e.0.0 at && eqb e.0.1.0 (length s - length r)) Malformed (walk_bodies w bs (at + (length s - length r)) e.1 r))) (body_forget c e.0.1.1 s)
      ∙ bind-forget (read c e.0.1.1 s) _
      ∙ bind-same (read c e.0.1.1 s) _ _ (λ v r q.
      let o : BodyOk c e.0.1.1 s v r = body_ok c e.0.1.1 s v r b q in
      let l : length s ≡ length (write c v) + length r = ap length o.is ∙ length-append (write c v) r in
      let d : length s - length r ≡ length (write c v) = omega arith in
      rw d (ap (check (eqb e.0.0 at && eqb e.0.1.0 (length (write c v))) Malformed)
      (bodies-forget bs (at + length (write c v)) e.1 r (bytes_right (write c v) r (rw o.is at b)))
      ∙ check_pair (eqb e.0.0 at && eqb e.0.1.0 (length (write c v))) (reads w bs (at + length (write c v)) e.1 r) v))
      ∙ sym (forget-bind (read c e.0.1.1 s) _)

  pub image-forget : (bs : List Body) (s : List ℕ) → Bytes s → walk_image w bs s ≡ forget (decode w bs s)
  unfolding walk_image decode
  image-forget bs s b =
      bind-same (dec (header w bs) s) _ _ (λ h r q.
      bodies-forget bs (first w bs) h.1 r (bytes_right (enc (header w bs) h) r (rw (enc-dec (header w bs) s h r b q).0 at b))
      ∙ sym (forget_pair (reads w bs (first w bs) h.1 r) h.0))
      ∙ sym (forget-bind (dec (header w bs) s) _)

-- THE TEST OF AN IMAGE: not too long, walked, and nothing left
abbrev pub to_the_end : Res (Unit {0}) → Bool
to_the_end (ok v []) = true
to_the_end (ok v (x ∷ r)) = false
to_the_end (bad e) = false

module _ (f : Form) where
  whole-end : (m : Res (ℕ × Helds (bodies_in f))) → is_some (held_in f (whole m)) ≡ to_the_end (forget m)
  unfolding whole
  whole-end (ok v []) = refl
  whole-end (ok v (x ∷ r)) = refl
  whole-end (bad e) = refl

  pub read_is_walked : (b : List ℕ) → Bytes b → is_some (decode_in f b) ≡ leb (length b) longest && to_the_end (walk_image_in f b)
  unfolding decode_in
  read_is_walked b k = go (leb (length b) longest)
    where
      go : (t : Bool) → is_some (cond t (held_in f (whole (decode f.widths (bodies_in f) b))) None) ≡ t && to_the_end (walk_image_in f b)
      go true = whole-end (decode f.widths (bodies_in f) b) ∙ ap to_the_end (sym (image-forget f.widths (bodies_in f) b k))
      go false = refl
