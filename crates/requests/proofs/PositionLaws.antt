-- Places of fields: in any bytes, and as sums of lengths in bytes that were written from values.
use Prim.Native.Nat.{ℕ, suc, ◌+◌, ◌-◌, ◌≤◌, ◌<◌}
use native.Mathlib.Omega.{arith}
use Rattle.std.specs.Prelude.{◌≡◌, refl, Bool, true, false, cond, drop}
use Rattle.std.proofs.Common.{sym, ◌∙◌, length-append, drop-cons}
use Rattle.std.proofs.Math.Path.{ap}
use mathlib.Core.List.{List, [], ◌∷◌, ◌++◌, append_assoc}
use Rattle.std.proofs.Math.ListN.{length, get_or, length-drop}
use Rattle.parts.specs.DigitLaws.{length_digits}
use Rattle.fields.specs.Format.{Field, nothing, number, kind, text, option, set, ◌▹◌, El, enc_text, enc, Within}
use Rattle.fields.proofs.FormatLaws.{dec-enc}
use Rattle.fields.specs.Codes.{codes, skip, past, passed, is_absent}
use Rattle.fields.specs.declared.Code.{Code}
use Rattle.fields.specs.Walks.{place_of}
use Rattle.tables.specs.Skips.{skip-rest, after_record}
use Rattle.image.specs.Shapes.{keys, reference, closure}
use Rattle.requests.proofs.PeekLaws.{skip_field}
use Rattle.requests.specs.Positions.{behind, text_in, keys_in, closure_in}
use Rattle.requests.specs.declared.SnapshotClosure.{SnapshotClosure}

-- past the codes of a field, then past those that follow
over-then : (ds cs : List Code) (s : List ℕ) → skip (length ds) (ds ++ cs) s ≡ skip 0 cs (skip (length ds) ds s)
unfolding skip
over-then [] cs s = refl
over-then (d ∷ ds) cs s = over-then ds cs s

maybe-then : (b : Bool) (ds cs : List Code) (s : List ℕ) → skip 0 (ds ++ cs) s ≡ skip 0 cs (skip 0 ds s)
    → skip (cond b (length ds) 0) (ds ++ cs) s ≡ skip 0 cs (skip (cond b (length ds) 0) ds s)
maybe-then true ds cs s h = over-then ds cs s
maybe-then false ds cs s h = h

skip-then : (f : Field) (cs : List Code) (s : List ℕ) → skip 0 (codes f ++ cs) s ≡ skip 0 cs (skip 0 (codes f) s)
unfolding skip past passed
skip-then nothing cs s = refl
skip-then (number k) cs s = refl
skip-then kind cs s = refl
skip-then (text n) cs s = refl
skip-then (option f) cs s = maybe-then (is_absent s) (codes f) cs (drop 1 s) (skip-then f cs (drop 1 s))
skip-then (set m n) cs s = refl
skip-then (f ▹ g) cs s = rw append_assoc (skip-then f (codes g ++ cs) s ∙ skip-then g cs (skip 0 (codes f) s) ∙ ap (skip 0 cs) (sym (skip-then f (codes g) s)))

-- IN ANY BYTES
module _ (f : Field) (s : List ℕ) (p : ℕ) where
  pub left : drop (behind f s p) s ≡ skip 0 (codes f) (drop p s)
  unfolding behind
  left = after_record (codes f) s p

  pub behind-high : behind f s p ≤ length s
  unfolding behind
  behind-high = omega arith

  pub behind-low : p ≤ length s → p ≤ behind f s p
  unfolding behind
  behind-low h =
      let r = skip-rest 0 (codes f) (drop p s) in
      let n : length (skip 0 (codes f) (drop p s)) ≡ length (drop p s) - r.bytes = ap length r.is ∙ length-drop r.bytes (drop p s) in
      omega (arith, length-drop p s)

  -- a field of two is behind the second, from behind the first on
  pub behind_both : (g : Field) → behind (f ▹ g) s p ≡ behind g s (behind f s p)
  unfolding behind
  behind_both g = ap (place_of s) (skip-then f (codes g) (drop p s) ∙ ap (skip 0 (codes g)) (sym left))

pub keys-end : (s : List ℕ) (p : ℕ) → p ≤ length s → (keys_in s p).at + (keys_in s p).len ≡ behind keys s p
keys-end s p h = omega (arith, behind-low keys s p h)

pub closure-end : (s : List ℕ) (p : ℕ) → (closure_in s p).object_keys.at + (closure_in s p).object_keys.len ≡ behind closure s p
closure-end s p = keys-end s (behind reference s p) (behind-high reference s p) ∙ sym (behind_both reference s p keys)

-- a closure that was read ends within the bytes
pub closure-within : (s : List ℕ) (p : ℕ) (t : SnapshotClosure) → t ≡ closure_in s p → t.object_keys.at + t.object_keys.len ≤ length s
closure-within s p t h = rw (h, closure-end) (behind-high closure s p)

-- IN BYTES WRITTEN FROM A VALUE: at the place p stands the value v of the field f, and the rest behind it
pub record Written (s : List ℕ) (f : Field) (p : ℕ) (v : El f) (rest : List ℕ) : Type 0 where
  pub reach : p ≤ length s
  pub bytes : drop p s ≡ enc f v ++ rest
  pub within : Within f v

module _ {s : List ℕ} {f : Field} {p : ℕ} {v : El f} {rest : List ℕ} (a : Written s f p v rest) where
  skipped : skip 0 (codes f) (drop p s) ≡ rest
  skipped = ap (skip 0 (codes f)) a.bytes ∙ skip_field f (enc f v ++ rest) v rest (dec-enc f v rest a.within)

  size : length s - p ≡ length (enc f v) + length rest
  size = sym (length-drop p s) ∙ ap length a.bytes ∙ length-append (enc f v) rest

  pub behind-written : behind f s p ≡ p + length (enc f v)
  unfolding behind
  behind-written = rw skipped (omega (arith, a.reach, size))

  pub left-written : drop (behind f s p) s ≡ rest
  left-written = left f s p ∙ skipped

-- of two fields the first, and the second behind it
module _ {s : List ℕ} {f g : Field} {p : ℕ} {v : El (f ▹ g)} {rest : List ℕ} (a : Written s (f ▹ g) p v rest) where
  pub first : Written s f p v.0 (enc g v.1 ++ rest)
  unfolding enc
  first = record { reach = a.reach; bytes = a.bytes ∙ append_assoc (enc f v.0) (enc g v.1) rest; within = a.within.0 }

  pub second : Written s g (behind f s p) v.1 rest
  second = record { reach = behind-high f s p; bytes = left-written first; within = a.within.1 }

pub behind-all : {s : List ℕ} {f : Field} {p : ℕ} {v : El f} → Written s f p v [] → behind f s p ≡ length s
behind-all a = omega (arith, behind-written a, size a, a.reach)

pub behind-number : {s : List ℕ} {k p n : ℕ} {rest : List ℕ} → Written s (number k) p n rest → behind (number k) s p ≡ p + k
unfolding enc
behind-number {k} {p} {n} a = behind-written a ∙ ap (λ (m : ℕ). p + m) (length_digits k n)

module _ {s : List ℕ} {n p : ℕ} {t rest : List ℕ} (a : Written s (text n) p t rest) where
  pub behind-text : behind (text n) s p ≡ p + (1 + length t)
  unfolding enc enc_text
  behind-text = behind-written a ∙ (let z : p + suc (length t) ≡ p + (1 + length t) = omega arith in z)

  below : p < length s
  below = omega (arith, behind-text, behind-high (text n) s p)

  pub text-place : (text_in s p).at ≡ p + 1
  text-place = let h : p < length s = below in omega arith

  pub text-length : (text_in s p).len ≡ length t
  unfolding enc enc_text
  text-length = ap (λ (x : List ℕ). get_or x 0 0) (sym (drop-cons s p 0 below) ∙ a.bytes)

  pub text-end : (text_in s p).at + (text_in s p).len ≡ behind (text n) s p
  text-end = omega (arith, text-place, text-length, behind-text)
