-- The laws of an image: what is encoded is decoded again, and what is decoded was encoded so.
use Prim.Native.Nat.{ℕ, ◌+◌, ◌*◌, ◌^◌, ◌<◌}
use native.Mathlib.Omega.{arith}
use Rattle.std.specs.Prelude.{Bool, ◌&&◌, ltb}
use Rattle.std.proofs.Math.Bool.{true}
use mathlib.Core.List.{List, [], ◌∷◌, ◌++◌, append_assoc}
use Rattle.std.proofs.Math.Path.{◌≡◌, refl, sym, ap}
use Rattle.std.proofs.Common.{◌∙◌}
use Rattle.std.proofs.Math.ListN.{length, length-append}
use Rattle.std.proofs.Math.Dec.{eqb}
use borrow.Author.Tests.{eq-eqb, eqb-true, ltb-true}
use Rattle.parts.specs.Digits.{Bytes}
use Rattle.parts.specs.DigitLaws.{length_digits, bytes_right, bytes-append}
use Rattle.fields.specs.Format.{Malformed, ok, El, enc, dec, Within}
use Rattle.fields.proofs.FormatLaws.{bind_ok, check-ok, bytes-enc, small, and_true, dec-enc, enc-dec}
use Rattle.image.specs.Body.{Body, one, table, Held, count, write, read, Fits, Helds, FitsAll, writes}
use Rattle.image.specs.Contents.{Widths, version_width, entries, header, first, contents, reads, encode, decode}
use Rattle.image.proofs.BodyLaws.{body_enc, BodyOk, body_ok, small_bodies, bytes-writes}

module _ (w : Widths) where
  pub reads-enc : (bs : List Body) (at : ℕ) (v : Helds bs) (rest : List ℕ) → FitsAll bs v → reads w bs at (contents w bs at v) (writes bs v ++ rest) ≡ ok v rest
  unfolding reads contents writes
  reads-enc [] at v rest h = refl
  reads-enc (b ∷ bs) at v rest h =
      rw (
        append_assoc,
        body_enc b v.0 (writes bs v.1 ++ rest) h.0,
        eq-eqb at at refl,
        eq-eqb (length (write b v.0)) (length (write b v.0)) refl,
        reads-enc bs (at + length (write b v.0)) v.1 rest h.1,
      )

  pub record ReadsOk (bs : List Body) (at : ℕ) (e : El (entries w bs)) (s : List ℕ) (v : Helds bs) (r : List ℕ) : Type 0 where
    pub is : s ≡ writes bs v ++ r
    pub entries_are : contents w bs at v ≡ e
    pub fits : FitsAll bs v

  pub reads_ok : (bs : List Body) (at : ℕ) (e : El (entries w bs)) (s : List ℕ) (v : Helds bs) (r : List ℕ) → Bytes s → reads w bs at e s ≡ ok v r → ReadsOk bs at e s v r
  unfolding reads contents writes
  reads_ok [] at e s v r b h = let i : s ≡ r = cc in record { is = i; entries_are = refl; fits = tt }
  reads_ok (c ∷ bs) at e s v r b h =
      let (x, r₁, e₁, h₁) = bind_ok (read c e.0.1.1 s) _ v r h in
      let (t, h₂) = check-ok (eqb e.0.0 at && eqb e.0.1.0 (length (write c x))) Malformed _ v r h₁ in
      let (y, r₂, e₂, h₃) = bind_ok (reads w bs (at + length (write c x)) e.1 r₁) _ v r h₂ in
      let p = body_ok c e.0.1.1 s x r₁ b e₁ in
      let q = reads_ok bs (at + length (write c x)) e.1 r₁ y r₂ (bytes_right (write c x) r₁ (rw p.is at b)) e₂ in
      joined x y r₁ r₂ t p q h₃
    where
      joined : (x : Held c) (y : Helds bs) (r₁ r₂ : List ℕ) → eqb e.0.0 at && eqb e.0.1.0 (length (write c x)) ≡ true → BodyOk c e.0.1.1 s x r₁
          → ReadsOk bs (at + length (write c x)) e.1 r₁ y r₂ → ok (x, y) r₂ ≡ ok v r → ReadsOk (c ∷ bs) at e s v r
      joined x y r₁ r₂ t p q h =
          let ev : ◌≡◌ {A = Helds (c ∷ bs)} (x, y) v = cc in
          let er : r₂ ≡ r = cc in
          let (t₀, t₁) = and_true (eqb e.0.0 at) (eqb e.0.1.0 (length (write c x))) t in
          let a₀ : e.0.0 ≡ at = eqb-true e.0.0 at t₀ in
          let a₁ : e.0.1.0 ≡ length (write c x) = eqb-true e.0.1.0 (length (write c x)) t₁ in
          let a₂ : count c x ≡ e.0.1.1 = p.its_count in
          rw (← ev, ← er) (record {
            is = p.is ∙ ap (λ (l : List ℕ). write c x ++ l) q.is ∙ sym (append_assoc (write c x) (writes bs y) r₂);
            entries_are = λ i. ((sym a₀ i, (sym a₁ i, a₂ i)), q.entries_are i);
            fits = (p.fits, q.fits);
          })

  -- the header

  length-entries : (bs : List Body) (e : El (entries w bs)) → length (enc (entries w bs) e) ≡ (w.place + w.size + w.amount) * length bs
  unfolding enc
  length-entries [] e = omega arith
  length-entries (b ∷ bs) e =
      let ih : length (enc (entries w bs) e.1) ≡ (w.place + w.size + w.amount) * length bs = length-entries bs e.1 in
      simp (length-append, length_digits, ih) (omega arith)

  pub length-header : (bs : List Body) (v : El (header w bs)) → length (enc (header w bs) v) ≡ first w bs
  unfolding enc
  length-header bs v =
      let l : length (enc (entries w bs) v.1) ≡ (w.place + w.size + w.amount) * length bs = length-entries bs v.1 in
      simp (length-append, length_digits, l) (omega arith)

  pub length-encode : (bs : List Body) (x : ℕ × Helds bs) → length (encode w bs x) ≡ first w bs + length (writes bs x.1)
  unfolding encode
  length-encode bs x =
      let v : El (header w bs) = (x.0, contents w bs (first w bs) x.1) in
      length-append (enc (header w bs) v) (writes bs x.1) ∙ ap (λ (n : ℕ). n + length (writes bs x.1)) (length-header bs v)

  -- every count fits its number
  unfoldable pub countable : List Body → Bool
  countable [] = true
  countable (one k f ∷ bs) = ltb k (256 ^ w.amount) && countable bs
  countable (table m n f ∷ bs) = ltb m (256 ^ w.amount) && countable bs

  countable-head : (b : Body) (bs : List Body) (v : Held b) → Fits b v → countable (b ∷ bs) ≡ true → (count b v < 256 ^ w.amount) × (countable bs ≡ true)
  unfolding countable count
  countable-head (one k f) bs v h c =
      let (c₀, c₁) = and_true (ltb k (256 ^ w.amount)) (countable bs) c in
      (ltb-true k (256 ^ w.amount) c₀, c₁)
  countable-head (table m n f) bs v h c =
      let (c₀, c₁) = and_true (ltb m (256 ^ w.amount)) (countable bs) c in
      let l : m < 256 ^ w.amount = ltb-true m (256 ^ w.amount) c₀ in
      (omega (arith, h.count), c₁)

  contents-within : (bs : List Body) (at : ℕ) (v : Helds bs) → FitsAll bs v → countable bs ≡ true → at + length (writes bs v) < 256 ^ w.place → at + length (writes bs v) < 256 ^ w.size
      → Within (entries w bs) (contents w bs at v)
  unfolding contents writes
  contents-within [] at v h c p q = tt
  contents-within (b ∷ bs) at v h c p q =
      let (c₀, c₁) = countable-head b bs v.0 h.0 c in
      let l : length (write b v.0 ++ writes bs v.1) ≡ length (write b v.0) + length (writes bs v.1) = length-append (write b v.0) (writes bs v.1) in
      let p' : at + (length (write b v.0) + length (writes bs v.1)) < 256 ^ w.place = rw l at p in
      let q' : at + (length (write b v.0) + length (writes bs v.1)) < 256 ^ w.size = rw l at q in
      ((omega arith, (omega arith, c₀)), contents-within bs (at + length (write b v.0)) v.1 h.1 c₁ (omega arith) (omega arith))

  -- THE WHOLE

  pub record ImageOk (bs : List Body) (x : ℕ × Helds bs) : Type 0 where
    pub version : x.0 < 256 ^ version_width
    pub fits : FitsAll bs x.1
    pub place-fits : length (encode w bs x) < 256 ^ w.place
    pub size_fits : length (encode w bs x) < 256 ^ w.size

  header-within : (bs : List Body) (x : ℕ × Helds bs) → countable bs ≡ true → ImageOk bs x → Within (header w bs) (x.0, contents w bs (first w bs) x.1)
  header-within bs x c h =
      let l : length (encode w bs x) ≡ first w bs + length (writes bs x.1) = length-encode bs x in
      (h.version, contents-within bs (first w bs) x.1 h.fits c (rw l at h.place-fits) (rw l at h.size_fits))

  pub decode-encode : (bs : List Body) (x : ℕ × Helds bs) (rest : List ℕ) → countable bs ≡ true → ImageOk bs x → decode w bs (encode w bs x ++ rest) ≡ ok x rest
  unfolding encode decode
  decode-encode bs x rest c h =
      rw (append_assoc, dec-enc (header w bs) (x.0, contents w bs (first w bs) x.1) (writes bs x.1 ++ rest) (header-within bs x c h), reads-enc bs (first w bs) x.1 rest h.fits)

  pub record Decoded (bs : List Body) (s : List ℕ) (x : ℕ × Helds bs) (r : List ℕ) : Type 0 where
    pub is : s ≡ encode w bs x ++ r
    pub version : x.0 < 256 ^ version_width
    pub fits : FitsAll bs x.1

  pub encode-decode : (bs : List Body) (s : List ℕ) (x : ℕ × Helds bs) (r : List ℕ) → Bytes s → decode w bs s ≡ ok x r → Decoded bs s x r
  unfolding encode decode
  encode-decode bs s x r b h =
      let (e, r₁, e₁, h₁) = bind_ok (dec (header w bs) s) _ x r h in
      let (v, r₂, e₂, h₂) = bind_ok (reads w bs (first w bs) e.1 r₁) _ x r h₁ in
      let (i, u) = enc-dec (header w bs) s e r₁ b e₁ in
      joined e v r₁ r₂ i u (reads_ok bs (first w bs) e.1 r₁ v r₂ (bytes_right (enc (header w bs) e) r₁ (rw i at b)) e₂) h₂
    where
      joined : (e : El (header w bs)) (v : Helds bs) (r₁ r₂ : List ℕ) → s ≡ enc (header w bs) e ++ r₁ → Within (header w bs) e → ReadsOk bs (first w bs) e.1 r₁ v r₂
          → ok (e.0, v) r₂ ≡ ok x r → Decoded bs s x r
      joined e v r₁ r₂ i u q h =
          let ex : ◌≡◌ {A = ℕ × Helds bs} (e.0, v) x = cc in
          let er : r₂ ≡ r = cc in
          rw (← ex, ← er) (record {
            is = i ∙ ap (λ (l : List ℕ). enc (header w bs) e ++ l) q.is ∙ sym (append_assoc (enc (header w bs) e) (writes bs v) r₂)
                ∙ (λ j. (enc (header w bs) (e.0, sym q.entries_are j) ++ writes bs v) ++ r₂);
            version = u.0;
            fits = q.fits;
          })

  -- and it is bytes

  small-entries : (bs : List Body) → small (entries w bs) ≡ true
  unfolding small
  small-entries [] = refl
  small-entries (b ∷ bs) = small-entries bs

  pub bytes-encode : (bs : List Body) (x : ℕ × Helds bs) → countable bs ≡ true → small_bodies bs ≡ true → ImageOk bs x → Bytes (encode w bs x)
  unfolding encode small
  bytes-encode bs x c k h =
      bytes-append (enc (header w bs) (x.0, contents w bs (first w bs) x.1)) (writes bs x.1)
      (bytes-enc (header w bs) (small-entries bs) (x.0, contents w bs (first w bs) x.1) (header-within bs x c h)) (bytes-writes bs x.1 k h.fits)
