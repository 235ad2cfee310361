-- One step each of the private functions.
use Prim.Native.Nat.{ℕ, suc, ◌-◌, ◌≤◌}
use native.Mathlib.Omega.{arith}
use mathlib.Core.Bool.{◌&&◌}
use mathlib.Core.List.{List, [], ◌∷◌}
use mathlib.Core.Path.{◌≡◌, refl, sym, ap, ◌∙◌}
use lib.ListN.{length, take, drop, length-drop}
use lib.Seq.{take_all}
use lib.Dec.{eqb}
use borrow.Author.Tests.{ne_eqb}
use Rattle.text.specs.Same.{same_of}
use Rattle.state.specs.Maps.{is_empty, contains}
use Rattle.sets.specs.Sets.{set_of}
use Rattle.fields.specs.Codes.{skip}
use Rattle.fields.specs.declared.Code.{Code}
use Rattle.fields.specs.Rows.{text_here}
use Rattle.fields.specs.Walks.{Rest, place_of}
use Rattle.fields.proofs.WalkLaws.{rest-place}
use Rattle.tables.specs.Skips.{skip-rest}
use Rattle.intents.specs.Tests.{from_manifest, from_root, from_prior, matches_in}

-- what is left after the first fields
pub left_after : (cs : List Code) (s r : List ℕ) (p : ℕ) → p ≡ place_of s (skip 0 cs (drop 0 s)) → r ≡ take (length s) (drop p s) → r ≡ skip 0 cs s
left_after cs s r p e h =
    h ∙ ap (λ (n : ℕ). take (length s) (drop n s)) e ∙ ap (take (length s)) (rest-place (skip-rest 0 cs s))
    ∙ take_all (length s) (skip 0 cs s) (rest-short (skip-rest 0 cs s))
  where
    rest-short : {s r : List ℕ} → Rest s r → length r ≤ length s
    rest-short {s} a = let l = ap length a.is ∙ length-drop a.bytes s in omega arith

module _ (row manifest root prior key : List ℕ) (m d e part : List ℕ) (n : ℕ) (em : m ≡ from_manifest row) (ed : d ≡ from_root m) (ee : e ≡ from_prior d) (en : n ≡ length m - length d) (ep : part ≡ take n (drop 0 m)) where
  manifest-part : same_of part manifest ≡ same_of (take (length (from_manifest row) - length (from_root (from_manifest row))) (from_manifest row)) manifest
  manifest-part =
      ap (λ (l : List ℕ). same_of l manifest) (ep ∙ ap (λ (k : ℕ). take k m) en ∙ ap (λ (l : List ℕ). take (length m - length l) m) ed
      ∙ ap (λ (l : List ℕ). take (length l - length (from_root l)) l) em)

  root-part : same_of (text_here (drop 0 d)) root ≡ same_of (text_here (from_root (from_manifest row))) root
  root-part = ap (λ (l : List ℕ). same_of (text_here l) root) (ed ∙ ap from_root em)

  prior_part : same_of e prior ≡ same_of (from_prior (from_root (from_manifest row))) prior
  prior_part = ap (λ (l : List ℕ). same_of l prior) (ee ∙ ap from_prior (ed ∙ ap from_root em))

  -- the guard, by the parts as they were cut out of the row
  pub matches_told : matches_in row manifest root prior key ≡ same_of part manifest && (same_of (text_here (drop 0 d)) root && (same_of e prior && contains key (set_of (drop 8 row))))
  unfolding matches_in
  matches_told = sym (λ i. manifest-part i && (root-part i && (prior_part i && contains key (set_of (drop 8 row)))))

pub no_bytes : (row : List ℕ) → eqb (length row) 0 ≡ is_empty row
no_bytes [] = refl
no_bytes (x ∷ row) = ne_eqb (suc (length row)) 0 (λ z. omega (arith, z))
