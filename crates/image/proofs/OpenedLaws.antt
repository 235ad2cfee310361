-- Contents of a form and a state hold the state, whatever the form.
use Prim.Native.Nat.{ℕ, zero, suc, ◌+◌, ◌-◌, ◌≤◌, ◌<◌}
use native.Mathlib.Omega.{arith}
use mathlib.Core.List.{List, [], ◌∷◌, ◌++◌, append_assoc, append-nil}
use Rattle.std.proofs.Math.Path.{◌≡◌, refl, sym, ap}
use Rattle.std.proofs.Common.{◌∙◌, subst, drop-drop}
use Rattle.std.proofs.Math.ListN.{length, drop, length-append}
use Rattle.std.specs.Prelude.{take, get_or, Option, None, Some}
use Rattle.std.proofs.Math.Seq.{take-append_seam, drop-append_seam}
use Rattle.parts.specs.Answer.{longest}
use Rattle.parts.specs.Digits.{Bytes, digits}
use Rattle.parts.specs.Gather.{run}
use Rattle.state.specs.Maps.{Text}
use Rattle.state.specs.Records.{State}
use Rattle.fields.specs.Format.{enc_option, enc_text}
use Rattle.image.specs.Layout.{TableName, Form, forms, first_in, encode_in, Read, read_image, state_read, decode_image}
use Rattle.image.proofs.LayoutLaws.{In, here, there, one-image, within-written}
use Rattle.image.specs.ImageParts.{TableBytes, names, names_in, tables_named, tables_of, joined, numbers_of, before_window, words, scalars_bytes, tables_at}
use Rattle.image.proofs.ImagePartLaws.{at-scalars, at-tables, length-image}
use Rattle.image.proofs.ImagePartLaws.{scalars-is, next-at}
use Rattle.image.specs.Opened.{root_of, laid, contents_in, opened_of, root_width, root_bytes, root_text_of, nowhere, Holds, OpenedAs}
use Rattle.image.specs.declared.Contents.{Contents}

-- ---- runs

-- a run up to a seam
pub run-to : (x a r : List ℕ) (p n : ℕ) → drop p x ≡ a ++ r → n ≡ length a → run x p n ≡ a
run-to x a r p n e h = ap (take n) e ∙ ap (λ (m : ℕ). take m (a ++ r)) h ∙ take-append_seam a r

-- what stands after a seam
pub after_seam : (x a r : List ℕ) (p q : ℕ) → drop p x ≡ a ++ r → q ≡ p + length a → drop q x ≡ r
after_seam x a r p q e h = ap (λ (m : ℕ). drop m x) h ∙ sym (drop-drop (length a) p x) ∙ ap (drop (length a)) e ∙ drop-append_seam a r

-- ---- tables laid from a place on stand there
pub laid_stand : (x : List ℕ) (ts : List TableBytes) (at i : ℕ) → drop at x ≡ joined ts → i < length ts → drop (get_or (laid at ts) i nowhere).at x ≡ joined (drop i ts)
laid_stand x [] at i e h = absurd (omega arith)
laid_stand x (t ∷ ts) at zero e h = e
laid_stand x (t ∷ ts) at (suc i) e h = laid_stand x ts (at + length t.bytes) i (next-at x t.bytes (joined ts) at e) (omega arith)

pub laid_end : (n : ℕ) (ts : List TableBytes) (at i : ℕ) → at + length (joined ts) ≡ n → i < length ts → (get_or (laid at ts) i nowhere).at + length (joined (drop i ts)) ≡ n
laid_end n [] at i e h = absurd (omega arith)
laid_end n (t ∷ ts) at zero e h = e
laid_end n (t ∷ ts) at (suc i) e h = let l = length-append t.bytes (joined ts) in laid_end n ts (at + length t.bytes) i (omega arith) (omega arith)

-- ---- the root

-- the scalars up to the root's option
abbrev front : State → List ℕ → List ℕ
front s r = words (take before_window (numbers_of s)) ++ (enc_option (digits 8) s.retention_window ++ (words (drop before_window (numbers_of s)) ++ r))

front_seam : (s : State) (a r : List ℕ) → front s (a ++ r) ≡ front s a ++ r
front_seam s a r = simp append_assoc

module _ (f : Form) (s : State) (x : List ℕ) (is : encode_in f s ≡ x) where
  abbrev tables_here : List TableBytes
  tables_here = tables_named (names_in f.tables) s

  scalars-here : drop (first_in f) x ≡ front s (enc_option enc_text s.collection_root ++ joined tables_here)
  scalars-here = ap (drop (first_in f)) (sym is) ∙ at-scalars f s ∙ scalars-is f.scalars s (joined tables_here)

  length-scalars : length (scalars_bytes f s) ≡ length (front s (enc_option enc_text s.collection_root))
  length-scalars =
      ap length (sym (append-nil (scalars_bytes f s)) ∙ scalars-is f.scalars s [] ∙ ap (front s) (append-nil (enc_option enc_text s.collection_root)))

  root_some : (t : Text) → s.collection_root ≡ Some t → root_bytes x (root_of (tables_at f s) (Some t)) ≡ enc_option enc_text (Some t)
  unfolding enc_option enc_text digits
  root_some t e =
      let a : List ℕ = front s (1 ∷ []) in
      let w : List ℕ = length t ∷ t in
      let h : drop (first_in f) x ≡ a ++ (w ++ joined tables_here) =
      scalars-here ∙ ap (λ (o : Option Text). front s (enc_option enc_text o ++ joined tables_here)) e ∙ front_seam s (1 ∷ []) (w ++ joined tables_here) in
      let n : length (scalars_bytes f s) ≡ length a + length w =
      length-scalars ∙ ap (λ (o : Option Text). length (front s (enc_option enc_text o))) e ∙ ap length (front_seam s (1 ∷ []) w) ∙ length-append a w in
      let p : tables_at f s - length t - 1 ≡ first_in f + length a = omega arith in
      let d : drop (tables_at f s - length t - 1) x ≡ w ++ joined tables_here = after_seam x a (w ++ joined tables_here) (first_in f) (tables_at f s - length t - 1) h p in
      let k : length t + 1 ≡ length w = omega arith in
      ap (λ (l : List ℕ). 1 ∷ l) (run-to x w (joined tables_here) (tables_at f s - length t - 1) (length t + 1) d k)

  root-here : root_bytes x (root_of (tables_at f s) s.collection_root) ≡ enc_option enc_text s.collection_root
  unfolding enc_option digits
  root-here = go s.collection_root refl
    where
      go : (o : Option Text) → s.collection_root ≡ o → root_bytes x (root_of (tables_at f s) o) ≡ enc_option enc_text o
      go None e = refl
      go (Some t) e = root_some t e

  text_here : (o : Option Text) → s.collection_root ≡ o → root_text_of x (root_of (tables_at f s) o) ≡ o
  unfolding enc_option enc_text digits
  text_here None e = refl
  text_here (Some t) e =
      let a : List ℕ = front s (1 ∷ length t ∷ []) in
      let h : drop (first_in f) x ≡ a ++ (t ++ joined tables_here) =
      scalars-here ∙ ap (λ (o : Option Text). front s (enc_option enc_text o ++ joined tables_here)) e ∙ front_seam s (1 ∷ length t ∷ []) (t ++ joined tables_here) in
      let n : length (scalars_bytes f s) ≡ length a + length t =
      length-scalars ∙ ap (λ (o : Option Text). length (front s (enc_option enc_text o))) e ∙ ap length (front_seam s (1 ∷ length t ∷ []) t) ∙ length-append a t in
      let p : tables_at f s - length t ≡ first_in f + length a = omega arith in
      let d : drop (tables_at f s - length t) x ≡ t ++ joined tables_here = after_seam x a (t ++ joined tables_here) (first_in f) (tables_at f s - length t) h p in
      ap Some (run-to x t (joined tables_here) (tables_at f s - length t) (length t) d refl)

  root_sized : (end : ℕ) (o : Option Text) → 1 + root_width (root_of end o) ≡ length (enc_option enc_text o)
  unfolding enc_option enc_text
  root_sized end None = refl
  root_sized end (Some t) = omega arith

  -- a form that has every table
  pub holds_in : names_in f.tables ≡ names → Holds x (contents_in f s) s
  holds_in full = record {
    shows = record {
      version = refl;
      numbers = refl;
      window = refl;
      root = root-here;
      root_size = root_sized (tables_at f s) s.collection_root;
      tables = refl;
    };
    root_text = text_here s.collection_root refl;
    stands = λ i h. laid_stand x (tables_of s) (tables_at f s) i
        (ap (drop (tables_at f s)) (sym is) ∙ at-tables f s ∙ ap (λ (ns : List TableName). joined (tables_named ns s)) full) h;
    ends = λ i h. laid_end (length x) (tables_of s) (tables_at f s) i
        (sym (ap length (sym is) ∙ length-image f s ∙ ap (λ (ns : List TableName). tables_at f s + length (joined (tables_named ns s))) full)) h;
  }

-- every form that is read has all tables
all-tables : (f : Form) → In f forms → names_in f.tables ≡ names
all-tables f here = refl
all-tables f (there x) = elim x [ ]

opened_some : (x : List ℕ) (r : Read) → Bytes x → read_image x ≡ Some r → OpenedAs x (contents_in r.form r.state)
unfolding decode_image
opened_some x r b e =
    let w = one-image x r b e in
    record {
      state = r.state;
      reads = ap state_read e;
      formed = within-written r.form r.state w.known w.formed;
      holds = holds_in r.form r.state x w.is (all-tables r.form w.known);
      short = subst (λ (l : List ℕ). length l ≤ longest) w.is w.formed.size;
    }

module _ (x : List ℕ) (o : Option Contents) (told : o ≡ opened_of (read_image x)) where
  pub opened_as : Bytes x → (c : Contents) → o ≡ Some c → OpenedAs x c
  opened_as b c h = go (read_image x) refl
    where
      go : (r : Option Read) → read_image x ≡ r → OpenedAs x c
      go None e = let z : None ≡ Some c = sym (told ∙ ap opened_of e) ∙ h in cc
      go (Some r) e = let z : Some (contents_in r.form r.state) ≡ Some c = sym (told ∙ ap opened_of e) ∙ h in let q : contents_in r.form r.state ≡ c = cc in subst (OpenedAs x) q (opened_some x r b e)

  pub not_opened : o ≡ None → decode_image x ≡ None
  unfolding decode_image
  not_opened h = go (read_image x) refl
    where
      go : (r : Option Read) → read_image x ≡ r → decode_image x ≡ None
      go None e = ap state_read e
      go (Some r) e = let z : Some (contents_in r.form r.state) ≡ None = sym (told ∙ ap opened_of e) ∙ h in cc
