-- The bytes of a table are those of its rows, one after the other; a change of the map is a splice of its bytes.
use Rattle.std.specs.Prelude.{ℕ, ◌≡◌, Bool}
use Rattle.std.proofs.Math.Path.{refl, ap}
use Rattle.std.proofs.Common.{sym, ◌∙◌}
use Rattle.std.proofs.Math.Bool.{cond}
use mathlib.Core.List.{List, [], ◌∷◌, ◌++◌, append_assoc}
use Rattle.state.specs.Maps.{Text, Map, Entry, ◌⟼◌, insert, remove, remove_all, keys_where}
use Rattle.state.proofs.MapLaws.{by_test}
use Rattle.state.specs.Sorted.{Ascending}
use Rattle.state.proofs.Places.{ahead, at, behind, split_is, insert-is, remove-is, without, remove_all-is, remove_all_rearranged}
use Rattle.state.specs.Sort.{Rearranged}
use Rattle.fields.specs.Format.{all}
use Rattle.image.specs.Layout.{each}
use Rattle.image.specs.Tables.{kept}

-- MANY ROWS
pub all-each : {A B : Type 0} (write : B → List ℕ) (f : A → B) (l : List A) → all write (each f l) ≡ all (λ v. write (f v)) l
unfolding all each
all-each write f [] = refl
all-each write f (v ∷ l) = ap (λ (r : List ℕ). write (f v) ++ r) (all-each write f l)

pub all_append : {A : Type 0} (write : A → List ℕ) (a b : List A) → all write (a ++ b) ≡ all write a ++ all write b
unfolding all
all_append write [] b = refl
all_append write (v ∷ a) b = ap (λ (l : List ℕ). write v ++ l) (all_append write a b) ∙ sym (append_assoc (write v) (all write a) (all write b))

-- CHANGES BY ID: what is ahead of it, at it and behind it
module _ {A : Type 0} (write : Entry A → List ℕ) (k : Text) where
  pub bytes_split : (m : Map A) → all write m ≡ all write (ahead k m) ++ (all write (at k m) ++ all write (behind k m))
  bytes_split m =
      ap (all write) (split_is k m) ∙ all_append write (ahead k m) (at k m ++ behind k m)
      ∙ ap (λ (l : List ℕ). all write (ahead k m) ++ l) (all_append write (at k m) (behind k m))

  -- put in, or put in the place of the one that stood there
  pub bytes-insert : (v : A) (m : Map A) → all write (insert k v m) ≡ all write (ahead k m) ++ (write (k ⟼ v) ++ all write (behind k m))
  unfolding all
  bytes-insert v m = ap (all write) (insert-is k v m) ∙ all_append write (ahead k m) ((k ⟼ v) ∷ behind k m)

  pub bytes-remove : (m : Map A) → Ascending m → all write (remove k m) ≡ all write (ahead k m) ++ all write (behind k m)
  bytes-remove m a = ap (all write) (remove-is k m a) ∙ all_append write (ahead k m) (behind k m)

module _ {A : Type 0} (write : Entry A → List ℕ) (test : A → Bool) where
  pub bytes-without : (m : Map A) → all write (without test m) ≡ kept write test m
  unfolding all without kept
  bytes-without [] = refl
  bytes-without ((k ⟼ v) ∷ m) =
      by_test (λ t. all write (cond t (without test m) ((k ⟼ v) ∷ without test m)) ≡ cond t (kept write test m) (write (k ⟼ v) ++ kept write test m)) (test v)
      (λ _. bytes-without m) (λ _. ap (λ (l : List ℕ). write (k ⟼ v) ++ l) (bytes-without m))

  -- in whatever order their keys stand
  pub bytes-remove_all : (m : Map A) → Ascending m → {ks : List Text} → Rearranged ks (keys_where test m) → all write (remove_all ks m) ≡ kept write test m
  bytes-remove_all m a r = ap (all write) (remove_all_rearranged r m ∙ remove_all-is test m a) ∙ bytes-without m
