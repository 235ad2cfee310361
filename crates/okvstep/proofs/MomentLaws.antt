-- Moments follow on each other, each holds a state, and they are those of the histories that the claims are proved of.
use Rattle.std.specs.Prelude.{ℕ, suc, ◌+◌, ◌≤◌, List, [], ◌∷◌, ◌++◌, ◌≡◌, refl, replicate, length, take, drop}
use Rattle.std.proofs.Common.{zero-le, arith, sym, ap, ◌∙◌, length-append, length-take-le}
use Rattle.std.proofs.lemmas.List.{length-replicate}
use Rattle.std.proofs.Math.Seq.{take-append_seam}
use Rattle.parts.specs.Answer.{Answer, no, yes, image_of}
use Rattle.parts.specs.Digits.{Bytes}
use Rattle.parts.specs.Over.{over, over_none}
use Rattle.state.specs.Maps.{Every}
use Rattle.state.specs.Records.{no_faults, State, default}
use Rattle.machine.specs.Claims.{image}
use Rattle.image.specs.Layout.{encode_image}
use Rattle.image.proofs.LayoutLaws.{decodes_back, bytes-image}
use Rattle.image.specs.Contents.{answer}
use Rattle.requests.specs.Request.{Request, decode_request}
use Rattle.entries.proofs.Ways.{Took, took}
use Rattle.entries.proofs.Agrees.{took_again, default_has_image}
use Rattle.entries.specs.Caller.{Call, Holds}
use Rattle.entries.specs.ByteHistory.{left_by as left, bytes}
use Rattle.okvstep.specs.Moments.{room, outcome_room, answered, after, Moment}

-- ---- one moment after the other

after_snoc : (x : List ℕ) (qs : List (List ℕ)) (q : List ℕ) → after x (qs ++ (q ∷ [])) ≡ left (after x qs) (answered (after x qs) q)
unfolding after
after_snoc x [] q = refl
after_snoc x (p ∷ qs) q = after_snoc (left x (answered x p)) qs q

every_snoc : (qs : List (List ℕ)) (q : List ℕ) → Every Bytes qs → Bytes q → Every Bytes (qs ++ (q ∷ []))
every_snoc [] q u b = (b, u)
every_snoc (p ∷ qs) q u b = (u.0, every_snoc qs q u.1 b)

pub moment_start : Moment 0 (encode_image default)
unfolding after
moment_start = record { requests = []; are_bytes = tt; so_many = refl; is = refl }

pub moment_on : (n : ℕ) (x : List ℕ) → Moment n x → (q : List ℕ) → Bytes q → Moment (n + 1) (left x (answered x q))
moment_on n x m q b = record {
  requests = m.requests ++ (q ∷ []);
  are_bytes = every_snoc m.requests q m.are_bytes b;
  so_many = length-append m.requests (q ∷ []) ∙ ap (λ (k : ℕ). k + 1) m.so_many;
  is = ap (λ (y : List ℕ). left y (answered y q)) m.is ∙ sym (after_snoc (encode_image default) m.requests q);
}

-- ---- the image that is handed on

-- it fits
pub fits : (x q : List ℕ) → length (image_of (answered x q)) ≤ room
fits x q = go (answered x q) refl
  where
    go : (A : Answer) → answered x q ≡ A → length (image_of A) ≤ room
    go (no n) e = zero-le
    go (yes y z) e = let t = took x q room outcome_room y z e in let l : length (encode_image t.call.next) ≡ length y = ap length t.image_is in omega (arith, t.room-is)

-- and is the front of what the call left
pub handed : (d : List ℕ) (size : ℕ) (A : Answer) → size ≤ length d → take (length (left (take size d) A)) (over d 0 (image_of A)) ≡ left (take size d) A
unfolding over
handed d size (no n) h = λ i. take (length-take-le size d h i) (sym (over_none d 0) i)
handed d size (yes y z) h = take-append_seam y (drop (0 + length y) d)

-- ---- a state at every moment

holds_after : (x : List ℕ) (s : State) → Holds x s → (qs : List (List ℕ)) → Every Bytes qs → (t : State) × Holds (after x qs) t
unfolding after
holds_after x s h [] u = (s, h)
holds_after x s h (q ∷ qs) u = let k = go (answered x q) refl in holds_after (left x (answered x q)) k.0 k.1 qs u.1
  where
    go : (A : Answer) → answered x q ≡ A → (t : State) × Holds (left x A) t
    go (no n) e = (s, h)
    go (yes y z) e =
        let t : Took x q room outcome_room y z = took x q room outcome_room y z e in
        let k = took_again x q room outcome_room y z h.0 u.0 t in
        (t.call.next, (k.image_bytes, k.image_is))

pub moment_holds : (n : ℕ) (x : List ℕ) → Moment n x → (s : State) × Holds x s
moment_holds n x m =
    let h = holds_after (encode_image default) default (bytes-image default default_has_image, decodes_back default default_has_image) m.requests m.are_bytes in
    rw m.is h

-- ---- histories: a moment none of whose requests has a fault flag is one of those of which `byte_history` proves the claims

abbrev NoFlags : List ℕ → Type 0
NoFlags q = (r : Request) → decode_request q ≡ answer r → r.faults ≡ no_faults

unfoldable calls : (qs : List (List ℕ)) → Every Bytes qs → Every NoFlags qs → List Call
calls [] u v = []
calls (q ∷ qs) u v = record { request = q; are_bytes = u.0; no_flags = v.0; next = replicate room 0; outcome = replicate outcome_room 0 } ∷ calls qs u.1 v.1

so_many-calls : (qs : List (List ℕ)) (u : Every Bytes qs) (v : Every NoFlags qs) → length (calls qs u v) ≡ length qs
unfolding calls
so_many-calls [] u v = refl
so_many-calls (q ∷ qs) u v = ap suc (so_many-calls qs u.1 v.1)

after-calls : (x : List ℕ) (qs : List (List ℕ)) (u : Every Bytes qs) (v : Every NoFlags qs) → after x qs ≡ image bytes x (calls qs u v)
unfolding after calls
after-calls x [] u v = refl
after-calls x (q ∷ qs) u v = rw (length-replicate {A = ℕ} room 0, length-replicate {A = ℕ} outcome_room 0) (after-calls (left x (answered x q)) qs u.1 v.1)

pub moment_history : (n : ℕ) (x : List ℕ) (m : Moment n x) → Every NoFlags m.requests → (cs : List Call) × (length cs ≡ n) × (x ≡ image bytes (encode_image default) cs)
moment_history n x m v = (
  calls m.requests m.are_bytes v,
  so_many-calls m.requests m.are_bytes v ∙ m.so_many,
  m.is ∙ after-calls (encode_image default) m.requests m.are_bytes v,
)
