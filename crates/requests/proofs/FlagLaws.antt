-- The flags and their number say the same.
use Rattle.std.specs.Prelude.{ℕ, zero, suc, ◌+◌, ◌*◌, ◌/◌, ◌%◌, ◌^◌, ◌<◌, ◌≡◌, refl, Bool, true, false, cond, List, [], ◌∷◌, eqb, length}
use Rattle.std.proofs.Common.{arith, pow-suc, mul_comm, sym, ap, ◌∙◌, eq-eqb, ne_eqb}
use Rattle.std.proofs.Math.Nat.{div-div-eq-div-mul}
use Rattle.state.specs.Records.{PublicationAuthorityFaults}
use Rattle.requests.specs.Flags.{bit, faults_from, bits_number, flags, faults_number}

-- bit i + 1 of a number is bit i of its half
bit-suc : (i n : ℕ) → bit (suc i) n ≡ bit i (n / 2)
bit-suc i n = ap (λ (m : ℕ). eqb (m % 2) 1) (ap (λ (d : ℕ). n / d) (pow-suc 2 i ∙ mul_comm (2 ^ i) 2) ∙ sym (div-div-eq-div-mul n 2 (2 ^ i)))

-- NUMBER TO FLAGS TO NUMBER
bits_from : ℕ → ℕ → ℕ → List Bool
bits_from i zero n = []
bits_from i (suc k) n = bit i n ∷ bits_from (suc i) k n

bits_half : (i k n : ℕ) → bits_from (suc i) k n ≡ bits_from i k (n / 2)
unfolding bits_from
bits_half i zero n = refl
bits_half i (suc k) n = λ j. bit-suc i n j ∷ bits_half (suc i) k n j

as_digit : (m : ℕ) → m < 2 → cond (eqb m 1) 1 0 ≡ m
as_digit zero h = refl
as_digit (suc zero) h = refl
as_digit (suc (suc m)) h = absurd (omega arith)

last_bit : (n : ℕ) → cond (bit 0 n) 1 0 ≡ n % 2
last_bit n = as_digit (n / 1 % 2) (omega arith) ∙ (let e : n / 1 % 2 ≡ n % 2 = omega arith in e)

bits_back : (k n : ℕ) → n < 2 ^ k → bits_number (bits_from 0 k n) ≡ n
unfolding bits_from bits_number
bits_back zero n h = omega arith
bits_back (suc k) n h =
    let b : n < 2 ^ k * 2 = rw pow-suc at h in
    let ih : bits_number (bits_from 0 k (n / 2)) ≡ n / 2 = bits_back k (n / 2) (omega arith) in
    rw (last_bit n, bits_half 0 k n, ih) (omega arith)

pub number_of-faults : (n : ℕ) → n < 2 ^ 11 → faults_number (faults_from n) ≡ n
unfolding bits_from
number_of-faults n h = bits_back 11 n h

-- FLAGS TO NUMBER TO FLAGS
below : (bs : List Bool) → bits_number bs < 2 ^ length bs
unfolding bits_number
below [] = omega arith
below (true ∷ bs) = rw pow-suc (omega (arith, below bs))
below (false ∷ bs) = rw pow-suc (omega (arith, below bs))

last_of : (b : Bool) (m : ℕ) → bit 0 (cond b 1 0 + 2 * m) ≡ b
last_of true m = eq-eqb ((1 + 2 * m) / 1 % 2) 1 (omega arith)
last_of false m = ne_eqb ((0 + 2 * m) / 1 % 2) 1 (λ (e : (0 + 2 * m) / 1 % 2 ≡ 1). omega arith)

half_of : (b : Bool) (m : ℕ) → (cond b 1 0 + 2 * m) / 2 ≡ m
half_of true m = omega arith
half_of false m = omega arith

bits_of : (bs : List Bool) → bits_from 0 (length bs) (bits_number bs) ≡ bs
unfolding bits_from bits_number
bits_of [] = refl
bits_of (b ∷ bs) = λ i. last_of b (bits_number bs) i ∷ (bits_half 0 (length bs) (cond b 1 0 + 2 * bits_number bs) ∙ ap (bits_from 0 (length bs)) (half_of b (bits_number bs)) ∙ bits_of bs) i

-- flags out of a list
abbrev nth : ℕ → List Bool → Bool
nth i [] = false
nth zero (b ∷ bs) = b
nth (suc i) (b ∷ bs) = nth i bs

abbrev from_flags : List Bool → PublicationAuthorityFaults
from_flags l = record {
  publish_without_intent = nth 0 l;
  ignore_root_epoch = nth 1 l;
  ignore_delete_reservation = nth 2 l;
  ignore_root_compare = nth 3 l;
  allow_cross_generation_intent = nth 4 l;
  retire_by_plan_key_only = nth 5 l;
  accept_backdated_lease = nth 6 l;
  omit_lease_root_epoch = nth 7 l;
  ignore_collection_range_epoch = nth 8 l;
  advance_collection_without_publication = nth 9 l;
  ignore_collection_input_root = nth 10 l;
}

pub faults-back : (f : PublicationAuthorityFaults) → faults_from (faults_number f) ≡ f
unfolding bits_from
faults-back f = ap from_flags (bits_of (flags f))

pub flags-below : (f : PublicationAuthorityFaults) → faults_number f < 2 ^ 11
flags-below f = below (flags f)
