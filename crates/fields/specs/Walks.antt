-- A walk over a slice from a position: where it ends, or the first fault.
use Rattle.std.specs.Prelude.{ℕ, ◌-◌, ◌≤◌, List, ◌≡◌, length, drop, Result, Ok, Err}
use denote.Ref.{Bor}
use Rattle.refusals.specs.Numbers.{number}
use Rattle.refusals.specs.declared.Refusal.{Refusal}
use Rattle.fields.specs.Format.{Res, ok, bad}

-- where the rest r of s starts
abbrev pub place_of : List ℕ → List ℕ → ℕ
place_of s r = length s - length r

-- what a reader finds, where a walker answers this and leaves these bytes
abbrev pub read : {A : Type 0} → Result A Refusal → List ℕ → Res A
read (Ok v) r = ok v r
read (Err e) r = bad (number e)

-- the same where it answers a part of the bytes
abbrev pub read_bytes : Result (Bor (List ℕ)) Refusal → List ℕ → Res (List ℕ)
read_bytes (Ok t) r = ok t.now r
read_bytes (Err e) r = bad (number e)

-- where the rest starts, or the first fault
abbrev pub walk_of : {A : Type 0} → List ℕ → Res A → Result ℕ ℕ
walk_of s (ok v r) = Ok (place_of s r)
walk_of s (bad e) = Err e

-- ---- a rest is what is left after some bytes

pub record Rest (s r : List ℕ) : Type 0 where
  pub bytes : ℕ
  pub is : r ≡ drop bytes s

-- a reader that leaves a rest of what it was given
pub record Leaves {A : Type 0} (s : List ℕ) (m : Res A) : Type 0 where
  pub rest : (v : A) (r : List ℕ) → m ≡ ok v r → Rest s r

-- ---- from where a walk ended to what was read

pub record Ended {A : Type 0} (s : List ℕ) (m : Res A) (p e : ℕ) : Type 0 where
  pub v : A
  pub is : m ≡ ok v (drop e s)
  pub low : p ≤ e
  pub high : e ≤ length s
