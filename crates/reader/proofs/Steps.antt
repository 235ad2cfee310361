-- From the place where a record ends to its bytes.
use Rattle.std.specs.Prelude.{ℕ, ◌-◌, List, ◌≡◌, length, take, drop}
use Rattle.std.proofs.Common.{arith, length-drop}
use Rattle.fields.specs.declared.Code.{Code}
use Rattle.fields.specs.Codes.{skip}
use Rattle.fields.specs.Walks.{place_of}
use Rattle.reader.specs.Records.{record_of}

pub record_part : (cs : List Code) (s : List ℕ) (at e : ℕ) → e ≡ place_of s (skip 0 cs (drop at s)) → take (e - at) (drop at s) ≡ record_of cs (drop at s)
unfolding record_of
record_part cs s at e h = let q : e - at ≡ length (drop at s) - length (skip 0 cs (drop at s)) = omega (arith, length-drop at s, h) in rw q
