-- The test of an image over bytes is that of what its bytes decode to.
use Rattle.std.specs.Prelude.{ℕ, List, ◌≡◌, refl, Option, None, Some}
use Rattle.state.specs.Records.{State}
use Rattle.image.specs.Contents.{answer}
use Rattle.image.specs.Layout.{decode_image}
use Rattle.image.specs.Opened.{test_of}
use Rattle.entries.specs.Bytes.{◌>>=◌, or_40, status, test_bytes}

pub test-bytes : (x : List ℕ) → test_of (decode_image x) ≡ test_bytes x
unfolding test_bytes
test-bytes x = go (decode_image x)
  where
    go : (o : Option State) → test_of o ≡ status (◌>>=◌ (or_40 o) (λ s. answer 0))
    go None = refl
    go (Some s) = refl
