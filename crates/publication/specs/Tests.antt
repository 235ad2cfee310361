-- The tests of Pin and Unpin, with what the comparison of the stored pin says.
use Rattle.std.specs.Prelude.{Bool, not, List, [], ◌∷◌}
use Rattle.state.specs.Maps.{Text, is_empty}
use Rattle.state.specs.Records.{ObjectReference, is_manifest, valid_reference}
use Rattle.machine.specs.Tests.{Refusal, ◌when◌}

abbrev pub pin_tests : Text → ObjectReference → (same : Bool) → List Refusal
pin_tests id manifest same =
    (2 when is_empty id)
    ∷ (2 when not (is_manifest manifest))
    ∷ (2 when not (valid_reference manifest))
    ∷ (8 when not same)
    ∷ []

abbrev pub unpin_tests : Text → ObjectReference → (same : Bool) → List Refusal
unpin_tests id expected same =
    (2 when is_empty id)
    ∷ (2 when not (valid_reference expected))
    ∷ (8 when not same)
    ∷ []
