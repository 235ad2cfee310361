use Rattle.std.specs.Prelude.{ℕ, ◌≡◌, ◌-◌, min, length, drop, Ok}
use Rattle.std.proofs.Common.{ap, ◌∙◌, arith, length-drop, le-leb, zero-le}
use Rattle.fields.specs.Rows.{walk_rows}
use Rattle.image.specs.Placed.{in_place}
use Rattle.image.specs.Walked.{walk_body}
use Rattle.image.proofs.table_end.Goals as goal

pub returns-then-entry-eq0 : goal.returns-then-entry-eq0
unfolding walk_body walk_rows
returns-then-entry-eq0 c =
    let a = c.args in
    let z : length a.s.now - length (drop a.at a.s.now) ≡ min a.at (length a.s.now) = omega (arith, length-drop a.at a.s.now) in
    rw (c.if-entry-eq0.true, le-leb 0 a.most zero-le, z) (c.in_place.ensures ∙ ap (λ (e : ℕ). in_place a.entry a.at (Ok e)) c.within.ensures)
