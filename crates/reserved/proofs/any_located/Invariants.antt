use Rattle.std.proofs.Common.{◌≡◌, drop}
use Rattle.state.specs.Maps.{any}
use Rattle.sets.specs.Sets.{set_of, keys_left}
use Rattle.reserved.specs.Located.{located_of}
use Rattle.reserved.specs.Passed.{Passed}
use Rattle.reserved.proofs.any_located.Given as goal

abbrev pub invariant-loop-key : goal.invariant-loop-key
invariant-loop-key l = record {
  keys : any (located_of l.rows) (set_of (drop l.set_at l.holder)) ≡ any (located_of l.rows) (keys_left l.key-iterator);
  passed : Passed l.rows l.last l.from;
}
