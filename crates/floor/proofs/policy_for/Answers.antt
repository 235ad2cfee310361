use Rattle.machine.specs.Next.{policy_for}
use Rattle.floor.proofs.policy_for.Goals as goal

pub returns-in-None : goal.returns-in-None
unfolding policy_for
returns-in-None c = rw c.in-None.is

pub returns-in-Some : goal.returns-in-Some
unfolding policy_for
returns-in-Some c = rw (c.in-Some.is, c.max.ensures, c.saturating_sub.ensures)
