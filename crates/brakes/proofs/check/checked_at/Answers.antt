use Rattle.rules.specs.Checks.{checked_at}
use Rattle.brakes.proofs.check.checked_at.Goals as goal

pub returns-then-before : goal.returns-then-before
unfolding checked_at
returns-then-before c = rw c.if-before.true c.counted_on.ensures

pub returns-else-before : goal.returns-else-before
unfolding checked_at
returns-else-before c = rw c.if-before.false c.begun.ensures
