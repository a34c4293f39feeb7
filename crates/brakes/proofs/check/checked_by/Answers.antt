use Rattle.rules.specs.Checks.{checked_by}
use Rattle.brakes.proofs.check.checked_by.Goals as goal

pub returns-then-before : goal.returns-then-before
unfolding checked_by
returns-then-before c = rw c.if-before.true

pub returns-else-before : goal.returns-else-before
unfolding checked_by
returns-else-before c = rw c.if-before.false c.begun.ensures
