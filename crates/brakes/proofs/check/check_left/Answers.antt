use Rattle.rules.specs.Checks.{check_left}
use Rattle.brakes.proofs.check.check_left.Goals as goal

pub returns-then-stands : goal.returns-then-stands
unfolding check_left
returns-then-stands c = rw c.if-stands.true

pub returns-else-stands : goal.returns-else-stands
unfolding check_left
returns-else-stands c = rw c.if-stands.false
