use Rattle.rules.specs.Checks.{fails_at}
use Rattle.brakes.proofs.check.fails_at.Goals as goal

pub returns : goal.returns
unfolding fails_at
returns c = rw c.fails_now.ensures
