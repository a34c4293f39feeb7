use Rattle.rules.specs.Table.{left_causes}
use Rattle.brakes.proofs.causes.left_causes.Goals as goal

pub returns : goal.returns
unfolding left_causes
returns c = rw (c.without.ensures, c.dropped.ensures)
