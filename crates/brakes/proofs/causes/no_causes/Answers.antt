use Rattle.rules.specs.Table.{no_causes}
use Rattle.brakes.proofs.causes.no_causes.Goals as goal

pub returns : goal.returns
unfolding no_causes
returns c = c.alike.ensures
