use Rattle.rules.specs.Places.{any_of}
use Rattle.rules.specs.Table.{any_stands}
use Rattle.brakes.proofs.causes.would_drop.Goals as goal

pub returns : goal.returns
unfolding any_stands any_of
returns c = rw (c.any_stands.ensures, c.common.ensures, c.dropped.ensures)
