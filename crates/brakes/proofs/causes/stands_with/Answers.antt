use Rattle.rules.specs.Places.{any_of}
use Rattle.rules.specs.Table.{any_stands, stands_with}
use Rattle.brakes.proofs.causes.stands_with.Goals as goal

pub returns : goal.returns
unfolding any_stands stands_with any_of
returns c = rw (c.any_stands.ensures, c.common.ensures, c.of_strength.ensures)
