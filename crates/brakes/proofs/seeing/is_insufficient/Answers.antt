use Rattle.rules.specs.Odometer.{is_insufficient}
use Rattle.brakes.proofs.seeing.is_insufficient.Goals as goal

pub returns : goal.returns
unfolding is_insufficient
returns c = rw (c.drop_of.ensures, c.from.ensures)
