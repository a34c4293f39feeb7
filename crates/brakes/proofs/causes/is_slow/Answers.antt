use Rattle.rules.specs.Table.{is_slow}
use Rattle.brakes.proofs.causes.is_slow.Goals as goal

pub returns : goal.returns
unfolding is_slow
returns c = rw (c.from.ensures, c.from-2.ensures)
