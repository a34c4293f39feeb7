use lib.Ieee.{of_bits, of_int}
use Rattle.rules.specs.Checks.{is_drop}
use Rattle.brakes.proofs.check.is_drop.Goals as goal

pub returns : goal.returns
unfolding is_drop of_bits of_int
returns c = rw c.drop_of.ensures
