use lib.Ieee.{of_bits, of_int}
use Rattle.rules.specs.BrakeTest.{has_dropped}
use Rattle.brake_test.proofs.has_dropped.Goals as goal

pub returns : goal.returns
unfolding has_dropped of_bits of_int
returns c = rw c.drop_of-drop.ensures
