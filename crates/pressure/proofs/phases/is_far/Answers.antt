use mathlib.Core.Path.{refl}
use lib.Ieee.{of_bits, of_int}
use Rattle.pressure.specs.Phases.{is_far}
use Rattle.pressure.proofs.phases.is_far.Goals as goal

pub returns : goal.returns
unfolding is_far of_bits of_int
returns c = refl
