use mathlib.Core.Path.{refl}
use lib.Ieee.{of_bits, of_int}
use Rattle.pressure.specs.Phases.{is_normal}
use Rattle.pressure.proofs.phases.is_normal.Goals as goal

pub returns : goal.returns
unfolding is_normal of_bits of_int
returns c = refl
