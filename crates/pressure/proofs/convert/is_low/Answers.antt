use mathlib.Core.Path.{refl}
use lib.Ieee.{of_bits, of_int}
use Rattle.pressure.specs.Convert.{is_low}
use Rattle.pressure.proofs.convert.is_low.Goals as goal

pub returns : goal.returns
unfolding is_low of_bits of_int
returns c = refl
