use mathlib.Core.Path.{refl}
use lib.Ieee.{of_bits, of_int}
use Rattle.pressure.specs.Reference.{is_sinking}
use Rattle.pressure.proofs.reference.is_sinking.Goals as goal

pub returns : goal.returns
unfolding is_sinking of_bits of_int
returns c = refl
