use mathlib.Core.Path.{refl}
use lib.Ieee.{of_bits, of_int}
use Rattle.pressure.specs.Report.{fresh_feedback}
use Rattle.pressure.proofs.fresh.Goals as goal

pub returns : goal.returns
unfolding fresh_feedback of_bits of_int
returns c = refl
