use lib.Ieee.{of_bits, of_int}
use Rattle.pressure.specs.Convert.{cylinder_of}
use Rattle.pressure.proofs.convert.cylinder.Goals as goal

pub returns : goal.returns
unfolding cylinder_of of_bits of_int
returns c = rw (c.limited.ensures, c.counted.ensures)
