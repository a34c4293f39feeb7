use lib.Ieee.{of_bits, of_int}
use Rattle.pressure.specs.Convert.{is_high, sensor_fault}
use Rattle.pressure.proofs.convert.sensor_fault.Goals as goal

pub returns : goal.returns
unfolding sensor_fault is_high of_bits of_int
returns c = rw c.is_low.ensures
