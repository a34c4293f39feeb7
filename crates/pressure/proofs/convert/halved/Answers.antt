use mir.Syntax.{w16}
use mir.ValLaws.{to_z-of_z}
use lib.Ieee.{of_bits, of_int}
use Rattle.pressure.specs.Convert.{halved_of}
use Rattle.pressure.proofs.convert.halved.Goals as goal

pub returns : goal.returns
unfolding halved_of of_bits of_int
returns c = rw (to_z-of_z w16 c.args.external c.ranges.external)
