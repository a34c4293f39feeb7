use Rattle.rules.specs.Operands.{odometer_in_range}
use Rattle.encoding.proofs.fields.odometer_in_range.Goals as goal

pub returns : goal.returns
unfolding odometer_in_range
returns c = rw (c.byte_at.ensures, c.be16-2.ensures, c.be16.ensures)
