use Rattle.rules.specs.Operands.{new_curve_in_range}
use Rattle.encoding.proofs.fields.new_curve_in_range.Goals as goal

pub returns : goal.returns
unfolding new_curve_in_range
returns c = rw (c.curve_in_range.ensures, c.curve_of.ensures, c.byte_at.ensures)
