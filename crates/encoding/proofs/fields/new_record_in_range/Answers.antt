use Rattle.rules.specs.Operands.{new_record_in_range}
use Rattle.encoding.proofs.fields.new_record_in_range.Goals as goal

pub returns : goal.returns
unfolding new_record_in_range
returns c = rw (c.curve_in_range.ensures, c.byte_at.ensures, c.record_of.ensures)
