use Rattle.rules.specs.Operands.{signal_in_range}
use Rattle.encoding.proofs.fields.signal_in_range.Goals as goal

pub returns : goal.returns
unfolding signal_in_range
returns c = rw (c.byte_at-2.ensures, c.byte_at.ensures)
