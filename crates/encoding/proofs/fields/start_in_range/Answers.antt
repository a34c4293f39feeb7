use Rattle.rules.specs.Operands.{start_in_range}
use Rattle.encoding.proofs.fields.start_in_range.Goals as goal

pub returns : goal.returns
unfolding start_in_range
returns c = rw (c.train_in_range.ensures, c.train_of.ensures, c.byte_at.ensures)
