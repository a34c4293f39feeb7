use Rattle.rules.specs.Operands.{record_of}
use Rattle.encoding.proofs.fields.record_of.Goals as goal

pub returns : goal.returns
unfolding record_of
returns c = rw (c.category_of.ensures, c.byte_at.ensures, c.curve_from.ensures)
