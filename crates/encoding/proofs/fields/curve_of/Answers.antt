use Rattle.rules.specs.Operands.{curve_of}
use Rattle.encoding.proofs.fields.curve_of.Goals as goal

pub returns : goal.returns
unfolding curve_of
returns c = rw (c.curve_from.ensures, c.kind_of.ensures, c.byte_at.ensures)
