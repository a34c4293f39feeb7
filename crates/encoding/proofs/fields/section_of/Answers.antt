use Rattle.rules.specs.Operands.{section_of}
use Rattle.encoding.proofs.fields.section_of.Goals as goal

pub returns : goal.returns
unfolding section_of
returns c = rw (c.be16.ensures, c.byte_at.ensures)
