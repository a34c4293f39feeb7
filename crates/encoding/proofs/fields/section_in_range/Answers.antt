use Rattle.rules.specs.Operands.{section_in_range}
use Rattle.encoding.proofs.fields.section_in_range.Goals as goal

pub returns : goal.returns
unfolding section_in_range
returns c = rw c.within.ensures
