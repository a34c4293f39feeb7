use Rattle.rules.specs.Operands.{curve_in_range}
use Rattle.encoding.proofs.fields.curve_in_range.Goals as goal

pub returns : goal.returns
unfolding curve_in_range
returns c = rw c.speed_in_range.ensures
