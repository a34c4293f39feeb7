-- By the law for every width, at 8 bits.
use mir.Syntax.{w8}
use Rattle.wire.proofs.Values.{read_back}
use Rattle.wire.proofs.numbers.signed8.Goals as goal

pub returns : goal.returns
returns c = read_back w8 c.args.byte c.ranges.byte c.cast_signed.ensures
