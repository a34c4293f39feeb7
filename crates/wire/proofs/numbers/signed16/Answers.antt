-- By the law for every width, at 16 bits.
use mir.Syntax.{w16}
use Rattle.wire.proofs.Values.{read_back}
use Rattle.wire.proofs.numbers.signed16.Goals as goal

pub returns : goal.returns
returns c = read_back w16 c.args.x c.ranges.x c.cast_signed.ensures
