use Rattle.wire.proofs.Digits.{hex, digit_stands}
use Rattle.wire.proofs.text.digit.Goals as goal

pub returns : goal.returns
unfolding hex
returns c = digit_stands c.args.x
