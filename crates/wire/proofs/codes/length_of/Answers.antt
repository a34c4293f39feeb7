use Rattle.wire.specs.Codes.{commands, length_of}
use Rattle.wire.proofs.codes.length_of.Goals as goal

pub returns : goal.returns
unfolding commands length_of
returns c = c.length_in.ensures
