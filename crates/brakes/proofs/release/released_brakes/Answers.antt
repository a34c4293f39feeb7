use Rattle.rules.specs.Releases.{released_brakes}
use Rattle.brakes.proofs.release.released_brakes.Goals as goal

pub returns : goal.returns
unfolding released_brakes
returns c = rw (c.left_brakes.ensures, c.left_causes.ensures)
