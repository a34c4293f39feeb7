use Rattle.rules.specs.Releases.{noted_brakes}
use Rattle.brakes.proofs.release.noted_brakes.Goals as goal

pub returns : goal.returns
unfolding noted_brakes
returns c = rw (c.roll_at.ensures, c.since_at.ensures)
