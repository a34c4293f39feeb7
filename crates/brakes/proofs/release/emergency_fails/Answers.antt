use Rattle.rules.specs.Releases.{emergency_fails}
use Rattle.brakes.proofs.release.emergency_fails.Goals as goal

pub returns : goal.returns
unfolding emergency_fails
returns c = rw (c.fails_at.ensures, c.stands_with.ensures)
