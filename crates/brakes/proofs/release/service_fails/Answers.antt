use Rattle.rules.specs.Releases.{service_fails}
use Rattle.brakes.proofs.release.service_fails.Goals as goal

pub returns : goal.returns
unfolding service_fails
returns c = rw (c.fails_at.ensures, c.any_stands.ensures)
