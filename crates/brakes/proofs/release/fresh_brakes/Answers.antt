use Rattle.rules.specs.Releases.{fresh_brakes}
use Rattle.brakes.proofs.release.fresh_brakes.Goals as goal

pub returns : goal.returns
unfolding fresh_brakes
returns c = rw c.no_causes.ensures
