use Rattle.rules.specs.Releases.{since_at}
use Rattle.brakes.proofs.release.since_at.Goals as goal

pub returns : goal.returns
unfolding since_at
returns c =
    rw (c.held_on.ensures, c.is_braked.ensures, c.is_halt-halted.ensures)
