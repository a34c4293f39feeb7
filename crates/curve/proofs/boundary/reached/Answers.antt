use Rattle.curve.specs.Boundary.{is_reached}
use Rattle.curve.proofs.boundary.reached.Goals as goal

pub returns : goal.returns
unfolding is_reached
returns c =
    let line = c.at-line.ensures in
    rw (c.holds.ensures, c.is_above.ensures, line.0, line.1, line.2, line.3)
