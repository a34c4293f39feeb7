use Rattle.curve.specs.Boundary.{is_reached_at_kmh}
use Rattle.curve.proofs.boundary.reached_at_kmh.Goals as goal

pub returns : goal.returns
unfolding is_reached_at_kmh
returns c =
    let line = c.at_kmh-line.ensures in
    rw (c.holds.ensures, c.is_above.ensures, line.0, line.1, line.2, line.3)
