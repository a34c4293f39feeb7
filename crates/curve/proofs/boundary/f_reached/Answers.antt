use Rattle.curve.specs.Boundary.{is_reached_f}
use Rattle.curve.proofs.boundary.f_reached.Goals as goal

pub returns : goal.returns
unfolding is_reached_f
returns c =
    let line = c.of_f-line.ensures in
    rw (c.holds.ensures, c.target_of.ensures, c.is_above.ensures, line.0, line.1, line.2, line.3)
