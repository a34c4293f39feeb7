use Prim.Native.Nat.{◌*◌, ◌-◌}
use mathlib.Core.Bool.{◌&&◌}
use lib.Dec.{ltb}
use Rattle.curve.specs.Boundary.{target_of, is_above, line_for, is_reached_f}
use Rattle.curve.specs.Ground.{reach_of_f}
use Rattle.curve.proofs.Reaching.{line_asked}
use Rattle.curve.proofs.boundary.f_reach_of.Goals as goal

pub returns : goal.returns
unfolding reach_of_f is_reached_f is_above target_of
returns c =
    let a = c.args in
    let line = c.of_f-line.ensures in
    let u = 9 * a.v - 250 * a.margin in
    let tells = rw (c.is_above.ensures, c.target_of.ensures, line.0, line.1, line.2, line.3) at c.reach.ensures in
    line_asked (λ x. line_for x a.level 50 u 10 0) a.curve (is_above (9 * a.v) a.curve && ltb (target_of a.curve) u) tells
