use Prim.Native.Nat.{◌*◌}
use mathlib.Core.Path.{sym, ◌∙◌}
use Rattle.curve.specs.Boundary.{is_above, line_for, is_reached}
use Rattle.curve.specs.Ground.{reach_of}
use Rattle.curve.proofs.Stricter.{above_target}
use Rattle.curve.proofs.Reaching.{line_asked}
use Rattle.curve.proofs.boundary.reach_of.Goals as goal

pub reach-requires : goal.reach-requires
reach-requires c =
    let line = c.at-line.ensures in
    λ asked. rw (line.0, line.2) (above_target c.args.curve _ (rw line.2 at (sym c.is_above.ensures ∙ asked)))

pub returns : goal.returns
unfolding reach_of is_reached is_above
returns c =
    let a = c.args in
    let line = c.at-line.ensures in
    let tells = rw (c.is_above.ensures, line.0, line.1, line.2, line.3) at c.reach.ensures in
    line_asked (λ x. line_for x a.level 50 (9 * a.v) 10 (a.v * a.lead)) a.curve (is_above (9 * a.v) a.curve) tells
