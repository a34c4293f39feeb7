use Prim.Native.Nat.{◌*◌}
use native.Mathlib.Omega.{arith}
use mir.Syntax.{w64}
use mir.ValLaws.{to_z-of_z}
use Rattle.curve.specs.Boundary.{line, line_for}
use Rattle.curve.proofs.Sides.{left_side_in, right_side_in}
use Rattle.curve.proofs.Widths.{target_within, deceleration_within, ground_within}
use Rattle.curve.proofs.rule.Line.holds.Goals as goal

pub returns : goal.returns
unfolding line_for line
returns c =
    let at = c.args.self in
    let n = c.args.times in
    rw (
      c.right_side.ensures,
      c.left_side.ensures,
      to_z-of_z w64 _ (left_side_in at.u _ at.speed (target_within at.curve (omega arith)) (50 * n) (omega arith)),
      to_z-of_z w64 _
          (right_side_in _ at.lead (ground_within (10 * n) at.curve.distance (omega arith) (omega arith)) at.taken _
          (deceleration_within at.level at.curve.gradient (omega arith) (omega arith))),
    )
