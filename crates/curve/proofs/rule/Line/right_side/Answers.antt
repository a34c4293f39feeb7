use native.Mathlib.Omega.{arith}
use Rattle.curve.proofs.Widths.{deceleration_within, ground_within}
use Rattle.curve.proofs.Sides.{right_in, right_is}
use Rattle.curve.proofs.rule.Line.right_side.Goals as goal

pub overflow_mul-result-2 : goal.overflow_mul-result-2
overflow_mul-result-2 c =
    let line = c.args.self in
    rw c.deceleration_of-b.ensures
    (right_in _ line.lead (ground_within c.args.parts line.curve.distance (omega arith) (omega arith)) line.taken _
    (deceleration_within line.level line.curve.gradient (omega arith) (omega arith)))

pub returns : goal.returns
returns c =
    let line = c.args.self in
    rw c.deceleration_of-b.ensures
    (right_is _ line.lead (ground_within c.args.parts line.curve.distance (omega arith) (omega arith)) line.taken _
    (deceleration_within line.level line.curve.gradient (omega arith) (omega arith)))
