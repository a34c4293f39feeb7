use native.Mathlib.Omega.{arith}
use Rattle.curve.proofs.Widths.{target_within}
use Rattle.curve.proofs.Sides.{square_below, squares_in, left_in, left_is}
use Rattle.curve.proofs.rule.Line.left_side.Goals as goal

pub overflow_cast-result-3 : goal.overflow_cast-result-3
overflow_cast-result-3 c =
    rw c.target_of-w.ensures (record { sfits = square_below _ (target_within c.args.self.curve (omega arith)) })

pub overflow_sub-result : goal.overflow_sub-result
overflow_sub-result c =
    let line = c.args.self in
    rw c.target_of-w.ensures (squares_in line.u _ line.speed (target_within line.curve (omega arith)))

pub overflow_mul-result-3 : goal.overflow_mul-result-3
overflow_mul-result-3 c =
    let line = c.args.self in
    rw c.target_of-w.ensures (left_in line.u _ line.speed (target_within line.curve (omega arith)) c.args.share c.requires)

pub returns : goal.returns
returns c =
    let line = c.args.self in
    rw c.target_of-w.ensures (left_is line.u _ line.speed (target_within line.curve (omega arith)) c.args.share c.requires)
