use mathlib.Core.Path.{sym}
use native.Mathlib.Omega.{arith}
use Rattle.curve.proofs.Widths.{deceleration_within, square_within, led_within}
use Rattle.curve.proofs.Ground.{b_above, reaches_less, ground_left}
use Rattle.curve.proofs.rule.Line.ground_left.Goals as goal

pub overflow_mul-reaches-5 : goal.overflow_mul-reaches-5
overflow_mul-reaches-5 c =
    let line = c.args.self in
    rw c.deceleration_of-b.ensures
    (omega (arith, led_within _ line.lead (deceleration_within line.level line.curve.gradient (omega arith) (omega arith)) line.taken))

pub overflow_add-reaches : goal.overflow_add-reaches
overflow_add-reaches c =
    let line = c.args.self in
    rw c.deceleration_of-b.ensures
    (omega (
      arith,
      square_within line.u line.speed,
      led_within _ line.lead (deceleration_within line.level line.curve.gradient (omega arith) (omega arith)) line.taken,
    ))

pub nonzero_div-reaches : goal.nonzero_div-reaches
nonzero_div-reaches c =
    let line = c.args.self in
    rw c.deceleration_of-b.ensures (omega (arith, b_above line.curve line.level line.u line.lead c.requires.0 c.requires.1))

pub overflow_sub-result : goal.overflow_sub-result
overflow_sub-result c =
    let line = c.args.self in
    omega (arith, reaches_less line.curve line.level line.u line.lead c.requires.0 c.requires.1)

pub overflow_cast-result : goal.overflow_cast-result
overflow_cast-result c =
    let line = c.args.self in
    rw (c.target_of-w.ensures, c.deceleration_of-b.ensures)
    (omega (arith, reaches_less line.curve line.level line.u line.lead c.requires.0 c.requires.1))

pub overflow_sub-result-2 : goal.overflow_sub-result-2
overflow_sub-result-2 c =
    let line = c.args.self in
    rw (c.target_of-w.ensures, c.deceleration_of-b.ensures)
    (omega (arith, reaches_less line.curve line.level line.u line.lead c.requires.0 c.requires.1))

pub returns : goal.returns
returns c =
    let line = c.args.self in
    rw (c.target_of-w.ensures, c.deceleration_of-b.ensures)
    (sym (ground_left line.curve line.level line.u line.lead c.requires.0 c.requires.1))
