-- The marked figures of 01 that concern curves hold, by computation.
use mathlib.Core.Path.{refl}
use Rattle.curve.specs.Deceleration.{deceleration_of}
use Rattle.curve.specs.Lead.{leads_of}
use Rattle.curve.specs.Boundary.{target_of, is_above, left_side, right_side, line, line_for, is_reached, is_reached_f}
use Rattle.interval.specs.Intervals.{interval_of}
use Rattle.interval.specs.Figures.{curve_figures, CurveFiguresHold}

pub curve_figures_hold : CurveFiguresHold
unfolding curve_figures leads_of interval_of is_reached is_reached_f is_above target_of deceleration_of left_side right_side line line_for
curve_figures_hold = refl
