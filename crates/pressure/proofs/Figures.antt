-- The marked figures of 01 that concern pressure hold, by computation.
use mathlib.Core.Path.{refl}
use lib.Ieee.{of_int, add, sub, mul, div, lt, le, eq}
use Rattle.pressure.specs.Convert.{halved_of, is_high, limited_of, counted_of, cylinder_of, converted_of}
use Rattle.pressure.specs.Reference.{is_sinking, changed_reference}
use Rattle.pressure.specs.Figures.{pressure_figures, all_true, PressureFiguresHold}

pub pressure_figures_hold : PressureFiguresHold
unfolding all_true pressure_figures halved_of is_high limited_of counted_of cylinder_of converted_of is_sinking changed_reference of_int add sub mul div lt le eq
pressure_figures_hold = refl
