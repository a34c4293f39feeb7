-- The marked figures of 01 hold, by computation.
use mathlib.Core.Path.{refl}
use lib.Ieee.{eq}
use Rattle.pressure.specs.Figures.{pressure_figures}
use Rattle.interval.specs.Figures.{curve_figures}
use Rattle.cases.specs.Figures.{unit_at100, written_after, speed_figures, stop_figures, figures, FiguresHold}
use Rattle.rules.proofs.Computing.{computing}

pub figures_hold : FiguresHold
unfolding computing figures curve_figures speed_figures pressure_figures stop_figures written_after unit_at100 eq
figures_hold = refl
