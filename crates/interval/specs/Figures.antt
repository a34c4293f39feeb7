-- The marked figures of 01 on curves ("Figures to check"), each as a test. They stand here for the project's one table.
use Rattle.std.specs.Prelude.{ℕ, ◌≡◌, Bool, true, false, ◌&&◌, eqb}
use mathlib.Core.List.{List, [], ◌∷◌, foldr}
use Rattle.curve.specs.Lead.{leads_of}
use Rattle.interval.specs.Intervals.{interval_of, rank_of}
use Rattle.curve.specs.declared.Kind.{Kind}
use Rattle.curve.specs.declared.Kind.TheVariants.{SpeedTarget, ExpectStop}
use Rattle.curve.specs.declared.Direction.TheVariants.{Up}
use Rattle.curve.specs.declared.Curve.{Curve}
use Rattle.curve.specs.declared.Braking.{Braking}
use Rattle.curve.specs.declared.Interval.{Interval}
use Rattle.curve.specs.declared.Interval.TheVariants.{A, C, D, E, F}

-- "b 700 .. T_B 30", "F margin 10", and the gaps 20, 20 and 30 of 01's example start
abbrev train : Braking
train = record { level = 700; leads = leads_of (record { brake = 30; c = 20; permitted = 20; bf = 30; extra = 0 }); margin = 10 }

-- a curve to 40 km/h on level track
abbrev curve_to40 : Kind → ℕ → Curve
curve_to40 kind distance = record {
  held = true;
  id = 1;
  kind = kind;
  distance = distance;
  speed = 40;
  gradient = record { direction = Up; size = 0 };
  past = false;
}

-- a curve is in this interval
abbrev is_in : Interval → Interval → Bool
is_in interval computed = eqb (rank_of interval) (rank_of computed)

unfoldable pub curve_figures : List Bool
curve_figures =
    -- "2,500 cm/s, target 40 ..: E at 35,824 cm, not at 35,825", where it is still D
    is_in E (interval_of (curve_to40 SpeedTarget 35824) train 2500)
    ∷ is_in D (interval_of (curve_to40 SpeedTarget 35825) train 2500)
    -- "D at 43,324, not at 43,325", where it is still C
    ∷ is_in D (interval_of (curve_to40 SpeedTarget 43324) train 2500)
    ∷ is_in C (interval_of (curve_to40 SpeedTarget 43325) train 2500)
    -- "Release 40, d 0: 1,111 is A, 1,112 with F margin 10 is F"
    ∷ is_in A (interval_of (curve_to40 ExpectStop 0) train 1111)
    ∷ is_in F (interval_of (curve_to40 ExpectStop 0) train 1112)
    ∷ []

abbrev pub CurveFiguresHold : Type 0
CurveFiguresHold = foldr ◌&&◌ true curve_figures ≡ true
