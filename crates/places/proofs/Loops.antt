-- What a read past the end of an array would give.
use mathlib.Core.Bool.{false}
use Rattle.curve.specs.declared.Kind.TheVariants.{SpeedTarget}
use Rattle.curve.specs.declared.Direction.TheVariants.{Up}
use Rattle.curve.specs.declared.Curve.{Curve}
use Rattle.curve.specs.declared.Interval.TheVariants.{A}
use Rattle.curve.specs.declared.Judged.{Judged}

abbrev pub no_curve : Curve
no_curve = record {
  held = false;
  id = 0;
  kind = SpeedTarget;
  distance = 0;
  speed = 0;
  gradient = record { direction = Up; size = 0 };
  past = false;
}

abbrev pub zero_judged : Judged
zero_judged = record { held = false; interval = A; permitted = 0; brakes = false }
