-- A place that holds no curve.
use Rattle.std.specs.Prelude.{false}
use Rattle.curve.specs.declared.Kind.{Kind}
use Rattle.curve.specs.declared.Direction.{Direction}
use Rattle.curve.specs.declared.Curve.{Curve}

abbrev pub free_curve : Curve
free_curve = record {
  held = false;
  id = 0;
  kind = Kind.SpeedTarget;
  distance = 0;
  speed = 0;
  gradient = record { direction = Direction.Up; size = 0 };
  past = false;
}
