-- How large the figures of a curve can be, by the widths that they are held in. Assumes nothing.
use Prim.Native.Nat.{ℕ, ◌*◌, ◌≤◌}
use native.Mathlib.Nat.{le_trans, mul-le-mul, mul-le-mul_left}
use native.Mathlib.Omega.{arith}
use lib.Dec.{lit≤}
use Rattle.curve.specs.Deceleration.{on_gradient, deceleration_of}
use Rattle.curve.specs.Boundary.{target_speed, target_of}
use Rattle.curve.specs.declared.Kind.{Kind}
use Rattle.curve.specs.declared.Kind.TheVariants.{SpeedTarget, ExpectStop}
use Rattle.curve.specs.declared.Direction.{Direction}
use Rattle.curve.specs.declared.Direction.TheVariants.{Up, Down}
use Rattle.curve.specs.declared.Gradient.{Gradient}
use Rattle.curve.specs.declared.Curve.{Curve}

pub target_within : (curve : Curve) → curve.speed ≤ 65535 → target_of curve ≤ 16777215
unfolding target_of
target_within curve h = by curve.kind
  where
    by : (kind : Kind) → target_speed kind curve.speed ≤ 16777215
    by SpeedTarget = omega arith
    by ExpectStop = omega arith

pub deceleration_within : (level : ℕ) (gradient : Gradient) → level ≤ 65535 → gradient.size ≤ 255 → deceleration_of level gradient ≤ 67830
unfolding deceleration_of
deceleration_within level gradient h k = by gradient.direction
  where
    by : (direction : Direction) → on_gradient level direction gradient.size ≤ 67830
    by Up = omega arith
    by Down = omega arith

pub lead_within : (u lead : ℕ) → u ≤ 16777215 → lead ≤ 65535 → u * lead ≤ 1099511627776
lead_within u lead h k = le_trans (mul-le-mul h k) (lit≤ tt)

pub ground_within : (parts distance : ℕ) → parts ≤ 255 → distance ≤ 4294967295 → parts * distance ≤ 1099511627776
ground_within parts distance h k = le_trans (mul-le-mul h k) (lit≤ tt)

pub square_within : (u : ℕ) → u ≤ 16777215 → u * u ≤ 281474943156225
square_within u h = le_trans (mul-le-mul h h) (lit≤ tt)

pub led_within : (b lead : ℕ) → b ≤ 67830 → lead ≤ 1099511627776 → 81 * b * lead ≤ 6040969770675732480
led_within b lead h k = le_trans (mul-le-mul (mul-le-mul_left 81 h) k) (lit≤ tt)
