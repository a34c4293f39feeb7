-- One curve at one report (01, "Curves", and "Causes and release": "A curve brakes ..").
use Rattle.std.specs.Prelude.{ℕ, ◌+◌, ◌*◌, Bool, ◌&&◌, ◌||◌, leb, ltb}
use Rattle.interval.specs.Intervals.{interval_of, rank_of}
use Rattle.interval.specs.Permitted.{permitted_of}
use Rattle.curve.specs.declared.Kind.{Kind}
use Rattle.curve.specs.declared.Kind.TheVariants.{SpeedTarget, ExpectStop}
use Rattle.curve.specs.declared.Curve.{Curve}
use Rattle.curve.specs.declared.Braking.{Braking}
use Rattle.curve.specs.declared.Interval.{Interval}
use Rattle.curve.specs.declared.Interval.TheVariants.{B, D}
use Rattle.curve.specs.declared.Judged.{Judged}

-- "v ≥ target+10 (kind 0) or v is above the release speed (kind 1)"
abbrev pub is_fast_for : Kind → ℕ → ℕ → Bool
is_fast_for SpeedTarget target v = leb (250 * (target + 10)) (9 * v)
is_fast_for ExpectStop release v = ltb (250 * release) (9 * v)

unfoldable pub is_fast : Curve → ℕ → Bool
is_fast curve v = is_fast_for curve.kind curve.speed v

-- "A curve brakes from D on, if .."
unfoldable pub brakes_at : Curve → Interval → ℕ → Bool
brakes_at curve interval v = leb (rank_of D) (rank_of interval) && is_fast curve v

-- what a curve says at v
unfoldable pub judged_of : Braking → ℕ → Curve → Judged
judged_of braking v curve = record {
  held = curve.held;
  interval = interval_of curve braking v;
  permitted = permitted_of curve braking.level braking.leads.permitted;
  brakes = brakes_at curve (interval_of curve braking v) v;
}

-- "A curve once in B or later": its past, noted in an interval
abbrev pub noted_at : Curve → Interval → Curve
noted_at curve interval = record {
  held = curve.held;
  id = curve.id;
  kind = curve.kind;
  distance = curve.distance;
  speed = curve.speed;
  gradient = curve.gradient;
  past = curve.past || leb (rank_of B) (rank_of interval);
}
