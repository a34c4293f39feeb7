-- How far the train can still run before a change (02, F-1).
use Rattle.std.specs.Prelude.{ℕ, Bool, not, eqb}
use Rattle.interval.specs.Intervals.{interval_of, rank_of}
use Rattle.curve.specs.Ground.{moved_by, most_before}
use Rattle.curve.specs.declared.Curve.{Curve}
use Rattle.curve.specs.declared.Braking.{Braking}

-- the computed interval after so many centimetres is another
unfoldable pub is_changed : Curve → Braking → ℕ → ℕ → Bool
is_changed curve braking v n = not (eqb (rank_of (interval_of (moved_by curve n) braking v)) (rank_of (interval_of curve braking v)))

-- "the most whole centimetres .. with no change of that curve's computed interval"
unfoldable pub to_change : Curve → Braking → ℕ → ℕ
to_change curve braking v = most_before (is_changed curve braking v) curve.distance
