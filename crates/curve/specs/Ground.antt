-- The ground left to a curve (01, "Curves"), and to a boundary (02, F-1).
use Rattle.std.specs.Prelude.{ℕ, zero, suc, ◌-◌, Bool, cond, Option, None, Some, unwrap_or}
use Rattle.curve.specs.Boundary.{is_reached, is_reached_f}
use Rattle.curve.specs.declared.Curve.{Curve}

-- "d falls by the ground moved, never below 0"
abbrev pub moved_by : Curve → ℕ → Curve
moved_by curve moved = record {
  held = curve.held;
  id = curve.id;
  kind = curve.kind;
  distance = curve.distance - moved;
  speed = curve.speed;
  gradient = curve.gradient;
  past = curve.past;
}

-- the largest number up to n, down to 0, at which a test fails
unfoldable pub largest_failing : (ℕ → Bool) → ℕ → ℕ
largest_failing test zero = 0
largest_failing test (suc n) = cond (test (suc n)) (largest_failing test n) (suc n)

-- "FFFFFFFF (hexadecimal)"
abbrev pub never : ℕ
never = 0xFFFFFFFF

-- the most whole centimetres up to the distance with no change, where a test tells of each number of them whether it makes one. "If
-- nothing changes down to distance 0, it tells FFFFFFFF"
unfoldable pub most_before : (ℕ → Bool) → ℕ → ℕ
most_before test distance = cond (test distance) (largest_failing test distance) never

-- "The boundary rule shall tell, besides reached or not, the most whole centimetres the train can still cover at its present speed":
-- here, with the boundary not reached; `None` where it is, which `left_of` makes 0
unfoldable pub reach_of : Curve → ℕ → ℕ → ℕ → Option ℕ
reach_of curve level v T =
    cond (is_reached curve level v T) None (Some (most_before (λ n. is_reached (moved_by curve n) level v T) curve.distance))

-- F's
unfoldable pub reach_of_f : Curve → ℕ → ℕ → ℕ → Option ℕ
reach_of_f curve level margin v =
    cond (is_reached_f curve level margin v) None (Some (most_before (λ n. is_reached_f (moved_by curve n) level margin v) curve.distance))

-- the centimetres of it
abbrev pub left_of : Option ℕ → ℕ
left_of reach = unwrap_or reach 0
