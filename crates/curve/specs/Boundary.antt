-- The boundary rule (01, "Curves").
use Rattle.std.specs.Prelude.{ℕ, ◌-◌, ◌*◌, Bool, ◌&&◌, ltb, ℤ, pos, ◌-ℤ◌, ◌*ℤ◌}
use Rattle.std.specs.Int.Signed.{le_z}
use Rattle.curve.specs.Deceleration.{deceleration_of}
use Rattle.curve.specs.declared.Kind.{Kind}
use Rattle.curve.specs.declared.Kind.TheVariants.{SpeedTarget, ExpectStop}
use Rattle.curve.specs.declared.Curve.{Curve}

-- "w = 250×target (0 for Expect Stop)"
abbrev pub target_speed : Kind → ℕ → ℕ
target_speed SpeedTarget target = 250 * target
target_speed ExpectStop release = 0

unfoldable pub target_of : Curve → ℕ
target_of curve = target_speed curve.kind curve.speed

-- "v is above the floor", by "comparing 9×v with 250×k": "The floor is the target, or the release speed"
unfoldable pub is_above : ℕ → Curve → Bool
is_above u curve = ltb (250 * curve.speed) u

-- the left side, "50×(u² − w²)"
unfoldable pub left_side : ℕ → ℕ → ℕ → ℤ
left_side share u w = pos share *ℤ (pos (u * u) -ℤ pos (w * w))

-- the right side, "81×b×(10×d − v×T)": the ground d and what the lead takes of it, in one unit
unfoldable pub right_side : ℕ → ℕ → ℕ → ℤ
right_side b distance lead = pos (81 * b) *ℤ (pos distance -ℤ pos lead)

-- the line, "both sides taken as signed"
unfoldable pub line : ℕ → ℕ → ℕ → ℕ → ℕ → ℕ → Bool
line share u w b distance lead = le_z (right_side b distance lead) (left_side share u w)

-- the line for a curve at u, with `parts` of the ground's unit to a cm
unfoldable pub line_for : Curve → ℕ → ℕ → ℕ → ℕ → ℕ → Bool
line_for curve level share u parts lead =
    line share u (target_of curve) (deceleration_of level curve.gradient) (parts * curve.distance) lead

-- "A boundary with lead T is reached when v is above the floor and 50×(u² − w²) ≥ 81×b×(10×d − v×T)", "u = 9×v"
unfoldable pub is_reached : Curve → ℕ → ℕ → ℕ → Bool
is_reached curve level v T = is_above (9 * v) curve && line_for curve level 50 (9 * v) 10 (v * T)

-- "F is reached when v is above the floor, u' = u − 250×F margin exceeds w, and the line holds with u' for u and T = 0";
-- u' counts as 0 where it would be negative, and exceeds no w there
unfoldable pub is_reached_f : Curve → ℕ → ℕ → ℕ → Bool
is_reached_f curve level margin v =
    is_above (9 * v) curve
    && ltb (target_of curve) (9 * v - 250 * margin)
    && line_for curve level 50 (9 * v - 250 * margin) 10 0

-- the same at k km/h: "u = 250×k, v×T taken as 250×k×T/9, cross-multiplied", so that the line is taken 9 times
unfoldable pub is_reached_at_kmh : Curve → ℕ → ℕ → ℕ → Bool
is_reached_at_kmh curve level k T = is_above (250 * k) curve && line_for curve level 450 (250 * k) 90 (250 * k * T)
