use Prim.Native.Nat.{◌≤◌, ◌<◌, ◌-◌}
use mathlib.Core.Path.{◌≡◌}
use mathlib.Core.Bool.{false}
use Rattle.curve.specs.Boundary.{is_reached_at_kmh}
use Rattle.curve.specs.Ground.{largest_failing}
use Rattle.interval.specs.Permitted.{permitted_of}
use Rattle.interval.proofs.permitted.permitted_of.Given as goal

abbrev pub invariant-loop-high : goal.invariant-loop-high
invariant-loop-high l = (l.low ≤ l.middle)
    × (l.middle < l.high)
    × (l.high - l.middle < l.initial.high - l.low)
    × (l.high ≤ l.initial.high)
    × (l.initial.high ≤ 301)
    × (is_reached_at_kmh l.curve l.level l.low l.lead ≡ false)
    × (largest_failing (λ k. is_reached_at_kmh l.curve l.level k l.lead) (l.high - 1) ≡ permitted_of l.curve l.level l.lead)

abbrev pub decreases-loop-high : goal.decreases-loop-high
decreases-loop-high l = l.high

abbrev pub invariant-loop-low : goal.invariant-loop-low
invariant-loop-low l = (l.low < l.high)
    × (l.high ≤ 301)
    × (is_reached_at_kmh l.curve l.level l.low l.lead ≡ false)
    × (largest_failing (λ k. is_reached_at_kmh l.curve l.level k l.lead) (l.high - 1) ≡ permitted_of l.curve l.level l.lead)

abbrev pub decreases-loop-low : goal.decreases-loop-low
decreases-loop-low l = l.high - l.low
