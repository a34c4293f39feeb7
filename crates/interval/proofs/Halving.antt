-- The permitted speed. Assumes nothing.
use Prim.Native.Nat.{ℕ, ◌*◌, ◌≤◌, zero-le, min}
use mathlib.Core.Path.{◌≡◌}
use mathlib.Core.Bool.{Bool, false}
use native.Mathlib.Nat.{le_refl, mul-le-mul_left}
use native.Mathlib.Omega.{arith}
use borrow.Author.Tests.{le-ltb}
use Rattle.curve.specs.Boundary.{is_above, is_reached_at_kmh}
use Rattle.interval.specs.Permitted.{permitted_of}
use Rattle.interval.specs.Claims.{PermittedIsNotHigher, PermittedIsLargest, PermittedIsNotBelowFloor}
use Rattle.curve.specs.declared.Curve.{Curve}
use Rattle.curve.proofs.Stricter.{same, stays_reached_at_kmh}
use Rattle.curve.proofs.Largest.{Monotone, largest, failing_within, largest_below, largest_implied}

-- at or under the floor no boundary is reached
kmh_floor : (curve : Curve) (level k T : ℕ) → k ≤ curve.speed → is_reached_at_kmh curve level k T ≡ false
unfolding is_reached_at_kmh is_above
kmh_floor curve level k T h = rw (le-ltb (250 * curve.speed) (250 * k) (mul-le-mul_left 250 h))

pub kmh_zero : (curve : Curve) (level T : ℕ) → is_reached_at_kmh curve level 0 T ≡ false
kmh_zero curve level T = kmh_floor curve level 0 T zero-le

pub kmh_monotone : (curve : Curve) (level T : ℕ) → Monotone (λ k. is_reached_at_kmh curve level k T)
kmh_monotone curve level T i j h = stays_reached_at_kmh curve curve level level i j T T (same curve) (le_refl level) h (le_refl T)

pub permitted_is_not_higher : PermittedIsNotHigher
unfolding permitted_of
permitted_is_not_higher curve curve' level level' T T' stricter hl ht =
    largest_implied (λ k. is_reached_at_kmh curve level k T) (λ k. is_reached_at_kmh curve' level' k T')
    (λ k. stays_reached_at_kmh curve curve' level level' k k T T' stricter hl (le_refl k) ht) 300

pub permitted_is_largest : PermittedIsLargest
unfolding permitted_of
permitted_is_largest curve level T =
    let test : ℕ → Bool = λ k. is_reached_at_kmh curve level k T in
    ((largest test 300).within, largest_below test (kmh_monotone curve level T) (kmh_zero curve level T) 300, (largest test 300).passes)

pub permitted_is_not_below_floor : PermittedIsNotBelowFloor
unfolding permitted_of
permitted_is_not_below_floor curve level T =
    let k = min 300 curve.speed in
    failing_within (λ k. is_reached_at_kmh curve level k T) 300 k (omega arith) (kmh_floor curve level k T (omega arith))
