-- How far to a change, by a division: what a closed figure is computed by. Assumes nothing.
use Prim.Native.Nat.{ℕ, ◌+◌, ◌-◌, ◌*◌, ◌/◌, ◌<◌}
use mathlib.Core.Path.{◌≡◌, refl, ◌∙◌}
use mathlib.Core.Bool.{Bool, true, false, cond, ◌&&◌}
use lib.Dec.{ltb}
use borrow.Author.Tests.{ltb-true}
use Rattle.curve.specs.Deceleration.{deceleration_of}
use Rattle.curve.specs.Boundary.{target_of, is_above, line_for, is_reached, is_reached_f}
use Rattle.interval.specs.Intervals.{interval_of}
use Rattle.curve.specs.Ground.{moved_by, never, most_before, reach_of, reach_of_f, left_of}
use Rattle.interval.specs.Changes.{to_change}
use Rattle.curve.specs.declared.Curve.{Curve}
use Rattle.curve.specs.declared.Braking.{Braking}
use Rattle.curve.specs.declared.Interval.{Interval}
use Rattle.curve.specs.declared.Interval.TheVariants.{A, Bf, B, C, D, E, F}
use Rattle.curve.proofs.Stricter.{both, above_target}
use Rattle.curve.proofs.Ground.{holds_on, left_none, ground_left, left_is}
use Rattle.curve.proofs.Reaching.{left_is_told, left_to_f_is_told}
use Rattle.interval.proofs.Changes.{lead_after, change_left}

-- ---- the line

module _ (curve : Curve) (level u lead : ℕ) where
  abbrev pub line_left : ℕ
  line_left =
      cond (line_for curve level 50 u 10 lead) 0
      (curve.distance - 1
      - (50 * (u * u - target_of curve * target_of curve) + 81 * deceleration_of level curve.gradient * lead)
      / (810 * deceleration_of level curve.gradient))

  abbrev told : ℕ
  told = most_before (λ n. line_for (moved_by curve n) level 50 u 10 lead) curve.distance

  line_left_lem : target_of curve < u → told ≡ line_left
  line_left_lem above = by (line_for curve level 50 u 10 lead) refl
    where
      by : (t : Bool) → line_for curve level 50 u 10 lead ≡ t → told ≡ line_left
      by true e = rw e (left_none (λ x. line_for x level 50 u 10 lead) curve (holds_on curve level u lead above) e)
      by false e = rw e (left_is curve level u lead above e ∙ ground_left curve level u lead above e)

  -- asked only where a test passes
  asked_left : (test : Bool) → (test ≡ true → target_of curve < u)
      → most_before (λ n. test && line_for (moved_by curve n) level 50 u 10 lead) curve.distance ≡ cond test line_left never
  unfolding most_before
  asked_left true h = line_left_lem (h refl)
  asked_left false h = refl

-- ---- a boundary

abbrev pub lead_left : Curve → ℕ → ℕ → ℕ → ℕ
lead_left curve level v T = cond (is_above (9 * v) curve) (line_left curve level (9 * v) (v * T)) never

lead_left_lem : (curve : Curve) (level v T : ℕ) → left_of (reach_of curve level v T) ≡ lead_left curve level v T
unfolding is_reached is_above
lead_left_lem curve level v T = left_is_told curve level v T ∙ asked_left curve level (9 * v) (v * T) (is_above (9 * v) curve) (above_target curve (9 * v))

abbrev pub f_left : Curve → ℕ → ℕ → ℕ → ℕ
f_left curve level margin v =
    cond (is_above (9 * v) curve && ltb (target_of curve) (9 * v - 250 * margin)) (line_left curve level (9 * v - 250 * margin) 0) never

f_left_lem : (curve : Curve) (level margin v : ℕ) → left_of (reach_of_f curve level margin v) ≡ f_left curve level margin v
unfolding is_reached_f is_above target_of
f_left_lem curve level margin v =
    let u = 9 * v - 250 * margin in
    let over = ltb (target_of curve) u in
    left_to_f_is_told curve level margin v
    ∙ asked_left curve level u 0 (is_above (9 * v) curve && over)
    (λ e. ltb-true (target_of curve) u (both (is_above (9 * v) curve) over e).1)

-- ---- a curve in an interval

module _ (curve : Curve) (braking : Braking) (v : ℕ) where
  abbrev lead_at : Interval → ℕ
  lead_at i = lead_left curve braking.level v (lead_after i braking.leads)

  abbrev pub change_from : Interval → ℕ
  change_from A = lead_at A
  change_from Bf = lead_at Bf
  change_from B = lead_at B
  change_from C = lead_at C
  change_from D = lead_at D
  change_from E = f_left curve braking.level braking.margin v
  change_from F = never

  change_from_lem : (i : Interval) → interval_of curve braking v ≡ i → to_change curve braking v ≡ change_from i
  change_from_lem A e = change_left curve braking v A e ∙ lead_left_lem curve braking.level v (lead_after A braking.leads)
  change_from_lem Bf e = change_left curve braking v Bf e ∙ lead_left_lem curve braking.level v (lead_after Bf braking.leads)
  change_from_lem B e = change_left curve braking v B e ∙ lead_left_lem curve braking.level v (lead_after B braking.leads)
  change_from_lem C e = change_left curve braking v C e ∙ lead_left_lem curve braking.level v (lead_after C braking.leads)
  change_from_lem D e = change_left curve braking v D e ∙ lead_left_lem curve braking.level v (lead_after D braking.leads)
  change_from_lem E e = change_left curve braking v E e ∙ f_left_lem curve braking.level braking.margin v
  change_from_lem F e = change_left curve braking v F e

  pub change_divided : to_change curve braking v ≡ change_from (interval_of curve braking v)
  change_divided = change_from_lem (interval_of curve braking v) refl
