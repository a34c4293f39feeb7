-- What stricter figures keep: boundaries reached, intervals, braking. Assumes nothing.
use Prim.Native.Nat.{ℕ, ◌-◌, ◌*◌, ◌≤◌, ◌<◌, zero-le}
use mathlib.Core.Path.{◌≡◌, refl, sym, ◌∙◌, ap₂}
use mathlib.Core.Bool.{Bool, true, false, ◌&&◌, and-eq-true_iff}
use native.Mathlib.Nat.{le_refl, le_of_lt, lt_of_le_of_lt, sub-zero, mul-zero, mul-le-mul, mul-le-mul_left}
use native.Mathlib.Omega.{arith}
use lib.Dec.{ltb, lit≤}
use borrow.Author.Tests.{ltb-true, lt-ltb}
use Rattle.curve.specs.Deceleration.{deceleration_of, on_gradient}
use Rattle.curve.specs.Boundary.{target_speed, target_of, is_above, line_for, is_reached, is_reached_f, is_reached_at_kmh}
use Rattle.curve.specs.Claims.{Stricter, StaysReached, FStaysReached, StaysReachedAtKmh}
use Rattle.curve.specs.Claims.{OneRule, FWithoutMarginIsE, LongerLeadIsReached, FImpliesE}
use Rattle.curve.specs.declared.Kind.{Kind}
use Rattle.curve.specs.declared.Kind.TheVariants.{SpeedTarget, ExpectStop}
use Rattle.curve.specs.declared.Direction.{Direction}
use Rattle.curve.specs.declared.Direction.TheVariants.{Up, Down}
use Rattle.curve.specs.declared.Curve.{Curve}
use Rattle.curve.proofs.Line.{line_times, line_kept}

-- ---- the figures of one curve

level_kept : (direction : Direction) (level level' size : ℕ) → level' ≤ level → on_gradient level' direction size ≤ on_gradient level direction size
level_kept Up level level' size h = omega arith
level_kept Down level level' size h = omega arith

target_kept : (kind : Kind) (speed speed' : ℕ) → speed' ≤ speed → target_speed kind speed' ≤ target_speed kind speed
target_kept SpeedTarget speed speed' h = omega arith
target_kept ExpectStop speed speed' h = zero-le

target_below_floor : (kind : Kind) (speed : ℕ) → target_speed kind speed ≤ 250 * speed
target_below_floor SpeedTarget speed = le_refl _
target_below_floor ExpectStop speed = zero-le

-- two tests of which both pass, and a test that an earlier one makes idle
pub both : (s t : Bool) → s && t ≡ true → (s ≡ true) × (t ≡ true)
both s t = (and-eq-true_iff s t).0

idle : (s t r : Bool) → (s ≡ true → t ≡ true) → s && t && r ≡ s && r
idle true t r h = rw (h refl)
idle false t r h = refl

-- the target is under a speed that is above the floor
pub above_target : (curve : Curve) (u : ℕ) → is_above u curve ≡ true → target_of curve < u
unfolding is_above target_of
above_target curve u e = lt_of_le_of_lt (target_below_floor curve.kind curve.speed) (ltb-true (250 * curve.speed) u e)

-- the rule at a speed u, in any unit: `share` times the squares, `parts` times the ground
abbrev is_reached_by : ℕ → ℕ → Curve → ℕ → ℕ → ℕ → Bool
is_reached_by share parts curve level u lead = is_above u curve && line_for curve level share u parts lead

-- ---- one curve and a stricter one

module _ {curve curve' : Curve} (stricter : Stricter curve curve') where
  above_kept : (u u' : ℕ) → u ≤ u' → is_above u curve ≡ true → is_above u' curve' ≡ true
  unfolding is_above
  above_kept u u' h e = lt-ltb (250 * curve'.speed) u' (omega (arith, ltb-true (250 * curve.speed) u e, stricter.speed))

  decelerates_less : (level level' : ℕ) → level' ≤ level → deceleration_of level' curve'.gradient ≤ deceleration_of level curve.gradient
  unfolding deceleration_of
  decelerates_less level level' h =
      rw (stricter.gradient level') (level_kept curve.gradient.direction level level' curve.gradient.size h)

  target_no_higher : target_of curve' ≤ target_of curve
  unfolding target_of
  target_no_higher = rw stricter.kind (target_kept curve.kind curve.speed curve'.speed stricter.speed)

  module _ (share parts : ℕ) {u u' level level' lead lead' : ℕ} (hu : u ≤ u') (hl : level' ≤ level) (ht : lead ≤ lead') where
    pub line_stricter : target_of curve' ≤ u' → line_for curve level share u parts lead ≡ true → line_for curve' level' share u' parts lead' ≡ true
    unfolding line_for
    line_stricter floor =
        line_kept share hu target_no_higher floor (decelerates_less level level' hl) (mul-le-mul_left parts stricter.distance) ht

    reached_stricter : is_reached_by share parts curve level u lead ≡ true → is_reached_by share parts curve' level' u' lead' ≡ true
    reached_stricter e =
        let (above, reached) = both (is_above u curve) _ e in
        let above' = above_kept u u' hu above in
        ap₂ ◌&&◌ above' (line_stricter (le_of_lt (above_target curve' u' above')) reached)

pub stays_reached : StaysReached
unfolding is_reached
stays_reached curve curve' level level' v v' T T' stricter hl hv ht =
    reached_stricter stricter 50 10 (mul-le-mul_left 9 hv) hl (mul-le-mul hv ht)

pub stays_reached_at_kmh : StaysReachedAtKmh
unfolding is_reached_at_kmh
stays_reached_at_kmh curve curve' level level' k k' T T' stricter hl hk ht =
    reached_stricter stricter 450 90 (mul-le-mul_left 250 hk) hl (mul-le-mul (mul-le-mul_left 250 hk) ht)

pub f_stays_reached : FStaysReached
unfolding is_reached_f
f_stays_reached curve curve' level level' margin margin' v v' stricter hl hm hv e =
    let u = 9 * v - 250 * margin in
    let u' = 9 * v' - 250 * margin' in
    let hu : u ≤ u' = omega arith in
    let (p, reached) = both (is_above (9 * v) curve && ltb (target_of curve) u) _ e in
    let (above, over) = both (is_above (9 * v) curve) (ltb (target_of curve) u) p in
    let over' : target_of curve' < u' = omega (arith, ltb-true (target_of curve) u over, target_no_higher stricter) in
    ap₂ ◌&&◌
    (ap₂ ◌&&◌ (above_kept stricter (9 * v) (9 * v') (mul-le-mul_left 9 hv) above) (lt-ltb (target_of curve') u' over'))
    (line_stricter stricter 50 10 hu hl zero-le (le_of_lt over') reached)

-- ---- one rule

pub one_rule : OneRule
unfolding is_reached_at_kmh is_reached line_for
one_rule curve level v k T e =
    let b = deceleration_of level curve.gradient in
    let distance : 90 * curve.distance ≡ 9 * (10 * curve.distance) = omega arith in
    let lead : 9 * v * T ≡ 9 * (v * T) = omega arith in
    rw (← e, distance, lead, line_times 9 50 (9 * v) (target_of curve) b (10 * curve.distance) (v * T) (lit≤ tt))

pub f_without_margin_is_e : FWithoutMarginIsE
unfolding is_reached_f is_reached
f_without_margin_is_e curve level v =
    rw (sub-zero, mul-zero) (idle (is_above (9 * v) curve) (ltb (target_of curve) (9 * v)) _ over)
  where
    over : is_above (9 * v) curve ≡ true → ltb (target_of curve) (9 * v) ≡ true
    over e = lt-ltb (target_of curve) (9 * v) (above_target curve (9 * v) e)

-- ---- one curve

-- a curve is as strict as itself
pub same : (curve : Curve) → Stricter curve curve
same curve = record { kind = refl; gradient = λ level. refl; distance = le_refl _; speed = le_refl _ }

pub longer_lead_is_reached : LongerLeadIsReached
longer_lead_is_reached curve level v T T' = stays_reached curve curve level level v v T T' (same curve) (le_refl level) (le_refl v)

pub f_implies_e : FImpliesE
f_implies_e curve level margin v e =
    sym (f_without_margin_is_e curve level v)
    ∙ f_stays_reached curve curve level level margin 0 v v (same curve) (le_refl level) zero-le (le_refl v) e
