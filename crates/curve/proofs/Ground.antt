-- The ground that is left to a line. Assumes nothing.
use Prim.Native.Nat.{ℕ, zero, suc, ◌+◌, ◌-◌, ◌*◌, ◌/◌, ◌≤◌, ◌<◌, zero-le}
use mathlib.Core.Path.{◌≡◌, refl, sym, ◌∙◌, ap, ap₂}
use mathlib.Core.Bool.{Bool, true, false, cond, false≢true}
use mathlib.Core.Logic.{inl, inr}
use native.Mathlib.Nat.{le_refl, le_of_lt, le_antisymm, lt_of_not-le, not-le_of_lt, sub-zero, mul-le-mul, mul-pos, le-div_iff_mul-le}
use native.Mathlib.Decide.{dec_le}
use native.Mathlib.Omega.{arith}
use lib.Dec.{leb, lit<}
use borrow.Author.Tests.{le-leb, leb-true}
use Rattle.laws.proofs.Lists.{not_true_false}
use Rattle.curve.specs.Deceleration.{deceleration_of}
use Rattle.curve.specs.Boundary.{target_of, line, line_for}
use Rattle.curve.specs.Ground.{largest_failing, moved_by, never, most_before}
use Rattle.curve.specs.Claims.{Stricter, StaysFor}
use Rattle.curve.specs.declared.Curve.{Curve}
use Rattle.curve.proofs.Line.{leb_same, line_is}
use Rattle.curve.proofs.Largest.{Monotone, largest, failing_below, failing_within, passing_above, largest_fails, largest_below}
use Rattle.curve.proofs.Stricter.{line_stricter}

-- ---- the most before a change

module _ (test : ℕ → Bool) (monotone : Monotone test) (n : ℕ) where
  pub most_none : test 0 ≡ true → most_before test n ≡ 0
  unfolding most_before
  most_none z =
      ap (λ t. cond t (largest_failing test n) never) (monotone 0 n zero-le z)
      ∙ le_antisymm (passing_above test n 0 (λ k h g. monotone 0 k zero-le z)) zero-le

  pub most_told : ((m : ℕ) → n ≤ m → test m ≡ test n) → test 0 ≡ false → StaysFor (λ m. test m ≡ false) n (most_before test n)
  unfolding most_before
  most_told beyond z = by (test n) refl
    where
      by : (t : Bool) → test n ≡ t → StaysFor (λ m. test m ≡ false) n (cond t (largest_failing test n) never)
      by true e =
          let below = failing_below test (largest test n).within (largest_fails test z n) e in
          inl (record {
            within = below;
            stays = largest_below test monotone z n;
            changes = λ f. false≢true (sym f ∙ (largest test n).passes (suc (largest_failing test n)) (le_refl _) below);
          })
      by false e =
          inr (record {
            told = refl;
            stays = λ m. elim (dec_le m n) [
              | yes h ↦ not_true_false (test m) (λ p. false≢true (sym e ∙ monotone m n h p))
              | no h ↦ beyond m (le_of_lt (lt_of_not-le h)) ∙ e
            ];
          })

pub largest_same : (test other : ℕ → Bool) → ((k : ℕ) → test k ≡ other k) → (n : ℕ) → largest_failing test n ≡ largest_failing other n
unfolding largest_failing
largest_same test other h zero = refl
largest_same test other h (suc n) = ap₂ (λ t k. cond t k (suc n)) (h (suc n)) (largest_same test other h n)

pub most_same : (test other : ℕ → Bool) → ((k : ℕ) → test k ≡ other k) → (n : ℕ) → most_before test n ≡ most_before other n
unfolding most_before
most_same test other h n = ap₂ (λ t k. cond t k never) (h n) (largest_same test other h n)

-- ---- a curve with ground covered

-- at another distance
abbrev at : Curve → ℕ → Curve
at curve distance = record {
  distance = distance;
  speed = curve.speed;
  held = curve.held;
  id = curve.id;
  kind = curve.kind;
  gradient = curve.gradient;
  past = curve.past;
}

pub moved_none : (curve : Curve) → moved_by curve 0 ≡ curve
moved_none curve = ap (at curve) (sub-zero curve.distance)

pub moved_beyond : (curve : Curve) (m : ℕ) → curve.distance ≤ m → moved_by curve m ≡ moved_by curve curve.distance
moved_beyond curve m h = let none : curve.distance - m ≡ curve.distance - curve.distance = omega arith in ap (at curve) none

-- more ground covered is stricter
pub further : (curve : Curve) (i j : ℕ) → i ≤ j → Stricter (moved_by curve i) (moved_by curve j)
further curve i j h = record { kind = refl; gradient = λ level. refl; distance = omega arith; speed = le_refl _ }

-- what is told of a test that stays passed as ground is covered
module _ (passes : Curve → Bool) (curve : Curve) (monotone : Monotone (λ n. passes (moved_by curve n))) where
  abbrev after : ℕ → Bool
  after n = passes (moved_by curve n)

  pub left_none : passes curve ≡ true → most_before after curve.distance ≡ 0
  left_none e = most_none after monotone curve.distance (ap passes (moved_none curve) ∙ e)

  pub left_told : passes curve ≡ false → StaysFor (λ m. after m ≡ false) curve.distance (most_before after curve.distance)
  left_told e =
      most_told after monotone curve.distance (λ m h. ap passes (moved_beyond curve m h)) (ap passes (moved_none curve) ∙ e)

-- ---- where the line holds

module _ (u w b lead : ℕ) (above : w < u) where
  -- 810×b times the distance at which the line begins to hold
  abbrev pub reach : ℕ
  reach = 50 * (u * u - w * w) + 81 * b * lead

  line_at : (x : ℕ) → line 50 u w b (10 * x) lead ≡ leb (x * (810 * b)) reach
  line_at x =
      let square : w * w ≤ u * u = mul-le-mul (le_of_lt above) (le_of_lt above) in
      line_is 50 u w b (10 * x) lead
      ∙ leb_same (81 * b * (10 * x) + 50 * (w * w)) (50 * (u * u) + 81 * b * lead) (x * (810 * b)) reach (omega arith) (omega arith)

  -- with no deceleration it holds
  pub decelerates : (x : ℕ) → line 50 u w b (10 * x) lead ≡ false → 0 < b
  decelerates x e =
      elim (dec_le 1 b) [
        | yes h ↦ h
        | no h ↦
            let none : b ≡ 0 = omega arith in
            let side : x * (810 * b) ≡ 0 = rw none (omega arith) in
            absurd (false≢true (sym (sym (line_at x) ∙ e) ∙ le-leb (x * (810 * b)) reach (rw side zero-le)))
      ]

  module _ (h : 0 < b) where
    -- the largest distance at which it holds
    abbrev pub reaches : ℕ
    reaches = reach / (810 * b)

    divided : 0 < 810 * b
    divided = mul-pos (lit< tt) h

    pub holds_within : (x : ℕ) → x ≤ reaches → line 50 u w b (10 * x) lead ≡ true
    holds_within x g = line_at x ∙ le-leb (x * (810 * b)) reach ((le-div_iff_mul-le divided).0 g)

    pub fails_beyond : (x : ℕ) → reaches < x → line 50 u w b (10 * x) lead ≡ false
    fails_beyond x g =
        not_true_false _ (λ p. not-le_of_lt g ((le-div_iff_mul-le divided).1 (leb-true (x * (810 * b)) reach (sym (line_at x) ∙ p))))

    pub beyond_fails : (x : ℕ) → line 50 u w b (10 * x) lead ≡ false → reaches < x
    beyond_fails x e = lt_of_not-le (λ g. false≢true (sym e ∙ holds_within x g))

module _ (curve : Curve) (level u lead : ℕ) (above : target_of curve < u) where
  abbrev holds : ℕ → Bool
  holds n = line_for (moved_by curve n) level 50 u 10 lead

  pub holds_on : Monotone holds
  unfolding target_of
  holds_on i j h = line_stricter (further curve i j h) 50 10 (le_refl u) (le_refl level) (le_refl lead) (le_of_lt above)

  -- where it does not hold, it does at distance 0, and from the distance on that the division gives
  module _ (e : line_for curve level 50 u 10 lead ≡ false) where
    abbrev b : ℕ
    b = deceleration_of level curve.gradient

    pub b_above : 0 < b
    unfolding line_for
    b_above = decelerates u (target_of curve) b lead above curve.distance e

    pub reaches_less : reaches u (target_of curve) b lead above b_above < curve.distance
    unfolding line_for
    reaches_less = beyond_fails u (target_of curve) b lead above b_above curve.distance e

    pub ground_left : largest_failing holds curve.distance ≡ curve.distance - 1 - reaches u (target_of curve) b lead above b_above
    unfolding line_for target_of
    ground_left =
        let d = curve.distance in
        let x = reaches u (target_of curve) b lead above b_above in
        let rest : d - (d - 1 - x) ≡ suc x = omega (arith, reaches_less) in
        le_antisymm
        (passing_above holds d (d - 1 - x) (λ k h g. holds_within u (target_of curve) b lead above b_above (d - k) (omega arith)))
        (failing_within holds d (d - 1 - x) (omega arith) (fails_beyond u (target_of curve) b lead above b_above (d - (d - 1 - x)) (rw rest (le_refl _))))

    pub left_is : most_before holds curve.distance ≡ largest_failing holds curve.distance
    unfolding most_before line_for target_of
    left_is =
        let d = curve.distance in
        let none : d - d ≡ 0 = omega arith in
        ap (λ t. cond t (largest_failing holds d) never)
        (holds_within u (target_of curve) b lead above b_above (d - d) (rw none zero-le))
