-- What the boundary rule tells: reached, and the ground left. Assumes nothing.
use Prim.Native.Nat.{ℕ}
use mathlib.Core.Path.{◌≡◌, refl, sym}
use mathlib.Core.Bool.{Bool, true, false, cond, ◌&&◌}
use native.Mathlib.Nat.{le_refl}
use Rattle.std.specs.Prelude.{Option, None, Some, is_none}
use Rattle.curve.specs.Boundary.{is_reached, is_reached_f}
use Rattle.curve.specs.Ground.{moved_by, never, most_before, reach_of, reach_of_f, left_of}
use Rattle.curve.specs.Claims.{ReachedAsBefore, GroundLeftIsTold, GroundLeftToFIsTold}
use Rattle.curve.specs.declared.Curve.{Curve}
use Rattle.curve.proofs.Largest.{Monotone}
use Rattle.curve.proofs.Stricter.{stays_reached, f_stays_reached}
use Rattle.curve.proofs.Ground.{further, left_none, left_told}

-- ---- a boundary

reached_told : (reached : Bool) (left : ℕ) → is_none (cond reached None (Some left)) ≡ reached
reached_told true left = refl
reached_told false left = refl

-- where nothing is left to one that is reached
pub left_told_of : (reached : Bool) (left : ℕ) → (reached ≡ true → left ≡ 0) → left_of (cond reached None (Some left)) ≡ left
left_told_of true left h = sym (h refl)
left_told_of false left h = refl

pub reached_as_before : ReachedAsBefore
unfolding reach_of reach_of_f
reached_as_before curve level margin v T = (reached_told _ _, reached_told _ _)

module _ (curve : Curve) (level v : ℕ) where
  pub reached_on : (T : ℕ) → Monotone (λ n. is_reached (moved_by curve n) level v T)
  reached_on T i j h =
      stays_reached (moved_by curve i) (moved_by curve j) level level v v T T (further curve i j h) (le_refl level) (le_refl v) (le_refl T)

  pub f_reached_on : (margin : ℕ) → Monotone (λ n. is_reached_f (moved_by curve n) level margin v)
  f_reached_on margin i j h =
      f_stays_reached (moved_by curve i) (moved_by curve j) level level margin margin v v (further curve i j h) (le_refl level) (le_refl margin)
      (le_refl v)

pub left_is_told : (curve : Curve) (level v T : ℕ)
    → left_of (reach_of curve level v T) ≡ most_before (λ n. is_reached (moved_by curve n) level v T) curve.distance
unfolding reach_of
left_is_told curve level v T = left_told_of _ _ (left_none (λ c. is_reached c level v T) curve (reached_on curve level v T))

pub left_to_f_is_told : (curve : Curve) (level margin v : ℕ)
    → left_of (reach_of_f curve level margin v) ≡ most_before (λ n. is_reached_f (moved_by curve n) level margin v) curve.distance
unfolding reach_of_f
left_to_f_is_told curve level margin v =
    left_told_of _ _ (left_none (λ c. is_reached_f c level margin v) curve (f_reached_on curve level v margin))

pub ground_left_is_told : GroundLeftIsTold
ground_left_is_told curve level v T =
    rw (left_is_told curve level v T) (
      refl,
      left_none (λ c. is_reached c level v T) curve (reached_on curve level v T),
      left_told (λ c. is_reached c level v T) curve (reached_on curve level v T),
    )

pub ground_left_to_f_is_told : GroundLeftToFIsTold
ground_left_to_f_is_told curve level margin v =
    rw (left_to_f_is_told curve level margin v) (
      refl,
      left_none (λ c. is_reached_f c level margin v) curve (f_reached_on curve level v margin),
      left_told (λ c. is_reached_f c level margin v) curve (f_reached_on curve level v margin),
    )

-- what a line tells, and a line that is asked only where a test passes
abbrev pub tells : (Curve → Bool) → Curve → Option ℕ
tells line curve = cond (line curve) None (Some (most_before (λ n. line (moved_by curve n)) curve.distance))

abbrev pub asked : (Curve → Bool) → Curve → Bool → Option ℕ
asked line curve test = tells (λ c. test && line c) curve

-- what the line tells is told where it does, and elsewhere that it is never reached
pub line_asked : (line : Curve → Bool) (curve : Curve) (test : Bool) {reach : Option ℕ}
    → reach ≡ cond test (tells line curve) (Some never) → reach ≡ asked line curve test
unfolding most_before
line_asked line curve true told = told
line_asked line curve false told = told
