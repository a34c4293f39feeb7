-- Both sides of the line in 64 signed bits. Assumes nothing.
use Prim.Native.Nat.{ℕ, ◌*◌, ◌^◌, ◌≤◌, ◌<◌}
use mathlib.Core.Path.{◌≡◌}
use native.Mathlib.Nat.{mul-le-mul, lt_of_le_of_lt}
use native.Mathlib.Omega.{arith}
use lib.Dec.{lit<}
use lib.IntN.{ℤ, pos, ◌-ℤ◌, ◌*ℤ◌, pos-*ℤ-pos}
use mir.Syntax.{w64}
use mir.Val.{SFits, to_z, of_z}
use mir.ValLaws.{to_z_pos, to_z-of_z}
use Rattle.curve.specs.Boundary.{left_side, right_side}
use Rattle.curve.proofs.Line.{squares_fit, left_fits, ground_fits, right_fits}

pub square_below : (x : ℕ) → x ≤ 16777215 → x * x < 2 ^ 63
square_below x h = lt_of_le_of_lt (mul-le-mul h h) (lit< tt)

module _ (u w : ℕ) (hu : u ≤ 16777215) (hw : w ≤ 16777215) where
  -- the difference of two squares
  abbrev pub squares : ℤ
  squares = to_z w64 (u * u) -ℤ to_z w64 (w * w)

  squares_are : squares ≡ pos (u * u) -ℤ pos (w * w)
  squares_are = rw (to_z_pos w64 _ (square_below u hu), to_z_pos w64 _ (square_below w hw))

  pub squares_in : SFits w64 squares
  squares_in = rw squares_are (squares_fit u w hu hw)

  module _ (share : ℕ) (hs : share ≤ 450) where
    abbrev pub left : ℤ
    left = to_z w64 share *ℤ to_z w64 (of_z w64 squares)

    left_are : left ≡ left_side share u w
    unfolding left_side
    left_are = rw (to_z-of_z w64 _ squares_in, squares_are, to_z_pos w64 share (omega arith))

    pub left_side_in : SFits w64 (left_side share u w)
    unfolding left_side
    left_side_in = left_fits u w hu hw share hs

    pub left_in : SFits w64 left
    left_in = rw left_are left_side_in

    pub left_is : to_z w64 (of_z w64 left) ≡ left_side share u w
    left_is = rw (to_z-of_z w64 _ left_in) left_are

module _ (distance lead : ℕ) (hg : distance ≤ 1099511627776) (hl : lead ≤ 1099511627776) where
  -- the ground without what the lead takes
  abbrev pub rest : ℤ
  rest = to_z w64 distance -ℤ to_z w64 lead

  rest_is : rest ≡ pos distance -ℤ pos lead
  rest_is = rw (to_z_pos w64 distance (omega arith), to_z_pos w64 lead (omega arith))

  rest_in : SFits w64 rest
  rest_in = rw rest_is (ground_fits distance lead hg hl)

  module _ (b : ℕ) (hb : b ≤ 67830) where
    factor : pos 81 *ℤ to_z w64 b ≡ pos (81 * b)
    factor = rw (to_z_pos w64 b (omega arith)) (pos-*ℤ-pos 81 b)

    factor_in : SFits w64 (pos 81 *ℤ to_z w64 b)
    factor_in = rw factor (record { sfits = omega arith })

    abbrev pub right : ℤ
    right = to_z w64 (of_z w64 (pos 81 *ℤ to_z w64 b)) *ℤ to_z w64 (of_z w64 rest)

    right_are : right ≡ right_side b distance lead
    unfolding right_side
    right_are = rw (to_z-of_z w64 _ factor_in, factor, to_z-of_z w64 _ rest_in, rest_is)

    pub right_side_in : SFits w64 (right_side b distance lead)
    unfolding right_side
    right_side_in = right_fits distance lead hg hl b hb

    pub right_in : SFits w64 right
    right_in = rw right_are right_side_in

    pub right_is : to_z w64 (of_z w64 right) ≡ right_side b distance lead
    right_is = rw (to_z-of_z w64 _ right_in) right_are
