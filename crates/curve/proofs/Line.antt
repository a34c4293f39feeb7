-- The line in natural numbers, and what keeps it. Assumes nothing.
use Prim.Native.Nat.{ℕ, zero, suc, ◌+◌, ◌-◌, ◌*◌, ◌^◌, ◌≤◌, ◌<◌}
use mathlib.Core.Path.{◌≡◌, refl, sym, ◌∙◌, ap, ap₂, subst⁻¹}
use mathlib.Core.Bool.{Bool, true, false}
use native.Mathlib.Nat.{not-suc-le-zero, not-le_of_lt, lt_of_not-le, lt_of_le_of_lt, zero-mul, mul-sub}
use native.Mathlib.Nat.{mul-le-mul, mul-le-mul_left, mul-lt-mul_of_pos_left, le_of_mul-le-mul_left}
use native.Mathlib.Decide.{dec_le}
use native.Mathlib.Omega.{arith}
use lib.Dec.{leb, lit<}
use lib.IntN.{pos, negsuc, ◌-ℤ◌, ◌*ℤ◌}
use lib.Signed.{le_z, mag}
use mir.Syntax.{w64}
use mir.Val.{SFits}
use borrow.Author.Tests.{lt-ltb, le-ltb, leb-true, leb-false, le-leb, lt-leb}
use Rattle.curve.specs.Boundary.{left_side, right_side, line}

-- ---- a difference of two natural numbers

-- it is not negative, or it is
difference_up : (x y : ℕ) → y ≤ x → pos x -ℤ pos y ≡ pos (x - y)
difference_up x zero h = ap pos (omega arith)
difference_up x (suc y) h = simp (le-ltb x (suc y) h)

difference_down : (x y : ℕ) → x < y → pos x -ℤ pos y ≡ negsuc (y - suc x)
difference_down x zero h = absurd (not-suc-le-zero h)
difference_down x (suc y) h = simp (lt-ltb x (suc y) h)

-- a number times it
difference_times : (k x y : ℕ) → pos k *ℤ (pos x -ℤ pos y) ≡ pos (k * x) -ℤ pos (k * y)
difference_times k x y = by (dec_le y x) k
  where
    by : Dec (y ≤ x) → (k : ℕ) → pos k *ℤ (pos x -ℤ pos y) ≡ pos (k * x) -ℤ pos (k * y)
    by (yes h) k = rw (difference_up x y h, difference_up (k * x) (k * y) (mul-le-mul_left k h)) (ap pos (mul-sub k x y))
    by (no h) zero = rw (difference_down x y (omega arith), zero-mul, zero-mul x, zero-mul y)
    by (no h) (suc k) =
        let below : suc k * x < suc k * y = mul-lt-mul_of_pos_left (lt_of_not-le h) (omega arith) in
        let gap : suc (y - suc x) ≡ y - x = omega arith in
        let product : suc k * y - suc k * x ≡ suc (suc k * y - suc (suc k * x)) = omega arith in
        rw (difference_down x y (lt_of_not-le h), difference_down (suc k * x) (suc k * y) below, gap, mul-sub, product)

-- its size
pub mag_difference : (x y n : ℕ) → x ≤ n → y ≤ n → mag (pos x -ℤ pos y) ≤ n
mag_difference x y n h k = by (dec_le y x)
  where
    by : Dec (y ≤ x) → mag (pos x -ℤ pos y) ≤ n
    by (yes p) = rw (difference_up x y p) (omega arith)
    by (no p) = rw (difference_down x y (omega arith)) (omega arith)

-- two tests that pass together are one
pub leb_same : (m n m' n' : ℕ) → (m ≤ n → m' ≤ n') → (m' ≤ n' → m ≤ n) → leb m n ≡ leb m' n'
leb_same m n m' n' h k = by (leb m' n') refl
  where
    by : (t : Bool) → leb m' n' ≡ t → leb m n ≡ t
    by true q = le-leb m n (k (leb-true m' n' q))
    by false q = lt-leb m n (lt_of_not-le (λ p. not-le_of_lt (leb-false m' n' q) (h p)))

le_z_differences : (a b c d : ℕ) → le_z (pos a -ℤ pos b) (pos c -ℤ pos d) ≡ leb (a + d) (c + b)
le_z_differences a b c d = by (dec_le b a) (dec_le d c)
  where
    by : Dec (b ≤ a) → Dec (d ≤ c) → le_z (pos a -ℤ pos b) (pos c -ℤ pos d) ≡ leb (a + d) (c + b)
    by (yes p) (yes q) = rw (difference_up a b p, difference_up c d q) (leb_same (a - b) (c - d) (a + d) (c + b) (omega arith) (omega arith))
    by (yes p) (no q) = rw (difference_up a b p, difference_down c d (omega arith)) (sym (lt-leb (a + d) (c + b) (omega arith)))
    by (no p) (yes q) = rw (difference_down a b (omega arith), difference_up c d q) (sym (le-leb (a + d) (c + b) (omega arith)))
    by (no p) (no q) =
        rw (difference_down a b (omega arith), difference_down c d (omega arith))
        (leb_same (d - suc c) (b - suc a) (a + d) (c + b) (omega arith) (omega arith))

-- "50×(u² − w²) ≥ 81×b×(10×d − v×T)", with no difference left
pub line_is : (share u w b distance lead : ℕ)
    → line share u w b distance lead ≡ leb (81 * b * distance + share * (w * w)) (share * (u * u) + 81 * b * lead)
unfolding line left_side right_side
line_is share u w b distance lead =
    ap₂ le_z (difference_times (81 * b) distance lead) (difference_times share (u * u) (w * w))
    ∙ le_z_differences (81 * b * distance) (81 * b * lead) (share * (u * u)) (share * (w * w))

-- ---- both sides fit in 64 bits, signed

pub difference_fits : (x y n : ℕ) → x ≤ n → y ≤ n → n < 2 ^ 63 → SFits w64 (pos x -ℤ pos y)
difference_fits x y n h k below = record { sfits = lt_of_le_of_lt (mag_difference x y n h k) below }

pub times_fits : (k x y m n : ℕ) → k ≤ m → x ≤ n → y ≤ n → m * n < 2 ^ 63 → SFits w64 (pos k *ℤ (pos x -ℤ pos y))
times_fits k x y m n g h i below =
    subst⁻¹ (SFits w64) (difference_times k x y) (difference_fits (k * x) (k * y) (m * n) (mul-le-mul g h) (mul-le-mul g i) below)

module _ (u w : ℕ) (hu : u ≤ 16777215) (hw : w ≤ 16777215) where
  pub squares_fit : SFits w64 (pos (u * u) -ℤ pos (w * w))
  squares_fit = difference_fits (u * u) (w * w) (16777215 * 16777215) (mul-le-mul hu hu) (mul-le-mul hw hw) (lit< tt)

  pub left_fits : (share : ℕ) → share ≤ 450 → SFits w64 (left_side share u w)
  unfolding left_side
  left_fits share h =
      times_fits share (u * u) (w * w) 450 (16777215 * 16777215) h (mul-le-mul hu hu) (mul-le-mul hw hw) (lit< tt)

module _ (distance lead : ℕ) (hg : distance ≤ 1099511627776) (hl : lead ≤ 1099511627776) where
  pub ground_fits : SFits w64 (pos distance -ℤ pos lead)
  ground_fits = difference_fits distance lead 1099511627776 hg hl (lit< tt)

  pub right_fits : (b : ℕ) → b ≤ 67830 → SFits w64 (right_side b distance lead)
  unfolding right_side
  right_fits b h = times_fits (81 * b) distance lead (81 * 67830) 1099511627776 (mul-le-mul_left 81 h) hg hl (lit< tt)

-- ---- what keeps the line

-- it may be taken any number of times
pub line_times : (n share u w b distance lead : ℕ) → 0 < n → line (n * share) u w b (n * distance) (n * lead) ≡ line share u w b distance lead
line_times n share u w b distance lead h =
    let x = 81 * b * distance + share * (w * w) in
    let y = share * (u * u) + 81 * b * lead in
    let left : 81 * b * (n * distance) + n * share * (w * w) ≡ n * x = omega arith in
    let right : n * share * (u * u) + 81 * b * (n * lead) ≡ n * y = omega arith in
    line_is (n * share) u w b (n * distance) (n * lead)
    ∙ ap₂ leb left right
    ∙ leb_same (n * x) (n * y) x y (λ p. le_of_mul-le-mul_left p h) (mul-le-mul_left n)
    ∙ sym (line_is share u w b distance lead)

-- the speed no lower, the target, the deceleration and the ground no higher, the lead no shorter, and the target not above the speed
pub line_kept : (share : ℕ) {u u' w w' b b' distance ground' lead lead' : ℕ}
    → u ≤ u' → w' ≤ w → w' ≤ u' → b' ≤ b → ground' ≤ distance → lead ≤ lead'
    → line share u w b distance lead ≡ true → line share u' w' b' ground' lead' ≡ true
line_kept share {u} {u'} {w} {w'} {b} {b'} {distance} {ground'} {lead} {lead'} hu hw floor hb hg hl e =
    let held = leb-true (81 * b * distance + share * (w * w)) (share * (u * u) + 81 * b * lead) (sym (line_is share u w b distance lead) ∙ e) in
    let rest : ground' - lead' ≤ distance - lead = omega arith in
    let right : 81 * b' * ground' - 81 * b' * lead' ≤ 81 * b * distance - 81 * b * lead = simp mul-sub at (mul-le-mul (mul-le-mul_left 81 hb) rest) in
    let kept : 81 * b' * ground' + share * (w' * w') ≤ share * (u' * u') + 81 * b' * lead' = omega (arith, squares hu, squares hw, squares floor) in
    line_is share u' w' b' ground' lead' ∙ le-leb _ _ kept
  where
    squares : {x y : ℕ} → x ≤ y → share * (x * x) ≤ share * (y * y)
    squares h = mul-le-mul_left share (mul-le-mul h h)
