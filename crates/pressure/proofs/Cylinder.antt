-- On a cylinder P_INT is within 1/16,384 kPa of the exact fraction (specs/Exact.antt): the product is exact, the quotient within 2^-15, the difference within 2^-16.
-- A unit is the smallest f32 value above 0: u = 2 ^ 149 units make 1 kPa, and v = 2 ^ 133 units make 2^-16 kPa.
-- `omega` stops at numbers as large as these, so the arithmetic is over variables u and v.
use mathlib.Core.Path.{◌≡◌, refl, ap}
use mathlib.Core.Bool.{Bool, true, false, cond}
use Prim.Native.Nat.{ℕ, suc, ◌+◌, ◌-◌, ◌*◌, ◌^◌, ◌≤◌, ◌<◌, min}
use native.Mathlib.Nat.{le_trans, le_of_lt, lt_of_le_of_lt, lt_of_not-le, sub-le, min-eq_right}
use native.Mathlib.Nat.{mul-one, mul_right_comm, mul-le-mul_right, mul-lt-mul_of_pos_right, le_of_mul-le-mul_right}
use native.Mathlib.Decide.{dec_le}
use native.Mathlib.Omega.{arith}
use borrow.Author.Tests.{lt-ltb, le-ltb, le-leb, lt-leb}
use lib.Dec.{leb, lit≤, lit<}
use lib.Pow.{pow_pos}
use lib.IntN.{ℤ, pos, negsuc}
use lib.Ieee.{Float, fin, binary32, down, round, sub, mul, div}
use lib.Ieee.Exact.{HasValue}
use lib.Ieee.Back.{round_whole}
use lib.Ieee.Scale.{round_same}
use Rattle.pressure.specs.Convert.{kpa, halved_of, is_high, limited_of, counted_of, cylinder_of, converted_of}
use Rattle.pressure.specs.Exact.{SixteenBits, counted_halves, IsNear, CylinderIsNear}
use Rattle.pressure.proofs.Rounding.{whole_value, lt_whole, whole_lt, mul_at, div_at, sub_at, sub_mul, sum_above, sum_below}
use Rattle.pressure.proofs.Rounding.{Apart, Rounded, round_near, near_units}
use Rattle.pressure.proofs.Halves.{kpa_value, halving_is_exact, limited_value, limited_below}

-- ---- what counts of P_EXT

-- n / 2 counts up to 955
counted_value : (x : Float) (n : ℕ) → HasValue x false n 2 → HasValue (counted_of x) false (cond (leb n 1910) n 0) 2
unfolding counted_of is_high
counted_value x n v =
    rw (lt_whole binary32 x false n 2 0 (lit< tt) (lit≤ tt) v, whole_lt binary32 x false n 2 955 (lit< tt) (lit≤ tt) v, le-ltb n 0 (omega arith))
    (elim (dec_le n 1910) [
      | yes l ↦ rw (le-ltb 1910 n l, le-leb n 1910 l) v
      | no l ↦ rw (lt-ltb 1910 n (omega arith), lt-leb n 1910 (omega arith)) (kpa_value 0 0 2 (lit≤ tt) refl)
    ])

-- below 0 nothing counts
counted_below : (x : Float) (n : ℕ) → HasValue x true (suc n) 2 → HasValue (counted_of x) false 0 2
unfolding counted_of
counted_below x n v =
    rw (lt_whole binary32 x true (suc n) 2 0 (lit< tt) (lit≤ tt) v, lt-ltb 0 (suc n + 0) (omega arith)) (kpa_value 0 0 2 (lit≤ tt) refl)

counted_is : (external : ℤ) → SixteenBits external → HasValue (counted_of (halved_of external)) false (counted_halves external) 2
counted_is (pos n) h = counted_value (halved_of (pos n)) n (halving_is_exact (pos n) h)
counted_is (negsuc n) h = counted_below (halved_of (negsuc n)) n (halving_is_exact (negsuc n) h)

-- no more than 955 kPa counts
counted_le : (external : ℤ) → counted_halves external ≤ 1910
counted_le (pos n) = elim (dec_le n 1910) [ yes l ↦ rw (le-leb n 1910 l) l | no l ↦ rw (lt-leb n 1910 (omega arith)) (lit≤ tt) ]
counted_le (negsuc n) = lit≤ tt

-- ---- product and quotient

-- 150 times n / 2 is exact
product_value : (x : Float) (n : ℕ) → n ≤ 1910 → HasValue x false n 2 → HasValue (mul binary32 (kpa 150) x) false (75 * n) 1
product_value x n l v =
    rw (
      mul_at binary32 (kpa 150) x false false 150 1 n 2 (lit< tt) (lit< tt) (whole_value binary32 150 (lit≤ tt)) v,
      round_same binary32 false (150 * n) 2 (75 * n) 1 (lit< tt) (lit< tt) (omega arith),
    )
    (round_whole binary32 false (75 * n) (omega arith))

-- a / c, of no more than 955, is rounded to a multiple of 2 ^ 135 units at most
quotient_near : (y : Float) (a c : ℕ) → 0 < c → c ≤ 600 → a ≤ 955 * c → HasValue y false a 1 → Rounded (div binary32 y (kpa c)) binary32 false a c 135
quotient_near y a c C h k v =
    let small : a < 1024 * c = omega arith in
    rw (div_at binary32 y (kpa c) false false a 1 c 1 (lit< tt) (lit< tt) C v (whole_value binary32 c (le_trans h (lit≤ tt))), mul-one a, mul-one c)
    (round_near binary32 false a c 135 C (lit≤ tt) (rw (mul_right_comm 1024 c (2 ^ 149)) at (mul-lt-mul_of_pos_right small (pow_pos 149))))

-- ---- the difference, limited

-- x is parts / u, and with g / u, of which no more than 500 counts, it makes 500, give or take w / u
record Difference (x : Float) (g u w : ℕ) : Type 0 where
  parts : ℕ
  value : HasValue x false parts u
  near : Apart (parts + min g (500 * u)) (500 * u) w

-- of a difference d / u that is not below 0
difference_above : (x : Float) (d g u w : ℕ) → 0 < u → w ≤ u → g ≤ 500 * u → HasValue x false d u → Apart d (500 * u - g) w → Difference (limited_of x) g u w
difference_above x d g u w U W l v a = record { parts = min d (550 * u); value = limited_value x d u U v; near = omega arith }

-- of one that is below 0
difference_below : (x : Float) (d g u w : ℕ) → 0 < u → 500 * u ≤ g → HasValue x true d u → Difference (limited_of x) g u w
difference_below x d g u w U l v = record { parts = 0; value = limited_below x d u U v; near = omega arith }

-- n units that make no more than 500 are rounded to a multiple of 2 ^ 134 units at most
units_near : (s : Bool) (n : ℕ) → n ≤ 500 * 2 ^ 149 → Rounded (round binary32 s n (2 ^ 149)) binary32 s n (2 ^ 149) 134
units_near s n l = round_near binary32 s n (2 ^ 149) 134 (pow_pos 149) (lit≤ tt) (mul-lt-mul_of_pos_right {n = 2 ^ 158} (lt_of_le_of_lt l (lit< tt)) (pow_pos 149))

difference_near : (q : Float) (g : ℕ) → g ≤ 1000 * 2 ^ 149 → HasValue q false g (2 ^ 149)
    → Difference (limited_of (sub binary32 (kpa 500) q)) g (2 ^ 149) (2 ^ 133)
difference_near q g l v =
    let u = 2 ^ 149 in
    rw (sub_at binary32 (kpa 500) q false false 500 1 g u (lit< tt) (pow_pos 149) (whole_value binary32 500 (lit≤ tt)) v, mul-one g)
    (elim (dec_le g (500 * u)) [
      | yes k ↦
          let r = units_near false (500 * u - g) (sub-le (500 * u) g) in
          rw (sum_above binary32 (500 * u) g u k)
          (difference_above (round binary32 false (500 * u - g) u) r.units g u (2 ^ 133) (pow_pos 149) (lit≤ tt) k r.value (near_units r))
      | no k ↦
          let r = units_near true (g - 500 * u) (rest g (500 * u) l) in
          rw (sum_below binary32 (500 * u) g u (lt_of_not-le k))
          (difference_below (round binary32 true (g - 500 * u) u) r.units g u (2 ^ 133) (pow_pos 149) (le_of_lt (lt_of_not-le k)) r.value)
    ])
  where
    rest : (a b : ℕ) → a ≤ 2 * b → a - b ≤ b
    rest a b h = omega arith

-- ---- the bound

-- c is P_FULL, n / 2 is P_EXT, g / u the quotient and h / u the result
together : (u v c n g h : ℕ) → u ≡ 65536 * v → Apart (2 * (g * c)) (2 * (75 * n * u)) (c * (4 * v)) → Apart (h + min g (500 * u)) (500 * u) v
    → Apart (16384 * (h * (2 * c))) (16384 * ((500 * (2 * c) - 150 * n) * u)) (u * (2 * c))
together u v c n g h e a b =
    let f : u * c ≡ 65536 * v * c = ap (λ (z : ℕ). z * c) e in
    rw (sub_mul (500 * (2 * c)) (150 * n) u)
    (elim (dec_le g (500 * u)) [
      | yes k ↦
          let x : h + g ≤ 500 * u + v = omega arith in
          let y : 500 * u ≤ h + g + v = omega arith in
          omega (arith, mul-le-mul_right c x, mul-le-mul_right c y)
      | no k ↦
          let x : h ≤ v = omega arith in
          let y : 500 * u ≤ g = omega arith in
          omega (arith, mul-le-mul_right c x, mul-le-mul_right c y)
    ])

-- x is g / u, which is within 1/16,384 of p / w
near_of_value : (x : Float) (g u p w : ℕ) → 0 < u → HasValue x false g u → Apart (16384 * (g * w)) (16384 * (p * u)) (u * w) → IsNear x p w
near_of_value (fin t m e) g u p w U v a = (
  v.0,
  le_of_mul-le-mul_right {k = u} (omega (arith, mul-le-mul_right (down e) a.0, ap (λ (z : ℕ). z * w) v.1)) U,
  le_of_mul-le-mul_right {k = u} (omega (arith, mul-le-mul_right (down e) a.1, ap (λ (z : ℕ). z * w) v.1)) U,
)
near_of_value lib.Ieee.nan g u p w U v a = elim v [ ]
near_of_value (lib.Ieee.inf _) g u p w U v a = elim v [ ]

-- a quotient g / u near to a / c, of no more than 955
units_le : (g a c u v : ℕ) → 0 < c → u ≡ 65536 * v → a ≤ 955 * c → 2 * (g * c) ≤ 2 * (a * u) + c * (4 * v) → g ≤ 1000 * u
units_le g a c u v C e l h = le_of_mul-le-mul_right {k = c} (omega (arith, mul-le-mul_right u l, ap (λ (z : ℕ). z * c) e)) C

-- for a P_EXT of n / 2 that counts
near_exact : (x : Float) (n c : ℕ) → 150 ≤ c → c ≤ 600 → n ≤ 1910 → HasValue x false n 2
    → IsNear (limited_of (sub binary32 (kpa 500) (div binary32 (mul binary32 (kpa 150) x) (kpa c)))) (500 * (2 * c) - 150 * n) (2 * c)
near_exact x n c l h k v =
    let u = 2 ^ 149 in
    let C : 0 < c = omega arith in
    let small : 75 * n ≤ 955 * c = omega arith in
    let quotient = div binary32 (mul binary32 (kpa 150) x) (kpa c) in
    let q = quotient_near (mul binary32 (kpa 150) x) (75 * n) c C h small (product_value x n k v) in
    let d = difference_near quotient q.units (units_le q.units (75 * n) c u (2 ^ 133) C refl small q.near.0) q.value in
    near_of_value (limited_of (sub binary32 (kpa 500) quotient)) d.parts u (500 * (2 * c) - 150 * n) (2 * c) (pow_pos 149) d.value
    (together u (2 ^ 133) c n q.units d.parts refl q.near d.near)

-- the exact fraction is 500 at most, so its limit of 550 changes nothing
pub cylinder_is_near : CylinderIsNear
unfolding converted_of cylinder_of
cylinder_is_near full external l h s =
    rw (min-eq_right {n = 500 * (2 * full) - 150 * counted_halves external} {m = 550 * (2 * full)} (omega arith))
    (near_exact (counted_of (halved_of external)) (counted_halves external) full l h (counted_le external) (counted_is external s))
