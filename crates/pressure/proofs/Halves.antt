-- P_EXT is halved exactly, and on a pipe P_INT is exactly P_EXT limited to 0–550 (specs/Exact.antt).
use mathlib.Core.Path.{◌≡◌, refl}
use mathlib.Core.Bool.{Bool, true, false, cond}
use Prim.Native.Nat.{ℕ, suc, ◌*◌, ◌^◌, ◌≤◌, ◌<◌, min}
use native.Mathlib.Nat.{le_trans, le_of_lt, lt_of_le_of_lt, mul-one, min-eq_left}
use native.Mathlib.Omega.{arith}
use borrow.Author.Tests.{ltb-true, ltb-false}
use lib.Dec.{ltb, lit≤, lit<}
use lib.IntN.{pos, negsuc}
use lib.Ieee.{Float, binary32, prec, unlike, div, of_int}
use lib.Ieee.Exact.{HasValue}
use Rattle.pressure.specs.Convert.{kpa, halved_of, limited_of, converted_of}
use Rattle.pressure.specs.Exact.{HalvingIsExact, PipeIsExact}
use Rattle.pressure.proofs.Rounding.{rescaled, whole_value, negative_value, cond_value, lt_whole, whole_lt, div_at, round_halves}

-- n kPa as a fraction a / d
pub kpa_value : (n a d : ℕ) → n ≤ 2 ^ prec binary32 → n * d ≡ a → HasValue (kpa n) false a d
kpa_value n a d h e = rescaled (kpa n) false n 1 a d (lit< tt) (omega arith) (whole_value binary32 n h)

-- ---- halving

-- the sign of a quotient by a number that is not negative
same_sign : (s : Bool) → unlike s false ≡ s
same_sign true = refl
same_sign false = refl

-- a whole number of either sign, halved
halved_value : (s : Bool) (x : Float) (n : ℕ) → n ≤ 2 ^ 15 → HasValue x s n 1 → HasValue (div binary32 x (kpa 2)) s n 2
halved_value s x n h v =
    rw (div_at binary32 x (kpa 2) s false n 1 2 1 (lit< tt) (lit< tt) (lit< tt) v (whole_value binary32 2 (lit≤ tt)), same_sign s, mul-one n)
    (round_halves binary32 s n (lt_of_le_of_lt h (lit< tt)))

pub halving_is_exact : HalvingIsExact
unfolding halved_of
halving_is_exact (pos n) h = halved_value false (of_int binary32 (pos n)) n (le_of_lt h) (whole_value binary32 n (le_trans (le_of_lt h) (lit≤ tt)))
halving_is_exact (negsuc n) h = halved_value true (of_int binary32 (negsuc n)) (suc n) h (negative_value binary32 n (le_trans h (lit≤ tt)))

-- ---- the limits

-- a / d, not below 0, limited to 0–550
pub limited_value : (x : Float) (a d : ℕ) → 0 < d → HasValue x false a d → HasValue (limited_of x) false (min a (550 * d)) d
unfolding limited_of
limited_value x a d D v =
    let top = 550 * d in
    let n = min a top in
    rw (whole_lt binary32 x false a d 0 D (lit≤ tt) v, lt_whole binary32 x false a d 550 D (lit≤ tt) v)
    (cond_value (ltb (0 * d) a) (cond (ltb a top) x (kpa 550)) (kpa 0) false n d
    (λ _. cond_value (ltb a top) x (kpa 550) false n d
    (λ t. rw (min-eq_left (le_of_lt (ltb-true a top t))) v)
    (λ t. kpa_value 550 n d (lit≤ tt) (omega (arith, ltb-false a top t))))
    (λ t. kpa_value 0 n d (lit≤ tt) (omega (arith, ltb-false (0 * d) a t))))

-- a number below 0 limited to 0–550
pub limited_below : (x : Float) (a d : ℕ) → 0 < d → HasValue x true a d → HasValue (limited_of x) false 0 d
unfolding limited_of
limited_below x a d D v = rw (whole_lt binary32 x true a d 0 D (lit≤ tt) v) (kpa_value 0 0 d (lit≤ tt) (omega arith))

pub pipe_is_exact : PipeIsExact
unfolding converted_of
pipe_is_exact full (pos n) h = limited_value (halved_of (pos n)) n 2 (lit< tt) (halving_is_exact (pos n) h)
pipe_is_exact full (negsuc n) h = limited_below (halved_of (negsuc n)) (suc n) 2 (lit< tt) (halving_is_exact (negsuc n) h)
