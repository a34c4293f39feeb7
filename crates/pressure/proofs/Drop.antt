-- The drop is the exact difference of the two figures, rounded once.
use mathlib.Core.Path.{◌≡◌, refl, sym, ap, ◌∙◌}
use Prim.Native.Nat.{ℕ, zero, suc, ◌+◌, ◌-◌, ◌*◌, ◌<◌, ◌≤◌}
use native.Mathlib.Nat.{zero-lt-suc, mul_assoc, mul-pos}
use native.Mathlib.Decide.{dec_lt}
use native.Mathlib.Omega.{arith}
use mathlib.Core.Bool.{Bool, true, false, not}
use borrow.Author.Tests.{lt-ltb, le-ltb}
use lib.IntN.{ℤ, pos, negsuc, sub_ℕ, ◌-ℤ◌}
use lib.Ieee.{binary32, round, sum}
use lib.Ieee.Exact.{HasValue}
use Rattle.pressure.specs.Reference.{drop_of}
use Rattle.pressure.specs.Claims.{nearest_to, DropIsRoundedOnce}
use Rattle.pressure.proofs.Rounding.{sub_at, scaled_sum, sum_above, sum_below}
use Rattle.pressure.specs.declared.Pressures.{Pressures}

-- a - b as an integer, rounded: by which of the two is larger
nearest_above : (a b c : ℕ) → b ≤ a → nearest_to (sub_ℕ a b) c ≡ round binary32 false (a - b) c
nearest_above a b c h = rw (le-ltb a b h)

nearest_below : (a b c : ℕ) → a < b → nearest_to (sub_ℕ a b) c ≡ round binary32 true (b - a) c
nearest_below a b c h = rw (lt-ltb a b h) (ap (λ (n : ℕ). round binary32 true n c) (omega arith))

pos_less_pos : (a b : ℕ) → pos a -ℤ pos b ≡ sub_ℕ a b
pos_less_pos a zero = rw (le-ltb a 0 (omega arith)) (ap pos (omega arith))
pos_less_pos a (suc b) = refl

negsuc_less_pos : (a b : ℕ) → negsuc a -ℤ pos b ≡ negsuc (a + b)
negsuc_less_pos a zero = rw (lt-ltb 0 (suc a) (zero-lt-suc a)) (ap negsuc (omega arith))
negsuc_less_pos a (suc b) = ap negsuc (omega arith)

-- `sum` of a negative and a positive figure
module _ (a b c : ℕ) where
  minus_above : b < a → sum binary32 true a false b c ≡ round binary32 true (a - b) c
  unfolding sum
  minus_above h = rw (le-ltb a b (omega arith), lt-ltb b a h)

  minus_level : a ≡ b → sum binary32 true a false b c ≡ round binary32 false (a - b) c
  unfolding sum
  minus_level h = rw (le-ltb a b (omega arith), le-ltb b a (omega arith))

  minus_below : a < b → sum binary32 true a false b c ≡ round binary32 false (b - a) c
  unfolding sum
  minus_below h = rw (lt-ltb a b h)

plus_plus : (a b c : ℕ) → sum binary32 false a true b c ≡ nearest_to (pos a -ℤ pos b) c
plus_plus a b c =
    elim (dec_lt a b) [
      | yes h ↦ sum_below binary32 a b c h ∙ sym (nearest_below a b c h) ∙ ap (λ (z : ℤ). nearest_to z c) (sym (pos_less_pos a b))
      | no h ↦ sum_above binary32 a b c (omega arith) ∙ sym (nearest_above a b c (omega arith)) ∙ ap (λ (z : ℤ). nearest_to z c) (sym (pos_less_pos a b))
    ]

plus_minus : (a b c : ℕ) → sum binary32 false a false (suc b) c ≡ nearest_to (pos a -ℤ negsuc b) c
unfolding sum
plus_minus a b c = refl

minus_plus : (a b c : ℕ) → sum binary32 true (suc a) true b c ≡ nearest_to (negsuc a -ℤ pos b) c
unfolding sum
minus_plus a b c = ap (λ (n : ℕ). round binary32 true n c) (omega arith) ∙ ap (λ (z : ℤ). nearest_to z c) (sym (negsuc_less_pos a b))

minus_minus : (a b c : ℕ) → sum binary32 true (suc a) false (suc b) c ≡ nearest_to (negsuc a -ℤ negsuc b) c
minus_minus a b c =
    elim (dec_lt a b) [
      | yes h ↦ minus_below (suc a) (suc b) c (omega arith) ∙ sym (nearest_above (suc b) (suc a) c (omega arith))
      | no h ↦
          elim (dec_lt b a) [
            | yes k ↦ minus_above (suc a) (suc b) c (omega arith) ∙ sym (nearest_below (suc b) (suc a) c (omega arith))
            | no k ↦
                let level : suc a ≡ suc b = omega arith in
                minus_level (suc a) (suc b) c level
                ∙ ap (λ (n : ℕ). round binary32 false n c) (omega arith)
                ∙ sym (nearest_above (suc b) (suc a) c (omega arith))
          ]
    ]

-- the difference of a / c and b / c
difference : (p : Pressures) (s t : Bool) (a b c : ℕ) → 0 < c → HasValue p.reference s a c → HasValue p.pressure t b c → drop_of p ≡ sum binary32 s a (not t) b c
unfolding drop_of
difference p s t a b c C v w =
    sub_at binary32 p.reference p.pressure s t a c b c C C v w
    ∙ scaled_sum binary32 s (not t) (a * c) (b * c) (c * c) a b c (mul-pos C C) C (mul_assoc a c c) (mul_assoc b c c)

pub drop_is_rounded_once : DropIsRoundedOnce
drop_is_rounded_once p (pos a) (pos b) c C v w = difference p false false a b c C v w ∙ plus_plus a b c
drop_is_rounded_once p (pos a) (negsuc b) c C v w = difference p false true a (suc b) c C v w ∙ plus_minus a b c
drop_is_rounded_once p (negsuc a) (pos b) c C v w = difference p true false (suc a) b c C v w ∙ minus_plus a b c
drop_is_rounded_once p (negsuc a) (negsuc b) c C v w = difference p true true (suc a) (suc b) c C v w ∙ minus_minus a b c
