use Prim.Native.Nat.{ℕ, ◌+◌}
use mathlib.Core.Path.{◌≡◌}
use native.Mathlib.Omega.{arith}
use Rattle.rules.specs.Reports.{causes_number}
use Rattle.steps.proofs.report.causes_number.Goals as goal

-- the two ways to sum twelve numbers
summed : (a b c d e f g h i j k l : ℕ) → a + b + c + d + e + f + g + h + i + j + k + l ≡ a + (b + (c + (d + (e + (f + (g + (h + (i + (j + (k + (l + 0)))))))))))
summed a b c d e f g h i j k l = omega arith

pub returns : goal.returns
unfolding causes_number
returns c =
    rw (
      c.value-12.ensures.0,
      c.value-11.ensures.0,
      c.value-10.ensures.0,
      c.value-9.ensures.0,
      c.value-8.ensures.0,
      c.value-7.ensures.0,
      c.value-6.ensures.0,
      c.value-5.ensures.0,
      c.value-4.ensures.0,
      c.value-3.ensures.0,
      c.value-2.ensures.0,
      c.value.ensures.0,
    )
    (summed _ _ _ _ _ _ _ _ _ _ _ _)
