-- The deceleration b (01, "Curves", first two sentences).
use Rattle.std.specs.Prelude.{ℕ, suc, ◌+◌, ◌-◌, ◌*◌, Bool, cond, ℤ, pos, negsuc}
use Rattle.curve.specs.declared.Direction.{Direction}
use Rattle.curve.specs.declared.Direction.TheVariants.{Up, Down}
use Rattle.curve.specs.declared.Gradient.{Gradient}

-- "b is the full deceleration, soft with HALKA on"
unfoldable pub level_of : ℕ → ℕ → Bool → ℕ
level_of full soft halka = cond halka soft full

-- "uphill (positive)": a signed gradient as a direction and a size
abbrev pub gradient_from : ℤ → Gradient
gradient_from (pos n) = record { direction = Up; size = n }
gradient_from (negsuc n) = record { direction = Down; size = suc n }

-- "uphill (positive) adds 9 per ‰, downhill takes 10", to 0 at the least
abbrev pub on_gradient : ℕ → Direction → ℕ → ℕ
on_gradient level Up size = level + 9 * size
on_gradient level Down size = level - 10 * size

unfoldable pub deceleration_of : ℕ → Gradient → ℕ
deceleration_of level gradient = on_gradient level gradient.direction gradient.size
