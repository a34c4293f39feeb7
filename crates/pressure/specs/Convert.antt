-- From P_EXT to P_INT (01, "Brake feedback", first paragraph).
use Rattle.std.specs.Prelude.{ℕ, Bool, cond, ◌||◌, ℤ, pos, Float}
use Rattle.std.specs.Float.{binary32}
use Rattle.std.specs.Float.Ieee.{of_int, sub, mul, div, lt, neg}
use Rattle.pressure.specs.declared.Feed.{Feed}
use Rattle.pressure.specs.declared.Feed.TheVariants.{Pipe, Cylinder}

-- a whole number of kPa, as an f32
abbrev pub kpa : ℕ → Float
kpa n = of_int binary32 (pos n)

-- "P_EXT is halved in f32"
unfoldable pub halved_of : ℤ → Float
halved_of external = div binary32 (of_int binary32 external) (kpa 2)

-- "Below −50", and "Above 955"
unfoldable pub is_low : Float → Bool
is_low external = lt external (neg (kpa 50))

unfoldable pub is_high : Float → Bool
is_high external = lt (kpa 955) external

-- TRYCKGIVARFEL: "Below −50: TRYCKGIVARFEL", "Above 955: TRYCKGIVARFEL"
unfoldable pub sensor_fault : Float → Bool
sensor_fault external = is_low external || is_high external

-- "limited to 0–550"
unfoldable pub limited_of : Float → Float
limited_of p = cond (lt (kpa 0) p) (cond (lt p (kpa 550)) p (kpa 550)) (kpa 0)

-- "Cylinder: P_EXT below 0 or above 955 counts as 0"
unfoldable pub counted_of : Float → Float
counted_of external = cond (lt external (kpa 0) || is_high external) (kpa 0) external

-- "P_INT is 500 − (150×P_EXT)/P_FULL in f32, limited to 0–550": product, quotient and difference, each rounded once
unfoldable pub cylinder_of : ℕ → Float → Float
cylinder_of full external = limited_of (sub binary32 (kpa 500) (div binary32 (mul binary32 (kpa 150) (counted_of external)) (kpa full)))

-- "Pipe: P_INT is P_EXT limited to 0–550. Cylinder: .."
unfoldable pub converted_of : Feed → ℕ → Float → Float
converted_of Pipe full external = limited_of external
converted_of Cylinder full external = cylinder_of full external

-- "Below −50: .. P_INT is P_REF (0 if unset)", and the conversion otherwise
unfoldable pub pressure_of : Feed → ℕ → Float → Float → Float
pressure_of feed full external reference = cond (is_low external) reference (converted_of feed full external)
