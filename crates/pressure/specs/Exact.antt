-- How the f32 figures of a reading lie to the exact ones: statements on whole numbers, proved in proofs/.
use Rattle.std.specs.Prelude.{◌≡◌, ℕ, suc, ◌+◌, ◌-◌, ◌*◌, ◌^◌, ◌≤◌, ◌<◌, min, true, false, cond, leb, ℤ, pos, negsuc, Float}
use Rattle.std.specs.Int.Signed.{mag}
use Rattle.std.specs.Float.{nan, inf, fin}
use Rattle.std.specs.Float.Ieee.{up, down}
use Rattle.std.specs.Float.Ieee.Exact.{HasValue}
use Rattle.pressure.specs.Convert.{halved_of, converted_of}
use Rattle.pressure.specs.declared.Feed.TheVariants.{Pipe, Cylinder}

-- every value of a signed 16-bit reading
abbrev pub SixteenBits : ℤ → Type 0
SixteenBits external = mag external < 2 ^ 15

-- x is exactly the fraction z / c
abbrev pub IsFraction : Float → ℤ → ℕ → Type 0
IsFraction x (pos n) c = HasValue x false n c
IsFraction x (negsuc n) c = HasValue x true (suc n) c

-- x is exactly z half kPa
abbrev pub IsHalves : Float → ℤ → Type 0
IsHalves x z = IsFraction x z 2

-- "P_EXT is halved in f32, exactly"
abbrev pub HalvingIsExact : Type 0
HalvingIsExact = (external : ℤ) → SixteenBits external → IsHalves (halved_of external) external

-- a reading limited to 0–550 kPa, in half kPa
abbrev pub limited_halves : ℤ → ℕ
limited_halves (pos n) = min n 1100
limited_halves (negsuc n) = 0

-- on a pipe P_INT is exactly "P_EXT limited to 0–550"
abbrev pub PipeIsExact : Type 0
PipeIsExact = (full : ℕ) (external : ℤ) → SixteenBits external → IsHalves (converted_of Pipe full (halved_of external)) (pos (limited_halves external))

-- "P_EXT below 0 or above 955 counts as 0", in half kPa
abbrev pub counted_halves : ℤ → ℕ
counted_halves (pos n) = cond (leb n 1910) n 0
counted_halves (negsuc n) = 0

-- the exact fraction 500 − (150×P_EXT)/P_FULL limited to 0–550, over 2×P_FULL; the difference is cut off at 0
abbrev pub exact_parts : ℕ → ℤ → ℕ
exact_parts full external = min (550 * (2 * full)) (500 * (2 * full) - 150 * counted_halves external)

-- x is a finite number, not negative, within 1/16,384 of parts / whole
abbrev pub IsNear : Float → ℕ → ℕ → Type 0
IsNear nan parts whole = ⊥
IsNear (inf s) parts whole = ⊥
IsNear (fin s m e) parts whole =
    (s ≡ false)
    × (16384 * (m * up e * whole) ≤ 16384 * (parts * down e) + down e * whole)
    × (16384 * (parts * down e) ≤ 16384 * (m * up e * whole) + down e * whole)

-- "within 1/16,384 kPa of the exact fraction limited likewise", for every reading and every P_FULL of 01; it holds of the
-- conversion below −50 too, where P_INT is P_REF instead
abbrev pub CylinderIsNear : Type 0
CylinderIsNear =
    (full : ℕ) (external : ℤ) → 150 ≤ full → full ≤ 600 → SixteenBits external
    → IsNear (converted_of Cylinder full (halved_of external)) (exact_parts full external) (2 * full)
