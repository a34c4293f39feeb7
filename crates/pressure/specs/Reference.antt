-- The reference's change and the drop (01, "Brake feedback", second paragraph).
use Rattle.std.specs.Prelude.{Bool, cond, ◌&&◌, pos, Float}
use Rattle.std.specs.Float.{binary32}
use Rattle.std.specs.Float.Ieee.{add, sub, lt, le}
use Rattle.pressure.specs.Convert.{kpa, halved_of}
use Rattle.pressure.specs.declared.Pressures.{Pressures}

-- "P_INT < P_REF ≤ P_INT + 30", with the f32 sum
unfoldable pub is_sinking : Pressures → Bool
is_sinking p = lt p.pressure p.reference && le p.reference (add binary32 p.pressure (kpa 30))

-- "P_REF < P_INT adds 1.5; P_INT < P_REF ≤ P_INT + 30 takes 0.5; otherwise no change": 1.5 and 0.5 are 3 and 1 half kPa
unfoldable pub changed_reference : Pressures → Float
changed_reference p =
    cond (lt p.reference p.pressure) (add binary32 p.reference (halved_of (pos 3)))
    (cond (is_sinking p) (sub binary32 p.reference (halved_of (pos 1))) p.reference)

unfoldable pub changed_of : Pressures → Pressures
changed_of p = record { pressure = p.pressure; reference = changed_reference p }

-- "Drop = P_REF − P_INT", rounded once
unfoldable pub drop_of : Pressures → Float
drop_of p = sub binary32 p.reference p.pressure
