use Prim.Native.Nat.{ℕ, zero, suc, ◌*◌, ◌≤◌}
use mathlib.Core.Path.{◌≡◌, ◌∙◌, ap}
use native.Mathlib.Omega.{arith}
use lib.IntN.{ℤ, pos, negsuc, neg_ℤ, ◌*ℤ◌}
use lib.Signed.{mag}
use mir.Syntax.{w16, w32}
use mir.Val.{Fits, SFits, to_z, of_z}
use mir.ValLaws.{to_z-of_z}
use Rattle.rules.specs.Releases.{is_braked}
use Rattle.brakes.proofs.release.is_braked.Goals as goal

-- seven times the full deceleration, in 32 bits
seven_times : (full : ℕ) → Fits w16 full → to_z w32 (of_z w32 (pos 7 *ℤ to_z w32 (of_z w32 (pos full)))) ≡ pos (7 * full)
seven_times full f =
    ap (λ x. to_z w32 (of_z w32 (pos 7 *ℤ x))) (to_z-of_z w32 (pos full) (record { sfits = omega (arith, f.fits) }))
    ∙ to_z-of_z w32 (pos 7 *ℤ pos full) (record { sfits = omega (arith, f.fits) })

mag_neg : (n : ℕ) → mag (neg_ℤ (pos n)) ≤ n
mag_neg zero = omega arith
mag_neg (suc n) = omega arith

ten_fits : (z : ℤ) → SFits w16 z → SFits w32 (pos 10 *ℤ z)
ten_fits (pos n) f = record { sfits = omega (arith, f.sfits) }
ten_fits (negsuc n) f = record { sfits = omega (arith, f.sfits, mag_neg (10 * suc n)) }

-- ten times the measured deceleration, in 32 bits
ten_times : (z : ℤ) → SFits w16 z → to_z w32 (of_z w32 (pos 10 *ℤ to_z w32 (of_z w32 z))) ≡ pos 10 *ℤ z
ten_times z f =
    ap (λ x. to_z w32 (of_z w32 (pos 10 *ℤ x))) (to_z-of_z w32 z (record { sfits = omega (arith, f.sfits) }))
    ∙ to_z-of_z w32 (pos 10 *ℤ z) (ten_fits z f)

pub returns : goal.returns
unfolding is_braked
returns c =
    let z = c.args.r.measured in
    let fits : SFits w16 z = record { sfits = omega arith } in
    rw (c.from.ensures, c.from-2.ensures, to_z-of_z w16 z fits, seven_times c.args.full c.ranges.full, ten_times z fits)
