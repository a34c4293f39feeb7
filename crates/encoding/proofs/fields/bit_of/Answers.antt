use Prim.Native.Nat.{ℕ, ◌/◌, ◌^◌, ◌<◌, ◌≤◌}
use mathlib.Core.Path.{◌≡◌}
use mathlib.Core.Bool.{false}
use native.Mathlib.Omega.{arith}
use native.Mathlib.Nat.{div-lt_iff_lt-mul, lt_of_lt_of_le, one-mul}
use lib.Pow.{pow_pos, pow_mono}
use Rattle.rules.specs.Operands.{bit_of}
use Rattle.encoding.proofs.fields.bit_of.Goals as goal

-- past a byte's eight bits no bit is set
bit_past : (n byte : ℕ) → 8 ≤ n → byte < 256 → false ≡ bit_of n byte
bit_past n byte h f =
    let less : byte / 2 ^ n < 1 = (div-lt_iff_lt-mul (pow_pos n)).1 (rw one-mul (lt_of_lt_of_le f (pow_mono h))) in
    let none : byte / 2 ^ n ≡ 0 = omega arith in
    rw none

pub returns-else-n-lt8 : goal.returns-else-n-lt8
returns-else-n-lt8 c = bit_past _ _ c.if-n-lt8.false c.ranges.byte.fits
