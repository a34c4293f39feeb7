-- Numbers high byte first, and two's complement. Assumes nothing.
use Prim.Native.Nat.{ℕ, zero, suc, ◌+◌, ◌*◌, ◌/◌, ◌^◌, ◌-◌, ◌<◌, ◌≤◌}
use mathlib.Core.Path.{◌≡◌, ◌∙◌, subst⁻¹}
use mathlib.Core.List.{List, ◌∷◌, []}
use native.Mathlib.Omega.{arith}
use native.Mathlib.Nat.{zero-add, suc-add, zero-mul, add-mul, mul_assoc, add_assoc, mul-div_cancel, lt_of_lt_of_le, not-suc-le-zero}
use native.Mathlib.Numerals.{one-add}
use lib.Dec.{lit<}
use lib.Pow.{pow-add}
use lib.ListN.{drop}
use lib.Seq.{drop-drop, get_or-drop}
use lib.IntN.{pos, negsuc, ◌-ℤ◌, ℤ}
use mir.Syntax.{Width, w16, w32}
use mir.Val.{Fits, SFits, bits, hbits, to_z, of_z}
use mir.ValLaws.{to_z_pos, to_z-of_z, to_z-Fits, half_full, pow-bits}
use borrow.Author.Tests.{lt-ltb, le-ltb}
use Rattle.wire.specs.Numbers.{byte_at, number, signed, high_byte, low_byte, high_pair, low_pair}
use Rattle.std.specs.Int.{from_be_bytes}

-- a field's two bytes read back
pub bytes_read : (x : ℕ) (rest : List ℕ) → number 2 (high_byte x ∷ low_byte x ∷ rest) ≡ x
unfolding number
bytes_read x rest = omega arith

-- and a field's four
pub four_read : (x : ℕ) (rest : List ℕ)
    → number 4 (high_byte (high_pair x) ∷ low_byte (high_pair x) ∷ high_byte (low_pair x) ∷ low_byte (low_pair x) ∷ rest) ≡ x
unfolding number
four_read x rest = omega arith

pos_less : (x m : ℕ) → x < m → pos x -ℤ pos m ≡ negsuc (m - suc x)
pos_less x zero h = absurd (not-suc-le-zero h)
pos_less x (suc k) h = simp (lt-ltb x (suc k) h)

-- the first two bytes of a list and the first four, read as the library reads them
pub two_bytes : (s : List ℕ) → from_be_bytes w16 (byte_at s 0 ∷ byte_at s 1 ∷ []) ≡ number 2 s
unfolding number
two_bytes s = omega (arith, get_or-drop 1 s 0 0)

pub four_bytes : (s : List ℕ) → from_be_bytes w32 (byte_at s 0 ∷ byte_at s 1 ∷ byte_at s 2 ∷ byte_at s 3 ∷ []) ≡ number 4 s
unfolding number
four_bytes s =
    omega (arith, get_or-drop 1 s 0 0, get_or-drop 1 (drop 1 s) 0 0, get_or-drop 1 s 1 0, get_or-drop 1 (drop 1 (drop 1 s)) 0 0, get_or-drop 1 (drop 1 s) 1 0, get_or-drop 1 s 2 0)

-- the value of m + n bytes, by the first m and the rest
pub number_add : (m n : ℕ) (s : List ℕ) → number (m + n) s ≡ number m s * 256 ^ n + number n (drop m s)
unfolding number
number_add zero n s = rw (zero-add, zero-mul, zero-add)
number_add (suc m) n s =
    rw (suc-add, number_add m n (drop 1 s), pow-add 256 m n, add-mul, mul_assoc, drop-drop m 1 s, one-add, add_assoc)

half : (w : Width) → 2 ^ bits w / 2 ≡ 2 ^ hbits w
half w = rw (pow-bits w) (mul-div_cancel (2 ^ hbits w) (lit< tt))

-- the bits of x read as signed
pub signed_bits : (w : Width) (x : ℕ) → Fits w x → to_z w x ≡ signed (2 ^ bits w) x
unfolding signed
signed_bits w x h = rw (half w, pos_less x (2 ^ bits w) h.fits)

-- and so they are read back from the bits of the signed number
pub read_back : (w : Width) (x : ℕ) → Fits w x → {y : ℤ} → y ≡ to_z w x → to_z w (of_z w y) ≡ signed (2 ^ bits w) x
read_back w x h e = rw (e, to_z-of_z w (to_z w x) (to_z-Fits w x h)) (signed_bits w x h)

-- x, in the upper half of a width's values, less their number, taken in a wider width
module _ (n w : Width) (wider : 2 ^ bits n ≤ 2 ^ hbits w) (x : ℕ) (f : Fits n x) (h : 2 ^ hbits n ≤ x) where
  less_all : to_z w x -ℤ pos (2 ^ bits n) ≡ to_z n x
  less_all =
      rw (to_z_pos w x (lt_of_lt_of_le f.fits wider), pos_less x (2 ^ bits n) f.fits, le-ltb x (2 ^ hbits n) h)

  pub wide_fits : SFits w (to_z w x -ℤ pos (2 ^ bits n))
  wide_fits =
      subst⁻¹ (SFits w) less_all
      (record { sfits = lt_of_lt_of_le (half_full n (to_z-Fits n x f).sfits) wider })

  back : to_z w (of_z w (to_z w x -ℤ pos (2 ^ bits n))) ≡ to_z n x
  back = to_z-of_z w _ wide_fits ∙ less_all

  pub narrow_fits : SFits n (to_z w (of_z w (to_z w x -ℤ pos (2 ^ bits n))))
  narrow_fits = subst⁻¹ (SFits n) back (to_z-Fits n x f)

  pub signed_less : to_z n (of_z n (to_z w (of_z w (to_z w x -ℤ pos (2 ^ bits n))))) ≡ signed (2 ^ bits n) x
  signed_less = to_z-of_z n _ narrow_fits ∙ back ∙ signed_bits n x f
