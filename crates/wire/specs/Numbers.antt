-- Numbers of a command and of a report.
use Rattle.std.specs.Prelude.{ℕ, zero, suc, ◌+◌, ◌*◌, ◌/◌, ◌%◌, ◌^◌, cond, List, ltb, ℤ, pos, ◌-ℤ◌, drop, get_or}

-- 01, "operands of fixed width": the byte at a place, and 0 past the end
abbrev pub byte_at : List ℕ → ℕ → ℕ
byte_at s at = get_or s at 0

-- 01, "high byte first": the value of the first n bytes
unfoldable pub number : ℕ → List ℕ → ℕ
number zero s = 0
number (suc n) s = byte_at s 0 * 256 ^ n + number n (drop 1 s)

-- 01, "signed ones in two's complement": x of the m values of its width
unfoldable pub signed : ℕ → ℕ → ℤ
signed m x = cond (ltb x (m / 2)) (pos x) (pos x -ℤ pos m)

-- 01, Report, "High byte first": the two bytes of a field of 2,
abbrev pub high_byte : ℕ → ℕ
high_byte x = x / 256

abbrev pub low_byte : ℕ → ℕ
low_byte x = x % 256

-- and the two pairs of bytes of a field of 4
abbrev pub high_pair : ℕ → ℕ
high_pair x = x / 65536

abbrev pub low_pair : ℕ → ℕ
low_pair x = x % 65536
