-- The table "Codes and whole lengths" of 01, and the whole length that it gives a code.
use Rattle.std.specs.Prelude.{ℕ, cond, Option, None, Some, List, [], ◌∷◌, eqb}
use Rattle.wire.specs.declared.codes.Row.{Row}

-- a row of the table: a code and the whole length of its command, in bytes
abbrev pub row : ℕ → ℕ → Row
row c n = record { code = c; length = n }

-- the bytes of the shortest command, "One code byte, a four-byte number"
abbrev pub shortest : ℕ
shortest = 5

-- the bytes of the longest command, a start
abbrev pub longest : ℕ
longest = 24

-- 01, the table "Codes and whole lengths": its columns Code and Bytes, row by row
unfoldable pub commands : List Row
commands =
    row 0x01 longest ∷
    row 0x02 6 ∷
    row 0x10 14 ∷
    row 0x20 12 ∷
    row 0x21 6 ∷
    row 0x22 8 ∷
    row 0x23 6 ∷
    row 0x30 6 ∷
    row 0x31 5 ∷
    row 0x32 5 ∷
    -- 02, F-3: "New command 40 (5 bytes)"
    row 0x40 5 ∷
    -- 02, F-6: "A command 50 .. (8 bytes)"
    row 0x50 8 ∷
    -- 02, F-7: "A command 51 (12 bytes)", "A command 52 (7 bytes)", "A command 53 (6 bytes)"
    row 0x51 12 ∷
    row 0x52 7 ∷
    row 0x53 6 ∷
    []

-- the length in the first of the rows that has the code
unfoldable pub length_in : List Row → ℕ → Option ℕ
length_in [] c = None
length_in (r ∷ rs) c = cond (eqb r.code c) (Some r.length) (length_in rs c)

-- 01, "Codes and whole lengths": the whole length of a code's command, and none where the byte is no code
unfoldable pub length_of : ℕ → Option ℕ
length_of c = length_in commands c
