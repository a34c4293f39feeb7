-- The line of an answer (01, after "Figures to check"): "prints, a line each, the answer and, if accepted or again, a space and the
-- report in 28 capital hex digits".
use Rattle.std.specs.Prelude.{ℕ, ◌+◌, ◌*◌, ◌/◌, ◌%◌, cond, List, [], ◌∷◌, ◌++◌, ltb}
use Rattle.wire.specs.Form.{report_length}
use Rattle.wire.specs.Text.{digit_of, space, line_feed}
use Rattle.rules.specs.Numbers.{answer_number, is_answered}
use Rattle.rules.specs.declared.Answer.{Answer}

-- a number of up to three digits
unfoldable pub decimal_of : ℕ → List ℕ
decimal_of n =
    cond (ltb n 10) (digit_of n ∷ [])
    (cond (ltb n 100) (digit_of (n / 10) ∷ digit_of (n % 10) ∷ [])
    (digit_of (n / 100) ∷ digit_of (n / 10 % 10) ∷ digit_of (n % 10) ∷ []))

-- two digits for each byte, the high one first
unfoldable pub hex_of : List ℕ → List ℕ
hex_of [] = []
hex_of (byte ∷ bytes) = digit_of (byte / 16) ∷ digit_of (byte % 16) ∷ hex_of bytes

-- the bytes that a report takes in a line
abbrev pub report_width : ℕ
report_width = 1 + 2 * report_length

unfoldable pub line_of : Answer → List ℕ → List ℕ
line_of answer report =
    (decimal_of (answer_number answer) ++ cond (is_answered answer) (space ∷ hex_of report) []) ++ (line_feed ∷ [])

-- the most bytes that a line has: three digits, a report, a line feed
abbrev pub line_width : ℕ
line_width = 3 + report_width + 1

-- the line where there are so many bytes of room, and none where the longest would not have room
unfoldable pub line_in : ℕ → Answer → List ℕ → List ℕ
line_in room answer report = cond (ltb room line_width) [] (line_of answer report)
