-- Refusals 1 to 4 of 01, and the operands of a command that passes them.
use Rattle.std.specs.Prelude.{ℕ, cond, not, Option, None, Some, Result, Ok, Err, ⊤, List, [], eqb, length, drop}
use Rattle.wire.specs.declared.form.FormError.{FormError}
use Rattle.wire.specs.Codes.{length_of}
use Rattle.wire.specs.Numbers.{byte_at}

-- 01, refusal 1: "The report area isn't 14 bytes."; 02, F-1: "Refusal 1 then wants 18 bytes."; 02, F-6: "one more for refusal 1"
abbrev pub report_length : ℕ
report_length = 19

-- 01, refusals 3 and 4, "The first byte is no code. The length isn't the code's.": by the length that the table gives the
-- first byte, and the number of bytes n
unfoldable pub code_form : Option ℕ → ℕ → Result ⊤ FormError
code_form None n = Err FormError.NoCode
code_form (Some m) n = cond (eqb n m) (Ok tt) (Err FormError.WrongLength)

-- 01, "Checked in this order", refusals 1 to 4
unfoldable pub form_of : List ℕ → ℕ → Result ⊤ FormError
form_of command area =
    cond (not (eqb area report_length)) (Err FormError.WrongArea)
    (cond (eqb (length command) 0) (Err FormError.NoBytes) (code_form (length_of (byte_at command 0)) (length command)))

-- the same in 01's numbers: the first of refusals 1 to 4 that applies, and none where a command passes them
unfoldable pub code_refusal : Option ℕ → ℕ → Option ℕ
code_refusal None n = Some 3
code_refusal (Some m) n = cond (eqb n m) None (Some 4)

unfoldable pub refusal_to : List ℕ → ℕ → Option ℕ
refusal_to command area =
    cond (not (eqb area report_length)) (Some 1)
    (cond (eqb (length command) 0) (Some 2) (code_refusal (length_of (byte_at command 0)) (length command)))

-- 01's number of each case, in its list of refusals, and none where it is none of the four
unfoldable pub refusal_of : Result ⊤ FormError → Option ℕ
refusal_of (Err FormError.WrongArea) = Some 1
refusal_of (Err FormError.NoBytes) = Some 2
refusal_of (Err FormError.NoCode) = Some 3
refusal_of (Err FormError.WrongLength) = Some 4
refusal_of (Ok passed) = None

-- 01, "One code byte, a four-byte number, operands"
abbrev pub operands_of : List ℕ → List ℕ
operands_of command = drop 5 command

-- 01, "an empty part at refusals 1–4"
unfoldable pub part_for : Result ⊤ FormError → List ℕ → List ℕ
part_for (Err refusal) command = []
part_for (Ok passed) command = operands_of command

-- 01, "The host gets a command's operand bytes as a part of what it lent"
unfoldable pub operand_part : List ℕ → ℕ → List ℕ
operand_part command area = part_for (form_of command area) command
