-- The next command of a stream.
use Rattle.std.specs.Prelude.{ℕ, cond, Option, None, Some, Result, Ok, Err, List, eqb, ltb, length}
use Rattle.wire.specs.declared.split.RestError.{RestError}
use Rattle.wire.specs.Codes.{length_of}
use Rattle.wire.specs.Numbers.{byte_at}

-- 01, "each command as long as its code says (a rest too short is refusal 4)": by the length that the table gives the
-- first byte, and the number of bytes left
unfoldable pub code_next : Option ℕ → ℕ → Result (Option ℕ) RestError
code_next None left = Err RestError.NoCode
code_next (Some n) left = cond (ltb left n) (Err RestError.Short) (Ok (Some n))

-- 01, "refusal 3 or 4, or an empty rest, ends it"
unfoldable pub next_command : List ℕ → Result (Option ℕ) RestError
next_command rest = cond (eqb (length rest) 0) (Ok None) (code_next (length_of (byte_at rest 0)) (length rest))

-- the same in 01's numbers: refusal 3 or 4 of a rest, and none where it is empty or has a command
unfoldable pub short_refusal : Option ℕ → ℕ → Option ℕ
short_refusal None left = Some 3
short_refusal (Some n) left = cond (ltb left n) (Some 4) None

unfoldable pub rest_refusal : List ℕ → Option ℕ
rest_refusal rest = cond (eqb (length rest) 0) None (short_refusal (length_of (byte_at rest 0)) (length rest))

-- 01's number of each case, in its list of refusals; an empty rest and a command are none
unfoldable pub next_refusal : Result (Option ℕ) RestError → Option ℕ
next_refusal (Err RestError.NoCode) = Some 3
next_refusal (Err RestError.Short) = Some 4
next_refusal (Ok command) = None
