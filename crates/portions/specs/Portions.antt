-- The portions of a stream: the bytes that the unit is given, a call each.
use Rattle.std.specs.Prelude.{ℕ, zero, suc, Bool, true, false, cond, Option, None, Some, Result, Ok, Err, length, take, drop}
use mathlib.Core.List.{List, [], ◌∷◌, flatten}
use Rattle.portions.specs.declared.next.Portion.{Portion}
use Rattle.wire.specs.declared.split.RestError.{RestError}
use Rattle.wire.specs.Split.{next_command}

-- 01, "each command as long as its code says (a rest too short is refusal 4)": what of the bytes at hand is given next, where
-- `all` says that no bytes come after them. A command that is not whole yet waits; a byte that is no code is given by itself
unfoldable pub portion_at : Bool → ℕ → Result (Option ℕ) RestError → Option Portion
portion_at all left (Ok None) = None
portion_at all left (Err RestError.NoCode) = Some (Portion.Last 1)
portion_at all left (Err RestError.Short) = cond all (Some (Portion.Last left)) None
portion_at all left (Ok (Some n)) = Some (Portion.Command n)

unfoldable pub next_portion : Bool → List ℕ → Option Portion
next_portion all rest = portion_at all (length rest) (next_command rest)

-- how many bytes it has, and whether the stream ends with it
abbrev pub portion_length : Portion → ℕ
portion_length (Portion.Command n) = n
portion_length (Portion.Last n) = n

abbrev pub is_last : Portion → Bool
is_last (Portion.Command n) = false
is_last (Portion.Last n) = true

-- how many bytes are given next
abbrev pub next_length : Option Portion → ℕ
next_length None = 0
next_length (Some portion) = portion_length portion

-- what is given of the bytes at hand, and whether the stream has ended with it
pub record Given : Type 0 where
  pub portions : List (List ℕ)
  pub ended : Bool

abbrev pub given : List (List ℕ) → Bool → Given
given portions ended = record { portions = portions; ended = ended }

-- 01, "refusal 3 or 4, or an empty rest, ends it": by the next portion, and what is given after a command
unfoldable pub given_by : Option Portion → Bool → List ℕ → Given → Given
given_by None all rest more = given [] all
given_by (Some (Portion.Command n)) all rest more = given (take n rest ∷ more.portions) more.ended
given_by (Some (Portion.Last n)) all rest more = given (take n rest ∷ []) true

-- the same for at most so many portions
unfoldable pub given_within : ℕ → Bool → List ℕ → Given
given_within zero all rest = given [] false
given_within (suc most) all rest =
    given_by (next_portion all rest) all rest (given_within most all (drop (next_length (next_portion all rest)) rest))

-- all that is given of the bytes at hand: no more portions than bytes, and one try to find none
unfoldable pub given_of : Bool → List ℕ → Given
given_of all rest = given_within (suc (length rest)) all rest

-- the bytes that are not given
unfoldable pub left_of : Bool → List ℕ → List ℕ
left_of all rest = drop (length (flatten (given_of all rest).portions)) rest

-- the portions of a whole stream
abbrev pub portions_of : List ℕ → List (List ℕ)
portions_of input = (given_of true input).portions
