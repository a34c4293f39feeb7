-- The trip sheet of a recorded stream (02, F-5).
use Rattle.std.specs.Prelude.{ℕ, ◌+◌, ◌*◌, ◌/◌, Bool, cond}
use mathlib.Core.List.{List, [], ◌∷◌, map, zip_with, flatten}
use Rattle.wire.specs.Codes.{shortest}
use Rattle.portions.specs.Portions.{Given, given_within, portions_of}
use Rattle.portions.specs.Reads.{Writer, input_room}
use Rattle.portions.specs.Told.{handed_to}
use Rattle.portions.specs.declared.telling.Handed.{Handed}
use Rattle.rules.specs.Numbers.{is_accepted}
use Rattle.rules.specs.Operands.{number_of}
use Rattle.rules.specs.Commands.{fresh_stm}
use Rattle.rules.specs.Runs.{Moment, moments, moment_of, state_after, send}
use Rattle.rules.specs.declared.Stm.{Stm}
use Rattle.sheet.specs.Columns.{Entry, entry}
use Rattle.sheet.specs.Pages.{sheet_of}
use Rattle.sheet.specs.Paging.{Added, added, fresh_sheet, added_for, added_width}
use Rattle.printing.specs.declared.Trip.{Trip}

-- "each accepted command": its number and its report; a repeat and a refusal give nothing
abbrev pub entry_at : List ℕ → Moment → List Entry
entry_at command m = cond (is_accepted m.answer) (entry (number_of command) m.area ∷ []) []

-- the accepted ones of the portions that a unit is given, at the moments of which the stream program prints a line each
unfoldable pub entries_of : Stm → List (List ℕ) → List Entry
entries_of stm portions = flatten (zip_with entry_at portions (moments stm (map send portions)))

-- "A program runs a recorded command stream from standard input, ending as the stream program does, and prints pages": the sheet of the
-- accepted commands of the whole input, from a unit before any start
unfoldable pub trip_sheet : List ℕ → List ℕ
trip_sheet input = sheet_of (entries_of fresh_stm (portions_of input))

-- ---- as it is printed

-- before any command
abbrev pub fresh_trip : Trip
fresh_trip = record { stm = fresh_stm; sheet = fresh_sheet }

-- what a portion adds to the sheet
unfoldable pub added_at : Trip → List ℕ → Added
added_at trip portion =
    let m = moment_of trip.stm (send portion) in
    cond (is_accepted m.answer) (added_for trip.sheet (entry (number_of portion) m.area)) (added [] trip.sheet)

-- the unit's call for each portion, and what it adds
abbrev pub printer : Writer Trip
printer = record {
  next = λ trip portion. record { stm = state_after trip.stm (send portion); sheet = (added_at trip portion).sheet };
  text = λ trip portion. (added_at trip portion).text;
}

-- what has come of portions that are handed to a unit: where the trip stands, the bytes used, those written, and whether the stream has ended
abbrev pub handed_on : Trip → Given → Handed Trip
handed_on trip given = handed_to printer trip given

-- what is given of bytes where so many bytes of room are for the sheet: as many portions as what they add at most has room for
abbrev pub given_in : ℕ → Bool → List ℕ → Given
given_in room all bytes = given_within (room / added_width) all bytes

-- the bytes of output that the program has room for
abbrev pub output_room : ℕ
output_room = (input_room / shortest + 2) * added_width
