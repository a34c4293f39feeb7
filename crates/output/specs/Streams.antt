-- The output of the stream program for any input (01, after "Figures to check").
use Rattle.std.specs.Prelude.{ℕ, ◌+◌, ◌*◌, ◌/◌, Bool}
use mathlib.Core.List.{List}
use Rattle.wire.specs.Codes.{shortest}
use Rattle.portions.specs.Portions.{Given, given_within, portions_of}
use Rattle.portions.specs.Reads.{Writer, text_by, input_room}
use Rattle.portions.specs.Told.{handed_to}
use Rattle.portions.specs.declared.telling.Handed.{Handed}
use Rattle.rules.specs.Commands.{fresh_stm}
use Rattle.rules.specs.Runs.{Moment, moment_of, state_after, send}
use Rattle.rules.specs.declared.Stm.{Stm}
use Rattle.line.specs.Lines.{line_of, line_width}

-- "prints, a line each, the answer and, if accepted or again, a space and the report"
abbrev pub line_at : Moment → List ℕ
line_at m = line_of m.answer m.area

-- the unit's call for each portion, and its line
abbrev pub lines : Writer Stm
lines = record { next = λ stm portion. state_after stm (send portion); text = λ stm portion. line_at (moment_of stm (send portion)) }

-- "reads raw command bytes from standard input": the lines of the portions of the whole input, from a unit before any start
unfoldable pub stream_of : List ℕ → List ℕ
stream_of input = text_by lines fresh_stm (portions_of input)

-- what has come of portions that are handed to a unit: its state, the bytes used, those written, and whether the stream has ended
abbrev pub handed_on : Stm → Given → Handed Stm
handed_on stm given = handed_to lines stm given

-- what is given of bytes where so many bytes of room are for the lines: as many portions as the longest lines have room for
abbrev pub given_in : ℕ → Bool → List ℕ → Given
given_in room all bytes = given_within (room / line_width) all bytes

-- the bytes of output that the program has room for
abbrev pub output_room : ℕ
output_room = (input_room / shortest + 2) * line_width
