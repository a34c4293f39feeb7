-- What is promised of the stream program's output.
use Rattle.std.specs.Prelude.{ℕ, ◌≤◌, ◌≡◌, Bool, false, cond, length, take, drop, Option, None, Some}
use mathlib.Core.List.{List, [], ◌∷◌, ◌++◌, map, flat_map, flatten, Memᴰ}
use Rattle.wire.specs.Bytes.{placed}
use Rattle.wire.specs.Form.{report_length, refusal_to}
use Rattle.wire.specs.Split.{rest_refusal}
use Rattle.wire.specs.Text.{line_feed}
use Rattle.portions.specs.Portions.{given_of, portions_of}
use Rattle.portions.specs.Reads.{Standing, text_by, at_first, turn_of, after_reads, after_end, input_room}
use Rattle.rules.specs.Commands.{fresh_stm}
use Rattle.rules.specs.Runs.{moments, send}
use Rattle.rules.specs.declared.Stm.{Stm}
use Rattle.line.specs.Lines.{decimal_of}
use Rattle.output.specs.Streams.{line_at, lines, stream_of, handed_on, given_in, output_room}

-- the output is a line for each moment of the run of the portions: all that is promised of runs holds of it
abbrev pub LinesOfMoments : Type 0
LinesOfMoments = (input : List ℕ) → stream_of input ≡ flat_map line_at (moments fresh_stm (map send (portions_of input)))

-- the line of a refusal of the rest that ends a stream, in 01's numbers
abbrev pub end_line : Option ℕ → List ℕ
end_line None = []
end_line (Some refusal) = decimal_of refusal ++ (line_feed ∷ [])

-- "refusal 3 or 4, or an empty rest, ends it": commands that pass refusals 1 to 4, and a rest that has none or is empty, give a line
-- for each command and then the refusal of the rest, or no more
abbrev pub EndsAsSaid : Type 0
EndsAsSaid =
    (commands : List (List ℕ)) (rest : List ℕ)
    → ((c : List ℕ) → Memᴰ c commands → refusal_to c report_length ≡ None)
    → (rest_refusal rest ≡ None → rest ≡ [])
    → stream_of (flatten commands ++ rest) ≡ flat_map line_at (moments fresh_stm (map send commands)) ++ end_line (rest_refusal rest)

-- however the input is cut into reads, what is written for them, put together, is the output of the whole input
abbrev pub WritesTheStream : Type 0
WritesTheStream =
    (reads : List (List ℕ)) → (after_end lines (after_reads lines (at_first fresh_stm) reads)).written ≡ stream_of (flatten reads)

-- before the end, when the program waits for more, it has written the lines of all that has come and can be given: what it has
-- written is a beginning of the output of any input that begins so
abbrev pub WritesAtOnce : Type 0
WritesAtOnce =
    (reads : List (List ℕ))
    → ((after_reads lines (at_first fresh_stm) reads).written ≡ text_by lines fresh_stm (given_of false (flatten reads)).portions)
    × ((later : List ℕ) → (more : List ℕ) × (stream_of (flatten reads ++ later) ≡ (after_reads lines (at_first fresh_stm) reads).written ++ more))

-- a turn of the program is what `handed_on` tells, whatever stood in the room for output: so many bytes of it are written, and the
-- bytes at hand from the used ones on are kept
abbrev pub TurnIsHanded : Type 0
TurnIsHanded =
    (s : Standing Stm) (all : Bool) (bytes room : List ℕ)
    → let handed = handed_on s.state (given_of all bytes) in
    turn_of lines all bytes s ≡ record {
      state = handed.state;
      left = cond handed.ended [] (drop handed.used bytes);
      written = s.written ++ take handed.written (placed (text_by lines s.state (given_of all bytes).portions) room);
      ended = handed.ended;
    }

-- there is room for the lines of all that can be given of the bytes at hand: none waits until more bytes come
abbrev pub AllHasRoom : Type 0
AllHasRoom = (all : Bool) (bytes : List ℕ) → length bytes ≤ input_room → given_in output_room all bytes ≡ given_of all bytes
