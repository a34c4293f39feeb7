-- The promises of the stream program's output. Assumes nothing.
use Prim.Native.Nat.{ℕ}
use mathlib.Core.Path.{◌≡◌, refl, ap}
use mathlib.Core.List.{List, [], ◌∷◌, map, flat_map}
use native.Mathlib.Omega.{arith}
use Rattle.portions.specs.Portions.{portions_of}
use Rattle.portions.specs.Reads.{text_by, turn_of}
use Rattle.portions.proofs.Giving.{all_has_room as portions_have_room}
use Rattle.portions.proofs.Turns.{turn_is_handed as turn_handed}
use Rattle.portions.proofs.Reading.{cut_anyhow, ended_anyhow, written_is_a_beginning}
use Rattle.rules.specs.Commands.{fresh_stm}
use Rattle.rules.specs.Runs.{moments, state_after, send}
use Rattle.rules.specs.declared.Stm.{Stm}
use Rattle.line.specs.Lines.{line_width}
use Rattle.output.specs.Claims.{LinesOfMoments, WritesTheStream, WritesAtOnce, TurnIsHanded, AllHasRoom}
use Rattle.output.specs.Streams.{line_at, lines, stream_of, output_room}

pub all_has_room : AllHasRoom
all_has_room all bytes h = portions_have_room line_width output_room all bytes (omega arith) (omega arith) h

pub lines_from : (stm : Stm) (ps : List (List ℕ)) → text_by lines stm ps ≡ flat_map line_at (moments stm (map send ps))
unfolding text_by flat_map moments
lines_from stm [] = refl
lines_from stm (p ∷ ps) = rw (lines_from (state_after stm (send p)) ps)

pub lines_of_moments : LinesOfMoments
unfolding stream_of
lines_of_moments input = lines_from fresh_stm (portions_of input)

pub writes_the_stream : WritesTheStream
unfolding stream_of
writes_the_stream reads = (ended_anyhow Stm lines fresh_stm reads).1

pub writes_at_once : WritesAtOnce
unfolding stream_of turn_of
writes_at_once reads = (
  ap (λ s. s.written) (cut_anyhow Stm lines fresh_stm reads),
  λ later. written_is_a_beginning Stm lines fresh_stm reads later,
)

pub turn_is_handed : TurnIsHanded
turn_is_handed s all bytes room = turn_handed lines s all bytes room
