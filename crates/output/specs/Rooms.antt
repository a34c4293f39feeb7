-- The lines of the stream program in a room of any size.
use Rattle.std.specs.Prelude.{ℕ, ◌≤◌, ◌≡◌, cond, []}
use Rattle.std.proofs.Common.{refl, ap}
use borrow.Author.Tests.{le-ltb}
use mathlib.Core.List.{List}
use Rattle.portions.specs.Reads.{Writer}
use Rattle.rules.specs.Runs.{moment_of, send}
use Rattle.rules.specs.declared.Stm.{Stm}
use Rattle.line.specs.Lines.{line_in, line_width}
use Rattle.output.specs.Streams.{lines}

-- the unit's call for each portion, and its line where there is room for the longest, else none
abbrev pub lines_in : ℕ → Writer Stm
lines_in room = record {
  next = lines.next;
  text = λ stm portion. let m = moment_of stm (send portion) in line_in room m.answer m.area;
}

-- with that much room they are the lines
pub room_for_a_line : (room : ℕ) (stm : Stm) (portion : List ℕ) → line_width ≤ room
    → ((lines_in room).next stm portion ≡ lines.next stm portion) × ((lines_in room).text stm portion ≡ lines.text stm portion)
unfolding line_in
room_for_a_line room stm portion h = (refl, ap (λ narrow. cond narrow [] (lines.text stm portion)) (le-ltb room line_width h))
