-- The whole call: answer, next state and report area, for every state, every command bytes and every area (01, "Answers").
use Rattle.std.specs.Prelude.{ℕ, cond, List}
use Rattle.rules.specs.Numbers.{is_accepted, is_answered}
use Rattle.rules.specs.Commands.{accepted_of}
use Rattle.rules.specs.Refusals.{answer_of}
use Rattle.rules.specs.declared.Answer.{Answer}
use Rattle.rules.specs.declared.Stm.{Stm}
use Rattle.rules.specs.declared.Outcome.{Outcome}

-- "0 accepted. 100 again: .. nothing moves"; "A refusal changes neither state nor report"
abbrev pub next_for : Answer → List ℕ → Stm → Stm
next_for answer command stm = cond (is_accepted answer) (accepted_of command stm) stm

-- the outcome, with an area of so many bytes
unfoldable pub call_of : Stm → List ℕ → ℕ → Outcome
call_of stm command area = record {
  answer = answer_of stm command area;
  stm = next_for (answer_of stm command area) command stm;
}

-- the area after the call: the report whole at 0 and 100, and what it held at a refusal
abbrev pub area_for : Answer → List ℕ → List ℕ → List ℕ
area_for answer report area = cond (is_answered answer) report area

unfoldable pub area_of : Outcome → List ℕ → List ℕ
area_of outcome area = area_for outcome.answer outcome.stm.last.report area
