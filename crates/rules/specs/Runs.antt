-- Runs: a list of commands, each finding its unit as the last one left it.
use Rattle.std.specs.Prelude.{ℕ, Bool, true, not, ◌&&◌, ◌||◌, List, [], ◌∷◌, length, replicate}
use Rattle.wire.specs.Numbers.{byte_at}
use Rattle.wire.specs.Form.{report_length, operands_of}
use Rattle.rules.specs.Numbers.{is_accepted, code_of, state_of, is_code, is_state}
use Rattle.rules.specs.Operands.{code_byte}
use Rattle.rules.specs.Calls.{call_of, area_of}
use Rattle.rules.specs.declared.Answer.{Answer}
use Rattle.rules.specs.declared.Code.{Code}
use Rattle.rules.specs.declared.State.{State}
use Rattle.rules.specs.declared.Stm.{Stm}

-- a command as the host sends it: its bytes, and what the lent report area holds
pub record Sent : Type 0 where
  pub command : List ℕ
  pub area : List ℕ

-- a command, with an area in which no report stands yet
abbrev pub send : List ℕ → Sent
send command = record { command = command; area = replicate report_length 255 }

-- what there is after it: the answer, what the area holds, and the state
pub record Moment : Type 0 where
  pub answer : Answer
  pub area : List ℕ
  pub stm : Stm

abbrev pub answer_to : Stm → Sent → Answer
answer_to stm sent = (call_of stm sent.command (length sent.area)).answer

abbrev pub state_after : Stm → Sent → Stm
state_after stm sent = (call_of stm sent.command (length sent.area)).stm

abbrev pub moment_of : Stm → Sent → Moment
moment_of stm sent = record {
  answer = answer_to stm sent;
  area = area_of (call_of stm sent.command (length sent.area)) sent.area;
  stm = state_after stm sent;
}

-- the moments of a run
unfoldable pub moments : Stm → List Sent → List Moment
moments stm [] = []
moments stm (x ∷ xs) = moment_of stm x ∷ moments (state_after stm x) xs

-- the state at its end
unfoldable pub state_at_end : Stm → List Sent → Stm
state_at_end stm [] = stm
state_at_end stm (x ∷ xs) = state_at_end (state_after stm x) xs

-- no command of a run that passes a test, at the state that it finds, is accepted
unfoldable pub none_accepted : (Stm → List ℕ → Bool) → Stm → List Sent → Bool
none_accepted test stm [] = true
none_accepted test stm (x ∷ xs) =
    not (is_accepted (answer_to stm x) && test stm x.command) && none_accepted test (state_after stm x) xs

-- the command's code
abbrev pub is_of : Code → List ℕ → Bool
is_of code command = is_code code (code_of (code_byte command))

-- it orders CS
abbrev pub orders_cs : List ℕ → Bool
orders_cs command = is_of Code.ChangeState command && is_state State.CS (state_of (byte_at (operands_of command) 0))

-- it makes the brakes fresh: a start, or CS
abbrev pub freshens : List ℕ → Bool
freshens command = is_of Code.Start command || orders_cs command
