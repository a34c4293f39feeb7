-- The refusals (01, "Answers": "Checked in this order"; 02, F-3, F-6 and F-7).
use Rattle.std.specs.Prelude.{ℕ, ◌+◌, Bool, true, cond, not, ◌&&◌, ◌||◌, List, [], ◌∷◌, eqb, Result, Ok, Err, ⊤}
use Rattle.wire.specs.Codes.{longest}
use Rattle.wire.specs.Numbers.{byte_at}
use Rattle.wire.specs.Bytes.{same_bytes}
use Rattle.wire.specs.declared.form.FormError.{FormError}
use Rattle.wire.specs.Form.{form_of, operands_of}
use Rattle.pressure.specs.Phases.{is_set}
use Rattle.areas.specs.Rows.{is_taken}
use Rattle.rules.specs.Numbers.{is_code, is_state, code_of, state_of}
use Rattle.rules.specs.Operands.{code_byte, number_of, event_in, in_range}
use Rattle.rules.specs.Places.{holds_curve, all_curves_held, holds_section, stands_section, all_sections_held, holds_record, all_records_held, keeps_record}
use Rattle.rules.specs.BrakeTest.{is_running}
use Rattle.rules.specs.Commands.{padded}
use Rattle.rules.specs.declared.Answer.{Answer}
use Rattle.rules.specs.declared.Code.{Code}
use Rattle.rules.specs.declared.State.{State}
use Rattle.rules.specs.declared.Stm.{Stm}

-- ---- what the refusals ask

-- "The code isn't 01", the other way round
abbrev pub is_start : List ℕ → Bool
is_start command = is_code Code.Start (code_of (code_byte command))

-- "number and bytes are those of the last accepted command"; before a start nothing is a repeat
unfoldable pub is_repeat : Stm → List ℕ → Bool
is_repeat stm command = stm.control.started && same_bytes stm.last.bytes (padded longest command)

-- "numbered one more than the last accepted"
unfoldable pub is_next : Stm → List ℕ → Bool
is_next stm command = eqb (number_of command) (number_of stm.last.bytes + 1)

-- "02 allows DE to CS or DA, CS to HS, HS to CS or DA, DA to CS, any to FA"
abbrev pub is_path : State → State → Bool
is_path State.DE to = is_state State.CS to || is_state State.DA to || is_state State.FA to
is_path State.CS to = is_state State.HS to || is_state State.FA to
is_path State.HS to = is_state State.CS to || is_state State.DA to || is_state State.FA to
is_path State.DA to = is_state State.CS to || is_state State.FA to
is_path State.FA to = is_state State.FA to

-- "20–23 and 31 want HS or DA, 30 and 32 want DA"
abbrev pub is_allowed : State → Code → List ℕ → Bool
is_allowed state Code.Start s = true
is_allowed state Code.ChangeState s = is_path state (state_of (byte_at s 0))
is_allowed state Code.Odometer s = true
is_allowed state Code.NewCurve s = is_state State.HS state || is_state State.DA state
is_allowed state Code.EndCurve s = is_state State.HS state || is_state State.DA state
is_allowed state Code.NewSection s = is_state State.HS state || is_state State.DA state
is_allowed state Code.EndSection s = is_state State.HS state || is_state State.DA state
is_allowed state Code.StopPassed s = is_state State.DA state
is_allowed state Code.Proceed s = is_state State.HS state || is_state State.DA state
is_allowed state Code.BaliseError s = is_state State.DA state
-- 02, F-3: outside DE it is 14
is_allowed state Code.TestBrakes s = true
-- 02, F-6: "It wants HS or DA."
is_allowed state Code.AreaEvent s = is_state State.HS state || is_state State.DA state
-- 02, F-7: "All three want HS or DA."
is_allowed state Code.NewRecord s = is_state State.HS state || is_state State.DA state
is_allowed state Code.SignalPassed s = is_state State.HS state || is_state State.DA state
is_allowed state Code.EndRecord s = is_state State.HS state || is_state State.DA state

-- "DA is ordered"
abbrev pub orders_da : Code → List ℕ → Bool
orders_da code s = is_code Code.ChangeState code && is_state State.DA (state_of (byte_at s 0))

-- "The id to be ended isn't held, or its section is already ending"; 02, F-7: "refusal 12 covers an id not held"
unfoldable pub ends_nothing : Stm → Code → List ℕ → Bool
ends_nothing stm code s =
    is_code Code.EndCurve code && not (holds_curve (byte_at s 0) stm.track.curves)
    || is_code Code.EndSection code && not (stands_section (byte_at s 0) stm.track.sections)
    || is_code Code.EndRecord code && not (holds_record (byte_at s 0) stm.track.records)

-- "A new id finds all 16 curves, or all 16 sections, held"
unfoldable pub finds_no_place : Stm → Code → List ℕ → Bool
finds_no_place stm code s =
    is_code Code.NewCurve code && not (holds_curve (byte_at s 0) stm.track.curves) && all_curves_held stm.track.curves
    || is_code Code.NewSection code
    && not (holds_section (byte_at s 0) stm.track.sections)
    && all_sections_held stm.track.sections

-- 02, F-3: "14, test asked outside DE; 15, test already running"
unfoldable pub tests_outside : Stm → Code → Bool
tests_outside stm code = is_code Code.TestBrakes code && not (is_state State.DE stm.control.state)

unfoldable pub tests_twice : Stm → Code → Bool
tests_twice stm code = is_code Code.TestBrakes code && is_running stm.test.stage

-- 02, F-6: "16, an event that these rules don't take in this area"
unfoldable pub is_untaken : Stm → Code → List ℕ → Bool
is_untaken stm code s = is_code Code.AreaEvent code && not (is_taken stm.track.stay.area (event_in s))

-- 02, F-7: "17, no ET place free", for an id that is not held; "18, repeater for a record that can't be superseded"
unfoldable pub finds_no_record_place : Stm → Code → List ℕ → Bool
finds_no_record_place stm code s =
    is_code Code.NewRecord code && not (holds_record (byte_at s 0) stm.track.records) && all_records_held stm.track.records

unfoldable pub repeats_nothing : Stm → Code → List ℕ → Bool
repeats_nothing stm code s = is_code Code.NewRecord code && keeps_record (byte_at s 0) stm.track.records

-- ---- the list

-- an answer, and when it is given
pub record Rule : Type 0 where
  pub applies : Bool
  pub answer : Answer

abbrev pub rule : Bool → Answer → Rule
rule applies answer = record { applies = applies; answer = answer }

-- the first that applies; where none does, the command is accepted
abbrev pub first_of : List Rule → Answer
first_of [] = Answer.Accepted
first_of (r ∷ rs) = cond r.applies r.answer (first_of rs)

-- 5 to 8; "This is the answer once 1–8 are passed"; 9 to 13; 02, F-3: 14 and 15, "both after 10"; 02, F-6: 16, "after
-- 10"; 02, F-7: 17 and 18, "both after 13, in this order"
unfoldable pub rules_for : Stm → List ℕ → Code → List ℕ → List Rule
rules_for stm command code s =
    rule (not stm.control.started && not (is_start command)) Answer.NotStarted
    ∷ rule (eqb (number_of command) 0) Answer.ZeroNumber
    ∷ rule (not (is_start command) && not (is_repeat stm command) && not (is_next stm command)) Answer.WrongNumber
    ∷ rule (is_state State.FA stm.control.state && not (is_start command) && not (is_repeat stm command)) Answer.Failed
    ∷ rule (is_repeat stm command) Answer.Again
    ∷ rule (not (in_range code s)) Answer.OutOfRange
    ∷ rule (not (is_allowed stm.control.state code s)) Answer.NotAllowed
    ∷ rule (orders_da code s && not (is_set stm.feedback.phase)) Answer.NoReference
    ∷ rule (ends_nothing stm code s) Answer.NotHeld
    ∷ rule (finds_no_place stm code s) Answer.AllHeld
    ∷ rule (tests_outside stm code) Answer.OutsideDE
    ∷ rule (tests_twice stm code) Answer.TestRunning
    ∷ rule (is_untaken stm code s) Answer.NotTaken
    ∷ rule (finds_no_record_place stm code s) Answer.NoRecordPlace
    ∷ rule (repeats_nothing stm code s) Answer.NotSuperseded
    ∷ []

-- the answer to a command that passes 1 to 4
abbrev pub whole_answer : Stm → List ℕ → Answer
whole_answer stm command = first_of (rules_for stm command (code_of (code_byte command)) (operands_of command))

-- refusals 1 to 4, by the table of codes and lengths
abbrev pub form_answer : FormError → Answer
form_answer FormError.WrongArea = Answer.WrongArea
form_answer FormError.NoBytes = Answer.NoBytes
form_answer FormError.NoCode = Answer.NoCode
form_answer FormError.WrongLength = Answer.WrongLength

-- they come first; a command that passes them has its own answer
abbrev pub answer_for : Result ⊤ FormError → Answer → Answer
answer_for (Err error) whole = form_answer error
answer_for (Ok passed) whole = whole

-- the answer to every command, with an area of so many bytes
unfoldable pub answer_of : Stm → List ℕ → ℕ → Answer
answer_of stm command area = answer_for (form_of command area) (whole_answer stm command)
