-- 01's numbers: codes, answers, states, orders and the bits of the causes, each by cases.
use Rattle.std.specs.Prelude.{ℕ, Bool, cond, not, ◌||◌, eqb, Option, Some, None}
use Rattle.rules.specs.declared.Answer.{Answer}
use Rattle.rules.specs.declared.Code.{Code}
use Rattle.rules.specs.declared.Incident.{Incident}
use Rattle.rules.specs.declared.State.{State}
use Rattle.rules.specs.declared.Cause.{Cause}
use Rattle.rules.specs.declared.Order.{Order}

-- "Answers": "0 accepted. 100 again", and the list 1 to 13; 02, F-3: "Errors: 14, test asked outside DE; 15, test already running";
-- 02, F-6: "Errors: 16, an event that these rules don't take in this area"; 02, F-7: "Errors: 17, no ET place free; 18, repeater for a
-- record that can't be superseded"
abbrev pub answer_number : Answer → ℕ
answer_number Answer.Accepted = 0
answer_number Answer.Again = 100
answer_number Answer.WrongArea = 1
answer_number Answer.NoBytes = 2
answer_number Answer.NoCode = 3
answer_number Answer.WrongLength = 4
answer_number Answer.NotStarted = 5
answer_number Answer.ZeroNumber = 6
answer_number Answer.WrongNumber = 7
answer_number Answer.Failed = 8
answer_number Answer.OutOfRange = 9
answer_number Answer.NotAllowed = 10
answer_number Answer.NoReference = 11
answer_number Answer.NotHeld = 12
answer_number Answer.AllHeld = 13
answer_number Answer.OutsideDE = 14
answer_number Answer.TestRunning = 15
answer_number Answer.NotTaken = 16
answer_number Answer.NoRecordPlace = 17
answer_number Answer.NotSuperseded = 18

-- accepted; accepted or again; refused
abbrev pub is_accepted : Answer → Bool
is_accepted answer = eqb (answer_number answer) 0

abbrev pub is_answered : Answer → Bool
is_answered answer = is_accepted answer || eqb (answer_number answer) 100

abbrev pub is_refused : Answer → Bool
is_refused answer = not (is_answered answer)

-- "Commands", the column Code; 02, F-3: "New command 40"; 02, F-6: "A command 50"; 02, F-7: "A command 51", "A command 52", "A command 53"
abbrev pub code_number : Code → ℕ
code_number Code.Start = 0x01
code_number Code.ChangeState = 0x02
code_number Code.Odometer = 0x10
code_number Code.NewCurve = 0x20
code_number Code.EndCurve = 0x21
code_number Code.NewSection = 0x22
code_number Code.EndSection = 0x23
code_number Code.StopPassed = 0x30
code_number Code.Proceed = 0x31
code_number Code.BaliseError = 0x32
code_number Code.TestBrakes = 0x40
code_number Code.AreaEvent = 0x50
code_number Code.NewRecord = 0x51
code_number Code.SignalPassed = 0x52
code_number Code.EndRecord = 0x53

-- the command of a byte that is a code; refusal 3 has gone before
unfoldable pub code_of : ℕ → Code
code_of byte =
    cond (eqb byte 0x01) Code.Start
    (cond (eqb byte 0x02) Code.ChangeState
    (cond (eqb byte 0x10) Code.Odometer
    (cond (eqb byte 0x20) Code.NewCurve
    (cond (eqb byte 0x21) Code.EndCurve
    (cond (eqb byte 0x22) Code.NewSection
    (cond (eqb byte 0x23) Code.EndSection
    (cond (eqb byte 0x30) Code.StopPassed
    (cond (eqb byte 0x31) Code.Proceed
    (cond (eqb byte 0x32) Code.BaliseError
    (cond (eqb byte 0x40) Code.TestBrakes
    (cond (eqb byte 0x50) Code.AreaEvent
    (cond (eqb byte 0x51) Code.NewRecord
    (cond (eqb byte 0x52) Code.SignalPassed Code.EndRecord)))))))))))))

-- a command is this one
abbrev pub is_code : Code → Code → Bool
is_code wanted code = eqb (code_number code) (code_number wanted)

-- "command 30, 0", "30, 1", "30, 2": the stop of the first operand; refusal 9 has gone before another
unfoldable pub stop_of : ℕ → Option Incident
stop_of byte =
    cond (eqb byte 0) (Some Incident.AimedStop)
    (cond (eqb byte 1) (Some Incident.UnexpectedStop)
    (cond (eqb byte 2) (Some Incident.Landslide) None))

-- what a command tells, with its first operand
unfoldable pub incident_of : Code → ℕ → Option Incident
incident_of code which =
    cond (is_code Code.StopPassed code) (stop_of which)
    (cond (is_code Code.BaliseError code) (Some Incident.BaliseError) None)

-- "0 DE, 1 CS, 2 HS, 3 DA, 4 FA"
abbrev pub state_number : State → ℕ
state_number State.DE = 0
state_number State.CS = 1
state_number State.HS = 2
state_number State.DA = 3
state_number State.FA = 4

-- the state of a byte from 0 to 4; refusal 9 has gone before
unfoldable pub state_of : ℕ → State
state_of byte =
    cond (eqb byte 0) State.DE
    (cond (eqb byte 1) State.CS
    (cond (eqb byte 2) State.HS
    (cond (eqb byte 3) State.DA State.FA)))

-- a state is this one
abbrev pub is_state : State → State → Bool
is_state wanted state = eqb (state_number state) (state_number wanted)

-- "Report": "order (0 none, 1 soft, 2 full, 3 emergency with full)"
abbrev pub order_number : Order → ℕ
order_number Order.Nothing = 0
order_number Order.Soft = 1
order_number Order.Full = 2
order_number Order.Emergency = 3

-- an order is this one
abbrev pub is_order : Order → Order → Bool
is_order wanted order = eqb (order_number order) (order_number wanted)

-- "Causes and release", the column Bit
abbrev pub bit_number : Cause → ℕ
bit_number Cause.Overspeed = 0
bit_number Cause.EmergencyOverspeed = 1
bit_number Cause.CurveFull = 2
bit_number Cause.CurveSoft = 3
bit_number Cause.CurveEmergency = 4
bit_number Cause.AimedStop = 5
bit_number Cause.UnexpectedStop = 6
bit_number Cause.UnexpectedSpeed = 7
bit_number Cause.Landslide = 8
bit_number Cause.BaliseFault = 9
bit_number Cause.Rolling = 10
bit_number Cause.ServiceFault = 11
