-- What a start and entering a state leave (01, "Answers", last paragraph; 02, F-6 and F-7). Proved in proofs/.
use Rattle.std.specs.Prelude.{◌≡◌, ℕ, true, false, ◌&&◌, ◌||◌, None}
use Rattle.wire.specs.Form.{operands_of}
use Rattle.pressure.specs.Convert.{kpa}
use Rattle.pressure.specs.declared.Phase.{Phase}
use Rattle.areas.specs.declared.Area.{Area}
use Rattle.rules.specs.Numbers.{is_accepted}
use Rattle.rules.specs.Operands.{train_of}
use Rattle.rules.specs.Table.{stands}
use Rattle.rules.specs.Runs.{Sent, answer_to, state_after, is_of}
use Rattle.rules.specs.History.{first_operand, is_in, is_supervised, curve_at, section_at, record_at}
use Rattle.rules.specs.declared.Code.{Code}
use Rattle.rules.specs.declared.State.{State}
use Rattle.rules.specs.declared.Cause.{Cause}
use Rattle.rules.specs.declared.Hold.{Hold}
use Rattle.rules.specs.declared.Check.{Check}
use Rattle.rules.specs.declared.Stage.{Stage}
use Rattle.rules.specs.declared.Verdict.{Verdict}
use Rattle.rules.specs.declared.Stm.{Stm}

-- no curve, no section, no 40, no pending 50 m, no record; no cause, nothing noted, no hold, no check begun, nothing rolled, no brake fault
pub record HoldsNothing (stm : Stm) : Type 0 where
  pub curves : (place : ℕ) → (curve_at place stm).held ≡ false
  pub sections : (place : ℕ) → (section_at place stm).held ≡ false
  pub forty : stm.track.forty ≡ false
  pub missing : stm.track.stay.missing ≡ None
  -- 02, F-7: "There are eight records; entering CS drops them"
  pub records : (place : ℕ) → (record_at place stm).curve.held ≡ false
  pub causes : (cause : Cause) → stands stm.brakes.causes cause ≡ false
  pub aimed : stm.brakes.since.aimed ≡ false
  pub unexpected : stm.brakes.since.unexpected ≡ false
  pub landslide : stm.brakes.since.landslide ≡ false
  pub balise : stm.brakes.since.balise ≡ Hold.Undecided
  pub service : stm.brakes.service ≡ Check.Idle
  pub emergency : stm.brakes.emergency ≡ Check.Idle
  pub roll : stm.brakes.roll ≡ None
  pub drift : stm.brakes.drift ≡ false
  pub failed : stm.brakes.failed ≡ false

-- "Start makes everything fresh, in DE", "A button counts as already pressed before the first report"
pub record IsFresh (stm : Stm) : Type 0 where
  pub state : is_in State.DE stm ≡ true
  pub nothing : HoldsNothing stm
  -- 02, F-6: "Fully equipped is the area after start"
  pub area : stm.track.stay.area ≡ Area.Full
  pub line : stm.track.stay.line ≡ None
  pub phase : stm.feedback.phase ≡ Phase.Waiting
  pub pressure : stm.feedback.pressures.pressure ≡ kpa 0
  pub reference : stm.feedback.pressures.reference ≡ kpa 0
  pub fault : stm.feedback.fault ≡ false
  -- 02, F-3: no test runs, and none has ended
  pub stage : stm.test.stage ≡ Stage.Idle
  pub result : stm.test.result ≡ Verdict.Pending
  pub speed : stm.kept.speed ≡ 0
  pub loss : stm.kept.loss ≡ true
  pub text : stm.kept.text ≡ true
  pub halka : stm.kept.halka ≡ true

abbrev pub StartIsFresh : Type 0
StartIsFresh =
    (stm : Stm) (x : Sent)
    → is_accepted (answer_to stm x) ≡ true → is_of Code.Start x.command ≡ true
    → IsFresh (state_after stm x)
    × ((state_after stm x).control.started ≡ true)
    × ((state_after stm x).train ≡ train_of (operands_of x.command))

-- "Entering CS drops curves, sections, causes, their counters and the 40 of an unexpected stop, but nothing of the feedback"; 02, F-6:
-- "CS keeps the area", and the speed of the stay; entering another state leaves them all
abbrev pub EnteringCS : Type 0
EnteringCS =
    (stm : Stm) (x : Sent)
    → is_accepted (answer_to stm x) ≡ true → is_of Code.ChangeState x.command ≡ true
    → (first_operand x.command ≡ 1
    → HoldsNothing (state_after stm x)
    × ((state_after stm x).track.stay.area ≡ stm.track.stay.area)
    × ((state_after stm x).track.stay.line ≡ stm.track.stay.line))
    × ((first_operand x.command ≡ 1 → ⊥)
    → ((state_after stm x).track ≡ stm.track) × ((state_after stm x).brakes ≡ stm.brakes))

-- "0 DE, 1 CS, 2 HS, 3 DA, 4 FA": the state is the one that is ordered,
abbrev pub StateNamed : ℕ → State → Type 0
StateNamed n State.DE = n ≡ 0
StateNamed n State.CS = n ≡ 1
StateNamed n State.HS = n ≡ 2
StateNamed n State.DA = n ≡ 3
StateNamed n State.FA = n ≡ 4

abbrev pub StateIsEntered : Type 0
StateIsEntered =
    (stm : Stm) (x : Sent)
    → is_accepted (answer_to stm x) ≡ true → is_of Code.ChangeState x.command ≡ true
    → StateNamed (first_operand x.command) (state_after stm x).control.state

-- and no other command changes it, but for a start and a report in DA that shows NÖDBROMSFEL
abbrev pub StateStays : Type 0
StateStays =
    (stm : Stm) (x : Sent)
    → is_accepted (answer_to stm x) ≡ true
    → (is_of Code.Start x.command || is_of Code.ChangeState x.command) ≡ false
    → (is_supervised stm x.command && (state_after stm x).brakes.failed) ≡ false
    → (state_after stm x).control ≡ stm.control
