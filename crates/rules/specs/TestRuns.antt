-- Brake test A over runs (02, F-3). Proved in proofs/.
use Rattle.std.specs.Prelude.{◌≡◌, ℕ, ◌+◌, ◌/◌, ◌%◌, ◌≤◌, ◌<◌, Bool, true, false, cond, not, ◌&&◌, ◌||◌, ◌⊎◌, List, [], ◌∷◌, ◌++◌, map, eqb, Float, length}
use Rattle.std.specs.Float.{binary32}
use Rattle.std.specs.Float.Ieee.{sub, le}
use Rattle.pressure.specs.declared.Phase.{Phase}
use Rattle.pressure.specs.Convert.{kpa, halved_of, sensor_fault}
use Rattle.pressure.specs.Phases.{is_set}
use Rattle.pressure.specs.Report.{fresh_feedback}
use Rattle.pressure.specs.Claims.{pressure_unset}
use Rattle.wire.specs.Numbers.{byte_at}
use Rattle.wire.specs.Report.{state_in, order_in, messages_in}
use Rattle.rules.specs.Numbers.{answer_number, is_accepted}
use Rattle.rules.specs.Operands.{bit_of, within}
use Rattle.rules.specs.Places.{any_of, all_of}
use Rattle.rules.specs.Odometer.{with_extra}
use Rattle.rules.specs.Runs.{Sent, Moment, answer_to, state_after, moment_of, moments, state_at_end, none_accepted, is_of}
use Rattle.rules.specs.History.{Tells, first_operand, speed_of, external_of, is_in, is_report, collected, stands_through, braking_in}
use Rattle.rules.specs.Written.{runs_in}
use Rattle.rules.specs.Units.{feedback_after, IsUnit}
use Rattle.rules.specs.TwoRuns.{Both}
use Rattle.rules.specs.declared.Code.{Code}
use Rattle.rules.specs.declared.State.{State}
use Rattle.rules.specs.declared.Stage.{Stage}
use Rattle.rules.specs.declared.Verdict.{Verdict}
use Rattle.rules.specs.declared.Train.{Train}
use Rattle.rules.specs.declared.Stm.{Stm}

-- ---- the reports of a test

-- a test is asked and begins; after it no further one, no other state and no start is accepted, so that the unit stays in DE
abbrev pub ends_test : List ℕ → Bool
ends_test command = is_of Code.TestBrakes command || is_of Code.ChangeState command || is_of Code.Start command

pub record Asked (stm : Stm) (x : Sent) (ys : List Sent) : Type 0 where
  pub accepted : is_accepted (answer_to stm x) ≡ true
  pub asks : is_of Code.TestBrakes x.command ≡ true
  -- "T_B 1, 1–100"
  pub limit : 1 ≤ stm.train.times.brake
  pub alone : none_accepted (λ before command. ends_test command) (state_after stm x) ys ≡ true

-- the bytes of the accepted reports
abbrev pub reports_of : Stm → List Sent → List (List ℕ)
reports_of stm xs = collected (λ before. is_report) (λ before x. x.command) stm xs

-- "A report with P_EXT below −50 or above 955, or with speed above 0, fails the test": this is none
abbrev pub is_fit : List ℕ → Bool
is_fit command = not (sensor_fault (halved_of (external_of command))) && eqb (speed_of command) 0

-- P_INT of such a report, whatever reference is set
abbrev pub pressure_for : Train → List ℕ → Float
pressure_for train command = pressure_unset train.feed train.pressure (external_of command)

-- "the feedback's rule, begun afresh": the phase to which these reports lead it
abbrev pub phase_by : Train → List (List ℕ) → Phase
phase_by train reports = (feedback_after train fresh_feedback (map external_of reports)).phase

-- "a drop of 60 kPa from the steady pressure", the difference rounded once
abbrev pub drops_from : Train → Float → List ℕ → Bool
drops_from train steady command = le (kpa 60) (sub binary32 steady (pressure_for train command))

-- ---- what reports since the command make of the test

-- P_INT has not settled, and no report has failed it
pub record SettlesStill (train : Train) (reports : List (List ℕ)) : Type 0 where
  pub fit : all_of is_fit reports ≡ true
  pub unset : is_set (phase_by train reports) ≡ false

-- "the report that settles it" is the last of these, and no earlier one is
pub record SettledBy (train : Train) (reports : List (List ℕ)) (steady : Float) : Type 0 where
  pub earlier : List (List ℕ)
  pub settling : List ℕ
  pub whole : reports ≡ earlier ++ (settling ∷ [])
  pub unset : is_set (phase_by train earlier) ≡ false
  pub set : phase_by train reports ≡ Phase.Set steady 0

-- P_INT has settled, and of the further reports, fewer than T_B, none has the drop: the last has the count that is their number
pub record BrakesStill (train : Train) (reports : List (List ℕ)) : Type 0 where
  pub settling : List (List ℕ)
  pub further : List (List ℕ)
  pub steady : Float
  pub whole : reports ≡ settling ++ further
  pub fit : all_of is_fit reports ≡ true
  pub settled : SettledBy train settling steady
  pub none : any_of (drops_from train steady) further ≡ false
  pub few : length further < train.times.brake

-- "At the first such drop the test passes": the next report has it, of a count from 1 to T_B
pub record Passes (train : Train) (reports : List (List ℕ)) (next : List ℕ) : Type 0 where
  pub brakes : BrakesStill train reports
  pub fit : is_fit next ≡ true
  pub drop : drops_from train brakes.steady next ≡ true

-- the next report has the count T_B, and no drop
pub record RunsOut (train : Train) (reports : List (List ℕ)) (next : List ℕ) : Type 0 where
  pub brakes : BrakesStill train reports
  pub fit : is_fit next ≡ true
  pub none : drops_from train brakes.steady next ≡ false
  pub count : length brakes.further + 1 ≡ train.times.brake

-- it has not ended by these reports
abbrev pub RunsStill : Train → List (List ℕ) → Type 0
RunsStill train reports = SettlesStill train reports ⊎ BrakesStill train reports

-- the next report fails it: by P_EXT or by its speed, or by that
abbrev pub Fails : Train → List (List ℕ) → List ℕ → Type 0
Fails train reports next = (RunsStill train reports × (is_fit next ≡ false)) ⊎ RunsOut train reports next

-- one of the reports ends the test so, and those before it have not ended it
pub record EndedBy (Ends : List (List ℕ) → List ℕ → Type 0) (reports : List (List ℕ)) : Type 0 where
  pub before : List (List ℕ)
  pub ending : List ℕ
  pub after : List (List ℕ)
  pub whole : reports ≡ before ++ (ending ∷ after)
  pub ends : Ends before ending

-- ---- what is written

-- order 2 is written from the report that settles it to the one before that which ends it, and at no other; else it is 0
abbrev pub TestOrdersFull : Type 0
TestOrdersFull =
    (stm : Stm) (x : Sent) (ys : List Sent)
    → Asked stm x ys
    → let last = state_at_end (state_after stm x) ys in
    let brakes = BrakesStill stm.train (reports_of (state_after stm x) ys) in
    (brakes → order_in last.last.report ≡ 2) × ((brakes → ⊥) → order_in last.last.report ≡ 0)

-- "bit 3 running"
abbrev pub RunningIsTold : Type 0
RunningIsTold =
    (stm : Stm) (x : Sent) (ys : List Sent)
    → Asked stm x ys
    → let last = state_at_end (state_after stm x) ys in
    Tells (bit_of 3 (messages_in last.last.report)) (RunsStill stm.train (reports_of (state_after stm x) ys))

-- once it has ended, "bit 4 last test passed": exactly if a report of count 1 to T_B has the drop and none before it has ended the test;
-- and "bit 5 last test failed" likewise
abbrev pub ResultIsTold : Type 0
ResultIsTold =
    (stm : Stm) (x : Sent) (ys : List Sent)
    → Asked stm x ys
    → let messages = messages_in (state_at_end (state_after stm x) ys).last.report in
    let reports = reports_of (state_after stm x) ys in
    bit_of 3 messages ≡ false
    → Tells (bit_of 4 messages) (EndedBy (Passes stm.train) reports) × Tells (bit_of 5 messages) (EndedBy (Fails stm.train) reports)

-- "both tell of the last ended test since the start, also while another runs"
abbrev pub ResultStands : Type 0
ResultStands =
    (stm : Stm) (x : Sent) (ys : List Sent)
    → Asked stm x ys
    → let last = state_at_end (state_after stm x) ys in
    bit_of 3 (messages_in last.last.report) ≡ true → last.test.result ≡ stm.test.result

-- ---- beginning and leaving

-- an answer that is none of 1 to 8 and not 100: the command has passed these, and is no repeat
abbrev pub is_judged : ℕ → Bool
is_judged answer = not (within 1 8 answer) && not (eqb answer 100)

-- "14, test asked outside DE; 15, test already running", and at no other; a 40 that is neither is accepted
abbrev pub AskingIsAnswered : Type 0
AskingIsAnswered =
    (stm : Stm) (x : Sent)
    → is_of Code.TestBrakes x.command ≡ true → is_judged (answer_number (answer_to stm x)) ≡ true
    → answer_number (answer_to stm x) ≡ cond (is_in State.DE stm) (cond (runs_in stm.test.stage) 15 0) 14

-- no test runs that no 40 has asked for, and no result comes but by one or by a start
abbrev pub NoTestUnasked : Type 0
NoTestUnasked =
    (stm : Stm) (xs : List Sent)
    → stm.test.stage ≡ Stage.Idle
    → none_accepted (λ before command. is_of Code.TestBrakes command || is_of Code.Start command) stm xs ≡ true
    → (state_at_end stm xs).test ≡ stm.test

-- "Leaving DE ends an unfinished test as failed", in the report of the command that leaves it; a finished one stays as it was
abbrev pub LeavingFailsTest : Type 0
LeavingFailsTest =
    (stm : Stm) (x : Sent)
    → is_accepted (answer_to stm x) ≡ true → is_of Code.ChangeState x.command ≡ true
    → ((state_after stm x).test.stage ≡ Stage.Idle)
    × (runs_in stm.test.stage ≡ true → (state_after stm x).test.result ≡ Verdict.Failed)
    × (runs_in stm.test.stage ≡ false → (state_after stm x).test ≡ stm.test)

-- so that in every list that leaves DE it has ended
abbrev pub NoTestOutsideDE : Type 0
NoTestOutsideDE =
    (stm : Stm) (xs : List Sent)
    → IsUnit stm → is_in State.DE (state_at_end stm xs) ≡ false → (state_at_end stm xs).test.stage ≡ Stage.Idle

-- ---- the extra

-- "A new start flag, bit 2": 50 tenths with it, and none without
abbrev pub ExtraByFlag : Type 0
ExtraByFlag =
    (stm : Stm) (x : Sent)
    → is_accepted (answer_to stm x) ≡ true → is_of Code.Start x.command ≡ true
    → (state_after stm x).train.times.extra ≡ cond (bit_of 2 (first_operand x.command)) 50 0

-- so that without the flag the leads are 01's over any list with no start
abbrev pub NoFlagNoExtra : Type 0
NoFlagNoExtra =
    (stm : Stm) (x : Sent) (ys : List Sent)
    → is_accepted (answer_to stm x) ≡ true → is_of Code.Start x.command ≡ true → bit_of 2 (first_operand x.command) ≡ false
    → none_accepted (λ before command. is_of Code.Start command) (state_after stm x) ys ≡ true
    → let times = (state_after stm x).train.times in
    (braking_in (state_at_end (state_after stm x) ys)).leads
    ≡ record {
      d = times.brake;
      c = times.brake + times.c;
      permitted = times.brake + times.c + times.permitted;
      b = times.brake + times.c + times.permitted + 30;
      bf = times.brake + times.c + times.permitted + 30 + times.bf;
    }

-- "until a test has passed": over any list with no start it is as it was while no test has ended so,
abbrev pub ExtraUntilPassed : Type 0
ExtraUntilPassed =
    (stm : Stm) (xs : List Sent)
    → none_accepted (λ before command. is_of Code.Start command) stm xs ≡ true
    → stands_through (λ s. not (bit_of 4 (messages_in s.last.report))) stm xs ≡ true
    → (state_at_end stm xs).train.times.extra ≡ stm.train.times.extra

-- it is gone where one has, in that very report,
abbrev pub PassedHasNoExtra : Type 0
PassedHasNoExtra =
    (stm : Stm) (x : Sent)
    → IsUnit stm → is_accepted (answer_to stm x) ≡ true → bit_of 4 (messages_in (moment_of stm x).area) ≡ true
    → (state_after stm x).train.times.extra ≡ 0

-- and once gone, or where there was none, there is none before the next start
abbrev pub NoExtraStays : Type 0
NoExtraStays =
    (stm : Stm) (xs : List Sent)
    → stm.train.times.extra ≡ 0
    → none_accepted (λ before command. is_of Code.Start command) stm xs ≡ true
    → (state_at_end stm xs).train.times.extra ≡ 0

-- ---- the test touches nothing else

-- two units that differ in the test only, and perhaps in the extra
pub record LikeButTest (u w : Stm) : Type 0 where
  pub control : w.control ≡ u.control
  pub train : w.train ≡ with_extra u.train w.train.times.extra
  pub track : w.track ≡ u.track
  pub brakes : w.brakes ≡ u.brakes
  pub feedback : w.feedback ≡ u.feedback
  pub kept : w.kept ≡ u.kept

-- two reports that differ in "order 2 in DE" and in messages bits 3 to 5 only
pub record ReportsLike (r s : List ℕ) : Type 0 where
  pub others : (n : ℕ) → (eqb n 1 || eqb n 12) ≡ false → byte_at s n ≡ byte_at r n
  pub order : (state_in r ≡ 0 → ⊥) → order_in s ≡ order_in r
  pub messages : messages_in s % 8 ≡ messages_in r % 8
  -- 02, F-7: bit 6
  pub marked : messages_in s / 64 ≡ messages_in r / 64

-- an accepted 40 leaves all but the test
abbrev pub AskingTouchesNothing : Type 0
AskingTouchesNothing =
    (stm : Stm) (x : Sent)
    → is_accepted (answer_to stm x) ≡ true → is_of Code.TestBrakes x.command ≡ true
    → LikeButTest stm (state_after stm x) × ((state_after stm x).train ≡ stm.train)

-- every other command does to two such units the same, and writes the same but for the test; in DA, where curves are judged, if the extra
-- is equal
abbrev pub TestTouchesNothing : Type 0
TestTouchesNothing =
    (u w : Stm) (x : Sent)
    → LikeButTest u w → w.last.bytes ≡ u.last.bytes
    → is_of Code.TestBrakes x.command ≡ false
    → ((is_in State.DA u || is_in State.DA (state_after u x)) ≡ true → w.train.times.extra ≡ u.train.times.extra)
    → (answer_to w x ≡ answer_to u x)
    × LikeButTest (state_after u x) (state_after w x)
    × (is_accepted (answer_to u x) ≡ true → ReportsLike (moment_of u x).area (moment_of w x).area)

-- so that over any list of other commands, with no start and no extra, nothing but these bytes tells of a test
abbrev pub MomentsLike : Moment → Moment → Type 0
MomentsLike m n = (n.answer ≡ m.answer) × (is_accepted m.answer ≡ true → ReportsLike m.area n.area)

abbrev pub TestLeavesNothing : Type 0
TestLeavesNothing =
    (u w : Stm) (xs : List Sent)
    → LikeButTest u w → w.last.bytes ≡ u.last.bytes
    → u.train.times.extra ≡ 0 → w.train.times.extra ≡ 0
    → all_of (λ x. not (is_of Code.TestBrakes x.command || is_of Code.Start x.command)) xs ≡ true
    → LikeButTest (state_at_end u xs) (state_at_end w xs) × Both MomentsLike (moments u xs) (moments w xs)
