-- Brake test A (02, F-3; 000, 5.6.4.5).
use Rattle.std.specs.Prelude.{ℕ, ◌+◌, Bool, true, false, cond, ◌&&◌, ◌||◌, leb, ltb, ℤ, Float}
use Rattle.std.specs.Float.Ieee.{le}
use Rattle.pressure.specs.declared.Phase.{Phase}
use Rattle.pressure.specs.declared.Measured.{Measured}
use Rattle.pressure.specs.Convert.{kpa}
use Rattle.pressure.specs.Reference.{drop_of}
use Rattle.pressure.specs.Report.{fresh_feedback, reported}
use Rattle.rules.specs.declared.Train.{Train}
use Rattle.rules.specs.declared.Stage.{Stage}
use Rattle.rules.specs.declared.Verdict.{Verdict}
use Rattle.rules.specs.declared.BrakeTest.{BrakeTest}
use Rattle.rules.specs.declared.Reading.{Reading}

-- none runs, and none has ended
unfoldable pub fresh_test : BrakeTest
fresh_test = record { stage = Stage.Idle; result = Verdict.Pending }

-- a test runs; it brakes
abbrev pub is_running : Stage → Bool
is_running Stage.Idle = false
is_running (Stage.Settling phase) = true
is_running (Stage.Braking steady reports) = true

abbrev pub is_test_braking : Stage → Bool
is_test_braking Stage.Idle = false
is_test_braking (Stage.Settling phase) = false
is_test_braking (Stage.Braking steady reports) = true

-- the last test that has ended passed, or failed
abbrev pub has_passed : Verdict → Bool
has_passed Verdict.Pending = false
has_passed Verdict.Passed = true
has_passed Verdict.Failed = false

abbrev pub has_failed : Verdict → Bool
has_failed Verdict.Pending = false
has_failed Verdict.Passed = false
has_failed Verdict.Failed = true

-- "New command 40 .. starts the test": the feedback's rule, "begun afresh"; the last result stands
abbrev pub begun_test : BrakeTest → BrakeTest
begun_test test = record { stage = Stage.Settling Phase.Waiting; result = test.result }

-- a test that has ended
abbrev pub ended_test : Verdict → BrakeTest
ended_test verdict = record { stage = Stage.Idle; result = verdict }

-- "Leaving DE ends an unfinished test as failed"
abbrev pub left_test : BrakeTest → BrakeTest
left_test test = cond (is_running test.stage) (ended_test Verdict.Failed) test

-- ---- a report in DE

-- "A report with P_EXT below −50 or above 955, or with speed above 0, fails the test": the feedback that it leaves tells of P_EXT
abbrev pub is_unfit : Measured → Reading → Bool
is_unfit feedback r = feedback.fault || ltb 0 r.speed

-- "P_INT must settle by the feedback's rule, begun afresh .. for the test alone": the same rule, with a phase of its own
unfoldable pub phase_on : Train → ℤ → Phase → Phase
phase_on train external phase = (reported phase fresh_feedback.pressures train.feed train.pressure external).phase

-- "At the report that settles it, full service is ordered": the count is 0, "the steady pressure is the test's saved one"
abbrev pub stage_of : Phase → Stage
stage_of Phase.Waiting = Stage.Settling Phase.Waiting
stage_of (Phase.Settling saved reports) = Stage.Settling (Phase.Settling saved reports)
stage_of (Phase.Set reference reports) = Stage.Braking reference 0

-- "a drop of 60 kPa from the steady pressure", P_INT being this
unfoldable pub has_dropped : Float → Float → Bool
has_dropped steady pressure = le (kpa 60) (drop_of (record { pressure = pressure; reference = steady }))

-- "must come within T_B, counted as for bit 11. At the first such drop the test passes; either way the order ends"
unfoldable pub braked_on : ℕ → Bool → Float → ℕ → Verdict → BrakeTest
braked_on limit dropped steady reports result =
    cond dropped (ended_test Verdict.Passed)
    (cond (leb limit (reports + 1)) (ended_test Verdict.Failed)
    (record { stage = Stage.Braking steady (reports + 1); result = result }))

-- a report that does not fail it at once
abbrev pub gone_on : Train → Measured → ℤ → Verdict → Stage → BrakeTest
gone_on train feedback external result Stage.Idle = record { stage = Stage.Idle; result = result }
gone_on train feedback external result (Stage.Settling phase) = record { stage = stage_of (phase_on train external phase); result = result }
gone_on train feedback external result (Stage.Braking steady reports) =
    braked_on train.times.brake (has_dropped steady feedback.pressures.pressure) steady reports result

-- "fails the test before anything else"; the feedback is the one that this report leaves
unfoldable pub tested_at : Train → Measured → Reading → BrakeTest → BrakeTest
tested_at train feedback r test =
    cond (is_running test.stage && is_unfit feedback r) (ended_test Verdict.Failed)
    (gone_on train feedback r.external test.result test.stage)

-- "until a test has passed"
abbrev pub extra_left : Verdict → ℕ → ℕ
extra_left result extra = cond (has_passed result) 0 extra
