-- What an accepted command does (01, "Commands", "Answers"; 02, F-3, F-6 and F-7).
use Rattle.std.specs.Prelude.{ℕ, zero, suc, Bool, true, false, cond, List, [], ◌∷◌, eqb, drop, replicate}
use Rattle.wire.specs.Codes.{longest}
use Rattle.wire.specs.Numbers.{byte_at}
use Rattle.wire.specs.Form.{report_length, operands_of}
use Rattle.pressure.specs.declared.Feed.{Feed}
use Rattle.pressure.specs.Report.{fresh_feedback}
use Rattle.rules.specs.Numbers.{code_of, state_of}
use Rattle.rules.specs.Operands.{code_byte, train_of, reading_of, curve_of, section_of, event_in, event_speed, record_of, signal_in, route_in}
use Rattle.rules.specs.Places.{fresh_track, cleared_track, with_curves, with_sections, with_forty, with_records, passed_track, given_curve, ended_curve, given_section, ended_section, given_record, ended_record, signalled_records}
use Rattle.rules.specs.Releases.{fresh_brakes, brakes_by}
use Rattle.rules.specs.BrakeTest.{fresh_test, begun_test, left_test}
use Rattle.rules.specs.Odometer.{with_state, with_track, with_brakes, with_test, reported_in}
use Rattle.rules.specs.Reports.{report_of}
use Rattle.rules.specs.declared.Code.{Code}
use Rattle.rules.specs.declared.State.{State}
use Rattle.rules.specs.declared.Train.{Train}
use Rattle.rules.specs.declared.Kept.{Kept}
use Rattle.rules.specs.declared.Last.{Last}
use Rattle.rules.specs.declared.Stm.{Stm}

-- ---- fresh

-- "A button counts as already pressed before the first report"
unfoldable pub fresh_kept : Kept
fresh_kept = record { speed = 0; loss = true; text = true; halka = true }

unfoldable pub fresh_last : Last
fresh_last = record { bytes = replicate longest 0; report = replicate report_length 0 }

unfoldable pub no_train : Train
no_train = record {
  softly = false;
  feed = Feed.Pipe;
  speed = 0;
  length = 0;
  full = 0;
  soft = 0;
  times = record { brake = 0; c = 0; permitted = 0; bf = 0; extra = 0 };
  margin = 0;
  emergency = 0;
  sufficient = 0;
  pressure = 0;
  check = 0;
}

-- everything fresh, in DE, with this train
unfoldable pub fresh_with : Bool → Train → Stm
fresh_with started train = record {
  control = record { started = started; state = State.DE };
  train = train;
  track = fresh_track;
  brakes = fresh_brakes;
  feedback = fresh_feedback;
  test = fresh_test;
  kept = fresh_kept;
  last = fresh_last;
}

-- the unit before any start
unfoldable pub fresh_stm : Stm
fresh_stm = fresh_with false no_train

-- ---- state

-- "Entering CS drops curves, sections, causes, their counters and the 40 of an unexpected stop, but nothing of the feedback"; 02,
-- F-6: "CS keeps the area"; 02, F-7: "There are eight records; entering CS drops them"
abbrev pub entered : State → Stm → Stm
entered State.DE stm = with_state stm State.DE
entered State.CS stm = with_brakes (with_track (with_state stm State.CS) (cleared_track stm.track)) fresh_brakes
entered State.HS stm = with_state stm State.HS
entered State.DA stm = with_state stm State.DA
entered State.FA stm = with_state stm State.FA

-- ---- stops and errors

-- "40 after an unexpected stop": command 30, 1
abbrev pub forty_by : ℕ → Bool → Bool
forty_by which forty = cond (eqb which 1) true forty

unfoldable pub stopped : ℕ → Stm → Stm
stopped which stm =
    with_brakes (with_track stm (with_forty stm.track (forty_by which stm.track.forty)))
    (brakes_by Code.StopPassed which stm.kept.speed stm.brakes)

-- ---- every command, with its operands

abbrev pub carried_out : Code → List ℕ → Stm → Stm
-- "Start makes everything fresh, in DE"
carried_out Code.Start s stm = fresh_with true (train_of s)
-- 02, F-3: "Leaving DE ends an unfinished test as failed": no path leads from DE to DE
carried_out Code.ChangeState s stm = with_test (entered (state_of (byte_at s 0)) stm) (left_test stm.test)
carried_out Code.Odometer s stm = reported_in stm.control.state (reading_of s) stm
carried_out Code.NewCurve s stm = with_track stm (with_curves stm.track (given_curve (curve_of s) stm.track.curves))
carried_out Code.EndCurve s stm = with_track stm (with_curves stm.track (ended_curve (byte_at s 0) stm.track.curves))
carried_out Code.NewSection s stm = with_track stm (with_sections stm.track (given_section (section_of s) stm.track.sections))
carried_out Code.EndSection s stm = with_track stm (with_sections stm.track (ended_section (byte_at s 0) stm.track.sections))
carried_out Code.StopPassed s stm = stopped (byte_at s 0) stm
-- "until a proceed signal"
carried_out Code.Proceed s stm = with_track stm (with_forty stm.track false)
carried_out Code.BaliseError s stm = with_brakes stm (brakes_by Code.BaliseError 0 stm.kept.speed stm.brakes)
-- 02, F-3: "New command 40 (5 bytes) starts the test in DE"
carried_out Code.TestBrakes s stm = with_test stm (begun_test stm.test)
-- 02, F-6: "A command 50 carries one byte of event"
carried_out Code.AreaEvent s stm = with_track stm (passed_track (event_in s) (event_speed s) stm.track)
-- 02, F-7: "A command 51 (12 bytes) adds an indefinite ET record"
carried_out Code.NewRecord s stm = with_track stm (with_records stm.track (given_record (record_of s) stm.track.records))
-- "A command 52 (7 bytes) tells of a passed signal"
carried_out Code.SignalPassed s stm = with_track stm (with_records stm.track (signalled_records (signal_in s) (route_in s) stm.track.records))
-- "A command 53 (6 bytes) ends a record"
carried_out Code.EndRecord s stm = with_track stm (with_records stm.track (ended_record (byte_at s 0) stm.track.records))

-- ---- what is remembered of it

-- the first n bytes, with 0 after the end; a code has one length, so that the bytes tell commands apart
unfoldable pub padded : ℕ → List ℕ → List ℕ
padded zero s = []
padded (suc n) s = byte_at s 0 ∷ padded n (drop 1 s)

abbrev pub with_last : Stm → Last → Stm
with_last stm last = record {
  control = stm.control;
  train = stm.train;
  track = stm.track;
  brakes = stm.brakes;
  feedback = stm.feedback;
  test = stm.test;
  kept = stm.kept;
  last = last;
}

-- the command and its report, for a repeat
unfoldable pub remembered : List ℕ → Stm → Stm
remembered command stm = with_last stm (record { bytes = padded longest command; report = report_of stm })

-- the unit after an accepted command
unfoldable pub accepted_of : List ℕ → Stm → Stm
accepted_of command stm = remembered command (carried_out (code_of (code_byte command)) (operands_of command) stm)
