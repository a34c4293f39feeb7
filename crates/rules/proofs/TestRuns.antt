-- Brake test A over a list of commands: its course, its end, its extra. Assumes nothing.
use mathlib.Core.Path.{◌≡◌, refl, sym, ap, ap₂, ◌∙◌, subst}
use Prim.Native.Nat.{ℕ, zero, suc, ◌+◌}
use native.Mathlib.Nat.{suc-ne-zero}
use native.Mathlib.Omega.{arith}
use mathlib.Core.Bool.{Bool, true, false, cond, not, ◌&&◌, ◌||◌}
use mathlib.Core.Logic.{inl, inr}
use mathlib.Core.List.{List, [], ◌∷◌}
use lib.Dec.{eqb, ltb}
use lib.Ieee.{Float}
use lib.ListN.{length}
use borrow.Author.Tests.{lt-ltb, ne_eqb, not-true, eqb-true}
use Rattle.std.specs.Prelude.{Result, Ok, Err, ⊤}
use Rattle.wire.specs.declared.form.FormError.{FormError}
use Rattle.wire.specs.Form.{form_of, operands_of}
use Rattle.wire.specs.Report.{order_in, messages_in}
use Rattle.pressure.specs.declared.Measured.{Measured}
use Rattle.pressure.specs.Convert.{halved_of, is_low, is_high, sensor_fault, pressure_of}
use Rattle.pressure.specs.Reference.{drop_of}
use Rattle.pressure.specs.Report.{pressure_at, reported, reported_to}
use Rattle.curve.proofs.Extra.{leads_without_extra}
use Rattle.rules.specs.Numbers.{answer_number, is_accepted, is_code, is_state, code_of}
use Rattle.rules.specs.Operands.{code_byte, number_of, bit_of, extra_of, train_of, reading_of}
use Rattle.rules.specs.BrakeTest.{is_running, has_passed, has_failed, begun_test, left_test, is_unfit, phase_on, has_dropped, tested_at, extra_left}
use Rattle.rules.specs.Odometer.{with_extra}
use Rattle.rules.specs.Reports.{report_outside, report_for, report_of}
use Rattle.rules.specs.Refusals.{is_start, is_repeat, is_next, ends_nothing, finds_no_place, tests_outside, tests_twice, is_untaken, finds_no_record_place, repeats_nothing, first_of, rules_for, whole_answer, answer_for, answer_of}
use Rattle.rules.specs.Calls.{call_of}
use Rattle.rules.specs.Runs.{Sent, answer_to, state_after, state_at_end, none_accepted, is_of}
use Rattle.rules.specs.History.{first_operand, speed_of, external_of, is_in, is_report, collected, stands_through}
use Rattle.rules.specs.Braking.{reading_in}
use Rattle.rules.specs.Written.{order_in_test, runs_in, MessagesTell}
use Rattle.rules.specs.Units.{is_extra_sound, StageSound}
use Rattle.rules.specs.TestRuns.{ends_test, Asked, reports_of, is_fit, drops_from, BrakesStill, Passes, RunsStill, Fails, EndedBy, TestOrdersFull, RunningIsTold, ResultIsTold, ResultStands}
use Rattle.rules.specs.TestRuns.{is_judged, AskingIsAnswered, NoTestUnasked, LeavingFailsTest, NoTestOutsideDE, ExtraByFlag, NoFlagNoExtra, ExtraUntilPassed, PassedHasNoExtra, NoExtraStays}
use Rattle.rules.specs.declared.Answer.{Answer}
use Rattle.rules.specs.declared.Code.{Code}
use Rattle.rules.specs.declared.State.{State}
use Rattle.rules.specs.declared.Train.{Train}
use Rattle.rules.specs.declared.Stage.{Stage}
use Rattle.rules.specs.declared.Verdict.{Verdict}
use Rattle.rules.specs.declared.BrakeTest.{BrakeTest}
use Rattle.rules.specs.declared.Reading.{Reading}
use Rattle.rules.specs.declared.Stm.{Stm}
use Rattle.rules.proofs.Answers.{after_other, passed}
use Rattle.rules.proofs.Tests.{impossible, and_left, and_right, neither}
use Rattle.rules.proofs.Told.{code_is, state_is_lem}
use Rattle.rules.proofs.Standing.{kept_to_end}
use Rattle.rules.proofs.After.{train_after_lem, test_after, test_in, test_by, test_by_lem, extra_in, extra_by, extra_by_lem}
use Rattle.rules.proofs.Ground.{spared_first}
use Rattle.rules.proofs.Readings.{train_once, feedback_over_reports}
use Rattle.rules.proofs.Fresh.{state_stays}
use Rattle.rules.proofs.Written.{written_is, report_kept, report_at_end, test_runs, messages_tell}
use Rattle.rules.proofs.Keeps.{asked_in_de, call_keeps_unit, run_keeps_unit}
use Rattle.rules.proofs.TestParts.{none_tested}
use Rattle.rules.proofs.TestCourse.{by_report, by_reports, settles_is, brakes_is, passed_is, failed_is, Course, settles, brakes, failed, course}

-- ---- a report, by its bytes

not_zero : (v : ℕ) → ltb 0 v ≡ not (eqb v 0)
not_zero zero = refl
not_zero (suc n) = rw (lt-ltb 0 (suc n) (omega arith), ne_eqb (suc n) 0 (suc-ne-zero n))

unfit_told : (fault : Bool) (v : ℕ) → (fault || ltb 0 v) ≡ not (not fault && eqb v 0)
unfit_told true v = refl
unfit_told false v = not_zero v

-- P_INT of a report that shows no TRYCKGIVARFEL is that of its P_EXT alone
low_false : (h : Float) → sensor_fault h ≡ false → is_low h ≡ false
unfolding sensor_fault
low_false h e = (neither (is_low h) (is_high h) e).0

module _ (train : Train) (before : Measured) (command : List ℕ) where
  abbrev after : Measured
  after = reported_to before train.feed train.pressure (external_of command)

  unfit_same : is_unfit after (reading_in command) ≡ not (is_fit command)
  unfolding reported reading_of
  unfit_same = unfit_told (sensor_fault (halved_of (external_of command))) (speed_of command)

  drop_same : (steady : Float) → is_fit command ≡ true → has_dropped steady after.pressures.pressure ≡ drops_from train steady command
  unfolding reported pressure_at pressure_of has_dropped drop_of
  drop_same steady fit =
      let fault = not-true (sensor_fault (halved_of (external_of command))) (and_left _ (eqb (speed_of command) 0) fit) in
      rw (low_false (halved_of (external_of command)) fault)

  pub tested_by : (stage : Stage) (result : Verdict)
      → tested_at train after (reading_in command) (record { stage = stage; result = result })
      ≡ by_report train command (record { stage = stage; result = result })
  unfolding tested_at reading_of
  tested_by Stage.Idle result = refl
  tested_by (Stage.Settling phase) result = rw unfit_same
  tested_by (Stage.Braking steady reports) result = go (is_fit command) refl
    where
      go : (fit : Bool) → is_fit command ≡ fit
          → tested_at train after (reading_in command) (record { stage = Stage.Braking steady reports; result = result })
          ≡ by_report train command (record { stage = Stage.Braking steady reports; result = result })
      go true e = rw (unfit_same, e, drop_same steady e)
      go false e = rw (unfit_same, e)

-- the extra plays no part in it
by_extra : (train : Train) (extra : ℕ) (command : List ℕ) (stage : Stage) (result : Verdict)
    → by_report (with_extra train extra) command (record { stage = stage; result = result })
    ≡ by_report train command (record { stage = stage; result = result })
unfolding phase_on
by_extra train extra command Stage.Idle result = refl
by_extra train extra command (Stage.Settling phase) result = refl
by_extra train extra command (Stage.Braking steady reports) result = refl

-- ---- one command in DE

module _ (stm : Stm) (x : Sent) (e : is_accepted (answer_to stm x) ≡ true) where
  pub test_after_by : (state_after stm x).test ≡ test_by (code_of (code_byte x.command)) (operands_of x.command) stm
  test_after_by = test_after stm x e ∙ test_by_lem (code_of (code_byte x.command)) (operands_of x.command) stm

  pub extra_after_by : (state_after stm x).train.times.extra ≡ extra_by (code_of (code_byte x.command)) (operands_of x.command) stm
  extra_after_by =
      ap (λ train. train.times.extra) (train_after_lem stm x e) ∙ extra_by_lem (code_of (code_byte x.command)) (operands_of x.command) stm

  report_tests : is_report x.command ≡ true → is_in State.DE stm ≡ true
      → (state_after stm x).test ≡ by_report stm.train x.command stm.test
  unfolding reading_of
  report_tests c de =
      test_after_by
      ∙ ap (λ code. test_by code (operands_of x.command) stm) (code_is Code.Odometer (code_of (code_byte x.command)) c)
      ∙ ap (test_in (reading_in x.command) stm) (state_is_lem State.DE stm.control.state de)
      ∙ tested_by stm.train stm.feedback x.command stm.test.stage stm.test.result

other_test : (code : Code) (s : List ℕ) (stm : Stm)
    → (is_code Code.TestBrakes code || is_code Code.ChangeState code || is_code Code.Start code) ≡ false
    → is_code Code.Odometer code ≡ false → test_by code s stm ≡ stm.test
other_test Code.Start s stm n c = impossible (sym n)
other_test Code.ChangeState s stm n c = impossible (sym n)
other_test Code.Odometer s stm n c = impossible (sym c)
other_test Code.NewCurve s stm n c = refl
other_test Code.EndCurve s stm n c = refl
other_test Code.NewSection s stm n c = refl
other_test Code.EndSection s stm n c = refl
other_test Code.StopPassed s stm n c = refl
other_test Code.Proceed s stm n c = refl
other_test Code.BaliseError s stm n c = refl
other_test Code.TestBrakes s stm n c = impossible (sym n)
other_test Code.AreaEvent s stm n c = refl
other_test Code.NewRecord s stm n c = refl
other_test Code.SignalPassed s stm n c = refl
other_test Code.EndRecord s stm n c = refl

no_da : (state : State) → is_state State.DE state ≡ true → is_state State.DA state ≡ false
no_da State.DE e = refl
no_da State.CS e = impossible e
no_da State.HS e = impossible e
no_da State.DA e = impossible e
no_da State.FA e = impossible e

-- DE stays
de_once : (stm : Stm) (x : Sent) (accepted : Bool) → is_accepted (answer_to stm x) ≡ accepted
    → (accepted ≡ true → ends_test x.command ≡ false) → is_in State.DE stm ≡ true → is_in State.DE (state_after stm x) ≡ true
de_once stm x true e n de =
    let t = neither (is_of Code.TestBrakes x.command || is_of Code.ChangeState x.command) (is_of Code.Start x.command) (n refl) in
    let other = ap₂ ◌||◌ t.1 (neither (is_of Code.TestBrakes x.command) (is_of Code.ChangeState x.command) t.0).1 in
    ap (λ control. is_state State.DE control.state)
    (state_stays stm x e other (outside (is_report x.command) (is_in State.DA stm) _ (no_da stm.control.state de)))
    ∙ de
  where
    outside : (a b c : Bool) → b ≡ false → ((a && b) && c) ≡ false
    outside true true c h = impossible (sym h)
    outside true false c h = refl
    outside false b c h = refl
de_once stm x false e n de = ap (is_in State.DE) (after_other stm x e) ∙ de

-- the test moves by the reports alone; the train is one but for the extra
test_once : (train : Train) (stm : Stm) (x : Sent) (accepted report : Bool) → is_accepted (answer_to stm x) ≡ accepted
    → is_report x.command ≡ report → (accepted ≡ true → ends_test x.command ≡ false) → is_in State.DE stm ≡ true
    → stm.train ≡ with_extra train stm.train.times.extra
    → (state_after stm x).test ≡ cond (accepted && report) (by_report train x.command stm.test) stm.test
test_once train stm x true true e c n de same =
    report_tests stm x e c de
    ∙ ap (λ tr. by_report tr x.command stm.test) same
    ∙ by_extra train stm.train.times.extra x.command stm.test.stage stm.test.result
test_once train stm x true false e c n de same =
    test_after_by stm x e ∙ other_test (code_of (code_byte x.command)) (operands_of x.command) stm (n refl) c
test_once train stm x false report e c n de same = ap (λ s. s.test) (after_other stm x e)

-- one report more, or none
test_more : (train : Train) (test : BrakeTest) (t : Bool) (report : List ℕ) (reports : List (List ℕ))
    → by_reports train reports (cond t (by_report train report test) test) ≡ by_reports train (cond t (report ∷ reports) reports) test
unfolding by_reports
test_more train test true report reports = refl
test_more train test false report reports = refl

no_start : (command : List ℕ) → ends_test command ≡ false → is_of Code.Start command ≡ false
no_start command n = (neither (is_of Code.TestBrakes command || is_of Code.ChangeState command) (is_of Code.Start command) n).1

test_over : (train : Train) (stm : Stm) (xs : List Sent) → none_accepted (λ before command. ends_test command) stm xs ≡ true
    → is_in State.DE stm ≡ true → stm.train ≡ with_extra train stm.train.times.extra
    → ((state_at_end stm xs).test ≡ by_reports train (reports_of stm xs) stm.test) × (is_in State.DE (state_at_end stm xs) ≡ true)
unfolding state_at_end collected by_reports
test_over train stm [] n de same = (refl, de)
test_over train stm (x ∷ xs) n de same =
    let t = spared_first (λ before command. ends_test command) stm x xs n in
    let accepted = is_accepted (answer_to stm x) in
    let after = state_after stm x in
    let train_now = train_once stm x accepted refl (λ a. no_start x.command (t.0 a)) in
    let rest =
    test_over train after xs t.1 (de_once stm x accepted refl t.0 de)
    (train_now ∙ ap (λ tr. with_extra tr after.train.times.extra) same) in
    let first = test_once train stm x accepted (is_report x.command) refl refl t.0 de same in (
      rest.0
          ∙ ap (by_reports train (reports_of after xs)) first
          ∙ test_more train stm.test (accepted && is_report x.command) x.command (reports_of after xs),
      rest.1,
    )

-- ---- from command 40 on

order_in_de : (stm : Stm) → is_in State.DE stm ≡ true → order_in (report_of stm) ≡ order_in_test stm.test.stage
unfolding report_of report_outside
order_in_de stm de =
    ap (λ state. order_in (report_for state stm)) (state_is_lem State.DE stm.control.state de) ∙ told stm.test.stage
  where
    told : (stage : Stage) → order_in (report_for State.DE (record {
      control = stm.control;
      train = stm.train;
      track = stm.track;
      brakes = stm.brakes;
      feedback = stm.feedback;
      test = record { stage = stage; result = stm.test.result };
      kept = stm.kept;
      last = stm.last;
    })) ≡ order_in_test stage
    told Stage.Idle = refl
    told (Stage.Settling phase) = refl
    told (Stage.Braking steady reports) = refl

module _ (stm : Stm) (x : Sent) (ys : List Sent) (asked : Asked stm x ys) where
  abbrev last : Stm
  last = state_at_end (state_after stm x) ys

  abbrev reports : List (List ℕ)
  reports = reports_of (state_after stm x) ys

  abbrev result : Verdict
  result = stm.test.result

  is_test : code_of (code_byte x.command) ≡ Code.TestBrakes
  is_test = code_is Code.TestBrakes (code_of (code_byte x.command)) asked.asks

  found_in_de : is_in State.DE stm ≡ true
  found_in_de = asked_in_de stm (ap (tests_outside stm) (sym is_test) ∙ (passed stm x asked.accepted).1.in_de)

  begins_in_de : is_in State.DE (state_after stm x) ≡ true
  begins_in_de =
      ap (λ control. is_state State.DE control.state)
      (state_stays stm x asked.accepted (ap (λ code. is_code Code.Start code || is_code Code.ChangeState code) is_test)
      (ap (λ code. (is_code Code.Odometer code && is_in State.DA stm) && (state_after stm x).brakes.failed) is_test))
      ∙ found_in_de

  begins_afresh : (state_after stm x).test ≡ begun_test stm.test
  begins_afresh = test_after_by stm x asked.accepted ∙ ap (λ code. test_by code (operands_of x.command) stm) is_test

  -- the train of the unit that was asked
  train_then : (state_after stm x).train ≡ with_extra stm.train (state_after stm x).train.times.extra
  train_then = train_once stm x true asked.accepted (λ _. ap (is_code Code.Start) is_test)

  test_last : (last.test ≡ by_reports stm.train reports (begun_test stm.test)) × (is_in State.DE last ≡ true)
  test_last =
      let over = test_over stm.train (state_after stm x) ys asked.alone begins_in_de train_then in
      (over.0 ∙ ap (by_reports stm.train reports) begins_afresh, over.1)

  written_last : last.last.report ≡ report_of last
  written_last = report_at_end (state_after stm x) ys (report_kept stm x asked.accepted)

  order_last : (test : BrakeTest) → by_reports stm.train reports (begun_test stm.test) ≡ test
      → order_in last.last.report ≡ order_in_test test.stage
  order_last test is =
      ap order_in written_last ∙ order_in_de last test_last.1 ∙ ap (λ t. order_in_test t.stage) (test_last.0 ∙ is)

  tells_last : MessagesTell last (messages_in last.last.report)
  tells_last = subst (λ report. MessagesTell last (messages_in report)) (sym written_last) (messages_tell last)

  runs_last : (test : BrakeTest) → by_reports stm.train reports (begun_test stm.test) ≡ test
      → bit_of 3 (messages_in last.last.report) ≡ runs_in test.stage
  runs_last test is = tells_last.running ∙ ap (λ t. runs_in t.stage) (test_last.0 ∙ is)

  result_last : (test : BrakeTest) → by_reports stm.train reports (begun_test stm.test) ≡ test → last.test.result ≡ test.result
  result_last test is = ap (λ t. t.result) (test_last.0 ∙ is)

  course_last : Course stm.train result reports (by_reports stm.train reports (begun_test stm.test))
  course_last = course stm.train result asked.limit reports

-- what the reports have made of it
abbrev WentOn : (stm : Stm) (x : Sent) (ys : List Sent) → Asked stm x ys → Type 0
WentOn stm x ys asked =
    Course stm.train stm.test.result (reports stm x ys asked)
    (by_reports stm.train (reports stm x ys asked) (begun_test stm.test))

pub test_orders_full : TestOrdersFull
test_orders_full stm x ys asked = (
  λ b. order_last stm x ys asked _ (brakes_is stm.train stm.test.result (reports stm x ys asked) b),
  λ none. go none (course_last stm x ys asked),
)
  where
    go : (BrakesStill stm.train (reports stm x ys asked) → ⊥)
        → WentOn stm x ys asked
        → order_in (last stm x ys asked).last.report ≡ 0
    go none (settles s is) = order_last stm x ys asked _ is
    go none (brakes b is) = absurd (none b)
    go none (Course.passed e is) = order_last stm x ys asked _ is
    go none (failed e is) = order_last stm x ys asked _ is

pub running_is_told : RunningIsTold
running_is_told stm x ys asked = (λ bit. go bit (course_last stm x ys asked), back)
  where
    go : bit_of 3 (messages_in (last stm x ys asked).last.report) ≡ true
        → WentOn stm x ys asked
        → RunsStill stm.train (reports stm x ys asked)
    go bit (settles s is) = inl s
    go bit (brakes b is) = inr b
    go bit (Course.passed e is) = impossible (sym (runs_last stm x ys asked _ is) ∙ bit)
    go bit (failed e is) = impossible (sym (runs_last stm x ys asked _ is) ∙ bit)

    back : RunsStill stm.train (reports stm x ys asked) → bit_of 3 (messages_in (last stm x ys asked).last.report) ≡ true
    back (inl s) = runs_last stm x ys asked _ (settles_is stm.train stm.test.result (reports stm x ys asked) s)
    back (inr b) = runs_last stm x ys asked _ (brakes_is stm.train stm.test.result (reports stm x ys asked) b)

pub result_is_told : ResultIsTold
result_is_told stm x ys asked over = (
  (
    λ bit. passed_by bit (course_last stm x ys asked),
    λ e. (tells_last stm x ys asked).passed.1
        (result_last stm x ys asked _ (passed_is stm.train stm.test.result (reports stm x ys asked) e)),
  ),
  (
    λ bit. failed_by bit (course_last stm x ys asked),
    λ e. (tells_last stm x ys asked).failed_test.1
        (result_last stm x ys asked _ (failed_is stm.train stm.test.result (reports stm x ys asked) e)),
  ),
)
  where
    passed_by : bit_of 4 (messages_in (last stm x ys asked).last.report) ≡ true → WentOn stm x ys asked
        → EndedBy (Passes stm.train) (reports stm x ys asked)
    passed_by bit (settles s is) = impossible (sym over ∙ runs_last stm x ys asked _ is)
    passed_by bit (brakes b is) = impossible (sym over ∙ runs_last stm x ys asked _ is)
    passed_by bit (Course.passed e is) = e
    passed_by bit (failed e is) =
        impossible (ap has_passed (sym (result_last stm x ys asked _ is) ∙ (tells_last stm x ys asked).passed.0 bit))

    failed_by : bit_of 5 (messages_in (last stm x ys asked).last.report) ≡ true → WentOn stm x ys asked
        → EndedBy (Fails stm.train) (reports stm x ys asked)
    failed_by bit (settles s is) = impossible (sym over ∙ runs_last stm x ys asked _ is)
    failed_by bit (brakes b is) = impossible (sym over ∙ runs_last stm x ys asked _ is)
    failed_by bit (Course.passed e is) =
        impossible (ap has_failed (sym (result_last stm x ys asked _ is) ∙ (tells_last stm x ys asked).failed_test.0 bit))
    failed_by bit (failed e is) = e

pub result_stands : ResultStands
result_stands stm x ys asked bit = go (course_last stm x ys asked)
  where
    go : WentOn stm x ys asked → (last stm x ys asked).test.result ≡ stm.test.result
    go (settles s is) = result_last stm x ys asked _ is
    go (brakes b is) = result_last stm x ys asked _ is
    go (Course.passed e is) = impossible (sym (runs_last stm x ys asked _ is) ∙ bit)
    go (failed e is) = impossible (sym (runs_last stm x ys asked _ is) ∙ bit)

-- ---- the answer to one that is asked for

asked_late : (t5 t6 t7 t8 again in_de runs : Bool)
    → let answer = answer_number (cond t5 Answer.NotStarted (cond t6 Answer.ZeroNumber (cond t7 Answer.WrongNumber (cond t8 Answer.Failed
    (cond again Answer.Again (cond (not in_de) Answer.OutsideDE (cond runs Answer.TestRunning Answer.Accepted))))))) in
    is_judged answer ≡ true → answer ≡ cond in_de (cond runs 15 0) 14
asked_late true t6 t7 t8 again in_de runs e = impossible e
asked_late false true t7 t8 again in_de runs e = impossible e
asked_late false false true t8 again in_de runs e = impossible e
asked_late false false false true again in_de runs e = impossible e
asked_late false false false false true in_de runs e = impossible e
asked_late false false false false false true true e = refl
asked_late false false false false false true false e = refl
asked_late false false false false false false runs e = refl

-- the answer by the list 5 to 18 to a command with this code
abbrev AnsweredAs : Stm → List ℕ → Code → Type 0
AnsweredAs stm command code =
    let answer = answer_number (first_of (rules_for stm command code (operands_of command))) in
    is_judged answer ≡ true → answer ≡ cond (is_in State.DE stm) (cond (runs_in stm.test.stage) 15 0) 14

asked_whole : (stm : Stm) (command : List ℕ) → AnsweredAs stm command Code.TestBrakes
unfolding rules_for ends_nothing finds_no_place tests_outside tests_twice is_untaken finds_no_record_place repeats_nothing
asked_whole stm command e =
    asked_late (not stm.control.started && not (is_start command)) (eqb (number_of command) 0)
    (not (is_start command) && not (is_repeat stm command) && not (is_next stm command))
    (is_state State.FA stm.control.state && not (is_start command) && not (is_repeat stm command)) (is_repeat stm command)
    (is_in State.DE stm) (is_running stm.test.stage) e
    ∙ ap (λ runs. cond (is_in State.DE stm) (cond runs 15 0) 14) (test_runs stm.test.stage)

asked_form : (form : Result ⊤ FormError) (stm : Stm) (command : List ℕ) → is_of Code.TestBrakes command ≡ true
    → is_judged (answer_number (answer_for form (whole_answer stm command))) ≡ true
    → answer_number (answer_for form (whole_answer stm command)) ≡ cond (is_in State.DE stm) (cond (runs_in stm.test.stage) 15 0) 14
asked_form (Err FormError.WrongArea) stm command c e = impossible e
asked_form (Err FormError.NoBytes) stm command c e = impossible e
asked_form (Err FormError.NoCode) stm command c e = impossible e
asked_form (Err FormError.WrongLength) stm command c e = impossible e
asked_form (Ok passed) stm command c e =
    subst (AnsweredAs stm command) (sym (code_is Code.TestBrakes (code_of (code_byte command)) c)) (asked_whole stm command) e

pub asking_is_answered : AskingIsAnswered
unfolding call_of answer_of
asking_is_answered stm x c e = asked_form (form_of x.command (length x.area)) stm x.command c e

-- ---- no test that is not asked for

left_idle : (stage : Stage) (result : Verdict) → stage ≡ Stage.Idle
    → left_test (record { stage = stage; result = result }) ≡ record { stage = stage; result = result }
left_idle Stage.Idle result e = refl
left_idle (Stage.Settling phase) result e = impossible (sym (ap is_running e))
left_idle (Stage.Braking steady reports) result e = impossible (sym (ap is_running e))

idle_in : (state : State) (r : Reading) (stm : Stm) → stm.test.stage ≡ Stage.Idle → test_in r stm state ≡ stm.test
idle_in State.DE r stm e = none_tested stm.train _ r stm.test e
idle_in State.CS r stm e = refl
idle_in State.HS r stm e = refl
idle_in State.DA r stm e = refl
idle_in State.FA r stm e = refl

idle_by : (code : Code) (s : List ℕ) (stm : Stm) → (is_code Code.TestBrakes code || is_code Code.Start code) ≡ false
    → stm.test.stage ≡ Stage.Idle → test_by code s stm ≡ stm.test
idle_by Code.Start s stm n e = impossible (sym n)
idle_by Code.ChangeState s stm n e = left_idle stm.test.stage stm.test.result e
idle_by Code.Odometer s stm n e = idle_in stm.control.state (reading_of s) stm e
idle_by Code.NewCurve s stm n e = refl
idle_by Code.EndCurve s stm n e = refl
idle_by Code.NewSection s stm n e = refl
idle_by Code.EndSection s stm n e = refl
idle_by Code.StopPassed s stm n e = refl
idle_by Code.Proceed s stm n e = refl
idle_by Code.BaliseError s stm n e = refl
idle_by Code.TestBrakes s stm n e = impossible (sym n)
idle_by Code.AreaEvent s stm n e = refl
idle_by Code.NewRecord s stm n e = refl
idle_by Code.SignalPassed s stm n e = refl
idle_by Code.EndRecord s stm n e = refl

abbrev begins : Stm → List ℕ → Bool
begins before command = is_of Code.TestBrakes command || is_of Code.Start command

pub no_test_unasked : NoTestUnasked
no_test_unasked stm xs idle n =
    kept_to_end (λ s. s.test ≡ stm.test) begins begins
    (λ s x e f g k.
    test_after_by s x e
    ∙ idle_by (code_of (code_byte x.command)) (operands_of x.command) s f (ap (λ test. test.stage) k ∙ idle)
    ∙ k)
    stm xs n n refl

-- ---- leaving DE

left_told : (stage : Stage) (result : Verdict)
    → ((left_test (record { stage = stage; result = result })).stage ≡ Stage.Idle)
    × (runs_in stage ≡ true → (left_test (record { stage = stage; result = result })).result ≡ Verdict.Failed)
    × (runs_in stage ≡ false → left_test (record { stage = stage; result = result }) ≡ record { stage = stage; result = result })
left_told Stage.Idle result = (refl, λ e. impossible e, λ e. refl)
left_told (Stage.Settling phase) result = (refl, λ e. refl, λ e. impossible (sym e))
left_told (Stage.Braking steady reports) result = (refl, λ e. refl, λ e. impossible (sym e))

pub leaving_fails_test : LeavingFailsTest
leaving_fails_test stm x e c =
    let is =
    test_after_by stm x e
    ∙ ap (λ code. test_by code (operands_of x.command) stm) (code_is Code.ChangeState (code_of (code_byte x.command)) c) in
    rw is (left_told stm.test.stage stm.test.result)

idle_outside : (train : Train) (state : State) (stage : Stage) → is_state State.DE state ≡ false → StageSound train state stage
    → stage ≡ Stage.Idle
idle_outside train state Stage.Idle out s = refl
idle_outside train state (Stage.Settling phase) out s = impossible (sym out ∙ s.0)
idle_outside train state (Stage.Braking steady reports) out s = impossible (sym out ∙ s.0)

pub no_test_outside_de : NoTestOutsideDE
no_test_outside_de stm xs unit out =
    let end = state_at_end stm xs in
    idle_outside end.train end.control.state end.test.stage out (run_keeps_unit stm xs unit).stage

-- ---- the extra

flag_extra : (flag : Bool) → extra_of flag ≡ cond flag 50 0
flag_extra true = refl
flag_extra false = refl

pub extra_by_flag : ExtraByFlag
unfolding train_of
extra_by_flag stm x e c =
    extra_after_by stm x e
    ∙ ap (λ code. extra_by code (operands_of x.command) stm) (code_is Code.Start (code_of (code_byte x.command)) c)
    ∙ flag_extra (bit_of 2 (first_operand x.command))

-- where the result after a command is no pass, the extra stays
extra_kept : (result : Verdict) (extra : ℕ) → has_passed result ≡ false → extra_left result extra ≡ extra
extra_kept Verdict.Pending extra e = refl
extra_kept Verdict.Passed extra e = impossible (sym e)
extra_kept Verdict.Failed extra e = refl

extra_in_lem : (state : State) (r : Reading) (stm : Stm) → has_passed (test_in r stm state).result ≡ false
    → extra_in r stm state ≡ stm.train.times.extra
extra_in_lem State.DE r stm e = extra_kept (test_in r stm State.DE).result stm.train.times.extra e
extra_in_lem State.CS r stm e = refl
extra_in_lem State.HS r stm e = refl
extra_in_lem State.DA r stm e = refl
extra_in_lem State.FA r stm e = refl

unpassed_by : (code : Code) (s : List ℕ) (stm : Stm) → is_code Code.Start code ≡ false → has_passed (test_by code s stm).result ≡ false
    → extra_by code s stm ≡ stm.train.times.extra
unpassed_by Code.Start s stm n e = impossible (sym n)
unpassed_by Code.ChangeState s stm n e = refl
unpassed_by Code.Odometer s stm n e = extra_in_lem stm.control.state (reading_of s) stm e
unpassed_by Code.NewCurve s stm n e = refl
unpassed_by Code.EndCurve s stm n e = refl
unpassed_by Code.NewSection s stm n e = refl
unpassed_by Code.EndSection s stm n e = refl
unpassed_by Code.StopPassed s stm n e = refl
unpassed_by Code.Proceed s stm n e = refl
unpassed_by Code.BaliseError s stm n e = refl
unpassed_by Code.TestBrakes s stm n e = refl
unpassed_by Code.AreaEvent s stm n e = refl
unpassed_by Code.NewRecord s stm n e = refl
unpassed_by Code.SignalPassed s stm n e = refl
unpassed_by Code.EndRecord s stm n e = refl

not_passed : (stm : Stm) → not (bit_of 4 (messages_in (report_of stm))) ≡ true → has_passed stm.test.result ≡ false
not_passed stm e = go stm.test.result (messages_tell stm).passed.1
  where
    go : (result : Verdict) → (result ≡ Verdict.Passed → bit_of 4 (messages_in (report_of stm)) ≡ true) → has_passed result ≡ false
    go Verdict.Pending h = refl
    go Verdict.Passed h = impossible (sym (not-true (bit_of 4 (messages_in (report_of stm))) e) ∙ h refl)
    go Verdict.Failed h = refl

abbrev unpassed : Stm → Bool
unpassed s = not (bit_of 4 (messages_in s.last.report))

extra_once : (stm : Stm) (x : Sent) (accepted : Bool) → is_accepted (answer_to stm x) ≡ accepted
    → (accepted ≡ true → is_of Code.Start x.command ≡ false) → unpassed (state_after stm x) ≡ true
    → (state_after stm x).train.times.extra ≡ stm.train.times.extra
extra_once stm x true e n h =
    let code = code_of (code_byte x.command) in
    let s = operands_of x.command in
    let none = not_passed (state_after stm x) (subst (λ report. not (bit_of 4 (messages_in report)) ≡ true) (report_kept stm x e) h) in
    extra_after_by stm x e ∙ unpassed_by code s stm (n refl) (ap (λ test. has_passed test.result) (sym (test_after_by stm x e)) ∙ none)
extra_once stm x false e n h = ap (λ s. s.train.times.extra) (after_other stm x e)

through_first : (test : Stm → Bool) (stm : Stm) (xs : List Sent) → stands_through test stm xs ≡ true → test stm ≡ true
unfolding stands_through
through_first test stm [] e = e
through_first test stm (x ∷ xs) e = and_left (test stm) (stands_through test (state_after stm x) xs) e

pub extra_until_passed : ExtraUntilPassed
unfolding state_at_end stands_through
extra_until_passed stm [] n through = refl
extra_until_passed stm (x ∷ xs) n through =
    let t = spared_first (λ before command. is_of Code.Start command) stm x xs n in
    let after = state_after stm x in
    let rest = and_right (unpassed stm) (stands_through unpassed after xs) through in
    extra_until_passed after xs t.1 rest
    ∙ extra_once stm x (is_accepted (answer_to stm x)) refl t.0 (through_first unpassed after xs rest)

pub passed_has_no_extra : PassedHasNoExtra
passed_has_no_extra stm x unit e bit =
    let after = state_after stm x in
    let is = (messages_tell after).passed.0 (subst (λ report. bit_of 4 (messages_in report) ≡ true) (written_is stm x e) bit) in
    eqb-true after.train.times.extra 0
    (ap (is_extra_sound after.train.times.extra) (sym is) ∙ (call_keeps_unit stm x unit).extra)

-- once gone
zero_left : (result : Verdict) (extra : ℕ) → extra ≡ 0 → extra_left result extra ≡ 0
zero_left Verdict.Pending extra e = e
zero_left Verdict.Passed extra e = refl
zero_left Verdict.Failed extra e = e

zero_in : (state : State) (r : Reading) (stm : Stm) → stm.train.times.extra ≡ 0 → extra_in r stm state ≡ 0
zero_in State.DE r stm e = zero_left (test_in r stm State.DE).result stm.train.times.extra e
zero_in State.CS r stm e = e
zero_in State.HS r stm e = e
zero_in State.DA r stm e = e
zero_in State.FA r stm e = e

zero_by : (code : Code) (s : List ℕ) (stm : Stm) → is_code Code.Start code ≡ false → stm.train.times.extra ≡ 0 → extra_by code s stm ≡ 0
zero_by Code.Start s stm n e = impossible (sym n)
zero_by Code.ChangeState s stm n e = e
zero_by Code.Odometer s stm n e = zero_in stm.control.state (reading_of s) stm e
zero_by Code.NewCurve s stm n e = e
zero_by Code.EndCurve s stm n e = e
zero_by Code.NewSection s stm n e = e
zero_by Code.EndSection s stm n e = e
zero_by Code.StopPassed s stm n e = e
zero_by Code.Proceed s stm n e = e
zero_by Code.BaliseError s stm n e = e
zero_by Code.TestBrakes s stm n e = e
zero_by Code.AreaEvent s stm n e = e
zero_by Code.NewRecord s stm n e = e
zero_by Code.SignalPassed s stm n e = e
zero_by Code.EndRecord s stm n e = e

abbrev starts : Stm → List ℕ → Bool
starts before command = is_of Code.Start command

pub zero_after : (stm : Stm) (x : Sent) → is_accepted (answer_to stm x) ≡ true → is_of Code.Start x.command ≡ false
    → stm.train.times.extra ≡ 0 → (state_after stm x).train.times.extra ≡ 0
zero_after stm x e n none = extra_after_by stm x e ∙ zero_by (code_of (code_byte x.command)) (operands_of x.command) stm n none

pub no_extra_stays : NoExtraStays
no_extra_stays stm xs none n =
    kept_to_end (λ s. s.train.times.extra ≡ 0) starts starts (λ s x e f g k. zero_after s x e f k) stm xs n n none

-- without the flag
pub no_flag_no_extra : NoFlagNoExtra
no_flag_no_extra stm x ys e c flag n =
    let after = state_after stm x in
    let last = state_at_end after ys in
    let none = extra_by_flag stm x e c ∙ ap (λ f. cond f 50 0) flag in
    let gone = no_extra_stays after ys none n in
    leads_without_extra last.train.times gone
    ∙ ap (λ train. record {
      d = train.times.brake;
      c = train.times.brake + train.times.c;
      permitted = train.times.brake + train.times.c + train.times.permitted;
      b = train.times.brake + train.times.c + train.times.permitted + 30;
      bf = train.times.brake + train.times.c + train.times.permitted + 30 + train.times.bf;
    }) (feedback_over_reports after ys n).1
