-- Members' point 3: two units compared over two lists of odometer reports. Assumes nothing.
use Prim.Native.Nat.{ℕ}
use mathlib.Core.Path.{◌≡◌, refl, sym, ◌∙◌, ap}
use mathlib.Core.Bool.{Bool, true, false, false≢true, ◌||◌}
use mathlib.Core.List.{List, [], ◌∷◌}
use native.Mathlib.Nat.{le_refl}
use Rattle.wire.specs.Form.{operands_of}
use Rattle.curve.specs.Deceleration.{level_of}
use Rattle.records.specs.Lives.{is_effective}
use Rattle.rules.specs.Numbers.{code_of, is_code, is_accepted, is_refused}
use Rattle.rules.specs.Operands.{code_byte, number_of, reading_of}
use Rattle.rules.specs.Speeds.{braking_of}
use Rattle.rules.specs.Table.{stands}
use Rattle.rules.specs.Odometer.{reported_in}
use Rattle.rules.specs.Commands.{carried_out, with_last, remembered, accepted_of}
use Rattle.rules.specs.Refusals.{is_start}
use Rattle.rules.specs.Calls.{area_for, area_of}
use Rattle.rules.specs.BrakeTest.{is_running}
use Rattle.rules.specs.Runs.{Sent, answer_to, state_after, moment_of, moments}
use Rattle.rules.specs.TwoRuns.{Compared, Both, Faster, RefusedAlike, NoServiceFault, NoEmergencyFault, InGear}
use Rattle.rules.specs.TwoRuns.{UnexpectedStopAlike, NoTestRuns, Claimed, TwoRuns}
use Rattle.rules.specs.declared.Answer.{Answer}
use Rattle.rules.specs.declared.Code.{Code}
use Rattle.rules.specs.declared.Cause.{Cause}
use Rattle.rules.specs.declared.State.{State}
use Rattle.rules.specs.declared.Brakes.{Brakes}
use Rattle.rules.specs.declared.Kept.{Kept}
use Rattle.rules.specs.declared.Last.{Last}
use Rattle.rules.specs.declared.Stage.{Stage}
use Rattle.rules.specs.declared.Stm.{Stm}
use Rattle.rules.proofs.Answers.{after_accepted, after_other}
use Rattle.rules.proofs.Monotone.{same_implies}
use Rattle.rules.proofs.TwoTracks.{tracks_at_first}
use Rattle.rules.proofs.TwoSpeeds.{KeptBelow, interval_no_earlier}
use Rattle.rules.proofs.TwoUnits.{BrakesBelow, Below, reported_below}
use Rattle.rules.proofs.TwoReports.{ReportsBelow, written_below}
use Rattle.rules.proofs.Repeats.{number_kept, accepted_alike}
use Rattle.rules.proofs.TwoReadings.{same_code, same_number, readings_below}

-- ---- the two units in their runs

-- beside what a report keeps: one last number, and in the second a kept report that permits no more and orders no less
record RunsBelow (u w : Stm) : Type 0 where
  units : Below u w
  number : number_of w.last.bytes ≡ number_of u.last.bytes
  report : ReportsBelow u.last.report w.last.report

kept_at_first : {kept kept' : Kept} → kept' ≡ kept → KeptBelow kept kept'
kept_at_first {kept} same = rw same (record { speed = le_refl kept.speed; loss = refl; text = refl; halka = refl })

brakes_at_first : {full full' : ℕ} {b b' : Brakes} → b' ≡ b → (stands b.causes Cause.UnexpectedStop ≡ true → full' ≡ full)
    → BrakesBelow full full' b b'
brakes_at_first same alike = rw same (record {
  causes = record { at = λ cause. same_implies };
  aimed = same_implies;
  landslide = same_implies;
  balise = refl;
  stop = λ stood. (alike stood, same_implies);
})

none_runs : (stage : Stage) → is_running stage ≡ false → stage ≡ Stage.Idle
none_runs Stage.Idle e = refl
none_runs (Stage.Settling phase) e = absurd (false≢true (sym e))
none_runs (Stage.Braking steady reports) e = absurd (false≢true (sym e))

at_first_lem : {u w : Stm} → Compared u w → UnexpectedStopAlike u w → NoTestRuns u → RunsBelow u w
at_first_lem {u} compared alike idle = record {
  units = record {
    state = ap (λ control. control.state) compared.control;
    train = compared.train;
    track = tracks_at_first compared.track;
    brakes = brakes_at_first compared.brakes (λ stood. (alike (ap (◌|| u.brakes.causes.speed) stood)).0);
    feedback = compared.feedback;
    idle = none_runs u.test.stage idle;
    test = compared.test;
    kept = kept_at_first compared.kept;
  };
  number = compared.last.number;
  report = record { permitted = compared.last.permitted; order = compared.last.order };
}

-- ---- an accepted report

pub is_odometer : (code : Code) → is_code Code.Odometer code ≡ true → code ≡ Code.Odometer
is_odometer Code.Start e = absurd (false≢true e)
is_odometer Code.ChangeState e = absurd (false≢true e)
is_odometer Code.Odometer e = refl
is_odometer Code.NewCurve e = absurd (false≢true e)
is_odometer Code.EndCurve e = absurd (false≢true e)
is_odometer Code.NewSection e = absurd (false≢true e)
is_odometer Code.EndSection e = absurd (false≢true e)
is_odometer Code.StopPassed e = absurd (false≢true e)
is_odometer Code.Proceed e = absurd (false≢true e)
is_odometer Code.BaliseError e = absurd (false≢true e)
is_odometer Code.TestBrakes e = absurd (false≢true e)
is_odometer Code.AreaEvent e = absurd (false≢true e)
is_odometer Code.NewRecord e = absurd (false≢true e)
is_odometer Code.SignalPassed e = absurd (false≢true e)
is_odometer Code.EndRecord e = absurd (false≢true e)

abbrev pub IsOdometer : List ℕ → Type 0
IsOdometer command = code_of (code_byte command) ≡ Code.Odometer

pub no_start : (command : List ℕ) → IsOdometer command → is_start command ≡ false
no_start command e = ap (is_code Code.Start) e

-- the unit after a report, before the command is remembered
abbrev reported_to : State → Stm → Sent → Stm
reported_to state stm x = reported_in state (reading_of (operands_of x.command)) stm

accepted_is : (stm : Stm) (x : Sent) → IsOdometer x.command → (state : State) → stm.control.state ≡ state
    → is_accepted (answer_to stm x) ≡ true → state_after stm x ≡ remembered x.command (reported_to state stm x)
unfolding accepted_of
accepted_is stm x odometer state e h =
    after_accepted stm x h
    ∙ ap (λ code. remembered x.command (carried_out code (operands_of x.command) stm)) odometer
    ∙ ap (λ s. remembered x.command (reported_to s stm x)) e

last_aside : {u w : Stm} (last last' : Last) → Below u w → Below (with_last u last) (with_last w last')
last_aside last last' below = record {
  state = below.state;
  train = below.train;
  track = below.track;
  brakes = below.brakes;
  feedback = below.feedback;
  idle = below.idle;
  test = below.test;
  kept = below.kept;
}

remembered_below : (command command' : List ℕ) {u w : Stm} → number_of command' ≡ number_of command → Below u w
    → RunsBelow (remembered command u) (remembered command' w)
unfolding remembered
remembered_below command command' same below = record {
  units = last_aside _ _ below;
  number = number_kept command' ∙ same ∙ sym (number_kept command);
  report = written_below below;
}

-- ---- one report at both

module _ {u w : Stm} {x y : Sent} (runs : RunsBelow u w) (faster : Faster x y) where
  odometer : IsOdometer x.command
  odometer = is_odometer (code_of (code_byte x.command)) faster.odometer

  odometer' : IsOdometer y.command
  odometer' = ap code_of (same_code faster) ∙ odometer

  module _ (refused : RefusedAlike (moment_of u x) (moment_of w y)) where
    accepted_second : is_accepted (answer_to u x) ≡ true → is_accepted (answer_to w y) ≡ true
    accepted_second = accepted_alike u w x y runs.number (same_number faster) (no_start x.command odometer) refused

    accepted_first : is_accepted (answer_to w y) ≡ true → is_accepted (answer_to u x) ≡ true
    accepted_first =
        accepted_alike w u y x (sym runs.number) (sym (same_number faster)) (no_start y.command odometer') (sym refused)

  module _ (service : NoServiceFault (moment_of u x) (moment_of w y)) (emergency : NoEmergencyFault (moment_of u x) (moment_of w y))
      (gear : InGear x y) where
    accepted_below : is_accepted (answer_to u x) ≡ true → is_accepted (answer_to w y) ≡ true
        → RunsBelow (state_after u x) (state_after w y)
    unfolding remembered
    accepted_below h h' =
        let e = accepted_is u x odometer u.control.state refl h in
        let e' = accepted_is w y odometer' u.control.state runs.units.state h' in
        rw (e, e')
        (remembered_below x.command y.command (same_number faster)
        (reported_below (readings_below faster gear) runs.units u.control.state
        (rw e at service.0) (rw e at emergency.0) (rw e' at emergency.1)))

    -- both accept it, or neither does and both stay as they are
    step_below : RefusedAlike (moment_of u x) (moment_of w y) → RunsBelow (state_after u x) (state_after w y)
    step_below refused = by (is_accepted (answer_to u x)) (is_accepted (answer_to w y)) refl refl
      where
        by : (t t' : Bool) → is_accepted (answer_to u x) ≡ t → is_accepted (answer_to w y) ≡ t'
            → RunsBelow (state_after u x) (state_after w y)
        by true true h h' = accepted_below h h'
        by true false h h' = absurd (false≢true (sym h' ∙ accepted_second refused h))
        by false true h h' = absurd (false≢true (sym h ∙ accepted_first refused h'))
        by false false h h' = rw (after_other u x h, after_other w y h') runs

-- ---- what is claimed of it

area_answered : (answer : Answer) (report area : List ℕ) → is_refused answer ≡ false → area_for answer report area ≡ report
area_answered Answer.Accepted report area e = refl
area_answered Answer.Again report area e = refl
area_answered Answer.WrongArea report area e = absurd (false≢true (sym e))
area_answered Answer.NoBytes report area e = absurd (false≢true (sym e))
area_answered Answer.NoCode report area e = absurd (false≢true (sym e))
area_answered Answer.WrongLength report area e = absurd (false≢true (sym e))
area_answered Answer.NotStarted report area e = absurd (false≢true (sym e))
area_answered Answer.ZeroNumber report area e = absurd (false≢true (sym e))
area_answered Answer.WrongNumber report area e = absurd (false≢true (sym e))
area_answered Answer.Failed report area e = absurd (false≢true (sym e))
area_answered Answer.OutOfRange report area e = absurd (false≢true (sym e))
area_answered Answer.NotAllowed report area e = absurd (false≢true (sym e))
area_answered Answer.NoReference report area e = absurd (false≢true (sym e))
area_answered Answer.NotHeld report area e = absurd (false≢true (sym e))
area_answered Answer.AllHeld report area e = absurd (false≢true (sym e))
area_answered Answer.OutsideDE report area e = absurd (false≢true (sym e))
area_answered Answer.TestRunning report area e = absurd (false≢true (sym e))
area_answered Answer.NotTaken report area e = absurd (false≢true (sym e))
area_answered Answer.NoRecordPlace report area e = absurd (false≢true (sym e))
area_answered Answer.NotSuperseded report area e = absurd (false≢true (sym e))

-- where a command is not refused, the area holds the report that the unit keeps
area_is_lem : (stm : Stm) (x : Sent) → is_refused (answer_to stm x) ≡ false → (moment_of stm x).area ≡ (state_after stm x).last.report
unfolding area_of
area_is_lem stm x e = area_answered (answer_to stm x) (state_after stm x).last.report x.area e

claimed : (u w : Stm) (x y : Sent) → RunsBelow (state_after u x) (state_after w y) → Claimed (moment_of u x) (moment_of w y)
unfolding braking_of level_of
claimed u w x y runs h h' = record {
  permitted = rw (area_is_lem u x h, area_is_lem w y h') runs.report.permitted;
  interval = λ curve curve' holds holds' same.
      interval_no_earlier runs.units.train runs.units.kept curve curve'
      (runs.units.track.curves.related curve curve' holds holds' same);
  records = λ et et' holds holds' same effective.
      let c = runs.units.track.records.related et et' holds holds' same in
      (ap is_effective c.condition ∙ effective, interval_no_earlier runs.units.train runs.units.kept et.curve et'.curve c.stricter);
  order = rw (area_is_lem u x h, area_is_lem w y h') runs.report.order;
}

-- ---- the lists

runs_compared : (u w : Stm) (xs ys : List Sent) → RunsBelow u w → Both Faster xs ys
    → Both RefusedAlike (moments u xs) (moments w ys) → Both NoServiceFault (moments u xs) (moments w ys)
    → Both NoEmergencyFault (moments u xs) (moments w ys) → Both InGear xs ys → Both Claimed (moments u xs) (moments w ys)
unfolding moments
runs_compared u w [] [] runs faster refused service emergency gear = tt
runs_compared u w [] (y ∷ ys) runs faster refused service emergency gear = absurd faster
runs_compared u w (x ∷ xs) [] runs faster refused service emergency gear = absurd faster
runs_compared u w (x ∷ xs) (y ∷ ys) runs faster refused service emergency gear =
    let next = step_below runs faster.0 service.0 emergency.0 gear.0 refused.0 in (
      claimed u w x y next,
      runs_compared (state_after u x) (state_after w y) xs ys next faster.1 refused.1 service.1 emergency.1 gear.1,
    )

pub two_runs : TwoRuns
two_runs u w xs ys compared faster units refused service emergency gear alike idle =
    runs_compared u w xs ys (at_first_lem compared alike idle) faster refused service emergency gear
