-- What a report, command 40 and leaving DE keep of brake test A and of the extra.
use mathlib.Core.Path.{◌≡◌, refl, sym, ap, ◌∙◌, subst}
use Prim.Native.Nat.{ℕ, ◌+◌, ◌≤◌}
use mathlib.Core.Bool.{Bool, true, false, cond, ◌&&◌, ◌||◌}
use mathlib.Core.List.{[], ◌∷◌, ◌++◌}
use lib.Dec.{eqb, leb, ltb}
use lib.IntN.{ℤ}
use lib.Ieee.{Float}
use borrow.Author.Tests.{leb-false, lt-ltb}
use Rattle.pressure.specs.declared.Phase.{Phase}
use Rattle.pressure.specs.declared.Measured.{Measured}
use Rattle.pressure.specs.Phases.{is_set, is_normal, waited_of, is_far, settled_of, next_of}
use Rattle.pressure.specs.Report.{fresh_feedback, pressure_at, phase_after, reported}
use Rattle.pressure.specs.Claims.{after_all, Agrees}
use Rattle.pressure.proofs.Agreeing.{record_agrees, phase_decides}
use Rattle.rules.specs.Numbers.{is_state}
use Rattle.rules.specs.BrakeTest.{ended_test, left_test, begun_test, is_unfit, phase_on, stage_of, has_dropped, braked_on, gone_on, tested_at, is_running, extra_left}
use Rattle.rules.specs.Odometer.{with_extra}
use Rattle.rules.specs.Units.{feedback_after, LeadsTo, StageSound, is_extra_sound}
use Rattle.rules.specs.declared.State.{State}
use Rattle.rules.specs.declared.Train.{Train}
use Rattle.rules.specs.declared.Stage.{Stage}
use Rattle.rules.specs.declared.Verdict.{Verdict}
use Rattle.rules.specs.declared.BrakeTest.{BrakeTest}
use Rattle.rules.specs.declared.Reading.{Reading}
use Rattle.rules.proofs.Tests.{impossible, or_left, cond_by}
use Rattle.rules.proofs.HighReadings.{Alike}
use Rattle.rules.proofs.Feedback.{more_of, after_more, each_more}

-- where none runs, a report leaves it as it is
pub none_tested : (train : Train) (feedback : Measured) (r : Reading) (test : BrakeTest) → test.stage ≡ Stage.Idle
    → tested_at train feedback r test ≡ test
unfolding tested_at
none_tested train feedback r test e = go test.stage test.result e
  where
    go : (stage : Stage) (result : Verdict) → stage ≡ Stage.Idle
        → tested_at train feedback r (record { stage = stage; result = result }) ≡ record { stage = stage; result = result }
    go Stage.Idle result e = refl
    go (Stage.Settling phase) result e = impossible (sym (ap is_running e))
    go (Stage.Braking steady reports) result e = impossible (sym (ap is_running e))

pub record TestSound (train : Train) (state : State) (test : BrakeTest) : Type 0 where
  pub stage : StageSound train state test.stage
  pub extra : is_extra_sound train.times.extra test.result ≡ true

-- ---- the extra

extra_any : (extra : ℕ) (result : Verdict) → is_extra_sound extra result ≡ true → (eqb extra 0 || eqb extra 50) ≡ true
extra_any extra Verdict.Pending e = e
extra_any extra Verdict.Passed e = or_left (eqb extra 0) (eqb extra 50) e
extra_any extra Verdict.Failed e = e

extra_left_lem : (extra : ℕ) (result : Verdict) → is_extra_sound extra result ≡ true → is_extra_sound (extra_left result extra) result ≡ true
extra_left_lem extra Verdict.Pending e = e
extra_left_lem extra Verdict.Passed e = refl
extra_left_lem extra Verdict.Failed e = e

-- ---- a stage in another state, and with another extra

pub elsewhere_sound : (train : Train) (old new : State) (stage : Stage) → is_state State.DE old ≡ false
    → StageSound train old stage → StageSound train new stage
elsewhere_sound train old new Stage.Idle e s = tt
elsewhere_sound train old new (Stage.Settling phase) e s = impossible (sym e ∙ s.0)
elsewhere_sound train old new (Stage.Braking steady reports) e s = impossible (sym e ∙ s.0)

pub leads_with : (train : Train) (extra : ℕ) (phase : Phase) → LeadsTo train phase → LeadsTo (with_extra train extra) phase
leads_with train extra phase l = record { readings = l.readings; width = l.width; led = l.led }

-- ---- command 40, and leaving DE

pub begun_sound : (train : Train) (state : State) (test : BrakeTest) → is_state State.DE state ≡ true → TestSound train state test
    → TestSound train state (begun_test test)
unfolding fresh_feedback after_all
begun_sound train state test e t = record { stage = (e, refl, record { readings = []; width = tt; led = refl }); extra = t.extra }

left_failed : (train : Train) (old new : State) (stage : Stage) (result : Verdict)
    → TestSound train old (record { stage = stage; result = result }) → TestSound train new (left_test (record { stage = stage; result = result }))
left_failed train old new Stage.Idle result t = record { stage = tt; extra = t.extra }
left_failed train old new (Stage.Settling phase) result t = record { stage = tt; extra = extra_any train.times.extra result t.extra }
left_failed train old new (Stage.Braking steady reports) result t =
    record { stage = tt; extra = extra_any train.times.extra result t.extra }

pub left_sound : (train : Train) (old new : State) (test : BrakeTest) → TestSound train old test → TestSound train new (left_test test)
left_sound train old new test t = left_failed train old new test.stage test.result t

-- ---- a report

-- a phase that is set at a report was set before, or begins its count there
waited_count : (p reference : Float) (reports : ℕ) → waited_of p ≡ Phase.Set reference reports → reports ≡ 0
unfolding waited_of
waited_count p reference reports e = go (is_normal p) e
  where
    go : (t : Bool) → cond t (Phase.Settling p 0) Phase.Waiting ≡ Phase.Set reference reports → reports ≡ 0
    go true e = impossible (ap is_set e)
    go false e = impossible (ap is_set e)

count_in : Phase → ℕ
count_in Phase.Waiting = 0
count_in (Phase.Settling saved reports) = 0
count_in (Phase.Set reference reports) = reports

settled_count : (saved reference : Float) (n reports : ℕ) → settled_of saved n ≡ Phase.Set reference reports → reports ≡ 0
unfolding settled_of count_in
settled_count saved reference n reports e = go (ltb (n + 1) 30) e
  where
    go : (t : Bool) → cond t (Phase.Settling saved (n + 1)) (Phase.Set saved 0) ≡ Phase.Set reference reports → reports ≡ 0
    go true e = impossible (ap is_set e)
    go false e = sym (ap count_in e)

next_count : (phase : Phase) (p reference : Float) (reports : ℕ) → is_set phase ≡ false → next_of phase p ≡ Phase.Set reference reports
    → reports ≡ 0
unfolding next_of
next_count Phase.Waiting p reference reports u e = waited_count p reference reports e
next_count (Phase.Settling saved n) p reference reports u e = go (is_far saved p) e
  where
    go : (t : Bool) → cond t (waited_of p) (settled_of saved n) ≡ Phase.Set reference reports → reports ≡ 0
    go true e = waited_count p reference reports e
    go false e = settled_count saved reference n reports e
next_count (Phase.Set saved n) p reference reports u e = impossible (sym u)

pub on_count : (train : Train) (x : ℤ) (phase : Phase) (reference : Float) (reports : ℕ) → is_set phase ≡ false
    → phase_on train x phase ≡ Phase.Set reference reports → reports ≡ 0
unfolding phase_on reported phase_after
on_count train x phase reference reports u e =
    next_count phase (pressure_at fresh_feedback.pressures train.feed train.pressure x) reference reports u e

-- the rule with the test's phase alone is the feedback's, begun afresh
unset_agrees : (phase : Phase) → is_set phase ≡ false → Agrees (record { phase = phase; pressures = fresh_feedback.pressures; fault = false })
unfolding fresh_feedback
unset_agrees Phase.Waiting u = refl
unset_agrees (Phase.Settling saved reports) u = refl
unset_agrees (Phase.Set reference reports) u = impossible (sym u)

pub on_led : (train : Train) (before : Measured) (x : ℤ) (phase : Phase) → Agrees before → before.phase ≡ phase → is_set phase ≡ false
    → (more_of train before x).phase ≡ phase_on train x phase
unfolding phase_on
on_led train before x phase a is u =
    ap (λ measured. measured.phase)
    (phase_decides before (record { phase = phase; pressures = fresh_feedback.pressures; fault = false }) train.feed train.pressure x
    a (unset_agrees phase u) is)

leads_on : (train : Train) (x : ℤ) (phase : Phase) → Alike x → is_set phase ≡ false → LeadsTo train phase
    → LeadsTo train (phase_on train x phase)
unfolding phase_on
leads_on train x phase a u l =
    let before = feedback_after train fresh_feedback l.readings in
    record {
      readings = l.readings ++ (a.reading ∷ []);
      width = each_more _ l.readings a.reading l.width a.width;
      led = ap (λ measured. measured.phase) (after_more train fresh_feedback l.readings a.reading)
          ∙ on_led train before a.reading phase (record_agrees train.feed train.pressure l.readings) l.led u
          ∙ ap (λ measured. measured.phase) (sym (a.same phase fresh_feedback.pressures train.feed train.pressure));
    }

stage_of_lem : (train : Train) (state : State) (next : Phase) → is_state State.DE state ≡ true → 1 ≤ train.times.brake
    → ((reference : Float) (reports : ℕ) → next ≡ Phase.Set reference reports → reports ≡ 0)
    → LeadsTo train next → StageSound train state (stage_of next)
stage_of_lem train state Phase.Waiting e limit count l = (e, refl, l)
stage_of_lem train state (Phase.Settling saved reports) e limit count l = (e, refl, l)
stage_of_lem train state (Phase.Set reference reports) e limit count l =
    (e, lt-ltb 0 train.times.brake limit, subst (λ n. LeadsTo train (Phase.Set reference n)) (count reference reports refl) l)

-- the outcome of a report, with the extra that it leaves
abbrev pub SoundAfter : Train → State → BrakeTest → Type 0
SoundAfter train state test = TestSound (with_extra train (extra_left test.result train.times.extra)) state test

with_stage : (train : Train) (state : State) (extra : ℕ) (stage : Stage) → StageSound train state stage
    → StageSound (with_extra train extra) state stage
with_stage train state extra Stage.Idle s = tt
with_stage train state extra (Stage.Settling phase) s = (s.0, s.1, leads_with train extra phase s.2)
with_stage train state extra (Stage.Braking steady reports) s = (s.0, s.1, leads_with train extra (Phase.Set steady 0) s.2)

ended_failed : (train : Train) (state : State) (result : Verdict) → is_extra_sound train.times.extra result ≡ true
    → SoundAfter train state (ended_test Verdict.Failed)
ended_failed train state result e = record { stage = tt; extra = extra_any train.times.extra result e }

ran_on : (train : Train) (state : State) (stage : Stage) (result : Verdict) → StageSound train state stage
    → is_extra_sound train.times.extra result ≡ true → SoundAfter train state (record { stage = stage; result = result })
ran_on train state stage result s e = record {
  stage = with_stage train state (extra_left result train.times.extra) stage s;
  extra = extra_left_lem train.times.extra result e;
}

gone_sound : (train : Train) (state : State) (feedback : Measured) (x : ℤ) (stage : Stage) (result : Verdict)
    → Alike x → 1 ≤ train.times.brake → TestSound train state (record { stage = stage; result = result })
    → SoundAfter train state (gone_on train feedback x result stage)
unfolding braked_on
gone_sound train state feedback x Stage.Idle result a limit t = ran_on train state Stage.Idle result tt t.extra
gone_sound train state feedback x (Stage.Settling phase) result a limit t =
    let s = t.stage in
    ran_on train state (stage_of (phase_on train x phase)) result
    (stage_of_lem train state (phase_on train x phase) s.0 limit (λ reference reports is. on_count train x phase reference reports s.1 is)
    (leads_on train x phase a s.1 s.2))
    t.extra
gone_sound train state feedback x (Stage.Braking steady reports) result a limit t =
    let s = t.stage in
    cond_by (SoundAfter train state) (has_dropped steady feedback.pressures.pressure) (ended_test Verdict.Passed)
    (cond (leb train.times.brake (reports + 1)) (ended_test Verdict.Failed)
    (record { stage = Stage.Braking steady (reports + 1); result = result }))
    (λ _. record { stage = tt; extra = refl })
    (λ _. cond_by (SoundAfter train state) (leb train.times.brake (reports + 1)) (ended_test Verdict.Failed)
    (record { stage = Stage.Braking steady (reports + 1); result = result })
    (λ _. ended_failed train state result t.extra)
    (λ e. ran_on train state (Stage.Braking steady (reports + 1)) result
    (s.0, lt-ltb (reports + 1) train.times.brake (leb-false train.times.brake (reports + 1) e), s.2) t.extra))

pub tested_sound : (train : Train) (state : State) (feedback : Measured) (r : Reading) (test : BrakeTest)
    → Alike r.external → 1 ≤ train.times.brake → TestSound train state test → SoundAfter train state (tested_at train feedback r test)
unfolding tested_at
tested_sound train state feedback r test a limit t =
    cond_by (SoundAfter train state) (is_running test.stage && is_unfit feedback r) (ended_test Verdict.Failed) (gone_on train feedback r.external test.result test.stage)
    (λ _. ended_failed train state test.result t.extra)
    (λ _. gone_sound train state feedback r.external test.stage test.result a limit t)
