-- The parts of the unit after one accepted command: train, track, feedback, brake test, kept figures and control. Assumes nothing.
use mathlib.Core.Path.{◌≡◌, refl, sym, ◌∙◌, ap}
use Prim.Native.Nat.{ℕ}
use mathlib.Core.Bool.{Bool, true, false, cond}
use mathlib.Core.List.{List}
use Rattle.pressure.specs.Report.{reported_to}
use Rattle.wire.specs.Numbers.{byte_at}
use Rattle.wire.specs.Form.{operands_of}
use Rattle.rules.specs.Numbers.{code_of, state_of, is_accepted, is_code, is_state}
use Rattle.rules.specs.Operands.{code_byte, train_of, reading_of}
use Rattle.rules.specs.Places.{moved_track}
use Rattle.rules.specs.Releases.{released_brakes}
use Rattle.rules.specs.BrakeTest.{fresh_test, begun_test, left_test, tested_at, extra_left}
use Rattle.rules.specs.Odometer.{with_state, with_brakes, with_extra, seen_in, kept_of, moves, measures, noted_track, notes, adds, releases, is_fresh, supervised, reported_in}
use Rattle.rules.specs.Commands.{fresh_with, entered, stopped, carried_out, remembered, accepted_of}
use Rattle.rules.specs.Runs.{Sent, answer_to, state_after}
use Rattle.rules.specs.History.{is_in, is_report, is_supervised}
use Rattle.rules.specs.Braking.{reading_in, measured_at}
use Rattle.rules.specs.declared.Code.{Code}
use Rattle.rules.specs.declared.State.{State}
use Rattle.rules.specs.declared.Track.{Track}
use Rattle.rules.specs.declared.Brakes.{Brakes}
use Rattle.rules.specs.declared.BrakeTest.{BrakeTest}
use Rattle.rules.specs.declared.Reading.{Reading}
use Rattle.rules.specs.declared.Stm.{Stm}
use Rattle.rules.proofs.Answers.{after_accepted}
use Rattle.rules.proofs.Tests.{impossible, both}
use Rattle.rules.proofs.Told.{code_is, state_is_lem}
use Rattle.rules.proofs.Ordering.{done_by}

-- ---- what is remembered of a command changes nothing else

module _ (stm : Stm) (x : Sent) (e : is_accepted (answer_to stm x) ≡ true) where
  pub control_after : (state_after stm x).control ≡ (done_by x.command stm).control
  unfolding accepted_of remembered
  control_after = ap (λ after. after.control) (after_accepted stm x e)

  pub train_after_lem : (state_after stm x).train ≡ (done_by x.command stm).train
  unfolding accepted_of remembered
  train_after_lem = ap (λ after. after.train) (after_accepted stm x e)

  pub track_after : (state_after stm x).track ≡ (done_by x.command stm).track
  unfolding accepted_of remembered
  track_after = ap (λ after. after.track) (after_accepted stm x e)

  pub feedback_after_lem : (state_after stm x).feedback ≡ (done_by x.command stm).feedback
  unfolding accepted_of remembered
  feedback_after_lem = ap (λ after. after.feedback) (after_accepted stm x e)

  pub test_after : (state_after stm x).test ≡ (done_by x.command stm).test
  unfolding accepted_of remembered
  test_after = ap (λ after. after.test) (after_accepted stm x e)

  pub kept_after : (state_after stm x).kept ≡ (done_by x.command stm).kept
  unfolding accepted_of remembered
  kept_after = ap (λ after. after.kept) (after_accepted stm x e)

-- ---- a report, by the state that it finds

-- a part that neither leading to FA nor a release changes
ended_part : {A : Type 0} (part : Stm → A) (failed : Bool) (stm : Stm) (released : Brakes)
    → part (with_state stm State.FA) ≡ part stm → part (with_brakes stm released) ≡ part stm
    → part (cond failed (with_state stm State.FA) (with_brakes stm released)) ≡ part stm
ended_part part true stm released f g = f
ended_part part false stm released f g = g

releases_part : {A : Type 0} (part : Stm → A) (loss text : Bool) (stm : Stm)
    → ((state : State) → part (with_state stm state) ≡ part stm) → ((b : Brakes) → part (with_brakes stm b) ≡ part stm)
    → part (releases loss text stm) ≡ part stm
unfolding releases
releases_part part loss text stm f g =
    ended_part part stm.brakes.failed stm (released_brakes (seen_in stm) loss text stm.brakes) (f State.FA) (g _)

module _ (r : Reading) (stm : Stm) where
  -- moved, measured and noted, before causes are added
  abbrev noted : Stm
  noted = notes r (measures r (moves r stm))

  supervised_part : {A : Type 0} (part : Stm → A)
      → ((state : State) → part (with_state (adds noted) state) ≡ part (adds noted))
      → ((b : Brakes) → part (with_brakes (adds noted) b) ≡ part (adds noted))
      → part (supervised r stm) ≡ part (adds noted)
  unfolding supervised
  supervised_part part f g =
      releases_part part (is_fresh stm.kept.loss r.loss) (is_fresh stm.kept.text r.text) (adds noted) f g

  supervised_train : (supervised r stm).train ≡ stm.train
  unfolding adds notes measures moves
  supervised_train = supervised_part (λ s. s.train) (λ _. refl) (λ _. refl)

  supervised_track :
      (supervised r stm).track
      ≡ noted_track stm.train (kept_of r) (moved_track stm.train.length r.moved stm.track)
  unfolding adds notes measures moves
  supervised_track = supervised_part (λ s. s.track) (λ _. refl) (λ _. refl)

  supervised_feedback :
      (supervised r stm).feedback ≡ reported_to stm.feedback stm.train.feed stm.train.pressure r.external
  unfolding adds notes measures moves
  supervised_feedback = supervised_part (λ s. s.feedback) (λ _. refl) (λ _. refl)

  supervised_test : (supervised r stm).test ≡ stm.test
  unfolding adds notes measures moves
  supervised_test = supervised_part (λ s. s.test) (λ _. refl) (λ _. refl)

  supervised_kept : (supervised r stm).kept ≡ kept_of r
  unfolding adds notes measures moves
  supervised_kept = supervised_part (λ s. s.kept) (λ _. refl) (λ _. refl)

  -- the train stays, but for the extra; the track moves in HS and DA, and is noted in DA; every report measures and keeps its figures
  pub reported_train : (state : State) → (reported_in state r stm).train ≡ with_extra stm.train (reported_in state r stm).train.times.extra
  unfolding measures moves
  reported_train State.DE = refl
  reported_train State.CS = refl
  reported_train State.HS = refl
  reported_train State.DA = supervised_train ∙ ap (λ t. with_extra stm.train t.times.extra) (sym supervised_train)
  reported_train State.FA = refl

  abbrev pub track_in : State → Track
  track_in State.DE = stm.track
  track_in State.CS = stm.track
  track_in State.HS = moved_track stm.train.length r.moved stm.track
  track_in State.DA = noted_track stm.train (kept_of r) (moved_track stm.train.length r.moved stm.track)
  track_in State.FA = stm.track

  pub reported_track : (state : State) → (reported_in state r stm).track ≡ track_in state
  unfolding measures moves
  reported_track State.DE = refl
  reported_track State.CS = refl
  reported_track State.HS = refl
  reported_track State.DA = supervised_track
  reported_track State.FA = refl

  pub reported_feedback : (state : State) → is_state State.FA state ≡ false
      → (reported_in state r stm).feedback ≡ reported_to stm.feedback stm.train.feed stm.train.pressure r.external
  unfolding measures moves
  reported_feedback State.DE e = refl
  reported_feedback State.CS e = refl
  reported_feedback State.HS e = refl
  reported_feedback State.DA e = supervised_feedback
  reported_feedback State.FA e = impossible (sym e)

  -- in DE a test goes on, and with a pass the extra goes
  abbrev pub test_in : State → BrakeTest
  test_in State.DE =
      tested_at stm.train (reported_to stm.feedback stm.train.feed stm.train.pressure r.external) r stm.test
  test_in State.CS = stm.test
  test_in State.HS = stm.test
  test_in State.DA = stm.test
  test_in State.FA = stm.test

  pub reported_test : (state : State) → (reported_in state r stm).test ≡ test_in state
  unfolding measures moves
  reported_test State.DE = refl
  reported_test State.CS = refl
  reported_test State.HS = refl
  reported_test State.DA = supervised_test
  reported_test State.FA = refl

  abbrev pub extra_in : State → ℕ
  extra_in State.DE = extra_left (test_in State.DE).result stm.train.times.extra
  extra_in State.CS = stm.train.times.extra
  extra_in State.HS = stm.train.times.extra
  extra_in State.DA = stm.train.times.extra
  extra_in State.FA = stm.train.times.extra

  pub reported_extra : (state : State) → (reported_in state r stm).train.times.extra ≡ extra_in state
  unfolding measures moves
  reported_extra State.DE = refl
  reported_extra State.CS = refl
  reported_extra State.HS = refl
  reported_extra State.DA = ap (λ train. train.times.extra) supervised_train
  reported_extra State.FA = refl

  pub reported_kept : (state : State) → is_state State.FA state ≡ false → (reported_in state r stm).kept ≡ kept_of r
  unfolding measures moves
  reported_kept State.DE e = refl
  reported_kept State.CS e = refl
  reported_kept State.HS e = refl
  reported_kept State.DA e = supervised_kept
  reported_kept State.FA e = impossible (sym e)

-- ---- every command

-- only a start brings another train, but for the extra
pub train_kept : (code : Code) (s : List ℕ) (stm : Stm) → is_code Code.Start code ≡ false
    → (carried_out code s stm).train ≡ with_extra stm.train (carried_out code s stm).train.times.extra
unfolding stopped
train_kept Code.Start s stm e = impossible (sym e)
train_kept Code.ChangeState s stm e = entered_train (state_of (byte_at s 0))
  where
    entered_train : (state : State) → (entered state stm).train ≡ with_extra stm.train (entered state stm).train.times.extra
    entered_train State.DE = refl
    entered_train State.CS = refl
    entered_train State.HS = refl
    entered_train State.DA = refl
    entered_train State.FA = refl
train_kept Code.Odometer s stm e = reported_train (reading_of s) stm stm.control.state
train_kept Code.NewCurve s stm e = refl
train_kept Code.EndCurve s stm e = refl
train_kept Code.NewSection s stm e = refl
train_kept Code.EndSection s stm e = refl
train_kept Code.StopPassed s stm e = refl
train_kept Code.Proceed s stm e = refl
train_kept Code.BaliseError s stm e = refl
train_kept Code.TestBrakes s stm e = refl
train_kept Code.AreaEvent s stm e = refl
train_kept Code.NewRecord s stm e = refl
train_kept Code.SignalPassed s stm e = refl
train_kept Code.EndRecord s stm e = refl

-- the test and the extra after a command
abbrev pub test_by : Code → List ℕ → Stm → BrakeTest
test_by Code.Start s stm = fresh_test
test_by Code.ChangeState s stm = left_test stm.test
test_by Code.Odometer s stm = test_in (reading_of s) stm stm.control.state
test_by Code.NewCurve s stm = stm.test
test_by Code.EndCurve s stm = stm.test
test_by Code.NewSection s stm = stm.test
test_by Code.EndSection s stm = stm.test
test_by Code.StopPassed s stm = stm.test
test_by Code.Proceed s stm = stm.test
test_by Code.BaliseError s stm = stm.test
test_by Code.TestBrakes s stm = begun_test stm.test
test_by Code.AreaEvent s stm = stm.test
test_by Code.NewRecord s stm = stm.test
test_by Code.SignalPassed s stm = stm.test
test_by Code.EndRecord s stm = stm.test

pub test_by_lem : (code : Code) (s : List ℕ) (stm : Stm) → (carried_out code s stm).test ≡ test_by code s stm
unfolding fresh_with stopped
test_by_lem Code.Start s stm = refl
test_by_lem Code.ChangeState s stm = refl
test_by_lem Code.Odometer s stm = reported_test (reading_of s) stm stm.control.state
test_by_lem Code.NewCurve s stm = refl
test_by_lem Code.EndCurve s stm = refl
test_by_lem Code.NewSection s stm = refl
test_by_lem Code.EndSection s stm = refl
test_by_lem Code.StopPassed s stm = refl
test_by_lem Code.Proceed s stm = refl
test_by_lem Code.BaliseError s stm = refl
test_by_lem Code.TestBrakes s stm = refl
test_by_lem Code.AreaEvent s stm = refl
test_by_lem Code.NewRecord s stm = refl
test_by_lem Code.SignalPassed s stm = refl
test_by_lem Code.EndRecord s stm = refl

abbrev pub extra_by : Code → List ℕ → Stm → ℕ
extra_by Code.Start s stm = (train_of s).times.extra
extra_by Code.ChangeState s stm = stm.train.times.extra
extra_by Code.Odometer s stm = extra_in (reading_of s) stm stm.control.state
extra_by Code.NewCurve s stm = stm.train.times.extra
extra_by Code.EndCurve s stm = stm.train.times.extra
extra_by Code.NewSection s stm = stm.train.times.extra
extra_by Code.EndSection s stm = stm.train.times.extra
extra_by Code.StopPassed s stm = stm.train.times.extra
extra_by Code.Proceed s stm = stm.train.times.extra
extra_by Code.BaliseError s stm = stm.train.times.extra
extra_by Code.TestBrakes s stm = stm.train.times.extra
extra_by Code.AreaEvent s stm = stm.train.times.extra
extra_by Code.NewRecord s stm = stm.train.times.extra
extra_by Code.SignalPassed s stm = stm.train.times.extra
extra_by Code.EndRecord s stm = stm.train.times.extra

pub extra_by_lem : (code : Code) (s : List ℕ) (stm : Stm) → (carried_out code s stm).train.times.extra ≡ extra_by code s stm
unfolding fresh_with stopped
extra_by_lem Code.Start s stm = refl
extra_by_lem Code.ChangeState s stm = entered_extra (state_of (byte_at s 0))
  where
    entered_extra : (state : State) → (entered state stm).train.times.extra ≡ stm.train.times.extra
    entered_extra State.DE = refl
    entered_extra State.CS = refl
    entered_extra State.HS = refl
    entered_extra State.DA = refl
    entered_extra State.FA = refl
extra_by_lem Code.Odometer s stm = reported_extra (reading_of s) stm stm.control.state
extra_by_lem Code.NewCurve s stm = refl
extra_by_lem Code.EndCurve s stm = refl
extra_by_lem Code.NewSection s stm = refl
extra_by_lem Code.EndSection s stm = refl
extra_by_lem Code.StopPassed s stm = refl
extra_by_lem Code.Proceed s stm = refl
extra_by_lem Code.BaliseError s stm = refl
extra_by_lem Code.TestBrakes s stm = refl
extra_by_lem Code.AreaEvent s stm = refl
extra_by_lem Code.NewRecord s stm = refl
extra_by_lem Code.SignalPassed s stm = refl
extra_by_lem Code.EndRecord s stm = refl

-- entering a state other than CS leaves the track
pub track_entered : (state : State) (stm : Stm) → is_state State.CS state ≡ false → (entered state stm).track ≡ stm.track
track_entered State.DE stm e = refl
track_entered State.CS stm e = impossible (sym e)
track_entered State.HS stm e = refl
track_entered State.DA stm e = refl
track_entered State.FA stm e = refl

-- ---- a report in DA, and what the table of causes looks at

module _ (stm : Stm) (x : Sent) (e : is_accepted (answer_to stm x) ≡ true) (u : is_supervised stm x.command ≡ true) where
  supervised_done : done_by x.command stm ≡ supervised (reading_in x.command) stm
  supervised_done =
      let t = both (is_report x.command) (is_in State.DA stm) u in
      ap (λ code. carried_out code (operands_of x.command) stm) (code_is Code.Odometer (code_of (code_byte x.command)) t.0)
      ∙ ap (λ state. reported_in state (reading_in x.command) stm) (state_is_lem State.DA stm.control.state t.1)

  pub train_measured : (state_after stm x).train ≡ (measured_at stm x.command).train
  unfolding measured_at notes measures moves
  train_measured =
      train_after_lem stm x e ∙ ap (λ s. s.train) supervised_done ∙ supervised_train (reading_in x.command) stm

  pub track_measured : (state_after stm x).track ≡ (measured_at stm x.command).track
  unfolding measured_at notes measures moves
  track_measured =
      track_after stm x e ∙ ap (λ s. s.track) supervised_done ∙ supervised_track (reading_in x.command) stm

  pub feedback_measured : (state_after stm x).feedback ≡ (measured_at stm x.command).feedback
  unfolding measured_at notes measures moves
  feedback_measured =
      feedback_after_lem stm x e ∙ ap (λ s. s.feedback) supervised_done ∙ supervised_feedback (reading_in x.command) stm

  pub kept_measured : (state_after stm x).kept ≡ (measured_at stm x.command).kept
  unfolding measured_at notes measures moves
  kept_measured =
      kept_after stm x e ∙ ap (λ s. s.kept) supervised_done ∙ supervised_kept (reading_in x.command) stm
