-- What an odometer report leaves of its figures, and the feedback over a list. Assumes nothing.
use mathlib.Core.Path.{◌≡◌, refl, sym, ◌∙◌, ap, ap₂}
use Prim.Native.Nat.{ℕ}
use mathlib.Core.Bool.{Bool, true, false, cond, not, ◌&&◌, ◌||◌}
use mathlib.Core.List.{List, [], ◌∷◌}
use lib.IntN.{ℤ}
use borrow.Author.Tests.{not-true}
use Rattle.wire.specs.Numbers.{byte_at}
use Rattle.wire.specs.Form.{operands_of}
use Rattle.pressure.specs.declared.Measured.{Measured}
use Rattle.pressure.specs.Report.{reported_to}
use Rattle.pressure.specs.Claims.{after_all}
use Rattle.rules.specs.Numbers.{is_accepted, is_code, is_state, code_of, state_of}
use Rattle.rules.specs.Operands.{code_byte, reading_of}
use Rattle.rules.specs.Odometer.{with_extra, kept_of, reported_in}
use Rattle.rules.specs.Commands.{entered, stopped, carried_out}
use Rattle.rules.specs.Runs.{Sent, answer_to, state_after, state_at_end, none_accepted, is_of}
use Rattle.rules.specs.History.{external_of, is_report, collected}
use Rattle.rules.specs.Units.{feedback_after}
use Rattle.rules.specs.Readings.{ReportKeepsFigures, FiguresStay, FeedbackOverReports}
use Rattle.rules.specs.Braking.{reading_in}
use Rattle.rules.specs.declared.Code.{Code}
use Rattle.rules.specs.declared.State.{State}
use Rattle.rules.specs.declared.Train.{Train}
use Rattle.rules.specs.declared.Stm.{Stm}
use Rattle.rules.proofs.Answers.{after_other, passed}
use Rattle.rules.proofs.Tests.{impossible}
use Rattle.rules.proofs.Told.{code_is}
use Rattle.rules.proofs.Ordering.{done_by}
use Rattle.rules.proofs.Standing.{kept_to_end}
use Rattle.rules.proofs.After.{train_after_lem, feedback_after_lem, kept_after, reported_feedback, reported_kept, train_kept}
use Rattle.rules.proofs.Ground.{spared_first}

-- ---- a report

module _ (stm : Stm) (x : Sent) (e : is_accepted (answer_to stm x) ≡ true) (c : is_report x.command ≡ true) where
  is_odometer : code_of (code_byte x.command) ≡ Code.Odometer
  is_odometer = code_is Code.Odometer (code_of (code_byte x.command)) c

  pub report_done : done_by x.command stm ≡ reported_in stm.control.state (reading_in x.command) stm
  report_done = ap (λ code. carried_out code (operands_of x.command) stm) is_odometer

  -- it is not taken in FA
  not_failed : is_state State.FA stm.control.state ≡ false
  not_failed =
      not-true (is_state State.FA stm.control.state)
      (ap (λ code. is_code Code.Start code || not (is_state State.FA stm.control.state)) (sym is_odometer) ∙ (passed stm x e).1.alive)

  report_kept : (state_after stm x).kept ≡ kept_of (reading_in x.command)
  report_kept =
      kept_after stm x e
      ∙ ap (λ after. after.kept) report_done
      ∙ reported_kept (reading_in x.command) stm stm.control.state not_failed

  report_feedback :
      (state_after stm x).feedback
      ≡ reported_to stm.feedback stm.train.feed stm.train.pressure (external_of x.command)
  unfolding reading_of
  report_feedback =
      feedback_after_lem stm x e
      ∙ ap (λ after. after.feedback) report_done
      ∙ reported_feedback (reading_in x.command) stm stm.control.state not_failed

pub report_keeps_figures : ReportKeepsFigures
unfolding reading_of
report_keeps_figures stm x e c =
    let kept = report_kept stm x e c in
    record {
      speed = ap (λ k. k.speed) kept;
      loss = ap (λ k. k.loss) kept;
      text = ap (λ k. k.text) kept;
      halka = ap (λ k. k.halka) kept;
    }

-- ---- another command

-- entering a state keeps the figures and the feedback
entered_kept : (state : State) (stm : Stm) → ((entered state stm).kept ≡ stm.kept) × ((entered state stm).feedback ≡ stm.feedback)
entered_kept State.DE stm = (refl, refl)
entered_kept State.CS stm = (refl, refl)
entered_kept State.HS stm = (refl, refl)
entered_kept State.DA stm = (refl, refl)
entered_kept State.FA stm = (refl, refl)

other_keeps : (code : Code) (s : List ℕ) (stm : Stm) → (is_code Code.Start code || is_code Code.Odometer code) ≡ false
    → ((carried_out code s stm).kept ≡ stm.kept) × ((carried_out code s stm).feedback ≡ stm.feedback)
unfolding stopped
other_keeps Code.Start s stm e = impossible (sym e)
other_keeps Code.ChangeState s stm e = entered_kept (state_of (byte_at s 0)) stm
other_keeps Code.Odometer s stm e = impossible (sym e)
other_keeps Code.NewCurve s stm e = (refl, refl)
other_keeps Code.EndCurve s stm e = (refl, refl)
other_keeps Code.NewSection s stm e = (refl, refl)
other_keeps Code.EndSection s stm e = (refl, refl)
other_keeps Code.StopPassed s stm e = (refl, refl)
other_keeps Code.Proceed s stm e = (refl, refl)
other_keeps Code.BaliseError s stm e = (refl, refl)
other_keeps Code.TestBrakes s stm e = (refl, refl)
other_keeps Code.AreaEvent s stm e = (refl, refl)
other_keeps Code.NewRecord s stm e = (refl, refl)
other_keeps Code.SignalPassed s stm e = (refl, refl)
other_keeps Code.EndRecord s stm e = (refl, refl)

abbrev brings : Stm → List ℕ → Bool
brings before command = is_of Code.Start command || is_report command

pub figures_stay : FiguresStay
figures_stay stm xs n =
    kept_to_end (λ s. s.kept ≡ stm.kept) brings brings
    (λ s x e f g k.
    kept_after s x e ∙ (other_keeps (code_of (code_byte x.command)) (operands_of x.command) s f).0 ∙ k)
    stm xs n n refl

-- ---- the feedback

abbrev is_starting : Stm → List ℕ → Bool
is_starting before command = is_of Code.Start command

abbrev readings : Stm → List Sent → List ℤ
readings stm xs = collected (λ before. is_report) (λ before x. external_of x.command) stm xs

-- what one command, accepted or not, leads the feedback to
feedback_once : (stm : Stm) (x : Sent) (accepted report : Bool) → is_accepted (answer_to stm x) ≡ accepted
    → is_report x.command ≡ report → (accepted ≡ true → is_of Code.Start x.command ≡ false)
    → (state_after stm x).feedback
    ≡ cond (accepted && report) (reported_to stm.feedback stm.train.feed stm.train.pressure (external_of x.command))
    stm.feedback
feedback_once stm x true true e c n = report_feedback stm x e c
feedback_once stm x true false e c n =
    feedback_after_lem stm x e
    ∙ (other_keeps (code_of (code_byte x.command)) (operands_of x.command) stm (ap₂ ◌||◌ (n refl) c)).1
feedback_once stm x false report e c n = ap (λ s. s.feedback) (after_other stm x e)

pub train_once : (stm : Stm) (x : Sent) (accepted : Bool) → is_accepted (answer_to stm x) ≡ accepted
    → (accepted ≡ true → is_of Code.Start x.command ≡ false)
    → (state_after stm x).train ≡ with_extra stm.train (state_after stm x).train.times.extra
train_once stm x true e n =
    train_after_lem stm x e
    ∙ train_kept (code_of (code_byte x.command)) (operands_of x.command) stm (n refl)
    ∙ ap (λ train. with_extra stm.train train.times.extra) (sym (train_after_lem stm x e))
train_once stm x false e n =
    let same = after_other stm x e in
    ap (λ s. s.train) same ∙ ap (λ s. with_extra stm.train s.train.times.extra) (sym same)

-- one reading more, or none
reading_more : (train : Train) (feedback : Measured) (t : Bool) (r : ℤ) (rs : List ℤ)
    → feedback_after train (cond t (reported_to feedback train.feed train.pressure r) feedback) rs
    ≡ feedback_after train feedback (cond t (r ∷ rs) rs)
unfolding after_all
reading_more train feedback true r rs = refl
reading_more train feedback false r rs = refl

over_reports : (stm : Stm) (xs : List Sent) → none_accepted is_starting stm xs ≡ true
    → ((state_at_end stm xs).feedback ≡ feedback_after stm.train stm.feedback (readings stm xs))
    × ((state_at_end stm xs).train ≡ with_extra stm.train (state_at_end stm xs).train.times.extra)
unfolding state_at_end collected after_all
over_reports stm [] n = (refl, refl)
over_reports stm (x ∷ xs) n =
    let t = spared_first is_starting stm x xs n in
    let accepted = is_accepted (answer_to stm x) in
    let rest = over_reports (state_after stm x) xs t.1 in
    let train = train_once stm x accepted refl t.0 in
    let first = feedback_once stm x accepted (is_report x.command) refl refl t.0 in (
      rest.0
          ∙ ap₂ (λ tr f. feedback_after tr f (readings (state_after stm x) xs)) train first
          ∙ reading_more stm.train stm.feedback (accepted && is_report x.command) (external_of x.command) (readings (state_after stm x) xs),
      rest.1 ∙ ap (λ tr. with_extra tr (state_at_end (state_after stm x) xs).train.times.extra) train,
    )

pub feedback_over_reports : FeedbackOverReports
feedback_over_reports stm xs n = over_reports stm xs n
