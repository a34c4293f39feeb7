-- The figures of 02's F-1 hold, by computation: the last four bytes by a division, the rest through the call itself.
use mathlib.Core.Path.{◌≡◌, refl, ◌∙◌, ap}
use Prim.Native.Nat.{ℕ}
use mathlib.Core.Bool.{true, cond}
use mathlib.Core.List.{List, [], ◌∷◌}
use Rattle.wire.specs.Report.{change_in}
use Rattle.wire.proofs.Values.{four_read}
use Rattle.curve.specs.Ground.{never}
use Rattle.interval.specs.Intervals.{interval_of}
use Rattle.interval.proofs.Divided.{change_from, change_divided}
use Rattle.rules.specs.Numbers.{is_accepted}
use Rattle.rules.specs.Speeds.{braking_of}
use Rattle.rules.specs.Reports.{change_of}
use Rattle.rules.specs.Runs.{Sent, answer_to, state_after, moment_of}
use Rattle.rules.specs.History.{is_in}
use Rattle.cases.specs.Tables.{Command, sent, further, report, curve, curve_end}
use Rattle.cases.specs.Cases.{fast_train, started_in_da, halka, every_field}
use Rattle.cases.specs.ChangeFigures.{written_by, train_in_da, to40, leaving, ChangeFigures}
use Rattle.rules.specs.declared.Train.{Train}
use Rattle.rules.specs.declared.Kept.{Kept}
use Rattle.rules.specs.declared.Candidate.{Candidate}
use Rattle.rules.specs.declared.State.{State}
use Rattle.rules.specs.declared.Stm.{Stm}
use Rattle.rules.proofs.Computing.{computing}
use Rattle.rules.proofs.Written.{shown, in_da_lem, written_is}

-- the figure of a shown curve, by a division
abbrev pub divided_of : Train → Kept → Candidate → ℕ
divided_of train kept shown =
    cond shown.judged.held
    (change_from shown.curve (braking_of train kept.halka) kept.speed
    (interval_of shown.curve (braking_of train kept.halka) kept.speed))
    never

divided : (train : Train) (kept : Kept) (shown : Candidate) → change_of train kept shown ≡ divided_of train kept shown
unfolding change_of
divided train kept shown =
    ap (λ n. cond shown.judged.held n never) (change_divided shown.curve (braking_of train kept.halka) kept.speed)

module _ (stm : Stm) (x : Sent) (e : is_accepted (answer_to stm x) ≡ true) (d : is_in State.DA (state_after stm x) ≡ true) where
  abbrev after : Stm
  after = state_after stm x

  pub figure_divided : change_in (moment_of stm x).area ≡ divided_of after.train after.kept (shown after)
  figure_divided =
      ap change_in (written_is stm x e ∙ in_da_lem after d)
      ∙ four_read (change_of after.train after.kept (shown after)) _
      ∙ divided after.train after.kept (shown after)

-- ---- the figures

figure_after_lem : (stm : Stm) (before : List Command) (x : Command)
    → is_accepted (answer_to (further stm before) (sent (further stm before) x)) ≡ true
    → is_in State.DA (state_after (further stm before) (sent (further stm before) x)) ≡ true
    → change_in (written_by stm before x)
    ≡ divided_of (state_after (further stm before) (sent (further stm before) x)).train
    (state_after (further stm before) (sent (further stm before) x)).kept
    (shown (state_after (further stm before) (sent (further stm before) x)))
figure_after_lem stm before x e d = figure_divided (further stm before) (sent (further stm before) x) e d

pub change_figures : ChangeFigures
unfolding computing further
change_figures = record {
  in_d = figure_after_lem train_in_da (to40 43324 ∷ []) (leaving 43324 2500 0) refl refl;
  before_d = figure_after_lem train_in_da (to40 43325 ∷ []) (leaving 43325 2500 0) refl refl;
  in_e = figure_after_lem train_in_da (to40 35824 ∷ []) (leaving 35824 2500 0) refl refl;
  before_f = figure_after_lem train_in_da (to40 26456 ∷ []) (leaving 26456 2500 0) refl refl;
  in_f = figure_after_lem train_in_da (to40 26455 ∷ []) (leaving 26455 2500 0) refl refl;
  no_f = figure_after_lem train_in_da (to40 1467 ∷ []) (leaving 1467 1200 0) refl refl;
  at_floor = figure_after_lem train_in_da (to40 1467 ∷ []) (leaving 1467 1111 0) refl refl;
  at_target = figure_after_lem train_in_da (curve 1 0 1 40 0 ∷ []) (report 1200 100 0 1000 0) refl refl;
  in_b = figure_after_lem train_in_da (to40 60000 ∷ []) (leaving 60000 2500 0) refl refl;
  with_halka = figure_after_lem train_in_da (to40 90000 ∷ []) (leaving 90000 2500 halka) refl refl;
  in_ab = figure_after_lem train_in_da (to40 60000 ∷ leaving 60000 2500 0 ∷ []) (report 1500 0 0 1000 0) refl refl;
  of_shown = figure_after_lem train_in_da (to40 43324 ∷ curve 2 0 500 40 0 ∷ []) (leaving 43324 2500 0) refl refl;
  put_nearer = figure_after_lem train_in_da (to40 60000 ∷ leaving 60000 2500 0 ∷ []) (curve 1 0 480 40 0) refl refl;
  none_left = figure_after_lem train_in_da (to40 60000 ∷ leaving 60000 2500 0 ∷ []) (curve_end 1) refl refl;
  with_all = figure_after_lem (started_in_da fast_train) every_field (report 7400 1000 0 1911 0) refl refl;
}
