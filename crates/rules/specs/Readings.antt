-- What an odometer report leaves: its figures and buttons, and the feedback; and what nothing else touches. Proved in proofs/.
use Rattle.std.specs.Prelude.{◌≡◌, ℕ, true, ◌||◌, List}
use Rattle.rules.specs.Numbers.{is_accepted}
use Rattle.rules.specs.Odometer.{with_extra}
use Rattle.rules.specs.Runs.{Sent, answer_to, state_after, state_at_end, none_accepted, is_of}
use Rattle.rules.specs.History.{speed_of, external_of, button_of, is_report, collected}
use Rattle.rules.specs.Units.{feedback_after}
use Rattle.rules.specs.declared.Code.{Code}
use Rattle.rules.specs.declared.Stm.{Stm}

-- "each keeps its figures and buttons", in whatever state,
pub record KeepsFigures (command : List ℕ) (after : Stm) : Type 0 where
  pub speed : after.kept.speed ≡ speed_of command
  pub loss : after.kept.loss ≡ button_of 0 command
  pub text : after.kept.text ≡ button_of 1 command
  pub halka : after.kept.halka ≡ button_of 2 command

abbrev pub ReportKeepsFigures : Type 0
ReportKeepsFigures =
    (stm : Stm) (x : Sent)
    → is_accepted (answer_to stm x) ≡ true → is_report x.command ≡ true → KeepsFigures x.command (state_after stm x)

-- through any list with no other report and no start
abbrev pub FiguresStay : Type 0
FiguresStay =
    (stm : Stm) (xs : List Sent)
    → none_accepted (λ before command. is_of Code.Start command || is_report command) stm xs ≡ true
    → (state_at_end stm xs).kept ≡ stm.kept

-- every report measures: over any list with no start the feedback is what P_EXT of the accepted reports leads it to, and the train is
-- that of the start but for the extra of 02, F-3, of which TestRuns tells
abbrev pub FeedbackOverReports : Type 0
FeedbackOverReports =
    (stm : Stm) (xs : List Sent)
    → none_accepted (λ before command. is_of Code.Start command) stm xs ≡ true
    → ((state_at_end stm xs).feedback
    ≡ feedback_after stm.train stm.feedback (collected (λ before. is_report) (λ before x. external_of x.command) stm xs))
    × ((state_at_end stm xs).train ≡ with_extra stm.train (state_at_end stm xs).train.times.extra)
