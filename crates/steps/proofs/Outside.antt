-- The report in DA and outside it. Assumes nothing.
use Prim.Native.Nat.{ℕ}
use mathlib.Core.Path.{◌≡◌, refl, ◌∙◌}
use mathlib.Core.Bool.{true, false, cond}
use Rattle.rules.specs.declared.State.{State}
use Rattle.rules.specs.declared.Stage.{Stage}
use Rattle.rules.specs.declared.Stm.{Stm}
use Rattle.rules.specs.Numbers.{is_state}
use Rattle.rules.specs.Places.{all_curves}
use Rattle.rules.specs.Speeds.{judged_now, vmax_of}
use Rattle.rules.specs.Odometer.{seen_with, seen_of, seen_in}
use Rattle.rules.specs.Reports.{report_in_da, report_outside, test_order, report_for, report_of}

-- "order is 0 (FA: 3)"; in DE the test's
abbrev pub order_outside : State → Stage → ℕ
order_outside state stage = cond (is_state State.FA state) 3 (cond (is_state State.DE state) (test_order stage) 0)

-- the five states by whether they are DA
by_state : (state : State) (stm : Stm)
    → report_for state stm ≡ cond (is_state State.DA state) (report_in_da stm) (report_outside state (order_outside state stm.test.stage) stm)
by_state State.DE stm = refl
by_state State.CS stm = refl
by_state State.HS stm = refl
by_state State.DA stm = refl
by_state State.FA stm = refl

module _ (stm : Stm) where
  -- what is seen in a state, by what its curves say and VMAX
  pub seen_in_lem : seen_in stm
      ≡ seen_with (judged_now stm.train stm.kept (all_curves stm.track)) (vmax_of stm.train stm.track) stm.train
      stm.feedback stm.kept stm.brakes.since stm.brakes.roll
  unfolding seen_in seen_of
  seen_in_lem = refl

  -- in DA
  pub report_inside : is_state State.DA stm.control.state ≡ true → report_of stm ≡ report_in_da stm
  unfolding report_of
  report_inside e = by_state stm.control.state stm ∙ rw e

  -- outside DA
  pub report_elsewhere : is_state State.DA stm.control.state ≡ false
      → report_of stm ≡ report_outside stm.control.state (order_outside stm.control.state stm.test.stage) stm
  unfolding report_of
  report_elsewhere e = by_state stm.control.state stm ∙ rw e
