-- No odometer report parts the areas of two units compared. Assumes nothing.
use mathlib.Core.Path.{◌≡◌, refl, sym, ◌∙◌, ap}
use mathlib.Core.Bool.{Bool, true, false, not, ◌&&◌, ◌||◌, false≢true}
use mathlib.Core.List.{List, [], ◌∷◌}
use borrow.Author.Tests.{not-true}
use Rattle.wire.specs.Form.{operands_of}
use Rattle.rules.specs.Numbers.{is_accepted, is_code, code_of}
use Rattle.rules.specs.Operands.{number_of, reading_of}
use Rattle.rules.specs.Commands.{remembered, accepted_of}
use Rattle.rules.specs.Runs.{Sent, answer_to, state_after, moment_of, moments}
use Rattle.rules.specs.History.{is_in, is_supervised}
use Rattle.rules.specs.TwoRuns.{Both, Faster, RefusedAlike, OneArea, AreasStayOne}
use Rattle.rules.specs.declared.Code.{Code}
use Rattle.rules.specs.declared.State.{State}
use Rattle.rules.specs.declared.Stm.{Stm}
use Rattle.rules.proofs.Answers.{after_accepted, after_other, passed}
use Rattle.rules.proofs.Tests.{or_second}
use Rattle.rules.proofs.Repeats.{number_kept, accepted_alike}
use Rattle.rules.proofs.Fresh.{state_stays}
use Rattle.rules.proofs.Checked.{fa_after}
use Rattle.rules.proofs.TwoReadings.{same_code, same_number, same_moved}
use Rattle.rules.proofs.TwoRuns.{is_odometer, IsOdometer, no_start}
use Rattle.rules.proofs.Stays.{covered_in, stay_after}

-- one stay and one last number; and one state, while neither is in FA
record OneRun (u w : Stm) : Type 0 where
  stay : w.track.stay ≡ u.track.stay
  number : number_of w.last.bytes ≡ number_of u.last.bytes
  state : is_in State.FA u ≡ false → is_in State.FA w ≡ false → w.control.state ≡ u.control.state

-- ---- one report that is accepted

module _ (stm : Stm) (x : Sent) (odometer : IsOdometer x.command) (e : is_accepted (answer_to stm x) ≡ true) where
  -- it finds no FA
  not_failed : is_in State.FA stm ≡ false
  not_failed = not-true (is_in State.FA stm) (or_second _ (not (is_in State.FA stm)) (passed stm x e).1.alive (no_start x.command odometer))

  number_after : number_of (state_after stm x).last.bytes ≡ number_of x.command
  unfolding accepted_of remembered
  number_after = ap (λ s. number_of s.last.bytes) (after_accepted stm x e) ∙ number_kept x.command

  -- and leaves its state, but for FA
  state_after_lem : is_in State.FA (state_after stm x) ≡ false → (state_after stm x).control.state ≡ stm.control.state
  state_after_lem f = by (is_supervised stm x.command) refl
    where
      kept : (is_supervised stm x.command && (state_after stm x).brakes.failed) ≡ false → (state_after stm x).control.state ≡ stm.control.state
      kept sound =
          ap (λ control. control.state)
          (state_stays stm x e (ap (λ code. is_code Code.Start code || is_code Code.ChangeState code) odometer) sound)

      by : (t : Bool) → is_supervised stm x.command ≡ t → (state_after stm x).control.state ≡ stm.control.state
      by true u = kept (rw u (sym (fa_after stm x e u) ∙ f))
      by false u = kept (rw u)

-- ---- one report at both

module _ {u w : Stm} {x y : Sent} (runs : OneRun u w) (faster : Faster x y) (refused : RefusedAlike (moment_of u x) (moment_of w y)) where
  odometer : IsOdometer x.command
  odometer = is_odometer (code_of _) faster.odometer

  odometer' : IsOdometer y.command
  odometer' = ap code_of (same_code faster) ∙ odometer

  accepted_both : is_accepted (answer_to u x) ≡ true → is_accepted (answer_to w y) ≡ true → OneRun (state_after u x) (state_after w y)
  accepted_both e e' =
      let same = runs.state (not_failed u x odometer e) (not_failed w y odometer' e') in
      record {
        stay =
            stay_after w y Code.Odometer e' odometer'
            ∙ ap (λ state. covered_in state (reading_of (operands_of y.command)).moved w.track.stay) same
            ∙ ap (λ moved. covered_in u.control.state moved w.track.stay) (same_moved faster)
            ∙ ap (covered_in u.control.state (reading_of (operands_of x.command)).moved) runs.stay
            ∙ sym (stay_after u x Code.Odometer e odometer);
        number = number_after w y odometer' e' ∙ same_number faster ∙ sym (number_after u x odometer e);
        state = λ f f'. state_after_lem w y odometer' e' f' ∙ same ∙ sym (state_after_lem u x odometer e f);
      }

  step_one : OneRun (state_after u x) (state_after w y)
  step_one = by (is_accepted (answer_to u x)) (is_accepted (answer_to w y)) refl refl
    where
      by : (t t' : Bool) → is_accepted (answer_to u x) ≡ t → is_accepted (answer_to w y) ≡ t' → OneRun (state_after u x) (state_after w y)
      by true true h h' = accepted_both h h'
      by true false h h' =
          absurd (false≢true (sym h'
          ∙ accepted_alike u w x y runs.number (same_number faster) (no_start x.command odometer) refused h))
      by false true h h' =
          absurd (false≢true (sym h
          ∙ accepted_alike w u y x (sym runs.number) (sym (same_number faster)) (no_start y.command odometer') (sym refused) h'))
      by false false h h' = rw (after_other u x h, after_other w y h') runs

-- ---- the lists

one_throughout : (u w : Stm) (xs ys : List Sent) → OneRun u w → Both Faster xs ys → Both RefusedAlike (moments u xs) (moments w ys)
    → Both OneArea (moments u xs) (moments w ys)
unfolding moments
one_throughout u w [] [] runs faster refused = tt
one_throughout u w [] (y ∷ ys) runs faster refused = absurd faster
one_throughout u w (x ∷ xs) [] runs faster refused = absurd faster
one_throughout u w (x ∷ xs) (y ∷ ys) runs faster refused =
    let next = step_one runs faster.0 refused.0 in
    (next.stay, one_throughout (state_after u x) (state_after w y) xs ys next faster.1 refused.1)

pub areas_stay_one : AreasStayOne
areas_stay_one u w xs ys compared faster refused =
    one_throughout u w xs ys
    (record {
      stay = compared.track.stay;
      number = compared.last.number;
      state = λ _ _. ap (λ control. control.state) compared.control;
    })
    faster refused
