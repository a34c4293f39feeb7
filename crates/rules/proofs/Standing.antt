-- Which causes stand at the end of a list of commands. Assumes nothing.
use mathlib.Core.Path.{◌≡◌, refl, sym, subst}
use Prim.Native.Nat.{ℕ}
use mathlib.Core.Bool.{Bool, true, false, not, ◌&&◌}
use mathlib.Core.List.{List, [], ◌∷◌}
use borrow.Author.Tests.{not-true}
use Rattle.rules.specs.Numbers.{is_state, is_accepted}
use Rattle.rules.specs.Table.{stands}
use Rattle.rules.specs.Runs.{Sent, answer_to, state_after, state_at_end, none_accepted, is_of, freshens}
use Rattle.rules.specs.Braking.{reading_in, releasable_now, freshly_pressed, presses_for, NoneDroppedWithoutPress}
use Rattle.rules.specs.History.{is_supervised}
use Rattle.rules.specs.declared.Code.{Code}
use Rattle.rules.specs.declared.State.{State}
use Rattle.rules.specs.declared.Cause.{Cause}
use Rattle.rules.specs.declared.Stm.{Stm}
use Rattle.rules.proofs.Answers.{after_other}
use Rattle.rules.proofs.Tests.{both, second_fails}
use Rattle.rules.proofs.Ordering.{ordered_and_released, ordered_in_failure, others_drop_nothing}

-- ---- any list of commands

-- a fact that every accepted command keeps, those of two tests left out, holds at the end where none of those is accepted
module _ (P : Stm → Type 0) (f g : Stm → List ℕ → Bool)
    (step : (stm : Stm) (x : Sent) → is_accepted (answer_to stm x) ≡ true → f stm x.command ≡ false → g stm x.command ≡ false
    → P stm → P (state_after stm x)) where
  kept_once : (stm : Stm) (x : Sent) (accepted : Bool) → is_accepted (answer_to stm x) ≡ accepted
      → not (accepted && f stm x.command) ≡ true → not (accepted && g stm x.command) ≡ true → P stm → P (state_after stm x)
  kept_once stm x true e n m p = step stm x e (not-true (f stm x.command) n) (not-true (g stm x.command) m) p
  kept_once stm x false e n m p = subst P (sym (after_other stm x e)) p

  pub kept_to_end : (stm : Stm) (xs : List Sent) → none_accepted f stm xs ≡ true → none_accepted g stm xs ≡ true
      → P stm → P (state_at_end stm xs)
  unfolding none_accepted state_at_end
  kept_to_end stm [] n m p = p
  kept_to_end stm (x ∷ xs) n m p =
      let accepted = is_accepted (answer_to stm x) in
      let after = state_after stm x in
      let t = both (not (accepted && f stm x.command)) (none_accepted f after xs) n in
      let u = both (not (accepted && g stm x.command)) (none_accepted g after xs) m in
      kept_to_end after xs t.1 u.1 (kept_once stm x accepted refl t.0 u.0 p)

-- ---- a cause that stood and is not released stands

-- what releases it at a report in DA
abbrev pub is_released : Stm → List ℕ → Cause → Bool
is_released stm command cause = freshly_pressed stm (reading_in command) cause && releasable_now stm command cause

module _ (stm : Stm) (x : Sent) (cause : Cause)
    (e : is_accepted (answer_to stm x) ≡ true) (stood : stands stm.brakes.causes cause ≡ true) where
  stays_in : (da : Bool) → is_state State.DA (state_after stm x).control.state ≡ da
      → is_supervised stm x.command ≡ true → is_released stm x.command cause ≡ false
      → stands (state_after stm x).brakes.causes cause ≡ true
  stays_in true d u k = rw (ordered_and_released stm x cause e u d, stood, k)
  stays_in false d u k = rw (ordered_in_failure stm x cause e u d, stood)

  pub stays : (supervised : Bool) → is_supervised stm x.command ≡ supervised → freshens x.command ≡ false
      → (is_supervised stm x.command ≡ true → is_released stm x.command cause ≡ false)
      → stands (state_after stm x).brakes.causes cause ≡ true
  stays true u f k = stays_in (is_state State.DA (state_after stm x).control.state) refl u (k u)
  stays false u f k = rw (others_drop_nothing stm x cause e u f, stood)

-- what a report in DA does not do, since no odometer report does it
pub not_at_report : (stm : Stm) (command : List ℕ) (does : Bool) → (is_of Code.Odometer command && does) ≡ false
    → is_supervised stm command ≡ true → does ≡ false
not_at_report stm command does n u =
    let report = (both (is_of Code.Odometer command) (is_state State.DA stm.control.state) u).0 in
    second_fails (is_of Code.Odometer command) does report n

unpressed : (stm : Stm) (command : List ℕ) (cause : Cause) → presses_for cause stm command ≡ false
    → is_supervised stm command ≡ true → is_released stm command cause ≡ false
unpressed stm command cause n u = rw (not_at_report stm command (freshly_pressed stm (reading_in command) cause) n u)

pub none_dropped_without_press : NoneDroppedWithoutPress
none_dropped_without_press cause stm xs stood f n =
    kept_to_end (λ s. stands s.brakes.causes cause ≡ true) (λ before command. freshens command) (presses_for cause)
    (λ s x e f n stood. stays s x cause e stood (is_supervised s x.command) refl f (unpressed s x.command cause n))
    stm xs f n stood
