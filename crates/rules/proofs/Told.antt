-- A code and a state are told by their numbers. Assumes nothing.
use mathlib.Core.Path.{◌≡◌, refl, sym, ◌∙◌, ap}
use mathlib.Core.Bool.{true}
use borrow.Author.Tests.{eqb-true}
use Rattle.rules.specs.Numbers.{code_number, code_of, is_code, state_number, state_of, is_state}
use Rattle.rules.specs.declared.Code.{Code}
use Rattle.rules.specs.declared.State.{State}

pub code_told : (code : Code) → code_of (code_number code) ≡ code
unfolding code_of
code_told Code.Start = refl
code_told Code.ChangeState = refl
code_told Code.Odometer = refl
code_told Code.NewCurve = refl
code_told Code.EndCurve = refl
code_told Code.NewSection = refl
code_told Code.EndSection = refl
code_told Code.StopPassed = refl
code_told Code.Proceed = refl
code_told Code.BaliseError = refl
code_told Code.TestBrakes = refl
code_told Code.AreaEvent = refl
code_told Code.NewRecord = refl
code_told Code.SignalPassed = refl
code_told Code.EndRecord = refl

state_told : (state : State) → state_of (state_number state) ≡ state
unfolding state_of
state_told State.DE = refl
state_told State.CS = refl
state_told State.HS = refl
state_told State.DA = refl
state_told State.FA = refl

pub code_is : (wanted code : Code) → is_code wanted code ≡ true → code ≡ wanted
code_is wanted code e = sym (code_told code) ∙ ap code_of (eqb-true (code_number code) (code_number wanted) e) ∙ code_told wanted

pub state_is_lem : (wanted state : State) → is_state wanted state ≡ true → state ≡ wanted
state_is_lem wanted state e =
    sym (state_told state) ∙ ap state_of (eqb-true (state_number state) (state_number wanted) e) ∙ state_told wanted
