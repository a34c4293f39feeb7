-- What an answer tells of the command and of the state that it found. Assumes nothing.
use mathlib.Core.Path.{◌≡◌, refl, sym}
use Prim.Native.Nat.{ℕ}
use mathlib.Core.Bool.{Bool, true, false, cond, not, ◌&&◌, ◌||◌}
use mathlib.Core.List.{List}
use lib.Dec.{eqb}
use lib.ListN.{length}
use borrow.Author.Tests.{not-false}
use Rattle.std.specs.Prelude.{Result, Ok, Err, ⊤}
use Rattle.wire.specs.declared.form.FormError.{FormError}
use Rattle.wire.specs.Form.{form_of, operands_of}
use Rattle.pressure.specs.Phases.{is_set}
use Rattle.rules.specs.Numbers.{code_of, is_state, is_accepted}
use Rattle.rules.specs.Operands.{code_byte, number_of, in_range}
use Rattle.rules.specs.Commands.{accepted_of}
use Rattle.rules.specs.Refusals.{is_start, is_repeat, is_next, is_allowed, orders_da, ends_nothing, finds_no_place, tests_outside, tests_twice, is_untaken, finds_no_record_place, repeats_nothing, first_of, rules_for, whole_answer, answer_for, answer_of}
use Rattle.rules.specs.Calls.{call_of}
use Rattle.rules.specs.Runs.{Sent, answer_to, state_after}
use Rattle.rules.specs.declared.Answer.{Answer}
use Rattle.rules.specs.declared.State.{State}
use Rattle.rules.specs.declared.Stm.{Stm}
use Rattle.rules.proofs.Tests.{impossible}

-- what the list 5 to 18 lets pass
pub record Passed (stm : Stm) (command : List ℕ) : Type 0 where
  pub started : (stm.control.started || is_start command) ≡ true
  pub number : eqb (number_of command) 0 ≡ false
  pub fresh : is_repeat stm command ≡ false
  pub next : (is_start command || is_next stm command) ≡ true
  pub alive : (is_start command || not (is_state State.FA stm.control.state)) ≡ true
  pub range : in_range (code_of (code_byte command)) (operands_of command) ≡ true
  pub allowed : is_allowed stm.control.state (code_of (code_byte command)) (operands_of command) ≡ true
  pub reference : (orders_da (code_of (code_byte command)) (operands_of command) && not (is_set stm.feedback.phase)) ≡ false
  pub ends : ends_nothing stm (code_of (code_byte command)) (operands_of command) ≡ false
  pub place : finds_no_place stm (code_of (code_byte command)) (operands_of command) ≡ false
  pub in_de : tests_outside stm (code_of (code_byte command)) ≡ false
  pub idle : tests_twice stm (code_of (code_byte command)) ≡ false
  pub taken : is_untaken stm (code_of (code_byte command)) (operands_of command) ≡ false
  pub record_place : finds_no_record_place stm (code_of (code_byte command)) (operands_of command) ≡ false
  pub superseded : repeats_nothing stm (code_of (code_byte command)) (operands_of command) ≡ false

-- the list over its tests: the first that applies, by the answers' acceptance
abbrev listed : Bool → Bool → Bool → Bool → Bool → Bool → Bool → Bool → Bool → Bool → Bool → Bool → Bool → Bool → Bool → Answer
listed t5 t6 t7 t8 again t9 t10 t11 t12 t13 t14 t15 t16 t17 t18 =
    cond t5 Answer.NotStarted (cond t6 Answer.ZeroNumber (cond t7 Answer.WrongNumber (cond t8 Answer.Failed (cond again Answer.Again
    (cond t9 Answer.OutOfRange (cond t10 Answer.NotAllowed (cond t11 Answer.NoReference (cond t12 Answer.NotHeld
    (cond t13 Answer.AllHeld (cond t14 Answer.OutsideDE (cond t15 Answer.TestRunning
    (cond t16 Answer.NotTaken (cond t17 Answer.NoRecordPlace (cond t18 Answer.NotSuperseded Answer.Accepted))))))))))))))

all_pass : (t5 t6 t7 t8 again t9 t10 t11 t12 t13 t14 t15 t16 t17 t18 : Bool) → is_accepted (listed t5 t6 t7 t8 again t9 t10 t11 t12 t13 t14 t15 t16 t17 t18) ≡ true
    → (t5 ≡ false) × (t6 ≡ false) × (t7 ≡ false) × (t8 ≡ false) × (again ≡ false) × (t9 ≡ false) × (t10 ≡ false) × (t11 ≡ false)
    × (t12 ≡ false) × (t13 ≡ false) × (t14 ≡ false) × (t15 ≡ false) × (t16 ≡ false) × (t17 ≡ false) × (t18 ≡ false)
all_pass true t6 t7 t8 again t9 t10 t11 t12 t13 t14 t15 t16 t17 t18 e = impossible e
all_pass false true t7 t8 again t9 t10 t11 t12 t13 t14 t15 t16 t17 t18 e = impossible e
all_pass false false true t8 again t9 t10 t11 t12 t13 t14 t15 t16 t17 t18 e = impossible e
all_pass false false false true again t9 t10 t11 t12 t13 t14 t15 t16 t17 t18 e = impossible e
all_pass false false false false true t9 t10 t11 t12 t13 t14 t15 t16 t17 t18 e = impossible e
all_pass false false false false false true t10 t11 t12 t13 t14 t15 t16 t17 t18 e = impossible e
all_pass false false false false false false true t11 t12 t13 t14 t15 t16 t17 t18 e = impossible e
all_pass false false false false false false false true t12 t13 t14 t15 t16 t17 t18 e = impossible e
all_pass false false false false false false false false true t13 t14 t15 t16 t17 t18 e = impossible e
all_pass false false false false false false false false false true t14 t15 t16 t17 t18 e = impossible e
all_pass false false false false false false false false false false true t15 t16 t17 t18 e = impossible e
all_pass false false false false false false false false false false false true t16 t17 t18 e = impossible e
all_pass false false false false false false false false false false false false true t17 t18 e = impossible e
all_pass false false false false false false false false false false false false false true t18 e = impossible e
all_pass false false false false false false false false false false false false false false true e = impossible e
all_pass false false false false false false false false false false false false false false false e =
    (refl, refl, refl, refl, refl, refl, refl, refl, refl, refl, refl, refl, refl, refl, refl)

-- the tests, read the other way round
neither : (a b : Bool) → (not a && not b) ≡ false → (a || b) ≡ true
neither true b e = refl
neither false true e = refl
neither false false e = impossible (sym e)

next_told : (start repeat next : Bool) → repeat ≡ false → (not start && not repeat && not next) ≡ false → (start || next) ≡ true
next_told true repeat next r e = refl
next_told false true next r e = impossible (sym r)
next_told false false true r e = refl
next_told false false false r e = impossible (sym e)

alive_told : (failed start repeat : Bool) → repeat ≡ false → (failed && not start && not repeat) ≡ false
    → (start || not failed) ≡ true
alive_told failed true repeat r e = refl
alive_told false false repeat r e = refl
alive_told true false true r e = impossible (sym r)
alive_told true false false r e = impossible (sym e)

passed_of : (stm : Stm) (command : List ℕ)
    → is_accepted (first_of (rules_for stm command (code_of (code_byte command)) (operands_of command))) ≡ true → Passed stm command
unfolding rules_for
passed_of stm command e =
    let code = code_of (code_byte command) in
    let s = operands_of command in
    let start = is_start command in
    let repeat = is_repeat stm command in
    let next = is_next stm command in
    let failed = is_state State.FA stm.control.state in
    let started = stm.control.started in
    let t = all_pass (not started && not start) (eqb (number_of command) 0) (not start && not repeat && not next)
    (failed && not start && not repeat) repeat (not (in_range code s)) (not (is_allowed stm.control.state code s))
    (orders_da code s && not (is_set stm.feedback.phase)) (ends_nothing stm code s) (finds_no_place stm code s)
    (tests_outside stm code) (tests_twice stm code) (is_untaken stm code s)
    (finds_no_record_place stm code s) (repeats_nothing stm code s) e in
    record {
      started = neither started start t.0;
      number = t.1;
      fresh = t.4;
      next = next_told start repeat next t.4 t.2;
      alive = alive_told failed start repeat t.4 t.3;
      range = not-false (in_range code s) t.5;
      allowed = not-false (is_allowed stm.control.state code s) t.6;
      reference = t.7;
      ends = t.8;
      place = t.9;
      in_de = t.10;
      idle = t.11;
      taken = t.12;
      record_place = t.13;
      superseded = t.14;
    }

by_form : (form : Result ⊤ FormError) (stm : Stm) (command : List ℕ) → is_accepted (answer_for form (whole_answer stm command)) ≡ true
    → (form ≡ Ok tt) × Passed stm command
by_form (Err FormError.WrongArea) stm command e = impossible e
by_form (Err FormError.NoBytes) stm command e = impossible e
by_form (Err FormError.NoCode) stm command e = impossible e
by_form (Err FormError.WrongLength) stm command e = impossible e
by_form (Ok passed) stm command e = (refl, passed_of stm command e)

-- an accepted command has passed 1 to 4, and 5 to 18
pub accepted_passed : (stm : Stm) (command : List ℕ) (area : ℕ) → is_accepted (answer_of stm command area) ≡ true
    → (form_of command area ≡ Ok tt) × Passed stm command
unfolding answer_of
accepted_passed stm command area e = by_form (form_of command area) stm command e

-- the next state, by the answer
pub after_accepted : (stm : Stm) (x : Sent) → is_accepted (answer_to stm x) ≡ true → state_after stm x ≡ accepted_of x.command stm
unfolding call_of
after_accepted stm x e = rw e

pub after_other : (stm : Stm) (x : Sent) → is_accepted (answer_to stm x) ≡ false → state_after stm x ≡ stm
unfolding call_of
after_other stm x e = rw e

pub passed : (stm : Stm) (x : Sent) → is_accepted (answer_to stm x) ≡ true
    → (form_of x.command (length x.area) ≡ Ok tt) × Passed stm x.command
unfolding call_of
passed stm x e = accepted_passed stm x.command (length x.area) e
