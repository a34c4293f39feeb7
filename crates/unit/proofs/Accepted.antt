-- The outcome of a call, by whether its answer is 0. Assumes nothing.
use mathlib.Core.Path.{◌≡◌, refl, sym, ap, ◌∙◌}
use Prim.Native.Nat.{ℕ}
use mathlib.Core.Bool.{true, false}
use mathlib.Core.List.{List}
use Rattle.std.specs.Prelude.{Result, Ok, Err, ⊤}
use Rattle.wire.specs.declared.form.FormError.{FormError}
use Rattle.wire.specs.Form.{form_of, operands_of, part_for, operand_part}
use Rattle.rules.specs.Numbers.{is_accepted, is_answered, code_of}
use Rattle.rules.specs.Operands.{code_byte}
use Rattle.rules.specs.Commands.{carried_out, remembered, accepted_of}
use Rattle.rules.specs.Refusals.{whole_answer, answer_for, answer_of}
use Rattle.rules.specs.Calls.{call_of}
use Rattle.rules.specs.declared.Answer.{Answer}
use Rattle.rules.specs.declared.Stm.{Stm}
use Rattle.rules.specs.declared.Outcome.{Outcome}
use Rattle.rules.proofs.Tests.{impossible}

-- an accepted command is whole, and its operands are what follows its number
part_accepted : (form : Result ⊤ FormError) (stm : Stm) (command : List ℕ)
    → is_accepted (answer_for form (whole_answer stm command)) ≡ true → part_for form command ≡ operands_of command
unfolding part_for
part_accepted (Err FormError.WrongArea) stm command e = impossible e
part_accepted (Err FormError.NoBytes) stm command e = impossible e
part_accepted (Err FormError.NoCode) stm command e = impossible e
part_accepted (Err FormError.WrongLength) stm command e = impossible e
part_accepted (Ok passed) stm command e = refl

operands_accepted : (stm : Stm) (command : List ℕ) (area : ℕ)
    → is_accepted (answer_of stm command area) ≡ true → operand_part command area ≡ operands_of command
unfolding answer_of operand_part
operands_accepted stm command area e = part_accepted (form_of command area) stm command e

-- an accepted command is answered
pub accepted_answered : (answer : Answer) → is_accepted answer ≡ true → is_answered answer ≡ true
accepted_answered answer e = rw e

abbrev outcome : Answer → Stm → Outcome
outcome answer stm = record { answer = answer; stm = stm }

module _ (stm : Stm) (command : List ℕ) (area : ℕ) {answer : Answer} (is : answer ≡ answer_of stm command area) where
  pub accepted_outcome : is_accepted answer ≡ true → {s : List ℕ} → s ≡ operand_part command area
      → {next : Stm} → next ≡ remembered command (carried_out (code_of (code_byte command)) s stm)
      → outcome answer next ≡ call_of stm command area
  unfolding call_of accepted_of
  accepted_outcome e s n =
      let e' = ap is_accepted (sym is) ∙ e in
      rw (n, s, is, operands_accepted stm command area e', e')

  pub other_outcome : is_accepted answer ≡ false → outcome answer stm ≡ call_of stm command area
  unfolding call_of
  other_outcome e = rw (is, ap is_accepted (sym is) ∙ e)
