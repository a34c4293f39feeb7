-- The answer by the form of a command: refusals 1 to 4 need no operands. Assumes nothing.
use Prim.Native.Nat.{ℕ}
use mathlib.Core.Path.{◌≡◌, refl, sym, ap, ◌∙◌}
use mathlib.Core.List.{List}
use Rattle.std.specs.Prelude.{Result, Ok, Err, ⊤}
use Rattle.wire.specs.declared.form.FormError.{FormError}
use Rattle.wire.specs.Form.{form_of, part_for, operand_part}
use Rattle.rules.specs.Numbers.{code_of}
use Rattle.rules.specs.Operands.{code_byte}
use Rattle.rules.specs.Refusals.{first_of, rules_for, whole_answer, form_answer, answer_for, answer_of}
use Rattle.rules.specs.declared.Stm.{Stm}

by_form : (form : Result ⊤ FormError) (stm : Stm) (command : List ℕ)
    → answer_for form (first_of (rules_for stm command (code_of (code_byte command)) (part_for form command)))
    ≡ answer_for form (whole_answer stm command)
unfolding part_for
by_form (Err FormError.WrongArea) stm command = refl
by_form (Err FormError.NoBytes) stm command = refl
by_form (Err FormError.NoCode) stm command = refl
by_form (Err FormError.WrongLength) stm command = refl
by_form (Ok passed) stm command = refl

answer_by_form : (stm : Stm) (command : List ℕ) (area : ℕ)
    → answer_for (form_of command area) (first_of (rules_for stm command (code_of (code_byte command)) (operand_part command area)))
    ≡ answer_of stm command area
unfolding operand_part answer_of
answer_by_form stm command area = by_form (form_of command area) stm command

pub by_whole : (stm : Stm) (command : List ℕ) (area : ℕ) {passed : ⊤} → form_of command area ≡ Ok passed
    → first_of (rules_for stm command (code_of (code_byte command)) (operand_part command area)) ≡ answer_of stm command area
by_whole stm command area e =
    ap (λ form. answer_for form (first_of (rules_for stm command (code_of (code_byte command)) (operand_part command area)))) (sym e)
    ∙ answer_by_form stm command area

pub by_error : (stm : Stm) (command : List ℕ) (area : ℕ) {error : FormError} → form_of command area ≡ Err error
    → form_answer error ≡ answer_of stm command area
unfolding answer_of
by_error stm command area e = ap (λ form. answer_for form (whole_answer stm command)) (sym e)
