-- A repeat has the number of the last accepted command, so that another unit with that last number does not accept it as new.
-- Assumes nothing.
use Prim.Native.Nat.{ℕ, ◌+◌}
use mathlib.Core.Path.{◌≡◌, refl, sym, ◌∙◌, ap}
use mathlib.Core.Bool.{Bool, true, false, cond, not, ◌&&◌, ◌||◌, false≢true, and-eq-true_iff, and-true}
use mathlib.Core.List.{List, [], ◌∷◌}
use native.Mathlib.Omega.{arith}
use lib.Dec.{eqb}
use lib.ListN.{length}
use borrow.Author.Tests.{eqb-true, not-true, not-false}
use Rattle.wire.specs.Codes.{longest}
use Rattle.std.specs.Prelude.{Result, Ok, Err, ⊤}
use Rattle.wire.specs.declared.form.FormError.{FormError}
use Rattle.wire.specs.Form.{form_of, operands_of}
use Rattle.wire.specs.Numbers.{number}
use Rattle.wire.proofs.Equal.{same_equal}
use Rattle.laws.proofs.Lists.{every, cond_first}
use Rattle.rules.specs.Numbers.{answer_number, code_of, is_accepted, is_refused}
use Rattle.rules.specs.Operands.{code_byte, number_of}
use Rattle.rules.specs.Commands.{padded}
use Rattle.rules.specs.Refusals.{is_start, is_repeat, is_next, Rule, first_of, rules_for, whole_answer, answer_for, answer_of}
use Rattle.rules.specs.Calls.{call_of}
use Rattle.rules.specs.Runs.{Sent, answer_to}
use Rattle.rules.specs.declared.Answer.{Answer}
use Rattle.rules.specs.declared.Stm.{Stm}
use Rattle.rules.proofs.Answers.{passed}

-- ---- 100 is for repeats

abbrev pub is_again : Answer → Bool
is_again answer = eqb (answer_number answer) 100

-- a list of which no rule that applies answers 100 does not answer it
abbrev spares : Rule → Bool
spares r = not (is_again r.answer && r.applies)

first_spares : (applies : Bool) (answer rest : Answer) → not (is_again answer && applies) ≡ true → is_again rest ≡ false
    → is_again (cond applies answer rest) ≡ false
first_spares true answer rest e h = not-true (is_again answer) (rw and-true at e)
first_spares false answer rest e h = h

list_spares : (rules : List Rule) → every spares rules ≡ true → is_again (first_of rules) ≡ false
list_spares [] e = refl
list_spares (r ∷ rules) e =
    let (here, rest) = cond_first (spares r) (every spares rules) false e false≢true in
    first_spares r.applies r.answer (first_of rules) here (list_spares rules rest)

rules_spare : (stm : Stm) (command : List ℕ) → is_repeat stm command ≡ false
    → is_again (first_of (rules_for stm command (code_of (code_byte command)) (operands_of command))) ≡ false
unfolding rules_for
rules_spare stm command e = list_spares (rules_for stm command (code_of (code_byte command)) (operands_of command)) (rw e)

form_spares : (form : Result ⊤ FormError) (stm : Stm) (command : List ℕ) → is_repeat stm command ≡ false
    → is_again (answer_for form (whole_answer stm command)) ≡ false
form_spares (Err FormError.WrongArea) stm command e = refl
form_spares (Err FormError.NoBytes) stm command e = refl
form_spares (Err FormError.NoCode) stm command e = refl
form_spares (Err FormError.WrongLength) stm command e = refl
form_spares (Ok passed) stm command e = rules_spare stm command e

only_repeats : (stm : Stm) (x : Sent) → is_repeat stm x.command ≡ false → is_again (answer_to stm x) ≡ false
unfolding call_of answer_of
only_repeats stm x e = form_spares (form_of x.command (length x.area)) stm x.command e

-- what is neither accepted nor refused is a repeat
other_again : (accepted again : Bool) → accepted ≡ false → not (accepted || again) ≡ false → again ≡ true
other_again true again e h = absurd (false≢true (sym e))
other_again false again e h = not-false again h

pub repeated : (stm : Stm) (x : Sent) → is_accepted (answer_to stm x) ≡ false → is_refused (answer_to stm x) ≡ false
    → is_repeat stm x.command ≡ true
repeated stm x e h = by (is_repeat stm x.command) refl
  where
    by : (t : Bool) → is_repeat stm x.command ≡ t → t ≡ true
    by true p = refl
    by false p = sym (only_repeats stm x p) ∙ other_again (is_accepted (answer_to stm x)) (is_again (answer_to stm x)) e h

-- ---- numbers

pub number_kept : (command : List ℕ) → number_of (padded longest command) ≡ number_of command
unfolding padded number
number_kept command = refl

repeated_number : (stm : Stm) (command : List ℕ) → is_repeat stm command ≡ true → number_of stm.last.bytes ≡ number_of command
unfolding is_repeat
repeated_number stm command e =
    let (started, same) = (and-eq-true_iff stm.control.started _).0 e in
    ap number_of (same_equal stm.last.bytes (padded longest command) same) ∙ number_kept command

pub next_number_lem : (stm : Stm) (command : List ℕ) → is_next stm command ≡ true → number_of command ≡ number_of stm.last.bytes + 1
unfolding is_next
next_number_lem stm command e = eqb-true (number_of command) (number_of stm.last.bytes + 1) e

-- ---- two units

-- two units with one last number, given commands of one number that are no starts and that both refuse or neither does: where the
-- one accepts, so does the other
pub accepted_alike : (stm stm' : Stm) (x x' : Sent)
    → number_of stm'.last.bytes ≡ number_of stm.last.bytes → number_of x'.command ≡ number_of x.command
    → is_start x.command ≡ false → is_refused (answer_to stm' x') ≡ is_refused (answer_to stm x)
    → is_accepted (answer_to stm x) ≡ true → is_accepted (answer_to stm' x') ≡ true
accepted_alike stm stm' x x' last given plain refused e = by (is_accepted (answer_to stm' x')) refl
  where
    by : (t : Bool) → is_accepted (answer_to stm' x') ≡ t → t ≡ true
    by true p = refl
    by false p =
        let next = next_number_lem stm x.command (rw plain at (passed stm x e).1.next) in
        let answered : is_refused (answer_to stm' x') ≡ false = refused ∙ rw e in
        let same = repeated_number stm' x'.command (repeated stm' x' p answered) in
        absurd (omega (arith, next, same, last, given))
