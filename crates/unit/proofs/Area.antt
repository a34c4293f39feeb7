-- The report area after a call, and what a call leaves. Assumes nothing.
use mathlib.Core.Path.{◌≡◌, refl, sym, ap, ◌∙◌}
use Prim.Native.Nat.{ℕ}
use mathlib.Core.Bool.{Bool, true, false, cond, not}
use mathlib.Core.List.{List}
use lib.Dec.{eqb}
use lib.ListN.{length}
use borrow.Author.Tests.{eqb-true, eq-eqb, not-true}
use Rattle.wire.specs.Bytes.{copied}
use Rattle.std.specs.Prelude.{Result, Err, ⊤}
use Rattle.wire.specs.declared.form.FormError.{FormError}
use Rattle.wire.specs.Form.{report_length, form_of}
use Rattle.rules.specs.Numbers.{is_accepted, is_answered, is_refused}
use Rattle.rules.specs.Refusals.{whole_answer, answer_for, answer_of}
use Rattle.rules.specs.Calls.{call_of, area_of}
use Rattle.rules.specs.declared.Stm.{Stm}
use Rattle.rules.specs.declared.Outcome.{Outcome}
use Rattle.rules.proofs.Tests.{impossible}

-- a report copied into an area
pub written : (bytes entry : List ℕ) {exit : List ℕ} → length bytes ≡ report_length → exit ≡ copied bytes entry
    → exit ≡ cond (eqb report_length (length entry)) bytes entry
unfolding copied
written bytes entry size e = rw size at e

-- an answered call has an area of the report's length
fits_form : (t : Bool) (form : Result ⊤ FormError) (stm : Stm) (command : List ℕ)
    → is_answered (answer_for (cond (not t) (Err FormError.WrongArea) form) (whole_answer stm command)) ≡ true → t ≡ true
fits_form true form stm command e = refl
fits_form false form stm command e = impossible e

area_fits : (stm : Stm) (command : List ℕ) (area : ℕ) → is_answered (answer_of stm command area) ≡ true → area ≡ report_length
unfolding answer_of form_of
area_fits stm command area e = eqb-true area report_length (fits_form (eqb area report_length) _ stm command e)

module _ (stm : Stm) (command before : List ℕ) {o : Outcome} (is : o ≡ call_of stm command (length before)) where
  answer_is : o.answer ≡ answer_of stm command (length before)
  unfolding call_of
  answer_is = ap (λ (x : Outcome). x.answer) is

  pub area_written_lem : is_answered o.answer ≡ true
      → cond (eqb report_length (length before)) o.stm.last.report before ≡ area_of o before
  unfolding area_of
  area_written_lem e =
      rw (e, eq-eqb report_length (length before) (sym (area_fits stm command (length before) (ap is_answered (sym answer_is) ∙ e))))

  pub area_left : is_answered o.answer ≡ false → before ≡ area_of o before
  unfolding area_of
  area_left e = rw e

  stm_left : is_accepted o.answer ≡ false → o.stm ≡ stm
  unfolding call_of
  stm_left e = ap (λ (x : Outcome). x.stm) is ∙ rw (ap is_accepted (sym answer_is) ∙ e)

  -- the four promises of a call
  pub call_leaves : {exit : List ℕ} → exit ≡ area_of o before
      → record {
        outcome : o ≡ call_of stm command (length before);
        area : exit ≡ area_of o before;
        unit_stays : is_accepted o.answer ≡ false → o.stm ≡ stm;
        area_stays : is_refused o.answer ≡ true → exit ≡ before;
      }
  call_leaves e = record { outcome = is; area = e; unit_stays = stm_left; area_stays = λ r. e ∙ sym (area_left (not-true _ r)) }
