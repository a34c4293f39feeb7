-- A stream of whole commands and a rest ends as 01 says. Assumes nothing.
use Prim.Native.Nat.{ℕ}
use mathlib.Core.Path.{◌≡◌, refl, sym, ap, ap₂, ◌∙◌}
use mathlib.Core.Bool.{true}
use mathlib.Core.List.{List, [], ◌∷◌, ◌++◌, append-nil}
use lib.ListN.{take}
use Rattle.std.specs.Prelude.{Result, Ok, Err, ⊤, Option, None, Some}
use Rattle.wire.specs.declared.form.FormError.{FormError}
use Rattle.wire.specs.declared.split.RestError.{RestError}
use Rattle.wire.specs.Form.{report_length, form_of, refusal_of, refusal_to}
use Rattle.wire.specs.Split.{next_command, next_refusal, rest_refusal}
use Rattle.wire.proofs.Commands.{form_number, next_number_lem}
use Rattle.portions.specs.Portions.{portions_of}
use Rattle.portions.specs.Reads.{text_by, state_by}
use Rattle.portions.proofs.Ending.{commands_given, no_code_ends, short_waits}
use Rattle.portions.proofs.Giving.{empty_ends}
use Rattle.portions.proofs.Reading.{text_joined}
use Rattle.laws.proofs.Lists.{never}
use Rattle.rules.specs.Commands.{fresh_stm}
use Rattle.rules.specs.Refusals.{whole_answer, answer_for, answer_of}
use Rattle.rules.specs.Calls.{call_of}
use Rattle.rules.specs.declared.Answer.{Answer}
use Rattle.rules.specs.declared.Stm.{Stm}
use Rattle.wire.specs.Text.{line_feed}
use Rattle.line.specs.Lines.{line_of, decimal_of}
use Rattle.output.specs.Claims.{end_line, EndsAsSaid}
use Rattle.output.specs.Streams.{lines, stream_of}
use Rattle.output.proofs.Promises.{lines_from}

-- the line of a portion that is refused by one of 1 to 4 is that number
refused_by : (f : Result ⊤ FormError) (whole : Answer) (area : List ℕ) (r : ℕ) → refusal_of f ≡ Some r → line_of (answer_for f whole) area ≡ decimal_of r ++ (line_feed ∷ [])
unfolding refusal_of line_of decimal_of
refused_by (Err FormError.WrongArea) whole area r e = let n : 1 ≡ r = cc e in rw (sym n)
refused_by (Err FormError.NoBytes) whole area r e = let n : 2 ≡ r = cc e in rw (sym n)
refused_by (Err FormError.NoCode) whole area r e = let n : 3 ≡ r = cc e in rw (sym n)
refused_by (Err FormError.WrongLength) whole area r e = let n : 4 ≡ r = cc e in rw (sym n)
refused_by (Ok passed) whole area r e = absurd (never (cc))

refused_line : (stm : Stm) (p : List ℕ) (r : ℕ) → refusal_to p report_length ≡ Some r → lines.text stm p ≡ decimal_of r ++ (line_feed ∷ [])
unfolding call_of answer_of
refused_line stm p r e = refused_by (form_of p report_length) (whole_answer stm p) _ r (form_number p report_length ∙ e)

-- the text of the rest
rest_empty : (stm : Stm) → text_by lines stm (portions_of []) ≡ []
unfolding text_by
rest_empty stm = ap (λ g. text_by lines stm g.portions) (empty_ends true)

rest_last : (stm : Stm) (rest p : List ℕ) → portions_of rest ≡ p ∷ [] → text_by lines stm (portions_of rest) ≡ lines.text stm p
unfolding text_by
rest_last stm rest p e = ap (text_by lines stm) e ∙ append-nil (lines.text stm p)

rest_text : (stm : Stm) (rest : List ℕ) (n : Result (Option ℕ) RestError) → next_command rest ≡ n → (rest_refusal rest ≡ None → rest ≡ [])
    → text_by lines stm (portions_of rest) ≡ end_line (rest_refusal rest)
unfolding next_refusal
rest_text stm rest (Ok None) e h =
    let r : rest_refusal rest ≡ None = sym (next_number_lem rest) ∙ ap next_refusal e in
    ap (λ l. text_by lines stm (portions_of l)) (h r) ∙ rest_empty stm ∙ sym (ap end_line r)
rest_text stm rest (Err RestError.NoCode) e h =
    let r : rest_refusal rest ≡ Some 3 = sym (next_number_lem rest) ∙ ap next_refusal e in
    let (g, f) = no_code_ends true rest r in
    rest_last stm rest (take 1 rest) (ap (λ g. g.portions) g) ∙ refused_line stm (take 1 rest) 3 f ∙ sym (ap end_line r)
rest_text stm rest (Err RestError.Short) e h =
    let r : rest_refusal rest ≡ Some 4 = sym (next_number_lem rest) ∙ ap next_refusal e in
    let (w, g, f) = short_waits rest r in
    rest_last stm rest rest (ap (λ g. g.portions) g) ∙ refused_line stm rest 4 f ∙ sym (ap end_line r)
rest_text stm rest (Ok (Some n)) e h =
    let r : rest_refusal rest ≡ None = sym (next_number_lem rest) ∙ ap next_refusal e in
    ap (λ l. text_by lines stm (portions_of l)) (h r) ∙ rest_empty stm ∙ sym (ap end_line r)

pub ends_as_said : EndsAsSaid
unfolding stream_of
ends_as_said commands rest whole h =
    let stm = state_by lines fresh_stm commands in
    ap (λ g. text_by lines fresh_stm g.portions) (commands_given true commands rest whole)
    ∙ text_joined lines fresh_stm commands (portions_of rest)
    ∙ ap₂ ◌++◌ (lines_from fresh_stm commands) (rest_text stm rest (next_command rest) refl h)
