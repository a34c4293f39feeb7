use borrow.Author.Tests.{eq-eqb, ne_eqb}
use mathlib.Core.Path.{◌≡◌, sym, ap, ◌∙◌}
use Prim.Native.Nat.{ℕ}
use mathlib.Core.List.{List}
use lib.ListN.{length}
use Rattle.std.proofs.Common.{arith}
use Rattle.std.specs.Prelude.{Option, None, Some, Result, Err, ⊤}
use Rattle.wire.specs.declared.form.FormError.{FormError}
use Rattle.wire.specs.Codes.{length_of}
use Rattle.wire.specs.Numbers.{byte_at}
use Rattle.wire.specs.Form.{report_length, form_of, code_form, refusal_of, refusal_to}
use Rattle.wire.proofs.Commands.{form_number}
use Rattle.wire.proofs.form.form_of.Goals as goal

-- an outcome with its number
told : (s : List ℕ) (area : ℕ) {r : Result ⊤ FormError} → r ≡ form_of s area → record { outcome : r ≡ form_of s area; refusal : refusal_of r ≡ refusal_to s area }
told s area e = record { outcome = e; refusal = ap refusal_of e ∙ form_number s area }

pub returns-then-area-ne-REPORT_LENGTH : goal.returns-then-area-ne-REPORT_LENGTH
unfolding form_of
returns-then-area-ne-REPORT_LENGTH c =
    let other : c.args.area ≡ report_length → ⊥ = c.if-area-ne-REPORT_LENGTH.true in
    told _ _ (simp (ne_eqb _ _ other))

pub returns-in_err-code : goal.returns-in_err-code
unfolding form_of
returns-in_err-code c =
    let e : c.from_residual.result ≡ Err FormError.NoBytes = grind (arith) in
    let l : length c.args.command.now ≡ 0 = grind arith in
    told _ _ (simp (e, eq-eqb _ _ c.if-area-ne-REPORT_LENGTH.false, eq-eqb _ _ l))

-- what is left to decide once refusals 1 and 2 are passed
passed : (s : List ℕ) (area : ℕ) {l : Option ℕ} → area ≡ report_length → (length s ≡ 0 → ⊥) → l ≡ length_of (byte_at s 0)
    → form_of s area ≡ code_form l (length s)
unfolding form_of
passed s area at some e = simp (eq-eqb _ _ at, ne_eqb _ _ some, sym e)

pub returns-in_err-length : goal.returns-in_err-length
unfolding code_form
returns-in_err-length c =
    let s = c.args.command.now in
    let e : c.from_residual-in_err-length.result ≡ Err FormError.NoCode = grind arith in
    let l : length s ≡ 0 → ⊥ = grind arith in
    let z : c.in_ok-code.field-0.now ≡ byte_at s 0 = grind arith in
    let n : c.length_of.result ≡ None = grind arith in
    told _ _ (rw (e, passed s c.args.area c.if-area-ne-REPORT_LENGTH.false l (c.length_of.ensures ∙ ap length_of z), n))

pub returns-then-command-length : goal.returns-then-command-length
unfolding code_form
returns-then-command-length c =
    let s = c.args.command.now in
    let l : length s ≡ 0 → ⊥ = grind arith in
    let z : c.in_ok-code.field-0.now ≡ byte_at s 0 = grind arith in
    let n : c.length_of.result ≡ Some c.in_ok-length.length = grind arith in
    told _ _ (rw (passed s c.args.area c.if-area-ne-REPORT_LENGTH.false l (c.length_of.ensures ∙ ap length_of z), n, eq-eqb _ _ c.if-command-length.true))

pub returns-else-command-length : goal.returns-else-command-length
unfolding code_form
returns-else-command-length c =
    let s = c.args.command.now in
    let l : length s ≡ 0 → ⊥ = grind arith in
    let z : c.in_ok-code.field-0.now ≡ byte_at s 0 = grind arith in
    let n : c.length_of.result ≡ Some c.in_ok-length.length = grind arith in
    told _ _ (rw (passed s c.args.area c.if-area-ne-REPORT_LENGTH.false l (c.length_of.ensures ∙ ap length_of z), n, ne_eqb _ _ c.if-command-length.false))
