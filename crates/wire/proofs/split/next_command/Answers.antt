use borrow.Author.Tests.{eq-eqb, ne_eqb, lt-ltb, le-ltb}
use mathlib.Core.Path.{◌≡◌, sym, ap, ◌∙◌}
use Prim.Native.Nat.{ℕ}
use mathlib.Core.List.{List}
use lib.ListN.{length}
use Rattle.std.proofs.Common.{arith}
use Rattle.std.specs.Prelude.{Option, None, Some, Result, Err}
use Rattle.wire.specs.declared.split.RestError.{RestError}
use Rattle.wire.specs.Codes.{length_of}
use Rattle.wire.specs.Numbers.{byte_at}
use Rattle.wire.specs.Split.{next_command, code_next, next_refusal, rest_refusal}
use Rattle.wire.proofs.Commands.{next_number_lem}
use Rattle.wire.proofs.split.next_command.Goals as goal

-- an outcome with its number
told : (s : List ℕ) {r : Result (Option ℕ) RestError} → r ≡ next_command s → record { outcome : r ≡ next_command s; refusal : next_refusal r ≡ rest_refusal s }
told s e = record { outcome = e; refusal = ap next_refusal e ∙ next_number_lem s }

pub returns-in_default : goal.returns-in_default
unfolding next_command
returns-in_default c =
    let l : length c.args.rest.now ≡ 0 = grind arith in
    told _ (simp (eq-eqb _ _ l))

-- what is left to decide where there are bytes
passed : (s : List ℕ) {l : Option ℕ} → (length s ≡ 0 → ⊥) → l ≡ length_of (byte_at s 0) → next_command s ≡ code_next l (length s)
unfolding next_command
passed s some e = simp (ne_eqb _ _ some, sym e)

pub returns-in_err-length : goal.returns-in_err-length
unfolding code_next
returns-in_err-length c =
    let s = c.args.rest.now in
    let e : c.from_residual.result ≡ Err RestError.NoCode = grind arith in
    let l : length s ≡ 0 → ⊥ = grind arith in
    let z : c.in-Some.field-0.now ≡ byte_at s 0 = grind arith in
    let n : c.length_of.result ≡ None = grind arith in
    told _ (rw (e, passed s l (c.length_of.ensures ∙ ap length_of z), n))

pub returns-then-rest-length : goal.returns-then-rest-length
unfolding code_next
returns-then-rest-length c =
    let s = c.args.rest.now in
    let l : length s ≡ 0 → ⊥ = grind arith in
    let z : c.in-Some.field-0.now ≡ byte_at s 0 = grind arith in
    let n : c.length_of.result ≡ Some c.in_ok-length.length = grind arith in
    told _ (rw (passed s l (c.length_of.ensures ∙ ap length_of z), n, lt-ltb _ _ c.if-rest-length.true))

pub returns-else-rest-length : goal.returns-else-rest-length
unfolding code_next
returns-else-rest-length c =
    let s = c.args.rest.now in
    let l : length s ≡ 0 → ⊥ = grind arith in
    let z : c.in-Some.field-0.now ≡ byte_at s 0 = grind arith in
    let n : c.length_of.result ≡ Some c.in_ok-length.length = grind arith in
    told _ (rw (passed s l (c.length_of.ensures ∙ ap length_of z), n, le-ltb _ _ c.if-rest-length.false))
