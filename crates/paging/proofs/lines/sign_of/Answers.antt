use mathlib.Core.Path.{◌∙◌}
use native.Mathlib.Nat.{mod-lt}
use native.Mathlib.Omega.{arith}
use borrow.Author.Tests.{eq-eqb, ne_eqb}
use Rattle.paging.proofs.lines.sign_of.Goals as goal

pub returns-then-rest-eq0 : goal.returns-then-rest-eq0
returns-then-rest-eq0 c = rw (eq-eqb _ _ c.if-rest-eq0.true)

pub overflow_cast-rest : goal.overflow_cast-rest
overflow_cast-rest c =
    let a = c.args in
    let less = mod-lt a.rest {m = a.base} (omega arith) in
    omega (arith, less)

pub returns : goal.returns
returns c = c.digit.ensures ∙ rw (ne_eqb _ _ c.if-rest-eq0.false)
