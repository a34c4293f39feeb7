use Prim.Native.Nat.{◌-◌}
use mathlib.Core.Path.{refl, ap, ◌∙◌}
use mathlib.Core.List.{◌++◌}
use native.Mathlib.Nat.{mod-lt}
use native.Mathlib.Omega.{arith}
use lib.ListN.{length-set, take, set}
use lib.Seq.{take-set-le}
use Rattle.paging.proofs.Putting.{digit_put, number_put, all_put}
use Rattle.paging.proofs.lines.put_number.Goals as goal

pub overflow_cast-n : goal.overflow_cast-n
overflow_cast-n c =
    let a = c.args in
    let less = mod-lt a.n {m = a.base} (omega arith) in
    omega (arith, less)

pub loop-at-init : goal.loop-at-init
loop-at-init c = (omega arith, omega arith, simp length-set (omega arith), refl, refl)

pub loop-at-preserved : goal.loop-at-preserved
loop-at-preserved c =
    let v = c.loop-at.invariant in
    let a = c.args in (
      omega arith,
      omega arith,
      simp length-set (omega arith),
      take-set-le (a.first - 1) c.loop-at.line (c.loop-at.at - 1) c.sign_of.result (omega arith) ∙ v.3,
      digit_put a.base a.fill a.first c.loop-at.at c.loop-at.rest c.sign_of.result c.loop-at.line (omega arith) (omega arith) (omega arith) c.sign_of.ensures ∙ v.4,
    )

pub returns : goal.returns
returns c =
    let v = c.loop-at.invariant in
    let d = c.digit in
    let a = c.args in
    let line₀ = set a.line (a.last - 1) d.result in
    all_put a.base a.fill a.first c.loop-at.at c.loop-at.rest line₀ c.loop-at.line (omega arith) (omega arith) v.3
    ∙ ap (λ t. take (a.first - 1) line₀ ++ t) v.4
    ∙ number_put a.base a.fill a.first a.last a.n d.result a.line (omega arith) (omega arith) (omega arith) d.ensures
