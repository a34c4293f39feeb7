-- A command of whole form has the five bytes of code and number: the shortest has no more.
use Prim.Native.Nat.{◌-◌}
use mathlib.Core.Path.{sym, ◌∙◌}
use native.Mathlib.Omega.{arith}
use lib.ListN.{length, drop, length-drop}
use lib.Seq.{take_all}
use Rattle.wire.specs.Form.{part_for, operand_part}
use Rattle.wire.proofs.Commands.{whole_five}
use Rattle.wire.proofs.form.operands.Goals as goal

pub slice_bounds-result-count : goal.slice_bounds-result-count
slice_bounds-result-count c = omega (arith, whole_five _ _ (sym c.form_of.ensures.outcome ∙ c.in-Ok.is))

pub slice_bounds-result-start : goal.slice_bounds-result-start
slice_bounds-result-start c = omega (arith, whole_five _ _ (sym c.form_of.ensures.outcome ∙ c.in-Ok.is))

pub returns-in-Err : goal.returns-in-Err
unfolding operand_part part_for
returns-in-Err c = rw (sym c.form_of.ensures.outcome, c.in-Err.is)

pub returns-in-Ok : goal.returns-in-Ok
unfolding operand_part part_for
returns-in-Ok c =
    let a = c.args in
    rw (sym c.form_of.ensures.outcome ∙ c.in-Ok.is) (take_all (length a.command.now - 5) (drop 5 a.command.now) (simp length-drop (omega arith)))
