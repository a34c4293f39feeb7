use mathlib.Core.Path.{sym, ◌∙◌}
use Rattle.refusals.proofs.Whole.{by_whole, by_error}
use Rattle.refusals.proofs.answer_of.Goals as goal

pub returns-in-Ok : goal.returns-in-Ok
returns-in-Ok c =
    let a = c.args in
    rw (c.judge.ensures, c.operands.ensures) (by_whole a.stm a.command.now a.area (sym c.form_of.ensures.outcome ∙ c.in-Ok.is))

pub returns-in-Err : goal.returns-in-Err
returns-in-Err c =
    let a = c.args in
    c.from.ensures ∙ by_error a.stm a.command.now a.area (sym c.form_of.ensures.outcome ∙ c.in-Err.is)
