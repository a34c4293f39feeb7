use mathlib.Core.Path.{sym, ◌∙◌}
use Rattle.unit.proofs.Accepted.{accepted_answered, accepted_outcome, other_outcome}
use Rattle.unit.proofs.Area.{area_written_lem, area_left, call_leaves}
use Rattle.unit.proofs.call.Goals as goal

pub returns-then-is_accepted : goal.returns-then-is_accepted
returns-then-is_accepted c =
    let a = c.args in
    let told = sym c.is_accepted.ensures ∙ c.if-is_accepted.true in
    let is =
    accepted_outcome a.stm a.command.now _ c.answer_of-answer.ensures told
    c.operands.ensures c.accept-next.ensures in
    call_leaves a.stm a.command.now a.report.now is
    (c.write.ensures ∙ area_written_lem a.stm a.command.now a.report.now is (accepted_answered c.answer_of-answer.result told))

pub returns-then-is_answered : goal.returns-then-is_answered
returns-then-is_answered c =
    let a = c.args in
    let is =
    other_outcome a.stm a.command.now _ c.answer_of-answer.ensures
    (sym c.is_accepted.ensures ∙ c.if-is_accepted.false) in
    call_leaves a.stm a.command.now a.report.now is
    (c.write-then-is_answered.ensures
    ∙ area_written_lem a.stm a.command.now a.report.now is (sym c.is_answered.ensures ∙ c.if-is_answered.true))

pub returns-else-is_answered : goal.returns-else-is_answered
returns-else-is_answered c =
    let a = c.args in
    let is =
    other_outcome a.stm a.command.now _ c.answer_of-answer.ensures
    (sym c.is_accepted.ensures ∙ c.if-is_accepted.false) in
    call_leaves a.stm a.command.now a.report.now is
    (area_left a.stm a.command.now a.report.now is (sym c.is_answered.ensures ∙ c.if-is_answered.false))
