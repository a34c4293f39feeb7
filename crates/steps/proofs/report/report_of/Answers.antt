use mathlib.Core.Path.{sym, ◌∙◌}
use Rattle.rules.specs.declared.State.{State}
use Rattle.rules.proofs.Equality.{same_state}
use Rattle.steps.proofs.Outside.{report_elsewhere}
use Rattle.steps.proofs.report.report_of.Goals as goal

pub returns-else-eq : goal.returns-else-eq
returns-else-eq c =
    let stm = c.args.stm.now in
    rw (
      report_elsewhere stm (sym (c.eq.ensures ∙ same_state stm.control.state State.DA) ∙ c.if-eq.false),
      c.report_outside.ensures,
    )
