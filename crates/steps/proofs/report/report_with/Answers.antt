use mathlib.Core.Path.{◌≡◌, refl, sym, ◌∙◌}
use lib.ListN.{length}
use borrow.Author.Rules.{rules}
use Rattle.places.specs.Places.{places}
use Rattle.rules.specs.declared.State.{State}
use Rattle.rules.specs.Reports.{report_in_da}
use Rattle.rules.proofs.Equality.{same_state}
use Rattle.track.proofs.Judging.{chosen_told}
use Rattle.steps.proofs.Outside.{report_inside, report_elsewhere}
use Rattle.steps.proofs.report.report_with.Goals as goal

pub returns-then-eq : goal.returns-then-eq
unfolding report_in_da
returns-then-eq c =
    let stm = c.args.stm in
    let whole : length stm.track.curves ≡ places = search rules in
    rw (
      report_inside stm (sym (c.eq.ensures ∙ same_state stm.control.state State.DA) ∙ c.if-eq.true),
      c.report_in_da.ensures,
      c.requires.0,
      chosen_told stm.train stm.kept stm.track _ refl whole,
      c.requires.1,
      c.requires.2,
    )

pub returns-else-eq : goal.returns-else-eq
returns-else-eq c =
    let stm = c.args.stm in
    rw (
      report_elsewhere stm (sym (c.eq.ensures ∙ same_state stm.control.state State.DA) ∙ c.if-eq.false),
      c.report_outside.ensures,
    )
