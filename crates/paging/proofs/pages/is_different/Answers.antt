use Rattle.std.proofs.Common.{◌≡◌, ◌∙◌, refl, ℕ, List, Bool, true, false, not, ◌&&◌, eqb, ap}
use Rattle.std.specs.Prelude.{Option, None, Some}
use Rattle.std.specs.Option.{option_eq}
use Rattle.wire.specs.Report.{state_in, order_in, permitted_in}
use Rattle.sheet.specs.declared.Line.{Line}
use Rattle.sheet.specs.Pages.{printed_as, differs}
use Rattle.sheet.specs.contracts.LinePartialEq as derived
use Rattle.paging.proofs.pages.is_different.Goals as goal

grouped : (t u v : Bool) → not (t && (u && v)) ≡ not (t && u && v)
grouped true u v = refl
grouped false u v = refl

-- the derived comparison compares the three
compared : (last : Option Line) (report : List ℕ) → not (option_eq derived.TheImpl.eq-value.it (Some (printed_as report)) last) ≡ differs last report
unfolding differs
compared None report = refl
compared (Some line) report = grouped (eqb (order_in report) line.order) (eqb (permitted_in report) line.permitted) (eqb (state_in report) line.state)

pub returns : goal.returns
returns c = c.ne.ensures ∙ ap (λ l. not (option_eq derived.TheImpl.eq-value.it (Some l) c.args.printed)) c.printed_as.ensures ∙ compared c.args.printed c.args.report
