use mathlib.Core.Path.{◌≡◌, ap, ◌∙◌}
use borrow.Author.Rules.{rules}
use Rattle.std.proofs.Common.{tests}
use Rattle.std.proofs.lemmas.Iterator.{YieldsList-from_slice}
use Rattle.std.proofs.lemmas.Iterator.Search.{find_from_yields_List}
use Rattle.std.specs.Option.{unwrap_or, option_copied}
use Rattle.std.specs.List.{find}
use Rattle.colours.specs.Rows.{rows, holds_for, rows_for, row_of, no_curve}
use Rattle.colours.proofs.Looking.{first_found}
use Rattle.colours.proofs.rows.row_of.Goals as goal

pub returns : goal.returns
unfolding rows_for row_of
returns c =
    let test = holds_for c.args.past c.args.sufficient c.args.showing in
    let found : option_copied c.find.result ≡ find test c.table-rows.result =
    find_from_yields_List test _ _ c.find.result c.find.ensures.ran (YieldsList-from_slice _ c.iter.ensures.rest) (λ x b q k. search (rules, tests)) in
    c.unwrap_or.ensures
    ∙ ap (λ o. unwrap_or o no_curve) (c.copied.ensures ∙ found ∙ ap (find test) c.table-rows.ensures)
    ∙ first_found test rows
