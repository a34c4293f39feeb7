use Rattle.std.proofs.Common.{rules, tests, ◌∙◌}
use Rattle.std.proofs.lemmas.Iterator.{YieldsList-from_slice}
use Rattle.std.proofs.lemmas.Iterator.Search.{any_from_yields_List}
use Rattle.holding.specs.Holding.{is_at}
use Rattle.holding.proofs.Loops.{any_of_is}
use Rattle.holding.proofs.holds.Goals as goal

pub returns : goal.returns
returns g c =
    let test = is_at g.T.Place.held g.T.Place.id c.args.id in
    any_from_yields_List test _ _ c.any.result c.any.ensures.ran (YieldsList-from_slice c.args.places.now cc) (λ x b q k. search (rules, tests))
    ∙ any_of_is test c.args.places.now
