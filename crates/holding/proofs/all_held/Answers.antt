use Rattle.std.proofs.Common.{rules, tests, ◌∙◌}
use Rattle.std.proofs.lemmas.Iterator.{YieldsList-from_slice}
use Rattle.std.proofs.lemmas.Iterator.Search.{all_from_yields_List}
use Rattle.holding.proofs.Loops.{all_of_is}
use Rattle.holding.proofs.all_held.Goals as goal

pub returns : goal.returns
returns g c =
    all_from_yields_List g.T.Place.held _ _ c.all.result c.all.ensures.ran (YieldsList-from_slice c.args.places.now cc) (λ x b q k. search (rules, tests))
    ∙ all_of_is g.T.Place.held c.args.places.now
