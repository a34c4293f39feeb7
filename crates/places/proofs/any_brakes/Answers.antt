use Rattle.std.proofs.Common.{rules, tests}
use Rattle.std.proofs.lemmas.Iterator.{YieldsList-from_slice}
use Rattle.std.proofs.lemmas.Iterator.Search.{any_from_yields_List}
use Rattle.places.specs.Places.{brakes_from, any_brakes}
use Rattle.places.proofs.any_brakes.Goals as goal

pub returns : goal.returns
unfolding any_brakes
returns c =
    let a = c.args in
    any_from_yields_List (brakes_from a.interval) _ _ _ c.any.ensures.ran (YieldsList-from_slice a.judged (cc)) (λ x b q k. search (rules, tests))
