use mathlib.Core.Path.{◌∙◌}
use Prim.Native.Nat.{min}
use Rattle.std.proofs.Common.{rules, tests}
use Rattle.std.proofs.lemmas.Iterator.{YieldsList-from_slice}
use Rattle.std.proofs.lemmas.Iterator.Consumers.{fold_from_yields_List}
use Rattle.places.specs.Places.{permitted_here}
use Rattle.places.proofs.Least.{least_is}
use Rattle.places.proofs.least_permitted.Goals as goal

pub returns : goal.returns
returns c =
    let judged = c.args.judged in
    fold_from_yields_List _ (λ least j. min least (permitted_here j)) 300 _ c.fold.ensures.ran (YieldsList-from_slice judged (cc)) (λ p x b q k. search (rules, tests))
    ∙ least_is judged
