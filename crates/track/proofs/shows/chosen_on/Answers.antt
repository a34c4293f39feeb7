use Rattle.std.proofs.Common.{◌≡◌, Bool, List, [], ◌∷◌, refl, ◌∙◌, rules, tests}
use mathlib.Core.List.{zip_with}
use Rattle.std.proofs.lemmas.Iterator.{YieldsList-from_slice, YieldsList-from_zip}
use Rattle.std.proofs.lemmas.Iterator.Consumers.{fold_from_yields_List}
use Rattle.std.specs.List.{zip, fold}
use Rattle.curve.specs.declared.Curve.{Curve}
use Rattle.curve.specs.declared.Judged.{Judged}
use Rattle.rules.specs.declared.Candidate.{Candidate}
use Rattle.rules.specs.Shows.{candidate, chosen_of, chosen_from}
use Rattle.track.proofs.shows.chosen_on.Goals as goal

-- the shown one of the pairs
abbrev next_of : Bool → Candidate → Curve × Judged → Candidate
next_of et best p = chosen_of best (candidate et p.0 p.1)

chosen_along : (et : Bool) (best : Candidate) (curves : List Curve) (judged : List Judged)
    → fold (next_of et) best (zip curves judged) ≡ chosen_from best (zip_with (candidate et) curves judged)
unfolding zip_with chosen_from
chosen_along et best [] judged = refl
chosen_along et best (curve ∷ curves) [] = refl
chosen_along et best (curve ∷ curves) (j ∷ judged) = chosen_along et (chosen_of best (candidate et curve j)) curves judged

pub returns : goal.returns
returns c =
    let a = c.args in
    fold_from_yields_List _ (next_of a.et) a.shown _ c.fold.ensures.ran (YieldsList-from_zip (YieldsList-from_slice a.curves.now (cc)) (YieldsList-from_slice a.judged.now (cc))) (λ p x b q k. search (rules, tests))
    ∙ chosen_along a.et a.shown a.curves.now a.judged.now
