-- The shown one among candidates. Assumes nothing.
use mathlib.Core.Path.{◌≡◌, refl}
use mathlib.Core.List.{List, [], ◌∷◌, ◌++◌}
use Rattle.rules.specs.declared.Candidate.{Candidate}
use Rattle.rules.specs.Shows.{chosen_of, chosen_from}

pub chosen_joined : (best : Candidate) (xs ys : List Candidate) → chosen_from best (xs ++ ys) ≡ chosen_from (chosen_from best xs) ys
unfolding chosen_from
chosen_joined best [] ys = refl
chosen_joined best (x ∷ xs) ys = chosen_joined (chosen_of best x) xs ys
