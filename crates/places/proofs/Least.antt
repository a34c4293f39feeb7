-- The least permitted speed, taken from the left. Assumes nothing.
use Prim.Native.Nat.{ℕ, min, ◌≤◌}
use mathlib.Core.Path.{◌≡◌, ◌∙◌}
use mathlib.Core.List.{List, [], ◌∷◌}
use native.Mathlib.Omega.{arith}
use Rattle.std.specs.List.{fold}
use Rattle.places.specs.Places.{permitted_here, least_permitted}
use Rattle.curve.specs.declared.Judged.{Judged}

least_within : (judged : List Judged) → least_permitted judged ≤ 300
unfolding least_permitted
least_within [] = omega arith
least_within (j ∷ js) = omega (arith, least_within js)

least_from : (judged : List Judged) (least : ℕ) → least ≤ 300 → fold (λ n j. min n (permitted_here j)) least judged ≡ min least (least_permitted judged)
unfolding least_permitted
least_from [] least h = omega arith
least_from (j ∷ js) least h = least_from js (min least (permitted_here j)) (omega arith) ∙ (omega arith)

pub least_is : (judged : List Judged) → fold (λ n j. min n (permitted_here j)) 300 judged ≡ least_permitted judged
least_is judged = least_from judged 300 (omega arith) ∙ omega (arith, least_within judged)
