-- The first row that passes a test is the first of those that pass. Assumes nothing.
use mathlib.Core.Path.{◌≡◌, refl}
use mathlib.Core.Bool.{Bool, true, false, cond}
use mathlib.Core.List.{List, [], ◌∷◌}
use Rattle.std.specs.Prelude.{Option, Some}
use Rattle.std.specs.Option.{unwrap_or}
use Rattle.std.specs.List.{find}
use Rattle.colours.specs.Rows.{no_curve, passing, first_of}
use Rattle.colours.specs.declared.Row.{Row}

first_by : (passes : Bool) (r : Row) (found : Option Row) (rest : List Row) → unwrap_or found no_curve ≡ first_of rest
    → unwrap_or (cond passes (Some r) found) no_curve ≡ first_of (cond passes (r ∷ rest) rest)
first_by true r found rest e = refl
first_by false r found rest e = e

pub first_found : (test : Row → Bool) (table : List Row) → unwrap_or (find test table) no_curve ≡ first_of (passing test table)
unfolding passing
first_found test [] = refl
first_found test (r ∷ rs) = first_by (test r) r (find test rs) (passing test rs) (first_found test rs)
