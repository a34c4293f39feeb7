-- The derived comparison of what is shown compares 01's numbers: computed at each thing that can be shown. Assumes nothing.
use Rattle.std.proofs.Common.{◌≡◌, refl, ap}
use mathlib.Core.Bool.{Bool}
use mathlib.Core.List.{List, [], ◌∷◌, map}
use lib.Dec.{eqb}
use lib.ListN.{get_or}
use Rattle.std.specs.Prelude.{Option, Some, None}
use Rattle.std.specs.Option.{option_eq}
use Rattle.curve.specs.declared.Interval.{Interval}
use Rattle.curve.specs.declared.Shown.{Shown}
use Rattle.curve.specs.contracts.ShownPartialEq.TheImpl as shown
use Rattle.colours.specs.Numbers.{showing_number}

showings : List (Option Shown)
showings =
    None ∷
    Some Shown.Ab ∷
    Some (Shown.Computed Interval.A) ∷
    Some (Shown.Computed Interval.Bf) ∷
    Some (Shown.Computed Interval.B) ∷
    Some (Shown.Computed Interval.C) ∷
    Some (Shown.Computed Interval.D) ∷
    Some (Shown.Computed Interval.E) ∷
    Some (Shown.Computed Interval.F) ∷
    []

each : (f g : Option Shown → Bool) → map f showings ≡ map g showings → (showing : Option Shown) → f showing ≡ g showing
unfolding showings
each f g e None = ap (λ l. get_or l 0 (f None)) e
each f g e (Some Shown.Ab) = ap (λ l. get_or l 1 (f (Some Shown.Ab))) e
each f g e (Some (Shown.Computed Interval.A)) = ap (λ l. get_or l 2 (f (Some (Shown.Computed Interval.A)))) e
each f g e (Some (Shown.Computed Interval.Bf)) = ap (λ l. get_or l 3 (f (Some (Shown.Computed Interval.Bf)))) e
each f g e (Some (Shown.Computed Interval.B)) = ap (λ l. get_or l 4 (f (Some (Shown.Computed Interval.B)))) e
each f g e (Some (Shown.Computed Interval.C)) = ap (λ l. get_or l 5 (f (Some (Shown.Computed Interval.C)))) e
each f g e (Some (Shown.Computed Interval.D)) = ap (λ l. get_or l 6 (f (Some (Shown.Computed Interval.D)))) e
each f g e (Some (Shown.Computed Interval.E)) = ap (λ l. get_or l 7 (f (Some (Shown.Computed Interval.E)))) e
each f g e (Some (Shown.Computed Interval.F)) = ap (λ l. get_or l 8 (f (Some (Shown.Computed Interval.F)))) e

computed : (x : Option Shown) → map (option_eq shown.eq-value.it x) showings ≡ map (λ y. eqb (showing_number x) (showing_number y)) showings
unfolding showings
computed None = refl
computed (Some Shown.Ab) = refl
computed (Some (Shown.Computed Interval.A)) = refl
computed (Some (Shown.Computed Interval.Bf)) = refl
computed (Some (Shown.Computed Interval.B)) = refl
computed (Some (Shown.Computed Interval.C)) = refl
computed (Some (Shown.Computed Interval.D)) = refl
computed (Some (Shown.Computed Interval.E)) = refl
computed (Some (Shown.Computed Interval.F)) = refl

pub same_showing : (x y : Option Shown) → option_eq shown.eq-value.it x y ≡ eqb (showing_number x) (showing_number y)
same_showing x y = each (option_eq shown.eq-value.it x) (λ y. eqb (showing_number x) (showing_number y)) (computed x) y
