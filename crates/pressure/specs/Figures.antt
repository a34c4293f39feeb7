-- The marked figures of 01 that concern pressure ("Figures to check"), each as a test. They stand here for the project's one table.
use Rattle.std.specs.Prelude.{◌≡◌, Bool, true, ◌&&◌, List, [], ◌∷◌, pos, Float}
use Rattle.std.specs.Float.Ieee.{eq}
use Rattle.pressure.specs.Convert.{kpa, halved_of, converted_of}
use Rattle.pressure.specs.Reference.{changed_reference}
use Rattle.pressure.specs.declared.Feed.TheVariants.{Cylinder}

-- P_REF after a change at a P_INT of 450
abbrev changed_at450 : Float → Float
changed_at450 reference = changed_reference (record { pressure = kpa 450; reference = reference })

unfoldable pub pressure_figures : List Bool
pressure_figures =
    -- "P_FULL 380: 380 kPa gives 350"
    eq (converted_of Cylinder 380 (halved_of (pos 760))) (kpa 350)
    -- "P_INT 450: P_REF 480 becomes 479.5"
    ∷ eq (changed_at450 (kpa 480)) (halved_of (pos 959))
    -- "449.5 becomes 451"
    ∷ eq (changed_at450 (halved_of (pos 899))) (kpa 451)
    ∷ []

-- every test of a list passes
unfoldable pub all_true : List Bool → Bool
all_true [] = true
all_true (test ∷ tests) = test && all_true tests

abbrev pub PressureFiguresHold : Type 0
PressureFiguresHold = all_true pressure_figures ≡ true
