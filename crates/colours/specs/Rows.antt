-- Bar and mode as the rows of table 4.8-5 of 001, "Bar colours at deceleration supervision" (02, F-4).
use Rattle.std.specs.Prelude.{Bool, true, false, cond, not, ◌&&◌, List, [], ◌∷◌, eqb, Option, Some, None}
use Rattle.curve.specs.declared.Interval.TheVariants.{A, Bf, B, C, D, E, F}
use Rattle.curve.specs.declared.Shown.{Shown}
use Rattle.curve.specs.declared.Shown.TheVariants.{Ab, Computed}
use Rattle.colours.specs.Numbers.{showing_number}
use Rattle.colours.specs.declared.Bar.{Bar}
use Rattle.colours.specs.declared.Bar.TheVariants.{Empty, LightGrey, Yellow}
use Rattle.colours.specs.declared.Mode.{Mode}
use Rattle.colours.specs.declared.Mode.TheVariants.{Normal, PreIndication, Indication, Warning, Intervention}
use Rattle.colours.specs.declared.Row.{Row}

-- a row: what is shown, past permitted or not or either, drop sufficient or not or either; then its bar and its mode
abbrev pub row : Option Shown → Option Bool → Option Bool → Bar → Mode → Row
row showing past sufficient bar mode =
    record { showing = showing; past = past; sufficient = sufficient; bar = bar; mode = mode }

-- "No curve: bar and mode 0"
abbrev pub no_curve : Row
no_curve = row None None None Empty Normal

-- table 4.8-5, row by row, after the one for no curve: shown, past permitted, drop sufficient; bar, mode. "The Conditional braking
-- curve" is passed where the drop is insufficient
unfoldable pub rows : List Row
rows =
    -- no curve
    no_curve
    -- a) A
    ∷ row (Some (Computed A)) None None Empty Normal
    -- b) Bf
    ∷ row (Some (Computed Bf)) None None LightGrey PreIndication
    -- c) Ab: one row, whatever the permitted boundary says
    ∷ row (Some Ab) None None Yellow Indication
    -- c) B, "Before passing the Permitted curve"
    ∷ row (Some (Computed B)) (Some false) None Yellow Indication
    -- d) B, "After passing the Permitted curve"
    ∷ row (Some (Computed B)) (Some true) None Yellow Warning
    -- e) C
    ∷ row (Some (Computed C)) None None Yellow Warning
    -- f) D, "Before passing the Conditional braking curve"
    ∷ row (Some (Computed D)) None (Some true) Yellow Warning
    -- g) D, "After passing the Conditional braking curve"
    ∷ row (Some (Computed D)) None (Some false) Yellow Intervention
    -- h) E
    ∷ row (Some (Computed E)) None None Yellow Intervention
    -- i) F
    ∷ row (Some (Computed F)) None None Yellow Intervention
    ∷ []

-- "past permitted or not, drop sufficient or not": what a row asks is met
abbrev pub is_met : Option Bool → Bool → Bool
is_met None holds = true
is_met (Some true) holds = holds
is_met (Some false) holds = not holds

-- a row holds for what is shown
unfoldable pub holds_for : Bool → Bool → Option Shown → Row → Bool
holds_for past sufficient showing r =
    eqb (showing_number showing) (showing_number r.showing) && is_met r.past past && is_met r.sufficient sufficient

-- those of some rows that pass a test
unfoldable pub passing : (Row → Bool) → List Row → List Row
passing test [] = []
passing test (r ∷ rs) = cond (test r) (r ∷ passing test rs) (passing test rs)

-- the rows that hold
unfoldable pub rows_for : Bool → Bool → Option Shown → List Row
rows_for past sufficient showing = passing (holds_for past sufficient showing) rows

-- the first of some rows, or that for no curve
abbrev pub first_of : List Row → Row
first_of [] = no_curve
first_of (r ∷ rs) = r

-- the row that holds; that there is exactly one is Claims.OneRowHolds
unfoldable pub row_of : Bool → Bool → Option Shown → Row
row_of past sufficient showing = first_of (rows_for past sufficient showing)
