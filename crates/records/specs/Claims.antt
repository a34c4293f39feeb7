-- What is promised of one record (02, F-7), in the papers' numbers and over any signals and any ground. Proved in proofs/.
use Rattle.std.specs.Prelude.{◌≡◌, ℕ, ◌+◌, ◌/◌, ◌%◌, ◌≤◌, ◌<◌, Bool, true, false, cond, ◌||◌, eqb}
use mathlib.Core.List.{List, [], ◌∷◌, foldr}
use Rattle.curve.specs.Ground.{moved_by}
use Rattle.records.specs.Numbers.{category_number, category_of, signal_number, signal_of, route_number, route_of}
use Rattle.records.specs.Lives.{is_effective, is_superseded, free_record, as_curve, moved_record, passed_record}
use Rattle.records.specs.declared.Category.{Category}
use Rattle.records.specs.declared.Signal.{Signal}
use Rattle.records.specs.declared.Route.{Route}
use Rattle.records.specs.declared.Condition.{Condition}
use Rattle.records.specs.declared.EtRecord.{EtRecord}

-- ---- numbers

-- each category, signal and route is told by its number
abbrev pub NumbersAreTold : Type 0
NumbersAreTold =
    ((category : Category) → category_of (category_number category) ≡ category)
    × ((signal : Signal) → signal_of (signal_number signal) ≡ signal)
    × ((route : Route) → route_of (route_number route) ≡ route)

-- ---- the rows

-- the rows a to e of table 4.6-2 by number, 1 to 5, and 0 for undecided
abbrev pub row_number : Condition → ℕ
row_number (Condition.Undecided covered) = 0
row_number Condition.Terminated = 1
row_number Condition.DefinitelyActive = 2
row_number Condition.PreliminaryPassive = 3
row_number Condition.PreliminaryActive = 4
row_number Condition.Locked = 5

-- "0 RF, 1 RH, 2 GF, 3 GH", "0 main, 1 distant": an odd category is an H record, for which a main signal counts, an even one an F record
abbrev pub controls : ℕ → ℕ → Bool
controls signal category = eqb (category % 2 + signal) 1

-- "0 R, 1 G": the route is that of the category
abbrev pub is_own : ℕ → ℕ → Bool
is_own route category = eqb (category / 2) route

-- the row for a signal of this number and route
abbrev pub row_for : ℕ → ℕ → ℕ → ℕ
row_for signal route category = cond (eqb signal 0) (cond (is_own route category) 2 1) (cond (is_own route category) 4 3)

-- an undecided record that a place holds
pub record Undecided (et : EtRecord) (covered : ℕ) : Type 0 where
  pub held : et.curve.held ≡ true
  pub condition : et.condition ≡ Condition.Undecided covered

-- a controlling signal decides by the row: a terminated record's place is free, and of another the condition alone changes,
pub record ByRow (row : ℕ) (before after : EtRecord) : Type 0 where
  pub told : row_number after.condition ≡ row
  pub freed : row ≡ 1 → after ≡ free_record
  pub kept : (row ≡ 1 → ⊥) → (after.curve ≡ before.curve) × (after.category ≡ before.category)

abbrev pub ControllingDecides : Type 0
ControllingDecides =
    (signal : Signal) (route : Route) (et : EtRecord) (covered : ℕ)
    → Undecided et covered → controls (signal_number signal) (category_number et.category) ≡ true
    → ByRow (row_for (signal_number signal) (route_number route) (category_number et.category)) et (passed_record signal route et)

-- and any other leaves the record whole, its ground too: "A signal that isn't the record's controlling one leaves it undecided"
abbrev pub OthersLeaveIt : Type 0
OthersLeaveIt =
    (signal : Signal) (route : Route) (et : EtRecord)
    → controls (signal_number signal) (category_number et.category) ≡ false → passed_record signal route et ≡ et

-- "the first controlling one decides": one that is decided is left whole by every signal, and so is a free place
abbrev pub DecidedStays : Type 0
DecidedStays =
    (signal : Signal) (route : Route) (et : EtRecord)
    → (row_number et.condition ≡ 0 → ⊥) → passed_record signal route et ≡ et

-- ---- ground

unfoldable pub moved_over : List ℕ → EtRecord → EtRecord
moved_over [] et = et
moved_over (moved ∷ rest) et = moved_over rest (moved_record moved et)

abbrev pub sum : List ℕ → ℕ
sum xs = foldr ◌+◌ 0 xs

-- "d falls by the ground moved", whatever the condition; the category stays
abbrev pub GroundIsLost : Type 0
GroundIsLost =
    (covered : List ℕ) (et : EtRecord)
    → et.curve.held ≡ true
    → ((moved_over covered et).curve ≡ moved_by et.curve (sum covered)) × ((moved_over covered et).category ≡ et.category)

-- "For 100 m a record only loses ground": below 10,000 cm it is undecided, with that ground; from there on it is locked, row e
abbrev pub HundredMetres : Type 0
HundredMetres =
    (covered : List ℕ) (et : EtRecord)
    → Undecided et 0
    → (sum covered < 10000 → (moved_over covered et).condition ≡ Condition.Undecided (sum covered))
    × (10000 ≤ sum covered → row_number (moved_over covered et).condition ≡ 5)

-- of one that is decided ground changes d alone
abbrev pub GroundDecidesNothing : Type 0
GroundDecidesNothing =
    (covered : List ℕ) (et : EtRecord)
    → (row_number et.condition ≡ 0 → ⊥) → (moved_over covered et).condition ≡ et.condition

-- a place that holds none stays as it is
abbrev pub FreePlaceStays : Type 0
FreePlaceStays =
    (covered : List ℕ) (signal : Signal) (route : Route) (et : EtRecord)
    → et.curve.held ≡ false → (moved_over covered et ≡ et) × (passed_record signal route et ≡ et)

-- ---- what a record is

-- "Active and locked ones are curves", rows b, d and e, with the record's own figures; undecided, terminated and passive ones are not
abbrev pub EffectiveIsTold : Type 0
EffectiveIsTold =
    (et : EtRecord)
    → let row = row_number et.condition in
    (is_effective et.condition ≡ (eqb row 2 || eqb row 4 || eqb row 5))
    × (et.curve.held ≡ true → is_effective et.condition ≡ true → as_curve et ≡ et.curve)
    × (is_effective et.condition ≡ false → (as_curve et).held ≡ false)
    × (et.curve.held ≡ false → (as_curve et).held ≡ false)

-- a repeater takes the place of a "definitely or preliminarily active one", rows b and d, and of no other
abbrev pub SupersededIsTold : Type 0
SupersededIsTold =
    (condition : Condition) → is_superseded condition ≡ (eqb (row_number condition) 2 || eqb (row_number condition) 4)
