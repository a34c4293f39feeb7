-- 02's numbers of categories, signals and routes, and what the letters of a category mean (02, F-7; 001, 4.6.8.1).
use Rattle.std.specs.Prelude.{ℕ, Bool, cond, eqb}
use Rattle.records.specs.declared.Category.{Category}
use Rattle.records.specs.declared.Signal.{Signal}
use Rattle.records.specs.declared.Route.{Route}

-- "category (0 RF, 1 RH, 2 GF, 3 GH)"
abbrev pub category_number : Category → ℕ
category_number Category.RF = 0
category_number Category.RH = 1
category_number Category.GF = 2
category_number Category.GH = 3

-- the category of a byte from 0 to 3; refusal 9 has gone before
unfoldable pub category_of : ℕ → Category
category_of byte = cond (eqb byte 0) Category.RF (cond (eqb byte 1) Category.RH (cond (eqb byte 2) Category.GF Category.GH))

-- "its kind (0 main, 1 distant)"
abbrev pub signal_number : Signal → ℕ
signal_number Signal.Main = 0
signal_number Signal.Distant = 1

abbrev pub signal_of : ℕ → Signal
signal_of byte = cond (eqb byte 0) Signal.Main Signal.Distant

-- a signal is of this kind
abbrev pub is_signal : Signal → Signal → Bool
is_signal wanted signal = eqb (signal_number signal) (signal_number wanted)

-- "and route (0 R, 1 G)"
abbrev pub route_number : Route → ℕ
route_number Route.Straight = 0
route_number Route.Diverging = 1

abbrev pub route_of : ℕ → Route
route_of byte = cond (eqb byte 0) Route.Straight Route.Diverging

-- a route is this one
abbrev pub is_route : Route → Route → Bool
is_route wanted route = eqb (route_number route) (route_number wanted)

-- 001: "x indicates the category of the track or route": "R for a straight route", "G for a diverging route"
abbrev pub route_for : Category → Route
route_for Category.RF = Route.Straight
route_for Category.RH = Route.Straight
route_for Category.GF = Route.Diverging
route_for Category.GH = Route.Diverging

-- 001: y "indicates the signal which has primary controls": "F for a distant signal", "H for a main signal"
abbrev pub controller_of : Category → Signal
controller_of Category.RF = Signal.Distant
controller_of Category.RH = Signal.Main
controller_of Category.GF = Signal.Distant
controller_of Category.GH = Signal.Main
