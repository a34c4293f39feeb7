-- Numbers, letters and rows told again, and what ground and a signal make of a record that is held. Assumes nothing.
use mathlib.Core.Path.{◌≡◌, refl, sym, ◌∙◌, ap}
use Prim.Native.Nat.{ℕ, ◌+◌, ◌-◌, ◌≤◌, ◌<◌}
use native.Mathlib.Omega.{arith}
use mathlib.Core.Bool.{Bool, true, false, cond, ◌&&◌, false≢true}
use lib.Dec.{eqb}
use borrow.Author.Tests.{le-leb, lt-leb}
use Rattle.curve.specs.declared.Curve.{Curve}
use Rattle.curve.specs.Ground.{moved_by}
use Rattle.records.specs.Numbers.{category_number, category_of, signal_number, signal_of, is_signal, route_number, route_of, is_route, route_for, controller_of}
use Rattle.records.specs.Rows.{classed_by, classed_by_none}
use Rattle.records.specs.Lives.{is_undecided, with_condition, with_curve, covered_by, moved_record, is_controlled, classed, passed_record}
use Rattle.records.specs.Claims.{row_number, controls, is_own, row_for}
use Rattle.records.specs.declared.Category.{Category}
use Rattle.records.specs.declared.Signal.{Signal}
use Rattle.records.specs.declared.Route.{Route}
use Rattle.records.specs.declared.Condition.{Condition}
use Rattle.records.specs.declared.EtRecord.{EtRecord}

-- ---- numbers

pub category_told : (category : Category) → category_of (category_number category) ≡ category
unfolding category_of
category_told Category.RF = refl
category_told Category.RH = refl
category_told Category.GF = refl
category_told Category.GH = refl

pub signal_told : (signal : Signal) → signal_of (signal_number signal) ≡ signal
signal_told Signal.Main = refl
signal_told Signal.Distant = refl

pub route_told : (route : Route) → route_of (route_number route) ≡ route
route_told Route.Straight = refl
route_told Route.Diverging = refl

-- the letters of a category, by its number
pub controls_told : (signal : Signal) (category : Category)
    → is_signal (controller_of category) signal ≡ controls (signal_number signal) (category_number category)
controls_told Signal.Main Category.RF = refl
controls_told Signal.Main Category.RH = refl
controls_told Signal.Main Category.GF = refl
controls_told Signal.Main Category.GH = refl
controls_told Signal.Distant Category.RF = refl
controls_told Signal.Distant Category.RH = refl
controls_told Signal.Distant Category.GF = refl
controls_told Signal.Distant Category.GH = refl

pub own_told : (route : Route) (category : Category) → is_route (route_for category) route ≡ is_own (route_number route) (category_number category)
own_told Route.Straight Category.RF = refl
own_told Route.Straight Category.RH = refl
own_told Route.Straight Category.GF = refl
own_told Route.Straight Category.GH = refl
own_told Route.Diverging Category.RF = refl
own_told Route.Diverging Category.RH = refl
own_told Route.Diverging Category.GF = refl
own_told Route.Diverging Category.GH = refl

-- ---- rows

classed_row : (signal : Signal) (own : Bool)
    → row_number (classed_by signal own) ≡ cond (eqb (signal_number signal) 0) (cond own 2 1) (cond own 4 3)
classed_row Signal.Main true = refl
classed_row Signal.Main false = refl
classed_row Signal.Distant true = refl
classed_row Signal.Distant false = refl

-- the row for a signal is that of its number and route
pub row_told : (signal : Signal) (route : Route) (category : Category)
    → row_number (classed_by signal (is_route (route_for category) route))
    ≡ row_for (signal_number signal) (route_number route) (category_number category)
row_told signal route category =
    classed_row signal (is_route (route_for category) route)
    ∙ ap (λ own. cond (eqb (signal_number signal) 0) (cond own 2 1) (cond own 4 3)) (own_told route category)

-- the undecided ones are those of row 0
pub decided : (condition : Condition) → (row_number condition ≡ 0 → ⊥) → is_undecided condition ≡ false
decided (Condition.Undecided covered) n = absurd (n refl)
decided Condition.Terminated n = refl
decided Condition.DefinitelyActive n = refl
decided Condition.PreliminaryPassive n = refl
decided Condition.PreliminaryActive n = refl
decided Condition.Locked n = refl

-- ---- ground

-- of a record that a place holds
pub moved_held : (moved : ℕ) (et : EtRecord) → et.curve.held ≡ true
    → moved_record moved et ≡ with_condition (with_curve et (moved_by et.curve moved)) (covered_by moved et.condition)
unfolding moved_record
moved_held moved et h =
    ap (λ t. cond t (with_condition (with_curve et (moved_by et.curve moved)) (covered_by moved et.condition)) et) h

-- and of a place that holds none
pub moved_free : (moved : ℕ) (et : EtRecord) → et.curve.held ≡ false → moved_record moved et ≡ et
unfolding moved_record
moved_free moved et h =
    ap (λ t. cond t (with_condition (with_curve et (moved_by et.curve moved)) (covered_by moved et.condition)) et) h

-- no ground, and ground upon ground
pub moved_nothing : (curve : Curve) → moved_by curve 0 ≡ curve
moved_nothing curve =
    let less : curve.distance - 0 ≡ curve.distance = omega arith in rw less

pub moved_on_lem : (curve : Curve) (first rest : ℕ) → moved_by (moved_by curve first) rest ≡ moved_by curve (first + rest)
moved_on_lem curve first rest =
    let less : curve.distance - first - rest ≡ curve.distance - (first + rest) = omega arith in rw less

pub covered_past : (covered moved : ℕ) → 10000 ≤ covered + moved → covered_by moved (Condition.Undecided covered) ≡ classed_by_none
covered_past covered moved h = rw (le-leb 10000 (covered + moved) h)

pub covered_below : (covered moved : ℕ) → covered + moved < 10000
    → covered_by moved (Condition.Undecided covered) ≡ Condition.Undecided (covered + moved)
covered_below covered moved h = rw (lt-leb 10000 (covered + moved) h)

pub covered_decided : (moved : ℕ) (condition : Condition) → (row_number condition ≡ 0 → ⊥) → covered_by moved condition ≡ condition
covered_decided moved (Condition.Undecided covered) n = absurd (n refl)
covered_decided moved Condition.Terminated n = refl
covered_decided moved Condition.DefinitelyActive n = refl
covered_decided moved Condition.PreliminaryPassive n = refl
covered_decided moved Condition.PreliminaryActive n = refl
covered_decided moved Condition.Locked n = refl

-- ---- signals

-- a signal that controls a held, undecided record
pub passed_controlled : (signal : Signal) (route : Route) (et : EtRecord) → is_controlled signal et ≡ true
    → passed_record signal route et ≡ classed (classed_by signal (is_route (route_for et.category) route)) et
unfolding passed_record
passed_controlled signal route et t = rw t

pub passed_other : (signal : Signal) (route : Route) (et : EtRecord) → is_controlled signal et ≡ false → passed_record signal route et ≡ et
unfolding passed_record
passed_other signal route et t = rw t

-- and the tests of which it consists
controlled_by : (held undecided controlling : Bool) → held ≡ true → undecided ≡ true → controlling ≡ true
    → (held && undecided && controlling) ≡ true
controlled_by held undecided controlling h u s = rw (h, u, s)

pub is_controlled_lem : (signal : Signal) (et : EtRecord) → et.curve.held ≡ true → is_undecided et.condition ≡ true
    → is_signal (controller_of et.category) signal ≡ true → is_controlled signal et ≡ true
unfolding is_controlled
is_controlled_lem signal et h u s =
    controlled_by et.curve.held (is_undecided et.condition) (is_signal (controller_of et.category) signal) h u s

-- one that fails is enough
free_by : (held undecided controlling : Bool) → held ≡ false → (held && undecided && controlling) ≡ false
free_by true undecided controlling h = absurd (false≢true (sym h))
free_by false undecided controlling h = refl

decided_by : (held undecided controlling : Bool) → undecided ≡ false → (held && undecided && controlling) ≡ false
decided_by true true controlling h = absurd (false≢true (sym h))
decided_by true false controlling h = refl
decided_by false undecided controlling h = refl

other_by : (held undecided controlling : Bool) → controlling ≡ false → (held && undecided && controlling) ≡ false
other_by true true controlling h = h
other_by true false controlling h = refl
other_by false undecided controlling h = refl

module _ (signal : Signal) (et : EtRecord) where
  abbrev controlling : Bool
  controlling = is_signal (controller_of et.category) signal

  pub free_uncontrolled : et.curve.held ≡ false → is_controlled signal et ≡ false
  unfolding is_controlled
  free_uncontrolled h = free_by et.curve.held (is_undecided et.condition) controlling h

  pub decided_uncontrolled : is_undecided et.condition ≡ false → is_controlled signal et ≡ false
  unfolding is_controlled
  decided_uncontrolled h = decided_by et.curve.held (is_undecided et.condition) controlling h

  pub other_uncontrolled : controlling ≡ false → is_controlled signal et ≡ false
  unfolding is_controlled
  other_uncontrolled h = other_by et.curve.held (is_undecided et.condition) controlling h
