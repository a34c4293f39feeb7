-- What becomes of a record (02, F-7): by ground, by signals, as a curve.
use Rattle.std.specs.Prelude.{ℕ, ◌+◌, Bool, true, false, cond, ◌&&◌, leb}
use Rattle.curve.specs.declared.Curve.{Curve}
use Rattle.curve.specs.Free.{free_curve}
use Rattle.curve.specs.Ground.{moved_by}
use Rattle.records.specs.Numbers.{is_signal, is_route, route_for, controller_of}
use Rattle.records.specs.Rows.{classed_by, classed_by_none}
use Rattle.records.specs.declared.Category.{Category}
use Rattle.records.specs.declared.Signal.{Signal}
use Rattle.records.specs.declared.Route.{Route}
use Rattle.records.specs.declared.Condition.{Condition}
use Rattle.records.specs.declared.EtRecord.{EtRecord}

-- ---- what a condition means

abbrev pub is_undecided : Condition → Bool
is_undecided (Condition.Undecided covered) = true
is_undecided Condition.Terminated = false
is_undecided Condition.DefinitelyActive = false
is_undecided Condition.PreliminaryPassive = false
is_undecided Condition.PreliminaryActive = false
is_undecided Condition.Locked = false

abbrev pub is_terminated : Condition → Bool
is_terminated (Condition.Undecided covered) = false
is_terminated Condition.Terminated = true
is_terminated Condition.DefinitelyActive = false
is_terminated Condition.PreliminaryPassive = false
is_terminated Condition.PreliminaryActive = false
is_terminated Condition.Locked = false

-- "Active and locked ones are curves in all that the members voted, passive ones are not"; an undecided one only loses ground
abbrev pub is_effective : Condition → Bool
is_effective (Condition.Undecided covered) = false
is_effective Condition.Terminated = false
is_effective Condition.DefinitelyActive = true
is_effective Condition.PreliminaryPassive = false
is_effective Condition.PreliminaryActive = true
is_effective Condition.Locked = true

-- a repeater takes the place "of a definitely or preliminarily active one, and never of a passive, locked or undecided one"
abbrev pub is_superseded : Condition → Bool
is_superseded (Condition.Undecided covered) = false
is_superseded Condition.Terminated = false
is_superseded Condition.DefinitelyActive = true
is_superseded Condition.PreliminaryPassive = false
is_superseded Condition.PreliminaryActive = true
is_superseded Condition.Locked = false

-- ---- a record

-- a place that holds none
abbrev pub free_record : EtRecord
free_record = record { curve = free_curve; category = Category.RF; condition = Condition.Terminated }

abbrev pub with_condition : EtRecord → Condition → EtRecord
with_condition et condition = record { curve = et.curve; category = et.category; condition = condition }

abbrev pub with_curve : EtRecord → Curve → EtRecord
with_curve et curve = record { curve = curve; category = et.category; condition = et.condition }

-- the curve that a record is: held where the record is held and active or locked
abbrev pub as_curve : EtRecord → Curve
as_curve et = record {
  held = et.curve.held && is_effective et.condition;
  id = et.curve.id;
  kind = et.curve.kind;
  distance = et.curve.distance;
  speed = et.curve.speed;
  gradient = et.curve.gradient;
  past = et.curve.past;
}

-- ---- ground

-- "For 100 m a record only loses ground, unless a controlling signal comes. Then 001's table 4.6-2 decides", row e; in cm
abbrev pub covered_by : ℕ → Condition → Condition
covered_by moved (Condition.Undecided covered) = cond (leb 10000 (covered + moved)) classed_by_none (Condition.Undecided (covered + moved))
covered_by moved Condition.Terminated = Condition.Terminated
covered_by moved Condition.DefinitelyActive = Condition.DefinitelyActive
covered_by moved Condition.PreliminaryPassive = Condition.PreliminaryPassive
covered_by moved Condition.PreliminaryActive = Condition.PreliminaryActive
covered_by moved Condition.Locked = Condition.Locked

-- every record that is held loses ground, whatever its condition
unfoldable pub moved_record : ℕ → EtRecord → EtRecord
moved_record moved et =
    cond et.curve.held (with_condition (with_curve et (moved_by et.curve moved)) (covered_by moved et.condition)) et

-- ---- command 52

-- the signal controls the record, which is undecided: "the first controlling one decides"
unfoldable pub is_controlled : Signal → EtRecord → Bool
is_controlled signal et = et.curve.held && is_undecided et.condition && is_signal (controller_of et.category) signal

-- "terminated (its place is free again)", or another condition
unfoldable pub classed : Condition → EtRecord → EtRecord
classed condition et = cond (is_terminated condition) free_record (with_condition et condition)

-- "A signal that isn't the record's controlling one leaves it undecided"
unfoldable pub passed_record : Signal → Route → EtRecord → EtRecord
passed_record signal route et =
    cond (is_controlled signal et) (classed (classed_by signal (is_route (route_for et.category) route)) et) et
