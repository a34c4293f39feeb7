-- What a list of commands has brought: the notions in which the promises over runs are told. A command's figures are read from its
-- bytes and a report's fields from the report's, where 01's tables have them; whether a command counts is told by its answer and by
-- the state that it finds.
use Rattle.std.specs.Prelude.{ℕ, ◌+◌, ◌*◌, ◌≡◌, Bool, true, false, cond, not, ◌&&◌, ◌||◌, eqb, Float, ℤ, pos, ◌*ℤ◌, get_or}
use mathlib.Core.List.{List, [], ◌∷◌, foldr, Memᴰ}
use Rattle.std.specs.Float.{binary32}
use Rattle.std.specs.Float.Ieee.{sub}
use Rattle.std.specs.Int.Signed.{le_z}
use Rattle.wire.specs.Numbers.{byte_at, signed}
use Rattle.wire.specs.Form.{operands_of}
use Rattle.curve.specs.declared.Curve.{Curve}
use Rattle.curve.specs.declared.Braking.{Braking}
use Rattle.curve.specs.declared.Interval.{Interval}
use Rattle.curve.specs.Lead.{leads_of}
use Rattle.interval.specs.Intervals.{interval_of}
use Rattle.areas.specs.Numbers.{area_number}
use Rattle.records.specs.declared.EtRecord.{EtRecord}
use Rattle.records.specs.Lives.{is_effective, free_record}
use Rattle.rules.specs.Numbers.{is_accepted, is_state}
use Rattle.rules.specs.Operands.{two_at, bit_of}
use Rattle.curve.specs.Free.{free_curve}
use Rattle.rules.specs.Places.{free_section}
use Rattle.rules.specs.Runs.{Sent, answer_to, state_after, is_of}
use Rattle.rules.specs.declared.Code.{Code}
use Rattle.rules.specs.declared.State.{State}
use Rattle.rules.specs.declared.Section.{Section}
use Rattle.rules.specs.declared.Track.{Track}
use Rattle.rules.specs.declared.Stm.{Stm}

-- a test tells a fact
abbrev pub Tells : Bool → Type 0 → Type 0
Tells test fact = (test ≡ true → fact) × (fact → test ≡ true)

-- ---- the bytes of a command ("Commands")

-- the first operand: the id of 20 to 23, 51 and 53, which stop of 30, the event of 50, the kind of signal of 52
abbrev pub first_operand : List ℕ → ℕ
first_operand command = byte_at (operands_of command) 0

-- 10: "speed 2 ..; moved 2 ..; measured deceleration 2, signed; P_EXT 2, signed ..; buttons 1"
abbrev pub speed_of : List ℕ → ℕ
speed_of command = two_at (operands_of command) 0

abbrev pub moved_of : List ℕ → ℕ
moved_of command = two_at (operands_of command) 2

abbrev pub measured_of : List ℕ → ℤ
measured_of command = signed 65536 (two_at (operands_of command) 4)

abbrev pub external_of : List ℕ → ℤ
external_of command = signed 65536 (two_at (operands_of command) 6)

-- "bit 0 LOSS, 1 text, 2 HALKA, 3 neutral"
abbrev pub button_of : ℕ → List ℕ → Bool
button_of bit command = bit_of bit (byte_at (operands_of command) 8)

-- ---- the commands that a promise asks about

-- the unit is in this state
abbrev pub is_in : State → Stm → Bool
is_in state stm = is_state state stm.control.state

-- an odometer report; one that finds the unit in DA; one that moves the train, in HS or DA
abbrev pub is_report : List ℕ → Bool
is_report command = is_of Code.Odometer command

abbrev pub is_supervised : Stm → List ℕ → Bool
is_supervised stm command = is_report command && is_in State.DA stm

abbrev pub is_moving : Stm → List ℕ → Bool
is_moving stm command = is_report command && (is_in State.HS stm || is_in State.DA stm)

-- "A halt is speed 0 and moved 0"
abbrev pub is_halt_of : List ℕ → Bool
is_halt_of command = eqb (speed_of command) 0 && eqb (moved_of command) 0

-- a report in DA that halts, and one with "10×measured ≥ 7×full deceleration"
abbrev pub is_halting : Stm → List ℕ → Bool
is_halting stm command = is_supervised stm command && is_halt_of command

abbrev pub is_braking : Stm → List ℕ → Bool
is_braking stm command =
    is_supervised stm command && le_z (pos (7 * stm.train.full)) (pos 10 *ℤ measured_of command)

-- "command 30" with this operand
abbrev pub passes_stop : ℕ → List ℕ → Bool
passes_stop which command = is_of Code.StopPassed command && eqb (first_operand command) which

-- 02, F-6: the digit of the area that the unit is in; "command 50" with this event, and its speed
abbrev pub area_is : Stm → ℕ
area_is stm = area_number stm.track.stay.area

abbrev pub passes_event : ℕ → List ℕ → Bool
passes_event event command = is_of Code.AreaEvent command && eqb (first_operand command) event

abbrev pub event_speed_of : List ℕ → ℕ
event_speed_of command = two_at (operands_of command) 1

-- "An entering GMD": one outside the partial area
abbrev pub enters_by_gmd : Stm → List ℕ → Bool
enters_by_gmd stm command = passes_event 1 command && not (eqb (area_is stm) 4)

-- ---- lists of commands

-- what the accepted commands of a run that pass a test bring, in their order
unfoldable pub collected : {A : Type 0} → (Stm → List ℕ → Bool) → (Stm → Sent → A) → Stm → List Sent → List A
collected test brings stm [] = []
collected test brings stm (x ∷ xs) =
    cond (is_accepted (answer_to stm x) && test stm x.command)
    (brings stm x ∷ collected test brings (state_after stm x) xs)
    (collected test brings (state_after stm x) xs)

abbrev pub sum : List ℕ → ℕ
sum xs = foldr ◌+◌ 0 xs

-- the ground moved: "moved" of the accepted reports that find the unit in HS or DA, summed up
abbrev pub ground_over : Stm → List Sent → ℕ
ground_over stm xs = sum (collected is_moving (λ before x. moved_of x.command) stm xs)

-- a test holds of the unit as it is, and after each command
unfoldable pub stands_through : (Stm → Bool) → Stm → List Sent → Bool
stands_through test stm [] = test stm
stands_through test stm (x ∷ xs) = test stm && stands_through test (state_after stm x) xs

-- ---- the unit

-- what stands at a place
abbrev pub curve_at : ℕ → Stm → Curve
curve_at place stm = get_or stm.track.curves place free_curve

abbrev pub section_at : ℕ → Stm → Section
section_at place stm = get_or stm.track.sections place free_section

abbrev pub record_at : ℕ → Stm → EtRecord
record_at place stm = get_or stm.track.records place free_record

-- a place of the list holds this one: a curve, a section or a record
pub record HeldIn {A : Type 0} (is_held : A → Bool) (xs : List A) (x : A) : Type 0 where
  pub place : Memᴰ x xs
  pub held : is_held x ≡ true

abbrev pub Holds : List Curve → Curve → Type 0
Holds curves curve = HeldIn (λ each. each.held) curves curve

abbrev pub HoldsSection : List Section → Section → Type 0
HoldsSection sections section = HeldIn (λ each. each.held) sections section

abbrev pub HoldsRecord : List EtRecord → EtRecord → Type 0
HoldsRecord ets et = HeldIn (λ each. each.curve.held) ets et

-- 02, F-7: "Active and locked ones are curves in all that the members voted": what is supervised is a curve that a place holds or, with
-- `et`, that of a record which is active or locked
pub record RecordIs (ets : List EtRecord) (curve : Curve) : Type 0 where
  pub et : EtRecord
  pub holds : HoldsRecord ets et
  pub effective : is_effective et.condition ≡ true
  pub is : et.curve ≡ curve

abbrev pub Supervises : Track → Bool → Curve → Type 0
Supervises track false curve = Holds track.curves curve
Supervises track true curve = RecordIs track.records curve

-- "b is the full deceleration, soft with HALKA on", the leads and the F margin, at the last figures
abbrev pub braking_in : Stm → Braking
braking_in stm = record {
  level = cond stm.kept.halka stm.train.soft stm.train.full;
  leads = leads_of stm.train.times;
  margin = stm.train.margin;
}

-- a curve's computed interval, at the last figures
abbrev pub interval_in : Stm → Curve → Interval
interval_in stm curve = interval_of curve (braking_in stm) stm.kept.speed

-- "Drop = P_REF − P_INT"
abbrev pub drop_in : Stm → Float
drop_in stm = sub binary32 stm.feedback.pressures.reference stm.feedback.pressures.pressure
