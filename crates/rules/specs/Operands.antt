-- The operands of the commands and their ranges (01, "Commands", the table's third column). Each is read at its place after the
-- code and the number; refusals 3 and 4 have gone before.
use Rattle.std.specs.Prelude.{ℕ, ◌*◌, ◌/◌, ◌%◌, ◌^◌, Bool, true, false, cond, ◌&&◌, ◌||◌, List, eqb, leb, drop}
use Rattle.wire.specs.Numbers.{byte_at, number, signed}
use Rattle.pressure.specs.declared.Feed.{Feed}
use Rattle.curve.specs.declared.Kind.{Kind}
use Rattle.curve.specs.declared.Gradient.{Gradient}
use Rattle.curve.specs.declared.Curve.{Curve}
use Rattle.curve.specs.Deceleration.{gradient_from}
use Rattle.areas.specs.declared.Event.{Event}
use Rattle.areas.specs.Numbers.{event_of, is_event}
use Rattle.records.specs.declared.Signal.{Signal}
use Rattle.records.specs.declared.Route.{Route}
use Rattle.records.specs.declared.Condition.{Condition}
use Rattle.records.specs.declared.EtRecord.{EtRecord}
use Rattle.records.specs.Numbers.{category_of, signal_of, route_of}
use Rattle.rules.specs.declared.Code.{Code}
use Rattle.rules.specs.declared.Train.{Train}
use Rattle.rules.specs.declared.Section.{Section}
use Rattle.rules.specs.declared.Reading.{Reading}

-- "one code byte, a four-byte number, operands"
abbrev pub code_byte : List ℕ → ℕ
code_byte command = byte_at command 0

abbrev pub number_of : List ℕ → ℕ
number_of command = number 4 (drop 1 command)

-- "operands of fixed width": one of 2 bytes, at its place
abbrev pub two_at : List ℕ → ℕ → ℕ
two_at s at = number 2 (drop at s)

-- "bit 0", "bit 1" ..: whether a bit of a byte is set
abbrev pub bit_of : ℕ → ℕ → Bool
bit_of n byte = eqb (byte / 2 ^ n % 2) 1

-- a range, "10–300"
abbrev pub within : ℕ → ℕ → ℕ → Bool
within least most x = leb least x && leb x most

-- ---- 01 start

-- "bit 1 cylinder feedback"
abbrev pub feed_of : Bool → Feed
feed_of true = Feed.Cylinder
feed_of false = Feed.Pipe

-- 02, F-3: "A new start flag, bit 2, says that no approved ETCS test exists; the unit then adds an extra 50 tenths"
abbrev pub extra_of : Bool → ℕ
extra_of true = 50
extra_of false = 0

unfoldable pub train_of : List ℕ → Train
train_of s = record {
  softly = bit_of 0 (byte_at s 0);
  feed = feed_of (bit_of 1 (byte_at s 0));
  speed = two_at s 1;
  length = two_at s 3;
  full = two_at s 5;
  soft = two_at s 7;
  times = record {
    brake = byte_at s 9;
    c = byte_at s 10;
    permitted = byte_at s 11;
    bf = byte_at s 12;
    extra = extra_of (bit_of 2 (byte_at s 0));
  };
  margin = byte_at s 13;
  emergency = byte_at s 14;
  sufficient = byte_at s 15;
  pressure = two_at s 16;
  check = byte_at s 18;
}

unfoldable pub train_in_range : Train → Bool
train_in_range train =
    -- "train speed 2, 10–300; length 2, 10–1,000 m"
    within 10 300 train.speed
    && within 10 1000 train.length
    -- "full deceleration 2, 400–2,000; soft deceleration 2, 400 up to full"
    && within 400 2000 train.full
    && within 400 train.full train.soft
    -- "T_B 1, 1–100; gaps gC, gP, gBf 1 each, 0–200"
    && within 1 100 train.times.brake
    && leb train.times.c 200
    && leb train.times.permitted 200
    && leb train.times.bf 200
    -- "F margin 1, 1–30 km/h; overspeed emergency margin 1, 11–30 km/h"
    && within 1 30 train.margin
    && within 11 30 train.emergency
    -- "sufficient application 1, 30–150 kPa; P_FULL 2, 150–600 kPa; T_EBCHK 1, 1–100"
    && within 30 150 train.sufficient
    && within 150 600 train.pressure
    && within 1 100 train.check

-- "flags 1 (bit 0 .., bit 1 ..; others 0)", 02, F-3: "bit 2"; and the figures
unfoldable pub start_in_range : List ℕ → Bool
start_in_range s = leb (byte_at s 0) 7 && train_in_range (train_of s)

-- ---- 10 odometer

-- "buttons 1 (bit 0 LOSS, 1 text, 2 HALKA, 3 neutral ..)"
unfoldable pub reading_of : List ℕ → Reading
reading_of s = record {
  speed = two_at s 0;
  moved = two_at s 2;
  measured = signed 65536 (two_at s 4);
  external = signed 65536 (two_at s 6);
  loss = bit_of 0 (byte_at s 8);
  text = bit_of 1 (byte_at s 8);
  halka = bit_of 2 (byte_at s 8);
  neutral = bit_of 3 (byte_at s 8);
}

-- "speed 2, 0–10,000; moved 2, 0–1,200 cm; .. buttons 1 (.. others 0)"; the two signed operands have no range
unfoldable pub odometer_in_range : List ℕ → Bool
odometer_in_range s = leb (two_at s 0) 10000 && leb (two_at s 2) 1200 && leb (byte_at s 8) 15

-- ---- 20 curve

-- "kind 1 (0 speed target, 1 Expect Stop)"
abbrev pub kind_of : ℕ → Kind
kind_of byte = cond (eqb byte 0) Kind.SpeedTarget Kind.ExpectStop

-- "speed 2 (kind 0: target 10–300; kind 1: release speed, 10 or 40)"
abbrev pub speed_in_range : Kind → ℕ → Bool
speed_in_range Kind.SpeedTarget speed = within 10 300 speed
speed_in_range Kind.ExpectStop speed = eqb speed 10 || eqb speed 40

-- "gradient 1, signed"
abbrev pub gradient_of : ℕ → Gradient
gradient_of byte = gradient_from (signed 256 byte)

-- the curve of a kind, its distance in cm
abbrev pub curve_from : Kind → List ℕ → Curve
curve_from kind s = record {
  held = true;
  id = byte_at s 0;
  kind = kind;
  distance = 100 * two_at s 2;
  speed = two_at s 4;
  gradient = gradient_of (byte_at s 6);
  past = false;
}

unfoldable pub curve_of : List ℕ → Curve
curve_of s = curve_from (kind_of (byte_at s 1)) s

unfoldable pub curve_in_range : Curve → Bool
curve_in_range curve =
    -- "id 1, 0–254; .. distance 2, 0–10,000 m"
    leb curve.id 254
    && leb curve.distance 1000000
    && speed_in_range curve.kind curve.speed
    -- "gradient 1, signed, −30–30 ‰"
    && leb curve.gradient.size 30

-- "kind 1 (0 .., 1 ..)", and the figures
unfoldable pub new_curve_in_range : List ℕ → Bool
new_curve_in_range s = leb (byte_at s 1) 1 && curve_in_range (curve_of s)

-- ---- 22 section

unfoldable pub section_of : List ℕ → Section
section_of s = record { held = true; id = byte_at s 0; speed = two_at s 1; ending = false; covered = 0 }

-- "id 1, 0–254; speed 2, 10–300"
unfoldable pub section_in_range : Section → Bool
section_in_range section = leb section.id 254 && within 10 300 section.speed

-- ---- 50 area event (02, F-6)

-- "one byte of event"; "After the event the command (8 bytes) carries a two-byte speed"
abbrev pub event_in : List ℕ → Event
event_in s = event_of (byte_at s 0)

abbrev pub event_speed : List ℕ → ℕ
event_speed s = two_at s 1

-- "10–300 for GMD, otherwise 0"
abbrev pub event_speed_in_range : Event → ℕ → Bool
event_speed_in_range event speed = cond (is_event Event.GMD event) (within 10 300 speed) (eqb speed 0)

-- "0 .., 1 .., 2 .., 3 .., 4 to 6 ..", and the speed
unfoldable pub event_in_range : List ℕ → Bool
event_in_range s = leb (byte_at s 0) 6 && event_speed_in_range (event_in s) (event_speed s)

-- ---- 51 ET record, 52 signal passed (02, F-7)

-- "id, category (..), target distance, speed, gradient, with command 20's widths and its ranges for kind 0"
unfoldable pub record_of : List ℕ → EtRecord
record_of s = record {
  curve = curve_from Kind.SpeedTarget s;
  category = category_of (byte_at s 1);
  condition = Condition.Undecided 0;
}

unfoldable pub new_record_in_range : List ℕ → Bool
new_record_in_range s = leb (byte_at s 1) 3 && curve_in_range (record_of s).curve

-- "its kind (0 main, 1 distant) and route (0 R, 1 G)"
abbrev pub signal_in : List ℕ → Signal
signal_in s = signal_of (byte_at s 0)

abbrev pub route_in : List ℕ → Route
route_in s = route_of (byte_at s 1)

unfoldable pub signal_in_range : List ℕ → Bool
signal_in_range s = leb (byte_at s 0) 1 && leb (byte_at s 1) 1

-- ---- all commands

-- refusal 9 asks it: every operand is in its range
abbrev pub in_range : Code → List ℕ → Bool
in_range Code.Start s = start_in_range s
in_range Code.ChangeState s = leb (byte_at s 0) 4
in_range Code.Odometer s = odometer_in_range s
in_range Code.NewCurve s = new_curve_in_range s
in_range Code.EndCurve s = leb (byte_at s 0) 254
in_range Code.NewSection s = section_in_range (section_of s)
in_range Code.EndSection s = leb (byte_at s 0) 254
in_range Code.StopPassed s = leb (byte_at s 0) 2
in_range Code.Proceed s = true
in_range Code.BaliseError s = true
in_range Code.TestBrakes s = true
in_range Code.AreaEvent s = event_in_range s
in_range Code.NewRecord s = new_record_in_range s
in_range Code.SignalPassed s = signal_in_range s
in_range Code.EndRecord s = leb (byte_at s 0) 254
