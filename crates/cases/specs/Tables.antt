-- The tables of 01, each a list written from the paper, with a test that lays it beside the definitions: where it can be, by the
-- answers and reports of whole calls with raw bytes. Proved in proofs/.
use Rattle.std.specs.Prelude.{◌≡◌, ℕ, zero, suc, pred, ◌+◌, ◌/◌, ◌%◌, ◌^◌, Bool, true, false, cond, not, ◌&&◌, eqb, ℤ, pos, ◌-ℤ◌, take, drop, replicate, Option, Some, None}
use mathlib.Core.List.{List, [], ◌∷◌, ◌++◌, map, foldr, zip_with}
use Rattle.std.specs.Int.Signed.{le_z}
use Rattle.wire.specs.Numbers.{number}
use Rattle.wire.specs.Bytes.{same_bytes}
use Rattle.wire.specs.Form.{operands_of}
use Rattle.wire.specs.Report.{state_in, messages_in, area_in}
use Rattle.pressure.specs.declared.Feed.{Feed}
use Rattle.curve.specs.declared.Kind.{Kind}
use Rattle.curve.specs.declared.Direction.{Direction}
use Rattle.curve.specs.declared.Curve.{Curve}
use Rattle.curve.specs.declared.Interval.{Interval}
use Rattle.curve.specs.declared.Shown.{Shown}
use Rattle.colours.specs.Numbers.{showing_number, bar_number, mode_number}
use Rattle.colours.specs.Rows.{row_of}
use Rattle.colours.specs.declared.Bar.{Bar}
use Rattle.colours.specs.declared.Mode.{Mode}
use Rattle.rules.specs.Numbers.{answer_number, code_number, code_of, state_number, state_of, order_number, bit_number}
use Rattle.records.specs.declared.EtRecord.{EtRecord}
use Rattle.records.specs.Numbers.{category_number}
use Rattle.rules.specs.Operands.{bit_of, reading_of}
use Rattle.rules.specs.Places.{any_of, all_of}
use Rattle.rules.specs.Table.{causes_for, order_of}
use Rattle.rules.specs.Reports.{two, causes_number}
use Rattle.rules.specs.Commands.{fresh_stm}
use Rattle.rules.specs.Runs.{send, Sent, moment_of, answer_to, state_after}
use Rattle.rules.specs.History.{curve_at, section_at, record_at}
use Rattle.rules.specs.Written.{Strength, strengths}
use Rattle.rules.specs.declared.Answer.{Answer}
use Rattle.rules.specs.declared.Code.{Code}
use Rattle.rules.specs.declared.State.{State}
use Rattle.rules.specs.declared.Order.{Order}
use Rattle.rules.specs.declared.Cause.{Cause}
use Rattle.rules.specs.declared.Causes.{Causes}
use Rattle.rules.specs.declared.Train.{Train}
use Rattle.rules.specs.declared.Section.{Section}
use Rattle.rules.specs.declared.Reading.{Reading}
use Rattle.rules.specs.declared.Stm.{Stm}

-- ---- commands, as bytes

-- a command that is yet to be given its number: "One code byte (hexadecimal), a four-byte number, operands"
abbrev pub Command : Type 0
Command = ℕ → Sent

abbrev pub command : ℕ → List ℕ → Command
command code operands n = send (code ∷ two (n / 65536) (two (n % 65536) operands))

-- 01: flags, train speed, length, full and soft deceleration, T_B, gC, gP, gBf, F margin, emergency margin, sufficient application,
-- P_FULL, T_EBCHK
abbrev pub start : ℕ → ℕ → ℕ → ℕ → ℕ → ℕ → ℕ → ℕ → ℕ → ℕ → ℕ → ℕ → ℕ → ℕ → Command
start flags speed length full soft brake c permitted bf margin emergency sufficient pressure check =
    command 0x01
    (flags
    ∷ two speed (two length (two full (two soft
    (brake ∷ c ∷ permitted ∷ bf ∷ margin ∷ emergency ∷ sufficient ∷ two pressure (check ∷ []))))))

abbrev pub state : ℕ → Command
state to = command 0x02 (to ∷ [])

-- 10: speed, moved, measured deceleration, P_EXT in half kPa, buttons
abbrev pub report : ℕ → ℕ → ℕ → ℕ → ℕ → Command
report speed moved measured external buttons =
    command 0x10 (two speed (two moved (two measured (two external (buttons ∷ [])))))

-- 20: id, kind, distance in m, speed, gradient
abbrev pub curve : ℕ → ℕ → ℕ → ℕ → ℕ → Command
curve id kind distance speed gradient = command 0x20 (id ∷ kind ∷ two distance (two speed (gradient ∷ [])))

abbrev pub curve_end : ℕ → Command
curve_end id = command 0x21 (id ∷ [])

abbrev pub section : ℕ → ℕ → Command
section id speed = command 0x22 (id ∷ two speed [])

abbrev pub section_end : ℕ → Command
section_end id = command 0x23 (id ∷ [])

abbrev pub stop : ℕ → Command
stop which = command 0x30 (which ∷ [])

abbrev pub proceed : Command
proceed = command 0x31 []

abbrev pub balise_error : Command
balise_error = command 0x32 []

-- 02, F-3
abbrev pub test_brakes : Command
test_brakes = command 0x40 []

-- 02, F-6: event, speed
abbrev pub event : ℕ → ℕ → Command
event which speed = command 0x50 (which ∷ two speed [])

-- 02, F-7: id, category, distance in m, speed, gradient; kind of signal, route; id
abbrev pub new_record : ℕ → ℕ → ℕ → ℕ → ℕ → Command
new_record id category distance speed gradient = command 0x51 (id ∷ category ∷ two distance (two speed (gradient ∷ [])))

abbrev pub signal : ℕ → ℕ → Command
signal kind route = command 0x52 (kind ∷ route ∷ [])

abbrev pub record_end : ℕ → Command
record_end id = command 0x53 (id ∷ [])

-- ---- units that commands lead to

-- "numbered one more than the last accepted"
abbrev pub next_number : Stm → ℕ
next_number stm = suc (number 4 (drop 1 stm.last.bytes))

abbrev pub sent : Stm → Command → Sent
sent stm x = x (next_number stm)

unfoldable pub further : Stm → List Command → Stm
further stm [] = stm
further stm (x ∷ xs) = further (state_after stm (sent stm x)) xs

-- a report at standstill with 500 kPa and no button
abbrev pub halts : Command
halts = report 0 0 0 1000 0

-- a start, and the 31 reports that make a reference pressure of 500 kPa
abbrev pub with_reference : Command → Stm
with_reference x = further fresh_stm (x ∷ replicate 31 halts)

-- the start of 01's example, with 100 km/h and a soft deceleration of 400
abbrev pub started : Command
started = start 0 100 400 700 400 30 20 20 30 10 15 50 380 13

-- DE, CS, HS, DA and FA, each reached from the one before; from HS on curve 5, section 6 and record 8 are held
abbrev pub each_after : Stm → List (List Command) → List Stm
each_after stm [] = stm ∷ []
each_after stm (x ∷ xs) = stm ∷ each_after (further stm x) xs

abbrev pub into_states : List (List Command)
into_states =
    (state 1 ∷ [])
    ∷ (state 2 ∷ curve 5 0 1000 40 0 ∷ section 6 90 ∷ new_record 8 0 1000 40 0 ∷ [])
    ∷ (state 3 ∷ [])
    ∷ (state 4 ∷ [])
    ∷ []

-- the answer to a command
abbrev pub answer_in : Stm → Command → ℕ
answer_in stm x = answer_number (answer_to stm (sent stm x))

-- ---- codes and lengths

-- "Codes and whole lengths", the columns Code and Bytes: start, state, odometer, curve, curve end, section, section end, stop
-- passed, proceed signal, balise error; 02, F-3: "New command 40 (5 bytes)"; 02, F-6: "A command 50 .. (8 bytes)"; 02, F-7: "A command
-- 51 (12 bytes)", "A command 52 (7 bytes)", "A command 53 (6 bytes)"
abbrev pub lengths : List (ℕ × ℕ)
lengths =
    (0x01, 24)
    ∷ (0x02, 6)
    ∷ (0x10, 14)
    ∷ (0x20, 12)
    ∷ (0x21, 6)
    ∷ (0x22, 8)
    ∷ (0x23, 6)
    ∷ (0x30, 6)
    ∷ (0x31, 5)
    ∷ (0x32, 5)
    ∷ (0x40, 5)
    ∷ (0x50, 8)
    ∷ (0x51, 12)
    ∷ (0x52, 7)
    ∷ (0x53, 6)
    ∷ []

-- the answer before any start to so many bytes, the first with this value and the others 0
abbrev pub answer_to_bytes : ℕ → ℕ → ℕ
answer_to_bytes first others = answer_number (answer_to fresh_stm (send (first ∷ replicate others 0)))

-- "4. The length isn't the code's": so for one byte too few and one too many, and for that length it is 5 or, at a start, 6
abbrev pub length_holds : ℕ × ℕ → Bool
length_holds row =
    let others = pred row.1 in
    eqb (answer_to_bytes row.0 (pred others)) 4
    && eqb (answer_to_bytes row.0 others) (cond (eqb row.0 0x01) 6 5)
    && eqb (answer_to_bytes row.0 (suc others)) 4

-- "3. The first byte is no code": a lone byte is 4 where it is a code, and 3 otherwise
abbrev pub lone_byte_holds : ℕ → Bool
lone_byte_holds byte = eqb (answer_to_bytes byte 0) (cond (any_of (λ row. eqb row.0 byte) lengths) 4 3)

abbrev pub below : ℕ → List ℕ
below zero = []
below (suc n) = n ∷ below n

-- ---- numbers

-- the numbers that something has, and those of the paper
abbrev pub are_numbered : {A : Type 0} → (A → ℕ) → List A → List ℕ → Bool
are_numbered numbered things numbers = same_bytes (map numbered things) numbers

unfoldable pub numbers_told : List Bool
numbers_told =
    -- "0 accepted. 100 again", and the refusals 1 to 13 in their order; 02, F-3: 14 and 15; 02, F-6: 16; 02, F-7: 17 and 18
    are_numbered answer_number
    (Answer.Accepted
    ∷ Answer.Again
    ∷ Answer.WrongArea
    ∷ Answer.NoBytes
    ∷ Answer.NoCode
    ∷ Answer.WrongLength
    ∷ Answer.NotStarted
    ∷ Answer.ZeroNumber
    ∷ Answer.WrongNumber
    ∷ Answer.Failed
    ∷ Answer.OutOfRange
    ∷ Answer.NotAllowed
    ∷ Answer.NoReference
    ∷ Answer.NotHeld
    ∷ Answer.AllHeld
    ∷ Answer.OutsideDE
    ∷ Answer.TestRunning
    ∷ Answer.NotTaken
    ∷ Answer.NoRecordPlace
    ∷ Answer.NotSuperseded
    ∷ [])
    (0 ∷ 100 ∷ 1 ∷ 2 ∷ 3 ∷ 4 ∷ 5 ∷ 6 ∷ 7 ∷ 8 ∷ 9 ∷ 10 ∷ 11 ∷ 12 ∷ 13 ∷ 14 ∷ 15 ∷ 16 ∷ 17 ∷ 18 ∷ [])
    -- the codes, in the table's order
    ∷ are_numbered code_number
    (Code.Start
    ∷ Code.ChangeState
    ∷ Code.Odometer
    ∷ Code.NewCurve
    ∷ Code.EndCurve
    ∷ Code.NewSection
    ∷ Code.EndSection
    ∷ Code.StopPassed
    ∷ Code.Proceed
    ∷ Code.BaliseError
    ∷ Code.TestBrakes
    ∷ Code.AreaEvent
    ∷ Code.NewRecord
    ∷ Code.SignalPassed
    ∷ Code.EndRecord
    ∷ [])
    (map (λ row. row.0) lengths)
    ∷ are_numbered (λ row. code_number (code_of row.0)) lengths (map (λ row. row.0) lengths)
    -- "0 DE, 1 CS, 2 HS, 3 DA, 4 FA"
    ∷ are_numbered state_number (State.DE ∷ State.CS ∷ State.HS ∷ State.DA ∷ State.FA ∷ []) (0 ∷ 1 ∷ 2 ∷ 3 ∷ 4 ∷ [])
    ∷ are_numbered (λ byte. state_number (state_of byte)) (0 ∷ 1 ∷ 2 ∷ 3 ∷ 4 ∷ []) (0 ∷ 1 ∷ 2 ∷ 3 ∷ 4 ∷ [])
    -- "order (0 none, 1 soft, 2 full, 3 emergency with full)"
    ∷ are_numbered order_number (Order.Nothing ∷ Order.Soft ∷ Order.Full ∷ Order.Emergency ∷ []) (0 ∷ 1 ∷ 2 ∷ 3 ∷ [])
    -- "Bars (001, table 4.8-5): A none, Bf light grey 1, others yellow 2"
    ∷ are_numbered bar_number (Bar.Empty ∷ Bar.LightGrey ∷ Bar.Yellow ∷ []) (0 ∷ 1 ∷ 2 ∷ [])
    -- "Modes", with the names of 001, table 4.8-5
    ∷ are_numbered mode_number
    (Mode.Normal ∷ Mode.PreIndication ∷ Mode.Indication ∷ Mode.Warning ∷ Mode.Intervention ∷ [])
    (0 ∷ 1 ∷ 2 ∷ 3 ∷ 4 ∷ [])
    -- the table of causes, the column Bit
    ∷ are_numbered bit_number
    (Cause.Overspeed
    ∷ Cause.EmergencyOverspeed
    ∷ Cause.CurveFull
    ∷ Cause.CurveSoft
    ∷ Cause.CurveEmergency
    ∷ Cause.AimedStop
    ∷ Cause.UnexpectedStop
    ∷ Cause.UnexpectedSpeed
    ∷ Cause.Landslide
    ∷ Cause.BaliseFault
    ∷ Cause.Rolling
    ∷ Cause.ServiceFault
    ∷ [])
    (0 ∷ 1 ∷ 2 ∷ 3 ∷ 4 ∷ 5 ∷ 6 ∷ 7 ∷ 8 ∷ 9 ∷ 10 ∷ 11 ∷ [])
    ∷ []

-- ---- intervals, bars and modes

abbrev pub showings : List (Option Shown)
showings =
    None
    ∷ Some (Shown.Computed Interval.A)
    ∷ Some Shown.Ab
    ∷ Some (Shown.Computed Interval.Bf)
    ∷ Some (Shown.Computed Interval.B)
    ∷ Some (Shown.Computed Interval.C)
    ∷ Some (Shown.Computed Interval.D)
    ∷ Some (Shown.Computed Interval.E)
    ∷ Some (Shown.Computed Interval.F)
    ∷ []

-- by whether the shown curve is past permitted and whether the drop is sufficient; "Bars: A none, Bf light grey 1, others yellow 2",
-- "No curve: bar and mode 0"
abbrev pub colours_when : Bool → Bool → List ℕ → Bool
colours_when past sufficient modes =
    are_numbered (λ showing. bar_number (row_of past sufficient showing).bar) showings (0 ∷ 0 ∷ 2 ∷ 1 ∷ 2 ∷ 2 ∷ 2 ∷ 2 ∷ 2 ∷ [])
    && are_numbered (λ showing. mode_number (row_of past sufficient showing).mode) showings modes

unfoldable pub intervals_told : List Bool
intervals_told =
    -- "0 none, 1 A, 2 Ab, 3 Bf, 4 B, 5 C, 6 D, 7 E, 8 F"
    are_numbered showing_number showings (0 ∷ 1 ∷ 2 ∷ 3 ∷ 4 ∷ 5 ∷ 6 ∷ 7 ∷ 8 ∷ [])
    -- "Modes: A 0, Bf 1, Ab and B 2, B past permitted 3, C 3, D 3 or 4 if drop is insufficient, E and F 4"
    ∷ colours_when false true (0 ∷ 0 ∷ 2 ∷ 1 ∷ 2 ∷ 3 ∷ 3 ∷ 4 ∷ 4 ∷ [])
    ∷ colours_when true true (0 ∷ 0 ∷ 2 ∷ 1 ∷ 3 ∷ 3 ∷ 3 ∷ 4 ∷ 4 ∷ [])
    ∷ colours_when false false (0 ∷ 0 ∷ 2 ∷ 1 ∷ 2 ∷ 3 ∷ 4 ∷ 4 ∷ 4 ∷ [])
    ∷ colours_when true false (0 ∷ 0 ∷ 2 ∷ 1 ∷ 3 ∷ 3 ∷ 4 ∷ 4 ∷ 4 ∷ [])
    ∷ []

-- ---- strengths

-- one cause alone
abbrev pub alone : ℕ → Causes
alone bit = causes_for (λ cause. eqb (bit_number cause) bit)

-- a row of the column "Strength" (Written): the bit, its order with flag bit 0 and without
abbrev pub strength_holds : Strength → Bool
strength_holds row =
    eqb (causes_number (alone row.bit)) (2 ^ row.bit)
    && eqb (order_number (order_of true (alone row.bit))) row.flagged
    && eqb (order_number (order_of false (alone row.bit))) row.plain

-- ---- states

-- the answers to the same commands in each of the five states
abbrev pub answers_are : List Command → List (List ℕ) → List Stm → List Bool
answers_are commands rows units = zip_with (λ stm row. same_bytes (map (answer_in stm) commands) row) units rows

-- 02 to DE, CS, HS, DA and FA: "DE to CS or DA, CS to HS, HS to CS or DA, DA to CS, any to FA", with 10 for the others, and with
-- 8 in FA
abbrev pub paths : List (List ℕ)
paths =
    (10 ∷ 0 ∷ 10 ∷ 0 ∷ 0 ∷ [])
    ∷ (10 ∷ 10 ∷ 0 ∷ 10 ∷ 0 ∷ [])
    ∷ (10 ∷ 0 ∷ 10 ∷ 0 ∷ 0 ∷ [])
    ∷ (10 ∷ 0 ∷ 10 ∷ 10 ∷ 0 ∷ [])
    ∷ (8 ∷ 8 ∷ 8 ∷ 8 ∷ 8 ∷ [])
    ∷ []

-- and the state that is written; at a refusal the area keeps its 255
abbrev pub states_written : List (List ℕ)
states_written =
    (255 ∷ 1 ∷ 255 ∷ 3 ∷ 4 ∷ [])
    ∷ (255 ∷ 255 ∷ 2 ∷ 255 ∷ 4 ∷ [])
    ∷ (255 ∷ 1 ∷ 255 ∷ 3 ∷ 4 ∷ [])
    ∷ (255 ∷ 1 ∷ 255 ∷ 255 ∷ 4 ∷ [])
    ∷ (255 ∷ 255 ∷ 255 ∷ 255 ∷ 255 ∷ [])
    ∷ []

abbrev pub state_written : Stm → Command → ℕ
state_written stm x = state_in (moment_of stm (sent stm x)).area

-- the fifteen codes in each state: "20–23 and 31 want HS or DA, 30 and 32 want DA"; 02, F-3: "14, test asked outside DE"; 02, F-6: "It
-- wants HS or DA"; 02, F-7: "All three want HS or DA."; 02 goes to FA here
abbrev pub taken : List (List ℕ)
taken =
    (0 ∷ 0 ∷ 0 ∷ 10 ∷ 10 ∷ 10 ∷ 10 ∷ 10 ∷ 10 ∷ 10 ∷ 0 ∷ 10 ∷ 10 ∷ 10 ∷ 10 ∷ [])
    ∷ (0 ∷ 0 ∷ 0 ∷ 10 ∷ 10 ∷ 10 ∷ 10 ∷ 10 ∷ 10 ∷ 10 ∷ 14 ∷ 10 ∷ 10 ∷ 10 ∷ 10 ∷ [])
    ∷ (0 ∷ 0 ∷ 0 ∷ 0 ∷ 0 ∷ 0 ∷ 0 ∷ 10 ∷ 0 ∷ 10 ∷ 14 ∷ 0 ∷ 0 ∷ 0 ∷ 0 ∷ [])
    ∷ (0 ∷ 0 ∷ 0 ∷ 0 ∷ 0 ∷ 0 ∷ 0 ∷ 0 ∷ 0 ∷ 0 ∷ 14 ∷ 0 ∷ 0 ∷ 0 ∷ 0 ∷ [])
    ∷ (0 ∷ 8 ∷ 8 ∷ 8 ∷ 8 ∷ 8 ∷ 8 ∷ 8 ∷ 8 ∷ 8 ∷ 8 ∷ 8 ∷ 8 ∷ 8 ∷ 8 ∷ [])
    ∷ []

abbrev pub each_code : List Command
each_code =
    started
    ∷ state 4
    ∷ halts
    ∷ curve 7 0 1000 40 0
    ∷ curve_end 5
    ∷ section 7 90
    ∷ section_end 6
    ∷ stop 0
    ∷ proceed
    ∷ balise_error
    ∷ test_brakes
    ∷ event 4 0
    ∷ new_record 7 0 1000 40 0
    ∷ signal 0 0
    ∷ record_end 8
    ∷ []

abbrev pub to_states : List Command
to_states = state 0 ∷ state 1 ∷ state 2 ∷ state 3 ∷ state 4 ∷ []

abbrev pub states_in : List Stm → List Bool
states_in units =
    answers_are to_states paths units
    ++ zip_with (λ stm row. same_bytes (map (state_written stm) to_states) row) units states_written
    ++ answers_are each_code taken units

-- ---- areas (02, F-6)

-- units in areas 7, 4, 9 and 8, led there from 8
abbrev pub in_areas : Stm → List Stm
in_areas stm = further stm (event 4 0 ∷ []) ∷ further stm (event 2 0 ∷ []) ∷ further stm (event 5 0 ∷ []) ∷ stm ∷ []

-- events 0 to 6 in each: "rows a and b from 7, c and d from 8, e from 9", a GMD in 4, "4 to 6 .. from any other area"; else 16
abbrev pub events_taken : List (List ℕ)
events_taken =
    (0 ∷ 0 ∷ 16 ∷ 16 ∷ 16 ∷ 0 ∷ 0 ∷ [])
    ∷ (16 ∷ 0 ∷ 16 ∷ 16 ∷ 0 ∷ 0 ∷ 0 ∷ [])
    ∷ (0 ∷ 16 ∷ 16 ∷ 16 ∷ 0 ∷ 16 ∷ 0 ∷ [])
    ∷ (16 ∷ 16 ∷ 0 ∷ 0 ∷ 0 ∷ 0 ∷ 16 ∷ [])
    ∷ []

-- and the area that is written; row d waits for its 50 m; at a refusal the area keeps its 255
abbrev pub areas_written : List (List ℕ)
areas_written =
    (4 ∷ 4 ∷ 255 ∷ 255 ∷ 255 ∷ 9 ∷ 8 ∷ [])
    ∷ (255 ∷ 4 ∷ 255 ∷ 255 ∷ 7 ∷ 9 ∷ 8 ∷ [])
    ∷ (4 ∷ 255 ∷ 255 ∷ 255 ∷ 7 ∷ 255 ∷ 8 ∷ [])
    ∷ (255 ∷ 255 ∷ 4 ∷ 8 ∷ 7 ∷ 9 ∷ 255 ∷ [])
    ∷ []

abbrev pub each_event : List Command
each_event = event 0 0 ∷ event 1 90 ∷ event 2 0 ∷ event 3 0 ∷ event 4 0 ∷ event 5 0 ∷ event 6 0 ∷ []

abbrev pub area_written : Stm → Command → ℕ
area_written stm x = area_in (moment_of stm (sent stm x)).area

abbrev pub areas_in : Stm → List Bool
areas_in stm =
    answers_are each_event events_taken (in_areas stm)
    ++ zip_with (λ unit row. same_bytes (map (area_written unit) each_event) row) (in_areas stm) areas_written

-- ---- ET records (02, F-7)

-- after a record of each category, RF, RH, GF and GH, and a signal: main R, main G, distant R, distant G, or none
abbrev pub each_signal : List (List Command)
each_signal = (signal 0 0 ∷ []) ∷ (signal 0 1 ∷ []) ∷ (signal 1 0 ∷ []) ∷ (signal 1 1 ∷ []) ∷ [] ∷ []

abbrev pub each_category : List ℕ
each_category = 0 ∷ 1 ∷ 2 ∷ 3 ∷ []

-- "Hsi for route ≠ x" terminated, "= x" definitely active, "Fsi for route ≠ x" preliminary passive, "= x" preliminary active; u undecided.
-- What tells them apart: the answer to its end, which is 12 where it is terminated; the answer to a repeater, which is 18 where the record
-- is passive or undecided; and whether a record is shown, which is an active one. `terminated` is 1, `active` 2, `other` 3
abbrev pub classes_told : List (List ℕ)
classes_told =
    (3 ∷ 3 ∷ 2 ∷ 3 ∷ 3 ∷ [])
    ∷ (2 ∷ 1 ∷ 3 ∷ 3 ∷ 3 ∷ [])
    ∷ (3 ∷ 3 ∷ 3 ∷ 2 ∷ 3 ∷ [])
    ∷ (1 ∷ 2 ∷ 3 ∷ 3 ∷ 3 ∷ [])
    ∷ []

abbrev pub is_marked : Stm → Bool
is_marked stm = bit_of 6 (messages_in (moment_of stm (sent stm halts)).area)

abbrev pub class_of : Stm → ℕ
class_of stm =
    cond (eqb (answer_in stm (record_end 9)) 12 && eqb (answer_in stm (new_record 9 0 1000 40 0)) 0 && not (is_marked stm)) 1
    (cond (eqb (answer_in stm (record_end 9)) 0 && eqb (answer_in stm (new_record 9 0 1000 40 0)) 0 && is_marked stm) 2
    (cond (eqb (answer_in stm (record_end 9)) 0 && eqb (answer_in stm (new_record 9 0 1000 40 0)) 18 && not (is_marked stm)) 3 0))

abbrev pub classes_in : Stm → List Bool
classes_in stm =
    zip_with (λ category row. same_bytes (map (λ passed. class_of (further stm (new_record 9 category 1000 40 0 ∷ passed))) each_signal) row)
    each_category classes_told

-- ---- where each operand lies

abbrev pub truth : Bool → ℕ
truth b = cond b 1 0

-- "bit 1 cylinder feedback", "kind 1 (0 speed target, 1 Expect Stop)", "uphill (positive)"
abbrev pub feed_number : Feed → ℕ
feed_number Feed.Pipe = 0
feed_number Feed.Cylinder = 1

abbrev pub kind_number : Kind → ℕ
kind_number Kind.SpeedTarget = 0
kind_number Kind.ExpectStop = 1

abbrev pub direction_number : Direction → ℕ
direction_number Direction.Up = 0
direction_number Direction.Down = 1

-- what a unit has after a command
abbrev pub train_after : Command → Train
train_after x = (state_after fresh_stm (sent fresh_stm x)).train

-- the fields in 01's order, the two flags first; 02, F-3: the extra last
abbrev pub train_figures : Train → List ℕ
train_figures train =
    truth train.softly
    ∷ feed_number train.feed
    ∷ train.speed
    ∷ train.length
    ∷ train.full
    ∷ train.soft
    ∷ train.times.brake
    ∷ train.times.c
    ∷ train.times.permitted
    ∷ train.times.bf
    ∷ train.margin
    ∷ train.emergency
    ∷ train.sufficient
    ∷ train.pressure
    ∷ train.check
    ∷ train.times.extra
    ∷ []

abbrev pub buttons : Reading → List ℕ
buttons r = truth r.loss ∷ truth r.text ∷ truth r.halka ∷ truth r.neutral ∷ []

abbrev pub curve_fields : Curve → List ℕ
curve_fields curve =
    truth curve.held
    ∷ curve.id
    ∷ kind_number curve.kind
    ∷ curve.distance
    ∷ curve.speed
    ∷ direction_number curve.gradient.direction
    ∷ curve.gradient.size
    ∷ truth curve.past
    ∷ []

abbrev pub section_figures : Section → List ℕ
section_figures section =
    truth section.held ∷ section.id ∷ section.speed ∷ truth section.ending ∷ section.covered ∷ []

abbrev pub is_same : ℤ → ℤ → Bool
is_same x y = le_z x y && le_z y x

-- an odometer report as it is read
abbrev pub reading_sent : Command → Reading
reading_sent x = reading_of (operands_of (x 1).command)

abbrev pub curve_given : Stm → Command → Curve
curve_given stm x = curve_at 0 (state_after stm (sent stm x))

abbrev pub section_given : Stm → Command → Section
section_given stm x = section_at 0 (state_after stm (sent stm x))

abbrev pub record_given : Stm → Command → EtRecord
record_given stm x = record_at 0 (state_after stm (sent stm x))

-- figures that all differ, and of which no two bytes are alike: 260 is 0104, 515 is 0203, 1,541 is 0605, 1,287 is 0507, 277 is 0115
abbrev pub operands_in : Stm → List Bool
operands_in stm =
    same_bytes (train_figures (train_after (start 2 260 515 1541 1287 8 9 10 11 12 13 46 277 14)))
    (0 ∷ 1 ∷ 260 ∷ 515 ∷ 1541 ∷ 1287 ∷ 8 ∷ 9 ∷ 10 ∷ 11 ∷ 12 ∷ 13 ∷ 46 ∷ 277 ∷ 14 ∷ 0 ∷ [])
    -- "flags 1 (bit 0 soft braking, bit 1 cylinder feedback ..)"; 02, F-3: "A new start flag, bit 2", "an extra 50 tenths"
    ∷ same_bytes (take 2 (train_figures (train_after (start 1 260 515 1541 1287 8 9 10 11 12 13 46 277 14)))) (1 ∷ 0 ∷ [])
    ∷ same_bytes (train_figures (train_after (start 4 260 515 1541 1287 8 9 10 11 12 13 46 277 14)))
    (0 ∷ 0 ∷ 260 ∷ 515 ∷ 1541 ∷ 1287 ∷ 8 ∷ 9 ∷ 10 ∷ 11 ∷ 12 ∷ 13 ∷ 46 ∷ 277 ∷ 14 ∷ 50 ∷ [])
    -- "measured deceleration 2, signed; P_EXT 2, signed half kPa", "in two's complement": FFF9 is −7, FE0C is −500
    ∷ eqb (reading_sent (report 4611 1110 0xFFF9 0xFE0C 0)).speed 4611
    ∷ eqb (reading_sent (report 4611 1110 0xFFF9 0xFE0C 0)).moved 1110
    ∷ is_same (reading_sent (report 4611 1110 0xFFF9 0xFE0C 0)).measured (pos 0 -ℤ pos 7)
    ∷ is_same (reading_sent (report 4611 1110 0xFFF9 0xFE0C 0)).external (pos 0 -ℤ pos 500)
    -- "buttons 1 (bit 0 LOSS, 1 text, 2 HALKA, 3 neutral; others 0)"
    ∷ same_bytes (buttons (reading_sent (report 0 0 0 0 1))) (1 ∷ 0 ∷ 0 ∷ 0 ∷ [])
    ∷ same_bytes (buttons (reading_sent (report 0 0 0 0 2))) (0 ∷ 1 ∷ 0 ∷ 0 ∷ [])
    ∷ same_bytes (buttons (reading_sent (report 0 0 0 0 4))) (0 ∷ 0 ∷ 1 ∷ 0 ∷ [])
    ∷ same_bytes (buttons (reading_sent (report 0 0 0 0 8))) (0 ∷ 0 ∷ 0 ∷ 1 ∷ [])
    -- "id 1 ..; kind 1 ..; distance 2 .. m; speed 2 ..; gradient 1, signed": the distance is kept in cm, F9 is −7
    ∷ same_bytes (curve_fields (curve_given stm (curve 9 0 515 260 0xF9))) (1 ∷ 9 ∷ 0 ∷ 51500 ∷ 260 ∷ 1 ∷ 7 ∷ 0 ∷ [])
    ∷ same_bytes (curve_fields (curve_given stm (curve 9 1 515 40 7))) (1 ∷ 9 ∷ 1 ∷ 51500 ∷ 40 ∷ 0 ∷ 7 ∷ 0 ∷ [])
    -- "id 1 ..; speed 2": it stands, and no ground is moved since its end
    ∷ same_bytes (section_figures (section_given stm (section 9 260))) (1 ∷ 9 ∷ 260 ∷ 0 ∷ 0 ∷ [])
    -- 02, F-7: "id, category .., target distance, speed, gradient, with command 20's widths"
    ∷ same_bytes (curve_fields (record_given stm (new_record 9 2 515 260 0xF9)).curve) (1 ∷ 9 ∷ 0 ∷ 51500 ∷ 260 ∷ 1 ∷ 7 ∷ 0 ∷ [])
    ∷ same_bytes (map (λ category. category_number (record_given stm (new_record 9 category 515 260 7)).category) each_category) each_category
    ∷ []

-- ---- ranges

-- an operand, by its place after the number and its width: figures that are in range, its two limits among them, and figures that
-- are not, one past each limit among them; below 0 there is none
pub record Range : Type 0 where
  pub place : ℕ
  pub width : ℕ
  pub within : List ℕ
  pub outside : List ℕ

abbrev pub range : ℕ → ℕ → List ℕ → List ℕ → Range
range place width within outside = record { place = place; width = width; within = within; outside = outside }

-- a command with another figure at a place
abbrev pub changed : ℕ → ℕ → ℕ → Command → Command
changed place width figure x n =
    let bytes = (x n).command in
    send (take (5 + place) bytes ++ cond (eqb width 1) (figure ∷ []) (two figure []) ++ drop (5 + place + width) bytes)

abbrev pub is_outside : Stm → Command → ℕ → ℕ → ℕ → Bool
is_outside stm x place width figure = eqb (answer_in stm (changed place width figure x)) 9

-- "9. An operand is out of range."
abbrev pub range_holds : Stm → Command → Range → Bool
range_holds stm x r =
    all_of (λ figure. not (is_outside stm x r.place r.width figure)) r.within
    && all_of (is_outside stm x r.place r.width) r.outside

-- the ranges of the table "Commands", for a command whose other operands are in range
abbrev pub ranges_in : Stm → List Bool
ranges_in stm =
    map (range_holds stm started)
    -- "flags 1 (bit 0 .., bit 1 ..; others 0)"; 02, F-3: "bit 2"
    (range 0 1 (0 ∷ 1 ∷ 2 ∷ 3 ∷ 4 ∷ 5 ∷ 6 ∷ 7 ∷ []) (8 ∷ 16 ∷ 32 ∷ 64 ∷ 128 ∷ [])
    -- "train speed 2, 10–300; length 2, 10–1,000 m"
    ∷ range 1 2 (10 ∷ 300 ∷ []) (9 ∷ 301 ∷ [])
    ∷ range 3 2 (10 ∷ 1000 ∷ []) (9 ∷ 1001 ∷ [])
    -- "full deceleration 2, 400–2,000; soft deceleration 2, 400 up to full", which is 700
    ∷ range 5 2 (400 ∷ 2000 ∷ []) (399 ∷ 2001 ∷ [])
    ∷ range 7 2 (400 ∷ 700 ∷ []) (399 ∷ 701 ∷ [])
    -- "T_B 1, 1–100; gaps gC, gP, gBf 1 each, 0–200"
    ∷ range 9 1 (1 ∷ 100 ∷ []) (0 ∷ 101 ∷ [])
    ∷ range 10 1 (0 ∷ 200 ∷ []) (201 ∷ [])
    ∷ range 11 1 (0 ∷ 200 ∷ []) (201 ∷ [])
    ∷ range 12 1 (0 ∷ 200 ∷ []) (201 ∷ [])
    -- "F margin 1, 1–30 km/h; overspeed emergency margin 1, 11–30 km/h"
    ∷ range 13 1 (1 ∷ 30 ∷ []) (0 ∷ 31 ∷ [])
    ∷ range 14 1 (11 ∷ 30 ∷ []) (10 ∷ 31 ∷ [])
    -- "sufficient application 1, 30–150 kPa; P_FULL 2, 150–600 kPa; T_EBCHK 1, 1–100"
    ∷ range 15 1 (30 ∷ 150 ∷ []) (29 ∷ 151 ∷ [])
    ∷ range 16 2 (150 ∷ 600 ∷ []) (149 ∷ 601 ∷ [])
    ∷ range 18 1 (1 ∷ 100 ∷ []) (0 ∷ 101 ∷ [])
    ∷ [])
    -- "02 state": "0 DE, 1 CS, 2 HS, 3 DA, 4 FA"
    ++ map (range_holds stm (state 4)) (range 0 1 (0 ∷ 1 ∷ 2 ∷ 3 ∷ 4 ∷ []) (5 ∷ 255 ∷ []) ∷ [])
    -- "speed 2, 0–10,000; moved 2, 0–1,200 cm; measured deceleration 2, signed; P_EXT 2, signed half kPa; buttons 1 (bit 0 .., 3
    -- ..; others 0)": the signed ones have no range
    ++ map (range_holds stm halts)
    (range 0 2 (0 ∷ 10000 ∷ []) (10001 ∷ [])
    ∷ range 2 2 (0 ∷ 1200 ∷ []) (1201 ∷ [])
    ∷ range 4 2 (0 ∷ 0x7FFF ∷ 0x8000 ∷ 0xFFFF ∷ []) []
    ∷ range 6 2 (0 ∷ 0x7FFF ∷ 0x8000 ∷ 0xFFFF ∷ []) []
    ∷ range 8 1 (0 ∷ 15 ∷ []) (16 ∷ 32 ∷ 64 ∷ 128 ∷ [])
    ∷ [])
    -- "id 1, 0–254; kind 1 (0 .., 1 ..); distance 2, 0–10,000 m; speed 2 (kind 0: target 10–300 ..); gradient 1, signed, −30–30
    -- ‰": E2 is −30, E1 is −31
    ++ map (range_holds stm (curve 7 0 1000 40 0))
    (range 0 1 (0 ∷ 254 ∷ []) (255 ∷ [])
    ∷ range 1 1 (0 ∷ 1 ∷ []) (2 ∷ 255 ∷ [])
    ∷ range 2 2 (0 ∷ 10000 ∷ []) (10001 ∷ [])
    ∷ range 4 2 (10 ∷ 300 ∷ []) (9 ∷ 301 ∷ [])
    ∷ range 6 1 (0 ∷ 30 ∷ 0xE2 ∷ 0xFF ∷ []) (31 ∷ 0x7F ∷ 0x80 ∷ 0xE1 ∷ [])
    ∷ [])
    -- "kind 1: release speed, 10 or 40"
    ++ map (range_holds stm (curve 7 1 1000 40 0)) (range 4 2 (10 ∷ 40 ∷ []) (9 ∷ 11 ∷ 39 ∷ 41 ∷ 300 ∷ []) ∷ [])
    -- "21 curve end": "id, 0–254"
    ++ map (range_holds stm (curve_end 5)) (range 0 1 (0 ∷ 254 ∷ []) (255 ∷ []) ∷ [])
    -- "22 section": "id 1, 0–254; speed 2, 10–300"
    ++ map (range_holds stm (section 7 90))
    (range 0 1 (0 ∷ 254 ∷ []) (255 ∷ []) ∷ range 1 2 (10 ∷ 300 ∷ []) (9 ∷ 301 ∷ []) ∷ [])
    -- "23 section end": "id, 0–254"
    ++ map (range_holds stm (section_end 6)) (range 0 1 (0 ∷ 254 ∷ []) (255 ∷ []) ∷ [])
    -- "30 stop passed": "0 aimed-at stop, 1 unexpected stop, 2 landslide board BSK"
    ++ map (range_holds stm (stop 0)) (range 0 1 (0 ∷ 1 ∷ 2 ∷ []) (3 ∷ 255 ∷ []) ∷ [])
    -- 02, F-6: "0 .., 1 GMD, .., 4 to 6", "a two-byte speed, 10–300 for GMD, otherwise 0"
    ++ map (range_holds stm (event 1 90)) (range 0 1 (1 ∷ []) (0 ∷ 2 ∷ []) ∷ range 1 2 (10 ∷ 300 ∷ []) (0 ∷ 9 ∷ 301 ∷ []) ∷ [])
    ++ map (range_holds stm (event 4 0))
    (range 0 1 (0 ∷ 2 ∷ 3 ∷ 4 ∷ 5 ∷ 6 ∷ []) (1 ∷ 7 ∷ 255 ∷ []) ∷ range 1 2 (0 ∷ []) (1 ∷ 10 ∷ 256 ∷ 300 ∷ []) ∷ [])
    -- 02, F-7: "category (0 RF, 1 RH, 2 GF, 3 GH)", "command 20's widths and its ranges for kind 0"; "its kind (0 main, 1 distant) and
    -- route (0 R, 1 G)"
    ++ map (range_holds stm (new_record 7 0 1000 40 0))
    (range 0 1 (0 ∷ 254 ∷ []) (255 ∷ [])
    ∷ range 1 1 (0 ∷ 1 ∷ 2 ∷ 3 ∷ []) (4 ∷ 255 ∷ [])
    ∷ range 2 2 (0 ∷ 10000 ∷ []) (10001 ∷ [])
    ∷ range 4 2 (10 ∷ 300 ∷ []) (9 ∷ 301 ∷ [])
    ∷ range 6 1 (0 ∷ 30 ∷ 0xE2 ∷ 0xFF ∷ []) (31 ∷ 0x7F ∷ 0x80 ∷ 0xE1 ∷ [])
    ∷ [])
    ++ map (range_holds stm (signal 0 0)) (range 0 1 (0 ∷ 1 ∷ []) (2 ∷ 255 ∷ []) ∷ range 1 1 (0 ∷ 1 ∷ []) (2 ∷ 255 ∷ []) ∷ [])
    ++ map (range_holds stm (record_end 8)) (range 0 1 (0 ∷ 254 ∷ []) (255 ∷ []) ∷ [])

-- ---- all of them

-- those that want a started unit: in each state, in HS and in DA
abbrev pub tables_from : Stm → List Bool
tables_from stm =
    states_in (each_after stm into_states)
    ++ operands_in (further stm (state 1 ∷ state 2 ∷ []))
    ++ ranges_in (further stm (state 3 ∷ []))
    ++ areas_in (further stm (state 1 ∷ state 2 ∷ []))
    ++ areas_in (further stm (state 3 ∷ []))
    ++ classes_in (further stm (state 3 ∷ []))

unfoldable pub tables : List Bool
tables =
    map length_holds lengths
    ++ map lone_byte_holds (below 256)
    ++ numbers_told
    ++ intervals_told
    ++ map strength_holds strengths
    ++ tables_from (with_reference started)

abbrev pub TablesHold : Type 0
TablesHold = foldr ◌&&◌ true tables ≡ true
