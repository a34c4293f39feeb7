-- Figures beside those that 01 marks: runs of whole commands as bytes, each with what its last call answers and writes. Proved in
-- proofs/.
use Rattle.std.specs.Prelude.{◌≡◌, ℕ, suc, pred, ◌+◌, ◌-◌, ◌/◌, ◌%◌, ◌^◌, Bool, true, ◌&&◌, eqb, take, replicate}
use mathlib.Core.List.{List, [], ◌∷◌, ◌++◌, map, foldr}
use Rattle.wire.specs.Bytes.{same_bytes}
use Rattle.wire.specs.Report.{state_in, order_in, causes_in, permitted_in, vmax_in, id_in, shown_in, bar_in, mode_in, messages_in, offered_in, area_in}
use Rattle.rules.specs.Numbers.{answer_number}
use Rattle.rules.specs.Places.{all_of}
use Rattle.rules.specs.Commands.{fresh_stm}
use Rattle.rules.specs.Runs.{send, Moment, moment_of, state_after}
use Rattle.rules.specs.History.{sum}
use Rattle.cases.specs.Tables.{Command, start, state, report, curve, curve_end, section, section_end, stop, proceed}
use Rattle.cases.specs.Tables.{balise_error, test_brakes, event, new_record, signal, record_end, sent, further, halts, with_reference}
use Rattle.rules.specs.declared.Answer.{Answer}
use Rattle.rules.specs.declared.Stm.{Stm}

-- ---- what a call answers and writes

abbrev pub Test : Type 0
Test = Moment → Bool

abbrev pub answer : ℕ → Test
answer figure m = eqb (answer_number m.answer) figure

-- "A refusal changes neither state nor report": the area keeps its 255
abbrev pub refused : ℕ → Test
refused figure m = answer figure m && all_of (eqb 255) m.area

abbrev pub written : List ℕ → Test
written report m = same_bytes m.area report

-- but for the last five bytes: the first four of them stand in ChangeFigures where a curve is shown
abbrev pub begins : List ℕ → Test
begins report m = same_bytes (take 14 m.area) report

abbrev pub state_is : ℕ → Test
state_is figure m = eqb (state_in m.area) figure

abbrev pub order : ℕ → Test
order figure m = eqb (order_in m.area) figure

-- by their bits
abbrev pub causes_are : List ℕ → Test
causes_are bits m = eqb (causes_in m.area) (sum (map (λ bit. 2 ^ bit) bits))

abbrev pub permitted : ℕ → Test
permitted figure m = eqb (permitted_in m.area) figure

abbrev pub vmax : ℕ → Test
vmax figure m = eqb (vmax_in m.area) figure

-- id, interval, bar and mode
abbrev pub shows : ℕ → ℕ → ℕ → ℕ → Test
shows id interval bar mode m =
    eqb (id_in m.area) id
    && eqb (shown_in m.area) interval
    && eqb (bar_in m.area) bar
    && eqb (mode_in m.area) mode

abbrev pub messages : ℕ → Test
messages figure m = eqb (messages_in m.area) figure

abbrev pub offered : ℕ → Test
offered figure m = eqb (offered_in m.area) figure

abbrev pub area : ℕ → Test
area figure m = eqb (area_in m.area) figure

-- ---- cases

-- a run, and what its last call shows
pub record Case : Type 0 where
  pub commands : List Command
  pub tests : List Test

abbrev pub after : List Command → List Test → Case
after commands tests = record { commands = commands; tests = tests }

-- the last moment of a run
unfoldable pub last_moment : Stm → List Command → Moment
last_moment stm [] = record { answer = Answer.Accepted; area = []; stm = stm }
last_moment stm (x ∷ []) = moment_of stm (sent stm x)
last_moment stm (x ∷ y ∷ rest) = last_moment (state_after stm (sent stm x)) (y ∷ rest)

abbrev pub passes : List Test → Moment → Bool
passes tests m = all_of (λ test. test m) tests

abbrev pub holds : Stm → Case → Bool
holds stm case = passes case.tests (last_moment stm case.commands)

-- ---- trains and commands

-- 98 km/h, 10 m, b 700 and 500, T_B 30, gaps 10, 25 and 40, margins 10 and 19, sufficient 50 kPa, T_EBCHK 13
abbrev pub slow_train : Command
slow_train = start 0 98 10 700 500 30 10 25 40 10 19 50 380 13

-- with flag bit 0, 300 km/h, T_B 3 and T_EBCHK 2; and with cylinder feedback
abbrev pub fast_train : Command
fast_train = start 1 300 400 700 500 3 10 25 40 10 15 50 380 2

abbrev pub cylinder_train : Command
cylinder_train = start 2 300 400 700 500 3 10 25 40 10 15 50 380 2

-- 02, F-3: with flag bits 0 and 2
abbrev pub untested_train : Command
untested_train = start 5 300 400 700 500 3 10 25 40 10 15 50 380 2

-- a start whose train is 1,001 m long
abbrev pub too_long : Command
too_long = start 0 98 1001 700 500 30 10 25 40 10 19 50 380 13

abbrev pub started_in_da : Command → Stm
started_in_da x = further (with_reference x) (state 3 ∷ [])

-- "bit 0 LOSS, 1 text, 2 HALKA, 3 neutral"
abbrev pub loss : ℕ
loss = 1

abbrev pub text : ℕ
text = 2

abbrev pub halka : ℕ
halka = 4

abbrev pub neutral : ℕ
neutral = 8

-- a report at a speed, with no ground, 500 kPa and these buttons
abbrev pub at_speed : ℕ → ℕ → Command
at_speed speed buttons = report speed 0 0 1000 buttons

-- at 100 cm/s with this ground; with neutral
abbrev pub travels : ℕ → Command
travels covered = report 100 covered 0 1000 0

abbrev pub rolls : ℕ → Command
rolls covered = report 100 covered 0 1000 neutral

-- at standstill with this P_EXT
abbrev pub with_pressure : ℕ → Command
with_pressure external = report 0 0 0 external 0

-- the last command again; one with a number too high, and with another number; bytes; an area of so many bytes
abbrev pub again : Command → Command
again x next = x (pred next)

abbrev pub skipping : Command → Command
skipping x next = x (suc next)

abbrev pub with_number : ℕ → Command → Command
with_number n x next = x n

abbrev pub bytes : List ℕ → Command
bytes command next = send command

abbrev pub with_area : ℕ → Command → Command
with_area size x next = record { command = (x next).command; area = replicate size 255 }

-- curve 1 to 40 km/h with this gradient, and a report at 2,500 cm/s that leaves it so many cm away, with this P_EXT and these
-- buttons
abbrev pub approaches : ℕ → ℕ → ℕ → ℕ → List Command
approaches gradient distance external buttons =
    curve 1 0 (distance / 100 + 1) 40 gradient ∷ report 2500 (100 - distance % 100) 0 external buttons ∷ []

-- what leads to a report that tells something in every field
abbrev pub every_field : List Command
every_field = stop 1 ∷ report 1300 0 490 1000 loss ∷ proceed ∷ section 3 280 ∷ curve 9 0 3560 70 3 ∷ balise_error ∷ []

-- ---- VMAX and the speeds

-- a slow train in DA
abbrev pub speed_cases : List Case
speed_cases =
    -- "v ≥ VMAX+10": 108 km/h is 3,000 cm/s; "v ≥ VMAX+emergency margin": 117 km/h is 3,250
    after (at_speed 2999 0 ∷ []) (causes_are [] ∷ order 0 ∷ [])
    ∷ after (at_speed 3000 0 ∷ []) (causes_are (0 ∷ []) ∷ order 2 ∷ offered 0 ∷ [])
    ∷ after (at_speed 3249 0 ∷ []) (causes_are (0 ∷ []) ∷ order 2 ∷ [])
    ∷ after (at_speed 3250 0 ∷ []) (causes_are (0 ∷ 1 ∷ []) ∷ order 3 ∷ [])
    -- "v < VMAX+5", bits 0 and 1: with a section of 94 km/h, 99 km/h is 2,750
    ∷ after (section 1 94 ∷ at_speed 3250 0 ∷ at_speed 2750 loss ∷ []) (vmax 94 ∷ causes_are (0 ∷ 1 ∷ []) ∷ offered 0 ∷ [])
    ∷ after (section 1 94 ∷ at_speed 3250 0 ∷ at_speed 2749 loss ∷ []) (causes_are [] ∷ order 0 ∷ offered 0 ∷ [])
    -- bit 7, with the 40 of an unexpected stop: 45 km/h is 1,250
    ∷ after (stop 1 ∷ at_speed 1250 loss ∷ []) (causes_are (6 ∷ 7 ∷ []) ∷ [])
    ∷ after (stop 1 ∷ at_speed 1249 loss ∷ []) (causes_are (6 ∷ []) ∷ [])
    -- "40 after an unexpected stop until a proceed signal"
    ∷ after (stop 0 ∷ []) (vmax 98 ∷ [])
    ∷ after (stop 1 ∷ []) (vmax 40 ∷ permitted 40 ∷ [])
    ∷ after (stop 1 ∷ report 100 0 490 1000 loss ∷ []) (causes_are [] ∷ vmax 40 ∷ [])
    ∷ after (stop 1 ∷ proceed ∷ []) (vmax 98 ∷ permitted 98 ∷ causes_are (6 ∷ 7 ∷ []) ∷ [])
    -- the least of the sections; a held id is replaced
    ∷ after (section 1 90 ∷ section 2 80 ∷ section 3 85 ∷ []) (vmax 80 ∷ permitted 80 ∷ [])
    ∷ after (section 1 50 ∷ section 1 70 ∷ []) (vmax 70 ∷ [])
    -- bit 9, "v ≤ 80 km/h", after an error above it: 2,222 and 2,223
    ∷ after (at_speed 2223 0 ∷ balise_error ∷ at_speed 2222 0 ∷ []) (causes_are (9 ∷ []) ∷ order 2 ∷ offered 1 ∷ [])
    ∷ after (at_speed 2223 0 ∷ balise_error ∷ at_speed 2223 0 ∷ []) (causes_are (9 ∷ []) ∷ offered 0 ∷ [])
    ∷ after (at_speed 2223 0 ∷ balise_error ∷ at_speed 2222 loss ∷ []) (causes_are [] ∷ [])
    -- 02, F-2, after one at 80 km/h
    ∷ after (at_speed 2222 0 ∷ balise_error ∷ at_speed 2222 loss ∷ []) (causes_are (9 ∷ []) ∷ offered 0 ∷ [])
    -- "Other commands judge nothing new"
    ∷ after (at_speed 2500 0 ∷ section 1 50 ∷ []) (vmax 50 ∷ causes_are [] ∷ [])
    ∷ after (at_speed 2500 0 ∷ section 1 50 ∷ at_speed 2500 0 ∷ []) (causes_are (0 ∷ 1 ∷ []) ∷ [])
    ∷ []

-- ---- stops, and LOSS

abbrev pub stop_cases : List Case
stop_cases =
    -- "command 30, 0", "30, 1", "30, 2", "32"
    after (stop 0 ∷ []) (causes_are (5 ∷ []) ∷ order 3 ∷ offered 0 ∷ [])
    ∷ after (stop 1 ∷ []) (causes_are (6 ∷ 7 ∷ []) ∷ order 3 ∷ [])
    ∷ after (stop 2 ∷ []) (causes_are (8 ∷ []) ∷ order 2 ∷ offered 0 ∷ [])
    ∷ after (balise_error ∷ []) (causes_are (9 ∷ []) ∷ order 2 ∷ offered 0 ∷ [])
    -- "A halt is speed 0 and moved 0", since the command
    ∷ after (stop 0 ∷ report 0 0 0 1000 loss ∷ []) (causes_are [] ∷ [])
    ∷ after (stop 0 ∷ report 1 0 0 1000 loss ∷ []) (causes_are (5 ∷ []) ∷ [])
    ∷ after (stop 0 ∷ report 0 1 0 1000 loss ∷ []) (causes_are (5 ∷ []) ∷ [])
    ∷ after (stop 0 ∷ halts ∷ at_speed 100 0 ∷ []) (offered 1 ∷ [])
    ∷ after (stop 2 ∷ halts ∷ at_speed 100 loss ∷ []) (causes_are [] ∷ [])
    -- "“since” starts again for those", and for no other
    ∷ after (stop 0 ∷ halts ∷ stop 0 ∷ at_speed 100 loss ∷ []) (causes_are (5 ∷ []) ∷ [])
    ∷ after (stop 2 ∷ halts ∷ stop 2 ∷ at_speed 100 loss ∷ []) (causes_are (8 ∷ []) ∷ [])
    ∷ after (stop 0 ∷ halts ∷ stop 2 ∷ at_speed 100 loss ∷ []) (causes_are (8 ∷ []) ∷ [])
    ∷ after (stop 2 ∷ halts ∷ stop 0 ∷ at_speed 100 loss ∷ []) (causes_are (5 ∷ []) ∷ [])
    ∷ after (stop 0 ∷ stop 2 ∷ halts ∷ stop 1 ∷ at_speed 100 loss ∷ []) (causes_are (6 ∷ []) ∷ [])
    -- a second 30, 1: "10×measured ≥ 7×full deceleration once since", 490 of 700
    ∷ after (stop 1 ∷ report 100 0 490 1000 0 ∷ at_speed 100 loss ∷ []) (causes_are [] ∷ [])
    ∷ after (stop 1 ∷ report 100 0 490 1000 0 ∷ stop 1 ∷ at_speed 100 loss ∷ []) (causes_are (6 ∷ []) ∷ [])
    ∷ after (stop 1 ∷ report 100 0 490 1000 0 ∷ stop 0 ∷ at_speed 100 loss ∷ []) (causes_are (5 ∷ []) ∷ [])
    -- −490
    ∷ after (stop 1 ∷ report 100 0 0xFE16 1000 loss ∷ []) (causes_are (6 ∷ []) ∷ [])
    -- "Letting a held LOSS release": pressed while it is too fast, held, and pressed again
    ∷ after (at_speed 3056 0 ∷ at_speed 3056 loss ∷ at_speed 2000 loss ∷ []) (causes_are (0 ∷ []) ∷ offered 1 ∷ [])
    ∷ after (at_speed 3056 0 ∷ at_speed 3056 loss ∷ at_speed 2000 0 ∷ at_speed 2000 loss ∷ []) (causes_are [] ∷ [])
    -- text is no LOSS
    ∷ after (stop 0 ∷ report 0 0 0 1000 text ∷ []) (causes_are (5 ∷ []) ∷ offered 1 ∷ [])
    -- "Entering CS drops curves, sections, causes, their counters and the 40"; in DA at overspeed nothing is ordered before the
    -- next report
    ∷ after (stop 1 ∷ section 1 50 ∷ curve 1 0 0 40 0 ∷ at_speed 3056 0 ∷ state 1 ∷ [])
    (written (1 ∷ 0 ∷ 0 ∷ 0 ∷ 0 ∷ 0 ∷ 0 ∷ 0 ∷ 255 ∷ 0 ∷ 0 ∷ 0 ∷ 0 ∷ 0 ∷ 255 ∷ 255 ∷ 255 ∷ 255 ∷ 8 ∷ []) ∷ [])
    ∷ after (state 1 ∷ state 2 ∷ section 1 50 ∷ curve 1 0 0 40 0 ∷ at_speed 3056 0 ∷ [])
    (written (2 ∷ 0 ∷ 0 ∷ 0 ∷ 0 ∷ 0 ∷ 0 ∷ 0 ∷ 255 ∷ 0 ∷ 0 ∷ 0 ∷ 0 ∷ 0 ∷ 255 ∷ 255 ∷ 255 ∷ 255 ∷ 8 ∷ []) ∷ [])
    ∷ after (stop 1 ∷ section 1 50 ∷ curve 1 0 0 40 0 ∷ at_speed 3056 0 ∷ state 1 ∷ state 2 ∷ state 3 ∷ [])
    (written (3 ∷ 0 ∷ 0 ∷ 0 ∷ 0 ∷ 98 ∷ 0 ∷ 98 ∷ 255 ∷ 0 ∷ 0 ∷ 0 ∷ 0 ∷ 0 ∷ 255 ∷ 255 ∷ 255 ∷ 255 ∷ 8 ∷ []) ∷ [])
    ∷ []

-- ---- rolling

-- "Rolling for bit 10 is counted in DA only, .. and never before" a halt; text held since before
abbrev pub rolling_cases : List Case
rolling_cases =
    after (rolls 501 ∷ []) (causes_are [] ∷ [])
    ∷ after (report 0 1 0 1000 neutral ∷ rolls 501 ∷ []) (causes_are [] ∷ [])
    ∷ after (report 1 0 0 1000 neutral ∷ rolls 501 ∷ []) (causes_are [] ∷ [])
    ∷ after (report 0 0 0 1000 text ∷ report 100 501 0 1000 (neutral + text) ∷ []) (causes_are (10 ∷ []) ∷ [])
    ∷ []

-- after a halt
abbrev pub halted_cases : List Case
halted_cases =
    -- "over 500 cm rolled from standstill": 500 and 501, at once and added up, "from 0 at each halt"
    after (rolls 500 ∷ []) (causes_are [] ∷ [])
    ∷ after (rolls 501 ∷ []) (causes_are (10 ∷ []) ∷ order 2 ∷ offered 2 ∷ [])
    ∷ after (rolls 250 ∷ rolls 250 ∷ []) (causes_are [] ∷ [])
    ∷ after (rolls 250 ∷ rolls 251 ∷ []) (causes_are (10 ∷ []) ∷ [])
    ∷ after (rolls 300 ∷ halts ∷ rolls 300 ∷ []) (causes_are [] ∷ [])
    ∷ after (state 1 ∷ state 2 ∷ state 3 ∷ rolls 501 ∷ []) (causes_are [] ∷ [])
    -- "a report without neutral that is no halt ends it until the next halt"
    ∷ after (rolls 300 ∷ at_speed 100 0 ∷ rolls 501 ∷ []) (causes_are [] ∷ [])
    ∷ after (rolls 300 ∷ at_speed 100 0 ∷ halts ∷ rolls 501 ∷ []) (causes_are (10 ∷ []) ∷ [])
    -- bit 10 is ordered and dropped in one report; a text with no bit 10 does nothing to the count
    ∷ after (report 100 501 0 1000 (neutral + text) ∷ []) (causes_are [] ∷ [])
    ∷ after (report 100 501 0 1000 (neutral + text) ∷ rolls 500 ∷ []) (causes_are [] ∷ [])
    ∷ after (rolls 300 ∷ at_speed 100 (neutral + text) ∷ rolls 201 ∷ []) (causes_are (10 ∷ []) ∷ [])
    ∷ []

-- after a halt and 501 cm with neutral
abbrev pub rolled_cases : List Case
rolled_cases =
    -- "a fresh press of text drops 10", and LOSS does not; "a drop of bit 10 sets it back to 0"
    after (at_speed 100 (neutral + text) ∷ []) (causes_are [] ∷ order 0 ∷ offered 0 ∷ [])
    ∷ after (at_speed 100 (neutral + loss) ∷ []) (causes_are (10 ∷ []) ∷ [])
    ∷ after (at_speed 100 (neutral + text) ∷ rolls 500 ∷ []) (causes_are [] ∷ [])
    ∷ after (at_speed 100 (neutral + text) ∷ rolls 501 ∷ []) (causes_are (10 ∷ []) ∷ [])
    -- where it has ended it stays ended
    ∷ after (at_speed 100 text ∷ rolls 501 ∷ []) (causes_are [] ∷ [])
    ∷ []

-- ---- the brake checks

-- too fast for a fast train, with this P_EXT
abbrev pub too_fast : ℕ → Command
too_fast external = report 8612 0 0 external 0

-- T_B 3: "service ordered, no drop of 60 kPa or more by T_B". After three reports that are too fast the count is 2
abbrev pub service_cases : List Case
service_cases =
    -- "counts from 0 when its order begins .. and one more at each later report in DA"
    after (again (too_fast 1000) ∷ []) (causes_are (0 ∷ []) ∷ order 1 ∷ messages 0 ∷ [])
    ∷ after (too_fast 1000 ∷ []) (causes_are (0 ∷ 11 ∷ []) ∷ order 3 ∷ messages 1 ∷ [])
    -- a drop of 59.5 and of 60 from 500 kPa
    ∷ after (too_fast 881 ∷ []) (causes_are (0 ∷ 11 ∷ []) ∷ [])
    ∷ after (too_fast 880 ∷ []) (causes_are (0 ∷ []) ∷ messages 0 ∷ [])
    -- FF9B is −50.5 kPa: "P_INT is P_REF"; FF9C is −50: P_INT is 0
    ∷ after (too_fast 0xFF9B ∷ []) (causes_are (0 ∷ 11 ∷ []) ∷ messages 5 ∷ [])
    ∷ after (too_fast 0xFF9C ∷ []) (causes_are (0 ∷ []) ∷ messages 0 ∷ [])
    -- bit 11 is releasable when "all others are": 305 km/h is between 8,472 and 8,473; "shows DRIFTBROMSFEL until no order stands"
    ∷ after (too_fast 1000 ∷ at_speed 8473 loss ∷ []) (causes_are (0 ∷ 11 ∷ []) ∷ messages 1 ∷ offered 0 ∷ [])
    ∷ after (too_fast 1000 ∷ at_speed 8472 0 ∷ []) (causes_are (0 ∷ 11 ∷ []) ∷ offered 1 ∷ [])
    ∷ after (too_fast 1000 ∷ at_speed 8472 loss ∷ []) (causes_are [] ∷ messages 0 ∷ [])
    ∷ after (too_fast 1000 ∷ state 1 ∷ []) (state_is 1 ∷ messages 0 ∷ [])
    ∷ []

-- after a balise error above 80 km/h and two reports at standstill the count is 2 too
abbrev pub error_cases : List Case
error_cases =
    after (again halts ∷ []) (causes_are (9 ∷ []) ∷ [])
    ∷ after (halts ∷ []) (causes_are (9 ∷ 11 ∷ []) ∷ [])
    -- a second cause begins nothing
    ∷ after (stop 2 ∷ halts ∷ []) (causes_are (8 ∷ 9 ∷ 11 ∷ []) ∷ [])
    -- nor does a second error, at rest; bit 9 is held then, and bit 11 with it
    ∷ after (balise_error ∷ halts ∷ []) (causes_are (9 ∷ 11 ∷ []) ∷ offered 0 ∷ [])
    ∷ after (balise_error ∷ halts ∷ at_speed 0 loss ∷ []) (causes_are (9 ∷ 11 ∷ []) ∷ [])
    -- bit 6 is not releasable: 7 and 9 go, 11 stays
    ∷ after (halts ∷ stop 1 ∷ at_speed 0 loss ∷ []) (causes_are (6 ∷ 11 ∷ []) ∷ messages 1 ∷ [])
    -- bit 11 is ordered and dropped in one report; an order that begins anew is checked anew
    ∷ after (at_speed 0 loss ∷ []) (causes_are [] ∷ messages 0 ∷ [])
    ∷ after (at_speed 0 loss ∷ balise_error ∷ halts ∷ halts ∷ []) (causes_are (9 ∷ []) ∷ [])
    ∷ []

-- 02, F-2: after an error at 80 km/h and 18 further reports
abbrev pub hold_cases : List Case
hold_cases =
    -- "at the 20th further odometer report, at any speed": the 19th, the 20th, the 21st
    after (at_speed 0 loss ∷ []) (causes_are (9 ∷ []) ∷ offered 0 ∷ [])
    ∷ after (halts ∷ at_speed 2500 0 ∷ []) (causes_are (9 ∷ []) ∷ offered 1 ∷ [])
    ∷ after (halts ∷ at_speed 2500 loss ∷ []) (causes_are [] ∷ [])
    ∷ after (halts ∷ halts ∷ at_speed 2500 loss ∷ []) (causes_are [] ∷ [])
    -- a repeat and a refused report do not count
    ∷ after (again halts ∷ at_speed 10001 0 ∷ at_speed 0 loss ∷ []) (causes_are (9 ∷ []) ∷ offered 0 ∷ [])
    -- "A new error decides anew and counts afresh", and takes an offer back
    ∷ after (halts ∷ halts ∷ balise_error ∷ []) (offered 0 ∷ [])
    ∷ after (halts ∷ balise_error ∷ at_speed 0 loss ∷ []) (causes_are (9 ∷ []) ∷ offered 0 ∷ [])
    ∷ after (at_speed 2223 0 ∷ balise_error ∷ at_speed 2222 loss ∷ []) (causes_are [] ∷ [])
    ∷ after (at_speed 2223 0 ∷ balise_error ∷ halts ∷ balise_error ∷ at_speed 0 loss ∷ []) (causes_are (9 ∷ []) ∷ [])
    ∷ []

-- in DA, before any order
abbrev pub order_cases : List Case
order_cases =
    -- a drop before the limit satisfies; at the beginning it doesn't count
    after (too_fast 1000 ∷ too_fast 880 ∷ too_fast 1000 ∷ too_fast 1000 ∷ []) (causes_are (0 ∷ []) ∷ [])
    ∷ after (too_fast 880 ∷ too_fast 1000 ∷ too_fast 1000 ∷ too_fast 1000 ∷ []) (causes_are (0 ∷ 11 ∷ []) ∷ [])
    -- bit 10 is always releasable, and LOSS drops bit 11 beside it
    ∷ after (halts ∷ rolls 501 ∷ rolls 0 ∷ rolls 0 ∷ rolls 0 ∷ []) (causes_are (10 ∷ 11 ∷ []) ∷ offered 3 ∷ [])
    ∷ after (halts ∷ rolls 501 ∷ rolls 0 ∷ rolls 0 ∷ rolls 0 ∷ at_speed 100 (neutral + loss) ∷ [])
    (causes_are (10 ∷ []) ∷ messages 1 ∷ offered 2 ∷ [])
    -- the emergency order ends while bit 7 stands, and begins anew
    ∷ after (stop 1 ∷ report 1250 0 490 1000 loss ∷ []) (causes_are (7 ∷ []) ∷ order 2 ∷ [])
    ∷ after (stop 1 ∷ report 1250 0 490 1000 loss ∷ stop 0 ∷ at_speed 1250 0 ∷ []) (state_is 3 ∷ causes_are (5 ∷ 7 ∷ []) ∷ [])
    ∷ after (stop 1 ∷ report 1250 0 490 1000 loss ∷ stop 0 ∷ at_speed 1250 0 ∷ at_speed 1250 0 ∷ []) (state_is 4 ∷ [])
    ∷ []

-- T_EBCHK 2: "An emergency order without a 60 kPa drop by T_EBCHK shows NÖDBROMSFEL and leads to FA". After 30, 0 and a report the
-- count is 1
abbrev pub emergency_cases : List Case
emergency_cases =
    after (again halts ∷ []) (state_is 3 ∷ causes_are (5 ∷ []) ∷ messages 0 ∷ [])
    ∷ after (halts ∷ []) (written (4 ∷ 3 ∷ 0 ∷ 0 ∷ 0 ∷ 0 ∷ 0 ∷ 0 ∷ 255 ∷ 0 ∷ 0 ∷ 0 ∷ 2 ∷ 0 ∷ 255 ∷ 255 ∷ 255 ∷ 255 ∷ 8 ∷ []) ∷ [])
    ∷ after (with_pressure 881 ∷ []) (state_is 4 ∷ [])
    ∷ after (with_pressure 880 ∷ []) (state_is 3 ∷ messages 0 ∷ [])
    ∷ after (with_pressure 880 ∷ halts ∷ halts ∷ []) (state_is 3 ∷ [])
    -- a second emergency cause begins nothing
    ∷ after (stop 1 ∷ halts ∷ []) (state_is 4 ∷ [])
    -- "Outside DA order is 0 (FA: 3)": ordered by 02
    ∷ after (state 4 ∷ []) (written (4 ∷ 3 ∷ 0 ∷ 0 ∷ 0 ∷ 0 ∷ 0 ∷ 0 ∷ 255 ∷ 0 ∷ 0 ∷ 0 ∷ 0 ∷ 0 ∷ 255 ∷ 255 ∷ 255 ∷ 255 ∷ 8 ∷ []) ∷ [])
    ∷ []

-- after 30, 2, a full order, and a report
abbrev pub landslide_cases : List Case
landslide_cases =
    -- bit 11 comes two reports later, and begins the check of the emergency order
    after (halts ∷ halts ∷ halts ∷ []) (state_is 3 ∷ causes_are (8 ∷ 11 ∷ []) ∷ messages 1 ∷ [])
    ∷ after (halts ∷ halts ∷ halts ∷ halts ∷ []) (state_is 4 ∷ messages 3 ∷ [])
    -- both limits at one report, "before releases"; with TRYCKGIVARFEL
    ∷ after (stop 0 ∷ halts ∷ at_speed 0 loss ∷ []) (state_is 4 ∷ messages 3 ∷ [])
    ∷ after (stop 0 ∷ halts ∷ with_pressure 1911 ∷ []) (state_is 4 ∷ messages 7 ∷ [])
    ∷ []

-- with cylinder feedback and P_FULL 380, at the same count: 152 kPa is a drop of 150×152/380 = 60, 151.5 kPa is less; 956 kPa
-- counts as 0
abbrev pub cylinder_cases : List Case
cylinder_cases =
    after (too_fast 304 ∷ []) (causes_are (0 ∷ []) ∷ order 2 ∷ messages 0 ∷ [])
    ∷ after (too_fast 303 ∷ []) (causes_are (0 ∷ 11 ∷ []) ∷ messages 1 ∷ [])
    ∷ after (too_fast 1912 ∷ []) (causes_are (0 ∷ 11 ∷ []) ∷ messages 5 ∷ [])
    ∷ []

-- ---- flag bit 0, and a whole report

-- a fast train in DA: "“Soft” means soft with flag bit 0, else full"
abbrev pub soft_cases : List Case
soft_cases =
    after (too_fast 1000 ∷ []) (causes_are (0 ∷ []) ∷ order 1 ∷ [])
    ∷ after (balise_error ∷ []) (causes_are (9 ∷ []) ∷ order 1 ∷ [])
    ∷ after (halts ∷ rolls 501 ∷ []) (causes_are (10 ∷ []) ∷ order 1 ∷ [])
    ∷ after (approaches 0 35824 1000 0) (causes_are (2 ∷ []) ∷ order 2 ∷ [])
    ∷ after (approaches 0 50154 1000 halka) (causes_are (3 ∷ []) ∷ order 1 ∷ [])
    ∷ after (stop 2 ∷ too_fast 1000 ∷ []) (causes_are (0 ∷ 8 ∷ []) ∷ order 2 ∷ [])
    ∷ after (stop 2 ∷ stop 0 ∷ too_fast 1000 ∷ []) (causes_are (0 ∷ 5 ∷ 8 ∷ []) ∷ order 3 ∷ [])
    -- bit 7 is left of an unexpected stop, and bit 9 stands; VMAX is 280 (0118); curve 9 to 70 km/h, 3,550 m away and 3 ‰ uphill,
    -- is in C at 7,400 cm/s and permits 258 km/h (0102); the pressure is too high
    ∷ after (every_field ++ (report 7400 1000 0 1911 0 ∷ []))
    (begins (3 ∷ 2 ∷ 0x02 ∷ 0x80 ∷ 0x01 ∷ 0x02 ∷ 0x01 ∷ 0x18 ∷ 9 ∷ 5 ∷ 2 ∷ 3 ∷ 4 ∷ 1 ∷ []) ∷ [])
    ∷ []

-- ---- feedback

-- a slow train in DE, after 30 reports with 500 kPa
abbrev pub settling_cases : List Case
settling_cases =
    -- "After 30 further reports within 20, P_REF is P0": 480 and 479.5, 520 and 520.5 kPa beside 500; without it DA is refused (11)
    after (state 3 ∷ []) (refused 11 ∷ [])
    ∷ after (halts ∷ state 3 ∷ []) (answer 0 ∷ [])
    ∷ after (with_pressure 960 ∷ state 3 ∷ []) (answer 0 ∷ [])
    ∷ after (with_pressure 959 ∷ state 3 ∷ []) (refused 11 ∷ [])
    ∷ after (with_pressure 1040 ∷ state 3 ∷ []) (answer 0 ∷ [])
    ∷ after (with_pressure 1041 ∷ state 3 ∷ []) (refused 11 ∷ [])
    -- "TRYCKGIVARFEL at the last odometer report": "Below −50", "Above 955"; FF9C is −50 kPa, FF9B is −50.5
    ∷ after (with_pressure 1910 ∷ []) (messages 0 ∷ [])
    ∷ after (with_pressure 1911 ∷ []) (written (0 ∷ 0 ∷ 0 ∷ 0 ∷ 0 ∷ 0 ∷ 0 ∷ 0 ∷ 255 ∷ 0 ∷ 0 ∷ 0 ∷ 4 ∷ 0 ∷ 255 ∷ 255 ∷ 255 ∷ 255 ∷ 8 ∷ []) ∷ [])
    ∷ after (with_pressure 0xFF9C ∷ []) (messages 0 ∷ [])
    ∷ after (with_pressure 0xFF9B ∷ []) (messages 4 ∷ [])
    ∷ after (with_pressure 1911 ∷ state 1 ∷ []) (state_is 1 ∷ messages 4 ∷ [])
    ∷ after (with_pressure 1911 ∷ halts ∷ []) (messages 0 ∷ [])
    ∷ after (with_pressure 1911 ∷ slow_train ∷ []) (messages 0 ∷ [])
    -- a press is fresh against the last report in whatever state: LOSS held since DE drops nothing
    ∷ after (at_speed 2500 loss ∷ state 3 ∷ balise_error ∷ at_speed 0 loss ∷ []) (causes_are (9 ∷ []) ∷ offered 1 ∷ [])
    ∷ after (at_speed 2500 0 ∷ state 3 ∷ balise_error ∷ at_speed 0 loss ∷ []) (causes_are [] ∷ offered 0 ∷ [])
    ∷ []

-- after a report with 500 kPa, one with 399.5 and 29 with 400: "A P_INT more than 20 from P0 is judged as if waiting", and of "a
-- P_INT of 400–550" it is the first 400 that is saved
abbrev pub waiting_cases : List Case
waiting_cases =
    after (with_pressure 800 ∷ state 3 ∷ []) (refused 11 ∷ [])
    ∷ after (with_pressure 800 ∷ with_pressure 800 ∷ state 3 ∷ []) (answer 0 ∷ [])
    ∷ []

-- after nine reports with 470 kPa since P_REF was set to 500: "at every tenth report from there: P_REF < P_INT adds 1.5; P_INT <
-- P_REF ≤ P_INT + 30 takes 0.5; otherwise no change". P_REF is then 499.5, 500 and 501.5, by what drop is sufficient in D
abbrev pub reference_cases : List Case
reference_cases =
    after (with_pressure 940 ∷ state 3 ∷ approaches 0 43324 899 0) (causes_are [] ∷ [])
    ∷ after (with_pressure 940 ∷ state 3 ∷ approaches 0 43324 900 0) (causes_are (2 ∷ []) ∷ [])
    ∷ after (with_pressure 939 ∷ state 3 ∷ approaches 0 43324 900 0) (causes_are [] ∷ [])
    ∷ after (with_pressure 1001 ∷ state 3 ∷ approaches 0 43324 903 0) (causes_are [] ∷ [])
    ∷ after (with_pressure 1001 ∷ state 3 ∷ approaches 0 43324 904 0) (causes_are (2 ∷ []) ∷ [])
    ∷ after (state 3 ∷ approaches 0 43324 900 0) (causes_are [] ∷ [])
    ∷ []

-- ---- curves

-- a slow train in DA
abbrev pub curve_cases : List Case
curve_cases =
    -- on level track, b 700: the line is met at T = 0 from 35,824 cm on, and 250 cm further off for each tenth of lead
    after (approaches 0 69575 1000 0) (shows 1 1 0 0 ∷ [])
    ∷ after (approaches 0 69574 1000 0) (shows 1 3 1 1 ∷ [])
    ∷ after (approaches 0 59575 1000 0) (shows 1 3 1 1 ∷ [])
    ∷ after (approaches 0 59574 1000 0) (shows 1 4 2 2 ∷ [])
    -- "B past permitted 3"; the permitted speed is 90 km/h, 2,500 cm/s, until then
    ∷ after (approaches 0 52075 1000 0) (shows 1 4 2 2 ∷ permitted 90 ∷ vmax 98 ∷ [])
    ∷ after (approaches 0 52074 1000 0) (shows 1 4 2 3 ∷ permitted 89 ∷ vmax 98 ∷ [])
    ∷ after (approaches 0 45825 1000 0) (shows 1 4 2 3 ∷ [])
    ∷ after (approaches 0 45824 1000 0) (shows 1 5 2 3 ∷ [])
    ∷ after (approaches 0 43325 1000 0) (shows 1 5 2 3 ∷ causes_are [] ∷ [])
    -- in D "with drop below sufficient": 50 kPa is sufficient, 49.5 is not
    ∷ after (approaches 0 43324 1000 0) (shows 1 6 2 4 ∷ causes_are (2 ∷ []) ∷ order 2 ∷ offered 0 ∷ [])
    ∷ after (approaches 0 43324 901 0) (shows 1 6 2 4 ∷ causes_are (2 ∷ []) ∷ [])
    ∷ after (approaches 0 43324 900 0) (shows 1 6 2 3 ∷ causes_are [] ∷ order 0 ∷ [])
    ∷ after (approaches 0 35825 900 0) (shows 1 6 2 3 ∷ causes_are [] ∷ [])
    ∷ after (approaches 0 35824 900 0) (shows 1 7 2 4 ∷ causes_are (2 ∷ []) ∷ [])
    -- F with the margin 10: the line is met at 80 km/h
    ∷ after (approaches 0 26456 900 0) (shows 1 7 2 4 ∷ causes_are (2 ∷ []) ∷ order 2 ∷ [])
    ∷ after (approaches 0 26455 900 0) (shows 1 8 2 4 ∷ causes_are (2 ∷ 4 ∷ []) ∷ order 3 ∷ [])
    -- "uphill (positive) adds 9 per ‰, downhill takes 10": +10 is b 790, −10 (F6) is b 600
    ∷ after (approaches 10 31744 1000 0) (shows 1 6 2 4 ∷ [])
    ∷ after (approaches 10 31743 1000 0) (shows 1 7 2 4 ∷ [])
    ∷ after (approaches 0xF6 41796 1000 0) (shows 1 6 2 4 ∷ [])
    ∷ after (approaches 0xF6 41795 1000 0) (shows 1 7 2 4 ∷ [])
    -- "soft with HALKA on": b 500; "bit 2 HALKA off, 3 on"
    ∷ after (approaches 0 50155 900 halka) (shows 1 6 2 3 ∷ causes_are [] ∷ [])
    ∷ after (approaches 0 50154 900 halka) (shows 1 7 2 4 ∷ causes_are (3 ∷ []) ∷ order 2 ∷ [])
    ∷ after (approaches 0 50154 900 halka ++ (at_speed 2500 0 ∷ [])) (shows 1 4 2 3 ∷ causes_are (3 ∷ []) ∷ [])
    ∷ after (approaches 0 43324 1000 0 ++ (at_speed 2500 halka ∷ [])) (causes_are (2 ∷ 3 ∷ []) ∷ [])
    -- "v ≥ target+10 (kind 0)": 54 km/h is 1,500; u' exceeds w from 1,501 on
    ∷ after (curve 1 0 0 44 0 ∷ at_speed 1499 0 ∷ []) (shows 1 7 2 4 ∷ causes_are [] ∷ [])
    ∷ after (curve 1 0 0 44 0 ∷ at_speed 1500 0 ∷ []) (shows 1 7 2 4 ∷ causes_are (2 ∷ []) ∷ [])
    ∷ after (curve 1 0 0 44 0 ∷ at_speed 1501 0 ∷ []) (shows 1 8 2 4 ∷ causes_are (2 ∷ 4 ∷ []) ∷ [])
    -- "v is above the release speed (kind 1)": 1,111 is A, 1,112 is F
    ∷ after (curve 1 1 0 40 0 ∷ at_speed 1111 0 ∷ []) (shows 1 1 0 0 ∷ causes_are [] ∷ [])
    ∷ after (curve 1 1 0 40 0 ∷ at_speed 1112 0 ∷ []) (shows 1 8 2 4 ∷ causes_are (2 ∷ 4 ∷ []) ∷ order 3 ∷ [])
    -- "no curve brakes", whatever the interval
    ∷ after (curve 1 0 0 44 0 ∷ at_speed 1501 0 ∷ at_speed 1500 loss ∷ []) (causes_are (2 ∷ 4 ∷ []) ∷ offered 0 ∷ [])
    ∷ after (curve 1 0 0 44 0 ∷ at_speed 1501 0 ∷ at_speed 1499 0 ∷ []) (causes_are (2 ∷ 4 ∷ []) ∷ offered 1 ∷ [])
    ∷ after (curve 1 0 0 44 0 ∷ at_speed 1501 halka ∷ at_speed 1499 (halka + loss) ∷ []) (shows 1 7 2 4 ∷ causes_are [] ∷ [])
    -- "A curve's past in B is noted at reports in DA": not in Bf, not by a command, and not in HS, where d falls too
    ∷ after (approaches 0 69574 1000 0 ++ (at_speed 1000 0 ∷ [])) (shows 1 1 0 0 ∷ [])
    ∷ after (at_speed 2500 0 ∷ curve 1 0 300 40 0 ∷ []) (shows 1 7 2 4 ∷ causes_are [] ∷ [])
    ∷ after (at_speed 2500 0 ∷ curve 1 0 300 40 0 ∷ curve 1 0 10000 40 0 ∷ []) (shows 1 1 0 0 ∷ [])
    ∷ after (state 1 ∷ state 2 ∷ approaches 0 59574 1000 0 ++ (state 3 ∷ [])) (shows 1 4 2 2 ∷ [])
    ∷ after (state 1 ∷ state 2 ∷ approaches 0 59574 1000 0 ++ (state 3 ∷ curve 1 0 10000 40 0 ∷ [])) (shows 1 1 0 0 ∷ [])
    -- "Shown: latest computed interval, then lowest permitted speed": of two in A, too
    ∷ after (curve 2 0 10000 40 0 ∷ approaches 0 59574 1000 0) (shows 1 4 2 2 ∷ [])
    ∷ after (curve 0 0 10000 40 0 ∷ approaches 0 59574 1000 0) (shows 1 4 2 2 ∷ [])
    ∷ after (curve 0 0 900 40 0 ∷ approaches 0 69574 1000 0 ++ (at_speed 0 0 ∷ [])) (shows 1 1 0 0 ∷ permitted 98 ∷ [])
    ∷ []

-- after a report with curve 1 in B, at 59,574 cm and 2,500 cm/s
abbrev pub past_cases : List Case
past_cases =
    -- "A curve once in B or later that computes A or Bf is shown as Ab"
    after (at_speed 1000 0 ∷ []) (shows 1 2 2 2 ∷ [])
    -- "A held id is replaced (its past in B is kept ..)": in A, in Bf and in B; ended and given anew it has none
    ∷ after (curve 1 0 10000 40 0 ∷ []) (shows 1 2 2 2 ∷ [])
    ∷ after (curve 1 0 650 40 0 ∷ []) (shows 1 2 2 2 ∷ [])
    ∷ after (curve 1 0 590 40 0 ∷ []) (shows 1 4 2 2 ∷ [])
    ∷ after (curve_end 1 ∷ []) (shows 255 0 0 0 ∷ permitted 98 ∷ [])
    ∷ after (curve_end 1 ∷ curve 1 0 10000 40 0 ∷ []) (shows 1 1 0 0 ∷ [])
    -- the computed interval counts, so that Bf goes before Ab; "then lowest permitted speed, then lowest id"
    ∷ after (curve 1 0 10000 40 0 ∷ curve 2 0 650 40 0 ∷ []) (shows 2 3 1 1 ∷ [])
    ∷ after (curve 2 0 550 40 0 ∷ []) (shows 2 4 2 2 ∷ [])
    ∷ after (curve 7 0 550 40 0 ∷ curve 4 0 550 40 0 ∷ []) (shows 4 4 2 2 ∷ [])
    ∷ after (curve 4 0 550 40 0 ∷ curve 7 0 550 40 0 ∷ []) (shows 4 4 2 2 ∷ [])
    ∷ []

-- ---- places

-- a slow train in HS, with 15 of 16 places held: "A new id finds all 16 curves, or all 16 sections, held", "A held id is
-- replaced", "A freed place is used again"
abbrev pub fifteen : List ℕ
fifteen = 10 ∷ 11 ∷ 12 ∷ 13 ∷ 14 ∷ 15 ∷ 16 ∷ 17 ∷ 18 ∷ 19 ∷ 20 ∷ 21 ∷ 22 ∷ 23 ∷ 24 ∷ []

-- with the curves 10 to 24
abbrev pub curve_place_cases : List Case
curve_place_cases =
    after (curve 25 0 1000 40 0 ∷ []) (answer 0 ∷ [])
    ∷ after (curve 25 0 1000 40 0 ∷ curve 30 0 1000 40 0 ∷ []) (refused 13 ∷ [])
    ∷ after (curve 25 0 1000 40 0 ∷ curve 12 0 500 60 0 ∷ []) (answer 0 ∷ [])
    ∷ after (curve 25 0 1000 40 0 ∷ section 30 90 ∷ []) (answer 0 ∷ [])
    ∷ after (curve 25 0 1000 40 0 ∷ curve_end 12 ∷ curve 30 0 1000 40 0 ∷ []) (answer 0 ∷ [])
    ∷ after (curve 25 0 1000 40 0 ∷ curve_end 12 ∷ curve 30 0 1000 40 0 ∷ curve 31 0 1000 40 0 ∷ []) (refused 13 ∷ [])
    -- 9 before 13
    ∷ after (curve 25 0 1000 40 0 ∷ curve 30 0 1000 9 0 ∷ []) (refused 9 ∷ [])
    ∷ []

-- with the sections 10 to 24: an ending one is held "until the ground moved since reaches the train's length": 999 and 1,000 cm
abbrev pub section_place_cases : List Case
section_place_cases =
    after (section 25 90 ∷ []) (answer 0 ∷ [])
    ∷ after (section 25 90 ∷ section 30 90 ∷ []) (refused 13 ∷ [])
    ∷ after (section 25 90 ∷ section 12 80 ∷ []) (answer 0 ∷ [])
    ∷ after (section 25 90 ∷ curve 30 0 1000 40 0 ∷ []) (answer 0 ∷ [])
    ∷ after (section 25 90 ∷ section_end 12 ∷ section 30 90 ∷ []) (refused 13 ∷ [])
    ∷ after (section 25 90 ∷ section_end 12 ∷ travels 999 ∷ section 30 90 ∷ []) (refused 13 ∷ [])
    ∷ after (section 25 90 ∷ section_end 12 ∷ travels 999 ∷ travels 1 ∷ section 30 90 ∷ []) (answer 0 ∷ [])
    ∷ after (section 25 90 ∷ section_end 12 ∷ travels 1000 ∷ section 30 90 ∷ section 31 90 ∷ []) (refused 13 ∷ [])
    ∷ []

-- with none
abbrev pub place_cases : List Case
place_cases =
    -- "The id to be ended isn't held, or its section is already ending"; curves and sections have ids of their own
    after (curve 6 0 1000 40 0 ∷ curve_end 6 ∷ []) (answer 0 ∷ [])
    ∷ after (curve 6 0 1000 40 0 ∷ curve_end 7 ∷ []) (refused 12 ∷ [])
    ∷ after (curve 6 0 1000 40 0 ∷ section_end 6 ∷ []) (refused 12 ∷ [])
    ∷ after (curve 6 0 1000 40 0 ∷ curve_end 6 ∷ curve_end 6 ∷ []) (refused 12 ∷ [])
    ∷ after (section 6 90 ∷ section_end 6 ∷ []) (answer 0 ∷ [])
    ∷ after (section 6 90 ∷ section_end 7 ∷ []) (refused 12 ∷ [])
    ∷ after (section 6 90 ∷ curve_end 6 ∷ []) (refused 12 ∷ [])
    ∷ after (section 6 90 ∷ section_end 6 ∷ section_end 6 ∷ []) (refused 12 ∷ [])
    ∷ after (section 6 90 ∷ section_end 6 ∷ section 6 90 ∷ section_end 6 ∷ []) (answer 0 ∷ [])
    -- "Ending a section at the front of the train": VMAX in DA
    ∷ after (section 6 90 ∷ section_end 6 ∷ travels 999 ∷ state 3 ∷ []) (vmax 90 ∷ [])
    ∷ after (section 6 90 ∷ section_end 6 ∷ travels 1000 ∷ state 3 ∷ []) (vmax 98 ∷ [])
    ∷ after (section 6 90 ∷ travels 1000 ∷ section_end 6 ∷ state 3 ∷ []) (vmax 90 ∷ [])
    ∷ after (section 6 90 ∷ state 3 ∷ section_end 6 ∷ travels 999 ∷ []) (vmax 90 ∷ [])
    ∷ after (section 6 90 ∷ state 3 ∷ section_end 6 ∷ travels 999 ∷ travels 1 ∷ []) (vmax 98 ∷ [])
    -- told to end twice, its ground goes on; given again it stands, and its ground is 0 at the next end
    ∷ after (section 6 90 ∷ section_end 6 ∷ travels 600 ∷ section_end 6 ∷ travels 400 ∷ state 3 ∷ []) (vmax 98 ∷ [])
    ∷ after (section 6 90 ∷ section_end 6 ∷ section 6 80 ∷ travels 1000 ∷ state 3 ∷ []) (vmax 80 ∷ [])
    ∷ after (section 6 90 ∷ section_end 6 ∷ travels 999 ∷ section 6 90 ∷ section_end 6 ∷ travels 999 ∷ state 3 ∷ []) (vmax 90 ∷ [])
    -- a report sent again moves nothing
    ∷ after (section 6 90 ∷ section_end 6 ∷ travels 600 ∷ again (travels 600) ∷ travels 399 ∷ state 3 ∷ []) (vmax 90 ∷ [])
    ∷ []

-- ---- refusals

-- before any start
abbrev pub first_cases : List Case
first_cases =
    -- 1 before 2, 3, 4 and 5
    after (with_area 18 slow_train ∷ []) (refused 1 ∷ [])
    ∷ after (with_area 20 slow_train ∷ []) (refused 1 ∷ [])
    ∷ after (with_area 18 (bytes []) ∷ []) (refused 1 ∷ [])
    ∷ after (with_area 0 (bytes (0x7F ∷ [])) ∷ []) (refused 1 ∷ [])
    ∷ after (with_area 20 (bytes (0x02 ∷ [])) ∷ []) (refused 1 ∷ [])
    ∷ after (with_area 18 (state 1) ∷ []) (refused 1 ∷ [])
    -- 2; 3; 4 before 5
    ∷ after (bytes [] ∷ []) (refused 2 ∷ [])
    ∷ after (bytes (0x7F ∷ []) ∷ []) (refused 3 ∷ [])
    ∷ after (bytes (0x00 ∷ 0 ∷ 0 ∷ 0 ∷ 1 ∷ []) ∷ []) (refused 3 ∷ [])
    ∷ after (bytes (0x01 ∷ []) ∷ []) (refused 4 ∷ [])
    ∷ after (bytes (0x02 ∷ 0 ∷ 0 ∷ 0 ∷ 1 ∷ []) ∷ []) (refused 4 ∷ [])
    -- 5 before 6, 7, 9 and 10
    ∷ after (halts ∷ []) (refused 5 ∷ [])
    ∷ after (with_number 0 halts ∷ []) (refused 5 ∷ [])
    ∷ after (with_number 9 halts ∷ []) (refused 5 ∷ [])
    ∷ after (state 5 ∷ []) (refused 5 ∷ [])
    ∷ after (stop 0 ∷ []) (refused 5 ∷ [])
    -- 6 before 9; 9; a start takes any number but 0
    ∷ after (with_number 0 slow_train ∷ []) (refused 6 ∷ [])
    ∷ after (with_number 0 too_long ∷ []) (refused 6 ∷ [])
    ∷ after (too_long ∷ []) (refused 9 ∷ [])
    ∷ after (too_long ∷ halts ∷ []) (refused 5 ∷ [])
    ∷ after (with_number 77 slow_train ∷ []) (answer 0 ∷ [])
    ∷ after (with_number 77 slow_train ∷ with_number 78 halts ∷ []) (answer 0 ∷ [])
    -- the number has four bytes
    ∷ after (with_number 0x01020304 slow_train ∷ with_number 0x01020305 halts ∷ []) (answer 0 ∷ [])
    ∷ after (with_number 0x01020304 slow_train ∷ with_number 0x01020405 halts ∷ []) (refused 7 ∷ [])
    ∷ after (with_number 0x01020304 slow_train ∷ with_number 0x01030305 halts ∷ []) (refused 7 ∷ [])
    ∷ after (with_number 0x01020304 slow_train ∷ with_number 0x02020305 halts ∷ []) (refused 7 ∷ [])
    ∷ after (with_number 0x00FFFFFF slow_train ∷ with_number 0x01000000 halts ∷ []) (answer 0 ∷ [])
    -- "After number FFFFFFFF only a start is taken"
    ∷ after (with_number 0xFFFFFFFE slow_train ∷ with_number 0xFFFFFFFF halts ∷ []) (answer 0 ∷ [])
    ∷ after (with_number 0xFFFFFFFF slow_train ∷ with_number 0 halts ∷ []) (refused 6 ∷ [])
    ∷ after (with_number 0xFFFFFFFF slow_train ∷ with_number 1 halts ∷ []) (refused 7 ∷ [])
    ∷ after (with_number 0xFFFFFFFF slow_train ∷ with_number 0xFFFFFFFF halts ∷ []) (refused 7 ∷ [])
    ∷ after (with_number 0xFFFFFFFF slow_train ∷ with_number 0xFFFFFFFF slow_train ∷ []) (answer 100 ∷ [])
    ∷ after (with_number 0xFFFFFFFF slow_train ∷ with_number 1 slow_train ∷ []) (answer 0 ∷ [])
    -- a start again, and another one with its number
    ∷ after (slow_train ∷ again slow_train ∷ []) (answer 100 ∷ state_is 0 ∷ [])
    ∷ after (slow_train ∷ state 1 ∷ with_number 1 slow_train ∷ []) (answer 0 ∷ state_is 0 ∷ [])
    ∷ after (slow_train ∷ again fast_train ∷ []) (answer 0 ∷ [])
    -- 10 before 11; 11: there is no reference pressure
    ∷ after (slow_train ∷ state 1 ∷ state 3 ∷ []) (refused 10 ∷ [])
    ∷ after (slow_train ∷ state 3 ∷ []) (refused 11 ∷ [])
    ∷ after (slow_train ∷ state 1 ∷ state 2 ∷ state 3 ∷ []) (refused 11 ∷ [])
    ∷ after (slow_train ∷ state 1 ∷ state 2 ∷ curve 3 0 1000 40 0 ∷ []) (answer 0 ∷ [])
    ∷ []

-- a slow train in HS
abbrev pub later_cases : List Case
later_cases =
    -- 6 before 7; 7 before 9, 10 and 12
    after (with_number 0 halts ∷ []) (refused 6 ∷ [])
    ∷ after (again halts ∷ []) (refused 7 ∷ [])
    ∷ after (skipping halts ∷ []) (refused 7 ∷ [])
    ∷ after (skipping (state 5) ∷ []) (refused 7 ∷ [])
    ∷ after (skipping (stop 0) ∷ []) (refused 7 ∷ [])
    ∷ after (skipping (curve_end 7) ∷ []) (refused 7 ∷ [])
    -- 9 before 10 and 12
    ∷ after (stop 3 ∷ []) (refused 9 ∷ [])
    ∷ after (stop 2 ∷ []) (refused 10 ∷ [])
    ∷ after (curve_end 255 ∷ []) (refused 9 ∷ [])
    -- 10 before 12
    ∷ after (state 1 ∷ curve_end 7 ∷ []) (refused 10 ∷ [])
    -- in FA: 6, 7, 8 before 9, 10 and 12; a repeat; a start
    ∷ after (state 4 ∷ with_number 0 halts ∷ []) (refused 6 ∷ [])
    ∷ after (state 4 ∷ skipping halts ∷ []) (refused 7 ∷ [])
    ∷ after (state 4 ∷ halts ∷ []) (refused 8 ∷ [])
    ∷ after (state 4 ∷ state 5 ∷ []) (refused 8 ∷ [])
    ∷ after (state 4 ∷ stop 0 ∷ []) (refused 8 ∷ [])
    ∷ after (state 4 ∷ curve_end 7 ∷ []) (refused 8 ∷ [])
    ∷ after (state 4 ∷ again (state 4) ∷ []) (answer 100 ∷ state_is 4 ∷ order 3 ∷ [])
    ∷ after (state 4 ∷ too_long ∷ []) (refused 9 ∷ [])
    ∷ after (state 4 ∷ slow_train ∷ []) (answer 0 ∷ state_is 0 ∷ order 0 ∷ [])
    -- "100 again .. This is the answer once 1–8 are passed; 9–13 don't judge a repeat": for it 10, 10 and 12 would apply
    ∷ after (state 1 ∷ again (state 1) ∷ []) (answer 100 ∷ state_is 1 ∷ [])
    ∷ after (state 3 ∷ again (state 3) ∷ []) (answer 100 ∷ state_is 3 ∷ [])
    ∷ after (curve 7 0 1000 40 0 ∷ curve_end 7 ∷ again (curve_end 7) ∷ []) (answer 100 ∷ [])
    ∷ after (section 7 90 ∷ section_end 7 ∷ again (section_end 7) ∷ []) (answer 100 ∷ [])
    ∷ after (with_area 18 (again (state 2)) ∷ []) (refused 1 ∷ [])
    -- the same report, again and again; the number, or a byte, of another
    ∷ after (state 3 ∷ stop 1 ∷ again (stop 1) ∷ again (stop 1) ∷ []) (answer 100 ∷ causes_are (6 ∷ 7 ∷ []) ∷ vmax 40 ∷ [])
    ∷ after (state 1 ∷ state 2 ∷ again (again (state 1)) ∷ []) (refused 7 ∷ [])
    ∷ after (state 1 ∷ again (state 2) ∷ []) (refused 7 ∷ [])
    ∷ after (halts ∷ again (at_speed 0 loss) ∷ []) (refused 7 ∷ [])
    ∷ after (state 1 ∷ again proceed ∷ []) (refused 7 ∷ [])
    -- "A refusal .. doesn't use up its number", and a refused command in between does not matter
    ∷ after (state 0 ∷ state 1 ∷ []) (answer 0 ∷ [])
    ∷ after (state 1 ∷ state 1 ∷ skipping halts ∷ bytes [] ∷ again (state 1) ∷ []) (answer 100 ∷ state_is 1 ∷ [])
    ∷ after (too_long ∷ curve 7 0 1000 40 0 ∷ []) (answer 0 ∷ state_is 2 ∷ [])
    ∷ []

-- ---- brake test A (02, F-3)

-- a train with T_B 3 in DE, asked for a test, after 30 reports with 500 kPa
abbrev pub test_cases : List Case
test_cases =
    -- "At the report that settles it, full service is ordered with no cause bit", with flag bit 0 too; ground alone does not matter
    after (halts ∷ []) (written (0 ∷ 2 ∷ 0 ∷ 0 ∷ 0 ∷ 0 ∷ 0 ∷ 0 ∷ 255 ∷ 0 ∷ 0 ∷ 0 ∷ 8 ∷ 0 ∷ 255 ∷ 255 ∷ 255 ∷ 255 ∷ 8 ∷ []) ∷ [])
    ∷ after (report 0 1200 0 1000 0 ∷ []) (order 2 ∷ messages 8 ∷ [])
    -- "30 reports within 20 kPa": 480 settles it at 500, 479.5 does not; nor does a drop of 60 before it
    ∷ after (with_pressure 960 ∷ []) (order 2 ∷ messages 8 ∷ [])
    ∷ after (with_pressure 959 ∷ []) (order 0 ∷ messages 8 ∷ [])
    ∷ after (with_pressure 880 ∷ []) (order 0 ∷ messages 8 ∷ [])
    ∷ after (with_pressure 960 ∷ with_pressure 880 ∷ []) (order 0 ∷ messages 16 ∷ [])
    -- "a drop of 60 kPa": 440 has it from 500, 440.5 has not; at a report of count 1 to T_B, the first and the third
    ∷ after (halts ∷ with_pressure 880 ∷ []) (order 0 ∷ causes_are [] ∷ messages 16 ∷ [])
    ∷ after (halts ∷ with_pressure 881 ∷ []) (order 2 ∷ messages 8 ∷ [])
    ∷ after (halts ∷ halts ∷ halts ∷ []) (order 2 ∷ messages 8 ∷ [])
    ∷ after (halts ∷ halts ∷ halts ∷ with_pressure 880 ∷ []) (order 0 ∷ messages 16 ∷ [])
    ∷ after (halts ∷ halts ∷ halts ∷ with_pressure 881 ∷ []) (order 0 ∷ messages 32 ∷ [])
    ∷ after (halts ∷ halts ∷ halts ∷ halts ∷ with_pressure 880 ∷ []) (order 0 ∷ messages 32 ∷ [])
    -- "A report with P_EXT below −50 or above 955, or with speed above 0, fails the test before anything else"
    ∷ after (at_speed 1 0 ∷ []) (order 0 ∷ messages 32 ∷ [])
    ∷ after (with_pressure 1911 ∷ []) (order 0 ∷ messages 36 ∷ [])
    ∷ after (with_pressure 1910 ∷ []) (order 0 ∷ messages 8 ∷ [])
    ∷ after (with_pressure 0xFF9B ∷ []) (order 0 ∷ messages 36 ∷ [])
    ∷ after (with_pressure 0xFF9C ∷ []) (order 0 ∷ messages 8 ∷ [])
    ∷ after (halts ∷ report 1 0 0 880 0 ∷ []) (order 0 ∷ messages 32 ∷ [])
    ∷ after (halts ∷ with_pressure 0xFF9B ∷ []) (order 0 ∷ messages 36 ∷ [])
    ∷ after (halts ∷ with_pressure 0xFF9C ∷ []) (order 0 ∷ messages 16 ∷ [])
    -- "15, test already running"; once it has ended another may be asked for
    ∷ after (test_brakes ∷ []) (refused 15 ∷ [])
    ∷ after (halts ∷ test_brakes ∷ []) (refused 15 ∷ [])
    ∷ after (test_brakes ∷ halts ∷ []) (order 2 ∷ [])
    ∷ after (at_speed 1 0 ∷ test_brakes ∷ []) (answer 0 ∷ order 0 ∷ messages 40 ∷ [])
    -- "also while another runs"
    ∷ after (halts ∷ with_pressure 880 ∷ test_brakes ∷ []) (messages 24 ∷ [])
    ∷ after (halts ∷ with_pressure 880 ∷ test_brakes ∷ again test_brakes ∷ []) (answer 100 ∷ messages 24 ∷ [])
    ∷ after (halts ∷ with_pressure 880 ∷ test_brakes ∷ at_speed 1 0 ∷ []) (messages 32 ∷ [])
    -- "Leaving DE ends an unfinished test as failed"; a refused 02 does not, nor does it end one that has ended
    ∷ after (state 1 ∷ []) (state_is 1 ∷ messages 32 ∷ [])
    ∷ after (halts ∷ state 1 ∷ []) (state_is 1 ∷ order 0 ∷ messages 32 ∷ [])
    ∷ after (halts ∷ state 3 ∷ []) (state_is 3 ∷ order 0 ∷ messages 32 ∷ [])
    ∷ after (halts ∷ state 4 ∷ []) (state_is 4 ∷ order 3 ∷ messages 32 ∷ [])
    ∷ after (state 3 ∷ []) (refused 11 ∷ [])
    ∷ after (state 2 ∷ halts ∷ []) (order 2 ∷ messages 8 ∷ [])
    ∷ after (halts ∷ with_pressure 880 ∷ state 3 ∷ []) (state_is 3 ∷ messages 16 ∷ [])
    ∷ after (halts ∷ with_pressure 880 ∷ state 1 ∷ test_brakes ∷ []) (refused 14 ∷ [])
    -- a start forgets it
    ∷ after (halts ∷ untested_train ∷ []) (order 0 ∷ messages 0 ∷ [])
    ∷ after (halts ∷ with_pressure 880 ∷ untested_train ∷ []) (messages 0 ∷ [])
    -- "the unit's own feedback goes on untouched": it has been set with the test's, and is not begun afresh by another
    ∷ after (halts ∷ with_pressure 880 ∷ test_brakes ∷ state 3 ∷ []) (answer 0 ∷ [])
    ∷ []

-- the same train with a reference of 500 kPa, asked for a test after that, and 30 reports with 440: "the steady pressure is the test's
-- saved one". The 31st settles it, with count 0, and its drop of 60 from 500 is none of the test's
abbrev pub steady_cases : List Case
steady_cases =
    after (with_pressure 880 ∷ []) (order 2 ∷ messages 8 ∷ [])
    ∷ after (with_pressure 880 ∷ with_pressure 761 ∷ []) (order 2 ∷ messages 8 ∷ [])
    ∷ after (with_pressure 880 ∷ with_pressure 760 ∷ []) (order 0 ∷ messages 16 ∷ [])
    -- "the unit's own feedback goes on untouched": P_REF is 500 still, and a drop of 50 from it is sufficient in D
    ∷ after (with_pressure 880 ∷ state 3 ∷ approaches 0 49074 900 0) (shows 1 6 2 3 ∷ order 0 ∷ [])
    ∷ after (with_pressure 880 ∷ state 3 ∷ approaches 0 49074 901 0) (shows 1 6 2 4 ∷ order 2 ∷ [])
    ∷ []

-- the same train in DA, with the extra: 250 cm further off for each of its 50 tenths in D, C, permitted, B and Bf, but not in E and F
abbrev pub extra_cases : List Case
extra_cases =
    after (approaches 0 75325 1000 0) (shows 1 1 0 0 ∷ [])
    ∷ after (approaches 0 75324 1000 0) (shows 1 3 1 1 ∷ [])
    ∷ after (approaches 0 65325 1000 0) (shows 1 3 1 1 ∷ [])
    ∷ after (approaches 0 65324 1000 0) (shows 1 4 2 2 ∷ [])
    ∷ after (approaches 0 57825 1000 0) (shows 1 4 2 2 ∷ permitted 90 ∷ [])
    ∷ after (approaches 0 57824 1000 0) (shows 1 4 2 3 ∷ permitted 89 ∷ [])
    ∷ after (approaches 0 51575 1000 0) (shows 1 4 2 3 ∷ [])
    ∷ after (approaches 0 51574 1000 0) (shows 1 5 2 3 ∷ [])
    ∷ after (approaches 0 49075 1000 0) (shows 1 5 2 3 ∷ order 0 ∷ [])
    ∷ after (approaches 0 49074 1000 0) (shows 1 6 2 4 ∷ order 2 ∷ [])
    ∷ after (approaches 0 35825 1000 0) (shows 1 6 2 4 ∷ [])
    ∷ after (approaches 0 35824 1000 0) (shows 1 7 2 4 ∷ [])
    ∷ after (approaches 0 26456 1000 0) (shows 1 7 2 4 ∷ [])
    ∷ after (approaches 0 26455 1000 0) (shows 1 8 2 4 ∷ [])
    -- nor in bit 11's time
    ∷ after (replicate 3 (too_fast 1000)) (causes_are (0 ∷ []) ∷ [])
    ∷ after (replicate 4 (too_fast 1000)) (causes_are (0 ∷ 11 ∷ []) ∷ [])
    ∷ []

-- and after a test that has passed, in DA, with none
abbrev pub tested_cases : List Case
tested_cases =
    after (approaches 0 36575 1000 0) (shows 1 5 2 3 ∷ order 0 ∷ [])
    ∷ after (approaches 0 36574 1000 0) (shows 1 6 2 4 ∷ order 2 ∷ [])
    ∷ after (approaches 0 35825 1000 0) (shows 1 6 2 4 ∷ [])
    ∷ after (approaches 0 35824 1000 0) (shows 1 7 2 4 ∷ [])
    ∷ []

-- ---- areas (02, F-6)

-- 48 m, report by report, and so many cm more
abbrev pub past48m : ℕ → List Command
past48m covered = travels 1200 ∷ travels 1200 ∷ travels 1200 ∷ travels 1200 ∷ travels covered ∷ []

-- a train of 300 km/h in DA
abbrev pub area_cases : List Case
area_cases =
    -- "Fully equipped is the area after start"
    after (halts ∷ []) (area 8 ∷ vmax 300 ∷ [])
    -- "130 if none was passed", in the partial area only; 50 adds no cause before the next report: 140 km/h is 3,889
    ∷ after (at_speed 3889 0 ∷ event 2 0 ∷ []) (area 4 ∷ vmax 130 ∷ permitted 130 ∷ causes_are [] ∷ [])
    ∷ after (at_speed 3889 0 ∷ event 2 0 ∷ at_speed 3889 0 ∷ []) (causes_are (0 ∷ []) ∷ order 1 ∷ [])
    ∷ after (event 4 0 ∷ []) (area 7 ∷ vmax 300 ∷ [])
    ∷ after (event 5 0 ∷ []) (area 9 ∷ vmax 300 ∷ [])
    ∷ after (event 4 0 ∷ event 1 90 ∷ []) (area 4 ∷ vmax 90 ∷ permitted 90 ∷ [])
    ∷ after (event 4 0 ∷ event 1 90 ∷ event 4 0 ∷ []) (area 7 ∷ vmax 300 ∷ [])
    ∷ after (event 4 0 ∷ event 1 90 ∷ event 5 0 ∷ []) (area 9 ∷ vmax 300 ∷ [])
    ∷ after (event 4 0 ∷ event 1 90 ∷ event 6 0 ∷ []) (area 8 ∷ vmax 300 ∷ [])
    -- "the last GMD speed of this stay": up and down; of no earlier one
    ∷ after (event 2 0 ∷ event 1 200 ∷ []) (area 4 ∷ vmax 200 ∷ [])
    ∷ after (event 4 0 ∷ event 1 90 ∷ event 1 80 ∷ []) (vmax 80 ∷ [])
    ∷ after (event 4 0 ∷ event 1 90 ∷ event 4 0 ∷ event 0 0 ∷ []) (area 4 ∷ vmax 130 ∷ [])
    -- "An entering GMD deletes the sections", ending ones too; one inside, and the other events, delete none
    ∷ after (section 6 80 ∷ section 7 70 ∷ section_end 7 ∷ event 4 0 ∷ event 1 90 ∷ []) (vmax 90 ∷ [])
    ∷ after (section 6 80 ∷ event 4 0 ∷ event 1 90 ∷ section_end 6 ∷ []) (refused 12 ∷ [])
    ∷ after (event 2 0 ∷ section 6 80 ∷ event 1 90 ∷ []) (area 4 ∷ vmax 80 ∷ [])
    ∷ after (section 6 80 ∷ event 2 0 ∷ []) (vmax 80 ∷ [])
    ∷ after (section 6 80 ∷ event 4 0 ∷ event 0 0 ∷ event 5 0 ∷ event 6 0 ∷ []) (area 8 ∷ vmax 80 ∷ [])
    -- "d once 50 m are covered since the first such group"; the area changes before that report's VMAX
    ∷ after (event 3 0 ∷ []) (area 8 ∷ vmax 300 ∷ [])
    ∷ after (event 3 0 ∷ past48m 199) (area 8 ∷ vmax 300 ∷ [])
    ∷ after (event 3 0 ∷ past48m 200) (area 4 ∷ vmax 130 ∷ [])
    ∷ after (event 3 0 ∷ past48m 199 ++ (report 3889 1 0 1000 0 ∷ [])) (area 4 ∷ vmax 130 ∷ causes_are (0 ∷ []) ∷ [])
    ∷ after (event 3 0 ∷ past48m 199 ++ (again (travels 199) ∷ [])) (answer 100 ∷ area 8 ∷ [])
    ∷ after (event 3 0 ∷ past48m 100 ++ (event 3 0 ∷ travels 99 ∷ [])) (area 8 ∷ [])
    ∷ after (event 3 0 ∷ past48m 100 ++ (event 3 0 ∷ travels 100 ∷ [])) (area 4 ∷ [])
    ∷ after (past48m 200 ++ (event 3 0 ∷ travels 100 ∷ [])) (area 8 ∷ [])
    -- a refused event leaves them pending; a change of area and CS end them
    ∷ after (event 3 0 ∷ past48m 100 ++ (event 0 0 ∷ travels 100 ∷ [])) (area 4 ∷ [])
    ∷ after (event 3 0 ∷ past48m 100 ++ (event 4 0 ∷ event 6 0 ∷ travels 100 ∷ [])) (area 8 ∷ [])
    ∷ after (event 3 0 ∷ past48m 100 ++ (event 2 0 ∷ travels 100 ∷ [])) (area 4 ∷ [])
    ∷ after (event 3 0 ∷ past48m 100 ++ (state 1 ∷ state 2 ∷ travels 100 ∷ [])) (state_is 2 ∷ area 8 ∷ [])
    -- ground counts in HS too, and not before CS is left
    ∷ after (state 1 ∷ state 2 ∷ event 3 0 ∷ past48m 199 ++ (state 3 ∷ travels 1 ∷ [])) (state_is 3 ∷ area 4 ∷ [])
    -- "CS keeps the area", and the speed of the stay; a start does not
    ∷ after (event 4 0 ∷ event 1 90 ∷ state 1 ∷ []) (state_is 1 ∷ area 4 ∷ vmax 0 ∷ [])
    ∷ after (event 4 0 ∷ event 1 90 ∷ state 1 ∷ state 2 ∷ state 3 ∷ []) (area 4 ∷ vmax 90 ∷ [])
    ∷ after (event 4 0 ∷ state 4 ∷ []) (state_is 4 ∷ order 3 ∷ area 7 ∷ [])
    ∷ after (event 4 0 ∷ fast_train ∷ []) (state_is 0 ∷ area 8 ∷ [])
    -- 9 before 10 and 16; 10 before 16; for a repeat 16 would apply
    ∷ after (event 0 1 ∷ []) (refused 9 ∷ [])
    ∷ after (state 1 ∷ event 1 9 ∷ []) (refused 9 ∷ [])
    ∷ after (state 1 ∷ event 0 0 ∷ []) (refused 10 ∷ [])
    ∷ after (event 0 0 ∷ []) (refused 16 ∷ [])
    ∷ after (event 2 0 ∷ again (event 2 0) ∷ []) (answer 100 ∷ area 4 ∷ vmax 130 ∷ [])
    ∷ []

-- ---- ET records (02, F-7)

-- 96 m, and so many cm more
abbrev pub past96m : ℕ → List Command
past96m more = replicate 8 (travels 1200) ++ (travels more ∷ [])

-- a record to 40 km/h whose target lies here: where it is a curve, 40 is permitted
abbrev pub here : ℕ → ℕ → Command
here id category = new_record id category 0 40 0

abbrev pub record_cases : List Case
record_cases =
    -- undecided it is "completely ineffective" (001, F4189); rows a to d, H records by main and F records by distant signals, R 0 and G 1
    after (here 3 1 ∷ []) (permitted 300 ∷ shows 255 0 0 0 ∷ messages 0 ∷ [])
    ∷ after (here 3 1 ∷ signal 0 0 ∷ []) (permitted 40 ∷ shows 3 1 0 0 ∷ messages 64 ∷ causes_are [] ∷ [])
    ∷ after (here 3 1 ∷ signal 0 1 ∷ []) (permitted 300 ∷ messages 0 ∷ [])
    ∷ after (here 3 1 ∷ signal 0 1 ∷ record_end 3 ∷ []) (refused 12 ∷ [])
    ∷ after (here 3 0 ∷ signal 1 0 ∷ []) (permitted 40 ∷ messages 64 ∷ [])
    ∷ after (here 3 0 ∷ signal 1 1 ∷ []) (permitted 300 ∷ messages 0 ∷ [])
    ∷ after (here 3 0 ∷ signal 1 1 ∷ record_end 3 ∷ []) (answer 0 ∷ [])
    ∷ after (here 3 3 ∷ signal 0 1 ∷ []) (permitted 40 ∷ [])
    ∷ after (here 3 2 ∷ signal 1 1 ∷ []) (permitted 40 ∷ [])
    -- "A signal that isn't the record's controlling one leaves it undecided, and the first controlling one decides"
    ∷ after (here 3 1 ∷ signal 1 0 ∷ []) (permitted 300 ∷ [])
    ∷ after (here 3 1 ∷ signal 1 1 ∷ signal 0 0 ∷ []) (permitted 40 ∷ [])
    ∷ after (here 3 1 ∷ signal 0 0 ∷ signal 0 1 ∷ []) (permitted 40 ∷ [])
    ∷ after (here 3 0 ∷ signal 1 1 ∷ signal 1 0 ∷ []) (permitted 300 ∷ [])
    ∷ after (here 3 0 ∷ signal 1 1 ∷ signal 0 0 ∷ past96m 1200) (permitted 300 ∷ [])
    -- a 52 decides all that it controls
    ∷ after (new_record 3 0 0 60 0 ∷ new_record 4 1 0 50 0 ∷ here 5 3 ∷ signal 0 0 ∷ []) (permitted 50 ∷ shows 4 1 0 0 ∷ [])
    -- "For 100 m a record only loses ground"; then it is locked, in the move of that report, and judged in it
    ∷ after (here 3 1 ∷ past96m 399) (permitted 300 ∷ messages 0 ∷ [])
    ∷ after (here 3 1 ∷ past96m 400) (permitted 40 ∷ shows 3 1 0 0 ∷ messages 64 ∷ [])
    ∷ after (here 3 1 ∷ past96m 399 ++ (report 2500 1 0 1000 0 ∷ [])) (causes_are (2 ∷ 4 ∷ []) ∷ order 3 ∷ shows 3 8 2 4 ∷ messages 64 ∷ [])
    ∷ after (here 3 1 ∷ past96m 399 ++ (again (travels 399) ∷ [])) (answer 100 ∷ permitted 300 ∷ [])
    -- from its board, and not from the last signal
    ∷ after (here 3 1 ∷ past96m 300 ++ (signal 1 0 ∷ travels 100 ∷ [])) (permitted 40 ∷ [])
    ∷ after (past96m 300 ++ (here 3 1 ∷ travels 100 ∷ [])) (permitted 300 ∷ [])
    -- in HS and DA, and not before CS is left
    ∷ after (state 1 ∷ state 2 ∷ here 3 1 ∷ past96m 399 ++ (state 3 ∷ travels 1 ∷ [])) (permitted 40 ∷ [])
    -- d falls all the while: of 100 m, 96 m later 4 m are left, which is F at 36 km/h
    ∷ after (new_record 3 1 100 10 0 ∷ past96m 0 ++ (signal 0 0 ∷ report 1000 0 0 1000 0 ∷ [])) (shows 3 8 2 4 ∷ messages 64 ∷ [])
    ∷ after (new_record 3 0 100 10 0 ∷ signal 1 0 ∷ past96m 0 ++ (report 1000 0 0 1000 0 ∷ [])) (shows 3 8 2 4 ∷ messages 64 ∷ [])
    -- "never of a passive, locked or undecided one"
    ∷ after (here 3 1 ∷ here 3 1 ∷ []) (refused 18 ∷ [])
    ∷ after (here 3 0 ∷ signal 1 1 ∷ here 3 1 ∷ []) (refused 18 ∷ [])
    ∷ after (here 3 1 ∷ past96m 400 ++ (here 3 1 ∷ [])) (refused 18 ∷ [])
    ∷ after (here 3 1 ∷ past96m 400 ++ (signal 0 1 ∷ [])) (permitted 40 ∷ [])
    ∷ after (here 3 1 ∷ past96m 400 ++ (record_end 3 ∷ [])) (permitted 300 ∷ shows 255 0 0 0 ∷ [])
    -- "a new undecided record in place of a definitely or preliminarily active one"
    ∷ after (here 3 1 ∷ signal 0 0 ∷ here 3 0 ∷ []) (permitted 300 ∷ messages 0 ∷ [])
    ∷ after (here 3 0 ∷ signal 1 0 ∷ new_record 3 3 0 80 0 ∷ signal 0 1 ∷ []) (permitted 80 ∷ [])
    -- a refused, a repeated and a 52 for nothing
    ∷ after (here 3 1 ∷ again (here 3 1) ∷ []) (answer 100 ∷ [])
    ∷ after (signal 1 1 ∷ []) (answer 0 ∷ permitted 300 ∷ [])
    -- "There are eight records"; a terminated one leaves a place
    ∷ after (here 1 1 ∷ here 2 0 ∷ here 3 0 ∷ here 4 0 ∷ here 5 0 ∷ here 6 0 ∷ here 7 0 ∷ here 8 0 ∷ []) (answer 0 ∷ [])
    ∷ after (here 1 1 ∷ here 2 0 ∷ here 3 0 ∷ here 4 0 ∷ here 5 0 ∷ here 6 0 ∷ here 7 0 ∷ here 8 0 ∷ here 9 0 ∷ []) (refused 17 ∷ [])
    ∷ after (here 1 1 ∷ here 2 0 ∷ here 3 0 ∷ here 4 0 ∷ here 5 0 ∷ here 6 0 ∷ here 7 0 ∷ here 8 0 ∷ here 8 0 ∷ []) (refused 18 ∷ [])
    ∷ after (here 1 1 ∷ here 2 0 ∷ here 3 0 ∷ here 4 0 ∷ here 5 0 ∷ here 6 0 ∷ here 7 0 ∷ here 8 0 ∷ signal 0 1 ∷ here 9 0 ∷ []) (answer 0 ∷ [])
    -- "ET ids are a set apart from curve ids"
    ∷ after (curve 3 0 0 60 0 ∷ here 3 1 ∷ signal 0 0 ∷ curve_end 3 ∷ []) (permitted 40 ∷ shows 3 1 0 0 ∷ messages 64 ∷ [])
    ∷ after (curve 3 0 0 60 0 ∷ here 3 1 ∷ signal 0 0 ∷ record_end 3 ∷ []) (permitted 60 ∷ shows 3 1 0 0 ∷ messages 0 ∷ [])
    ∷ after (curve 3 0 0 60 0 ∷ record_end 3 ∷ []) (refused 12 ∷ [])
    ∷ after (here 3 1 ∷ curve_end 3 ∷ []) (refused 12 ∷ [])
    -- "at equal interval and permitted speed any curve is shown before any ET record", then lowest id; a lower permitted speed comes first
    ∷ after (here 3 1 ∷ signal 0 0 ∷ curve 9 0 0 40 0 ∷ []) (shows 9 1 0 0 ∷ messages 0 ∷ [])
    ∷ after (here 9 1 ∷ signal 0 0 ∷ curve 3 0 0 40 0 ∷ []) (shows 3 1 0 0 ∷ messages 0 ∷ [])
    ∷ after (here 3 1 ∷ signal 0 0 ∷ curve 2 0 0 50 0 ∷ []) (shows 3 1 0 0 ∷ messages 64 ∷ [])
    ∷ after (here 6 1 ∷ here 3 1 ∷ signal 0 0 ∷ []) (shows 3 1 0 0 ∷ messages 64 ∷ [])
    -- past in B, which a repeater does not keep; messages bit 6 in DA only
    ∷ after (here 3 1 ∷ signal 0 0 ∷ at_speed 2500 0 ∷ halts ∷ []) (shows 3 2 2 2 ∷ messages 64 ∷ causes_are (2 ∷ 4 ∷ []) ∷ [])
    ∷ after (here 3 1 ∷ signal 0 0 ∷ at_speed 2500 0 ∷ here 3 1 ∷ signal 0 0 ∷ halts ∷ []) (shows 3 1 0 0 ∷ messages 64 ∷ [])
    ∷ after (here 3 1 ∷ signal 0 0 ∷ state 4 ∷ []) (shows 255 0 0 0 ∷ messages 0 ∷ [])
    -- "entering CS drops them"
    ∷ after (here 3 1 ∷ signal 0 0 ∷ state 1 ∷ state 2 ∷ state 3 ∷ []) (permitted 300 ∷ shows 255 0 0 0 ∷ [])
    ∷ after (here 3 1 ∷ signal 0 0 ∷ state 1 ∷ state 2 ∷ record_end 3 ∷ []) (refused 12 ∷ [])
    -- 9 before 10 and 17; 10 before 12
    ∷ after (new_record 3 4 0 40 0 ∷ []) (refused 9 ∷ [])
    ∷ after (state 1 ∷ new_record 3 4 0 40 0 ∷ []) (refused 9 ∷ [])
    ∷ after (state 1 ∷ here 3 1 ∷ []) (refused 10 ∷ [])
    ∷ after (state 1 ∷ record_end 3 ∷ []) (refused 10 ∷ [])
    ∷ []

-- ---- all of them

-- the cases of a unit that further commands lead to
abbrev pub hold_after : Stm → List Command → List Case → List Bool
hold_after stm commands cases = map (holds (further stm commands)) cases

-- a slow train in HS, in DA; a fast one in DA
abbrev pub slow_in_hs : Stm → List Bool
slow_in_hs stm =
    map (holds stm) (place_cases ++ later_cases)
    ++ hold_after stm (map (λ id. curve id 0 1000 40 0) fifteen) curve_place_cases
    ++ hold_after stm (map (λ id. section id 90) fifteen) section_place_cases

abbrev pub slow_in_da : Stm → List Bool
slow_in_da stm =
    map (holds stm) (speed_cases ++ stop_cases ++ rolling_cases ++ curve_cases)
    ++ hold_after stm (halts ∷ []) halted_cases
    ++ hold_after stm (halts ∷ rolls 501 ∷ []) rolled_cases
    ++ hold_after stm (approaches 0 59574 1000 0) past_cases
    ++ hold_after stm (at_speed 2222 0 ∷ balise_error ∷ replicate 18 halts) hold_cases
    ++ slow_in_hs (further stm (state 1 ∷ state 2 ∷ []))

abbrev pub fast_in_da : Stm → List Bool
fast_in_da stm =
    map (holds stm) (order_cases ++ soft_cases ++ area_cases ++ record_cases)
    ++ hold_after stm (replicate 3 (too_fast 1000)) service_cases
    ++ hold_after stm (at_speed 2500 0 ∷ balise_error ∷ halts ∷ halts ∷ []) error_cases
    ++ hold_after stm (stop 0 ∷ halts ∷ []) emergency_cases
    ++ hold_after stm (stop 2 ∷ halts ∷ []) landslide_cases

unfoldable pub cases : List Bool
cases =
    slow_in_da (started_in_da slow_train)
    ++ fast_in_da (started_in_da fast_train)
    ++ hold_after fresh_stm (cylinder_train ∷ replicate 31 (with_pressure 0) ++ (state 3 ∷ replicate 3 (too_fast 0))) cylinder_cases
    ++ hold_after fresh_stm (slow_train ∷ replicate 30 halts) settling_cases
    ++ hold_after fresh_stm (slow_train ∷ halts ∷ with_pressure 799 ∷ replicate 29 (with_pressure 800)) waiting_cases
    ++ hold_after (with_reference slow_train) (replicate 9 (with_pressure 940)) reference_cases
    ++ map (holds fresh_stm) first_cases
    ++ hold_after fresh_stm (untested_train ∷ test_brakes ∷ replicate 30 halts) test_cases
    ++ hold_after (with_reference untested_train) (test_brakes ∷ replicate 30 (with_pressure 880)) steady_cases
    ++ map (holds (started_in_da untested_train)) extra_cases
    ++ hold_after (with_reference untested_train) (test_brakes ∷ replicate 31 halts ++ (with_pressure 880 ∷ state 3 ∷ [])) tested_cases
    -- once it has passed the extra is gone for good: a later test that fails does not bring it back
    ++ hold_after (with_reference untested_train)
    (test_brakes ∷ replicate 31 halts ++ (with_pressure 880 ∷ test_brakes ∷ at_speed 1 0 ∷ state 3 ∷ [])) tested_cases

abbrev pub CasesHold : Type 0
CasesHold = foldr ◌&&◌ true cases ≡ true
