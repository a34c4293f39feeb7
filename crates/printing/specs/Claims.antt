-- What is promised of a trip's sheet. What is promised of every sheet (`sheet/Claims`) holds of it too. Proved in proofs/.
use Rattle.std.specs.Prelude.{ℕ, suc, ◌^◌, ◌≤◌, ◌<◌, ◌≡◌, Bool, false, cond, eqb, length, take, drop, Option, Some, None}
use mathlib.Core.List.{List, [], ◌∷◌, ◌++◌, map, foldr, flatten, Memᴰ}
use Rattle.wire.specs.Bytes.{placed}
use Rattle.wire.specs.Numbers.{number}
use Rattle.wire.specs.Report.{id_in}
use Rattle.wire.specs.Text.{ascii}
use Rattle.portions.specs.Portions.{given_of}
use Rattle.portions.specs.Reads.{Standing, text_by, at_first, turn_of, after_reads, after_end, input_room}
use Rattle.curve.specs.declared.Interval.{Interval}
use Rattle.curve.specs.declared.Shown.{Shown}
use Rattle.colours.specs.Numbers.{showing_number}
use Rattle.rules.specs.Numbers.{answer_number, state_number}
use Rattle.rules.specs.Commands.{fresh_stm}
use Rattle.rules.specs.Runs.{Moment, moments, moment_of, state_at_end, send}
use Rattle.rules.specs.declared.State.{State}
use Rattle.rules.specs.declared.Stm.{Stm}
use Rattle.sheet.specs.Columns.{Entry, entry, letters, state_names, interval_names}
use Rattle.sheet.specs.Pages.{sheet_of}
use Rattle.sheet.specs.Claims.{FitsColumns}
use Rattle.printing.specs.declared.Trip.{Trip}
use Rattle.printing.specs.Sheets.{entries_of, trip_sheet, fresh_trip, printer, handed_on, given_in, output_room}

-- ---- which commands come to the sheet

-- how many are answered 0
abbrev pub accepted_in : List Moment → ℕ
accepted_in ms = foldr (λ m n. cond (eqb (answer_number m.answer) 0) (suc n) n) 0 ms

-- one for each answer of 0
abbrev pub OneForEachAccepted : Type 0
OneForEachAccepted = (stm : Stm) (portions : List (List ℕ)) → length (entries_of stm portions) ≡ accepted_in (moments stm (map send portions))

-- the state after portions
abbrev pub state_after_all : List (List ℕ) → Stm
state_after_all portions = state_at_end fresh_stm (map send portions)

-- a portion that is answered 0 comes with its number, bytes 1 to 4, and the report that the unit wrote; a repeat or a refusal anywhere can be
-- left out
abbrev pub AcceptedComeToIt : Type 0
AcceptedComeToIt =
    (before after : List (List ℕ)) (portion : List ℕ)
    → let m = moment_of (state_after_all before) (send portion) in
    (answer_number m.answer ≡ 0
    → entries_of fresh_stm (before ++ (portion ∷ after))
    ≡ entries_of fresh_stm before ++ (entry (number 4 (drop 1 portion)) m.area ∷ entries_of m.stm after))
    × ((answer_number m.answer ≡ 0 → ⊥) → entries_of fresh_stm (before ++ (portion ∷ after)) ≡ entries_of fresh_stm (before ++ after))

-- every figure has room in its columns, where the number is of four bytes and the id of one: so no digit is lost
abbrev pub FiguresFit : Type 0
FiguresFit =
    (portions : List (List ℕ)) (e : Entry) → Memᴰ e (entries_of fresh_stm portions)
    → e.number < 256 ^ 4 → id_in e.report < 256 → FitsColumns e

-- ---- letters

-- "DE", "CS", "HS", "DA", "FA": the letters of each state
abbrev pub state_letters : State → List ℕ
state_letters State.DE = ascii "DE"
state_letters State.CS = ascii "CS"
state_letters State.HS = ascii "HS"
state_letters State.DA = ascii "DA"
state_letters State.FA = ascii "FA"

abbrev pub StatesAreNamed : Type 0
StatesAreNamed = (state : State) → letters state_names 2 (state_number state) ≡ state_letters state

-- and of each shown interval
abbrev pub shown_letters : Shown → List ℕ
shown_letters (Shown.Computed Interval.A) = ascii "A "
shown_letters Shown.Ab = ascii "Ab"
shown_letters (Shown.Computed Interval.Bf) = ascii "Bf"
shown_letters (Shown.Computed Interval.B) = ascii "B "
shown_letters (Shown.Computed Interval.C) = ascii "C "
shown_letters (Shown.Computed Interval.D) = ascii "D "
shown_letters (Shown.Computed Interval.E) = ascii "E "
shown_letters (Shown.Computed Interval.F) = ascii "F "

abbrev pub showing_letters : Option Shown → List ℕ
showing_letters None = ascii "  "
showing_letters (Some shown) = shown_letters shown

abbrev pub IntervalsAreNamed : Type 0
IntervalsAreNamed = (showing : Option Shown) → letters interval_names 2 (showing_number showing) ≡ showing_letters showing

-- ---- what the program writes

-- however the input is cut into reads, what is written for them, put together, is the sheet of the whole input
abbrev pub WritesTheSheet : Type 0
WritesTheSheet =
    (reads : List (List ℕ)) → (after_end printer (after_reads printer (at_first fresh_trip) reads)).written ≡ trip_sheet (flatten reads)

-- before the end, when the program waits for more, it has written the sheet of all that has come and can be given: what it has written is a
-- beginning of the sheet of any input that begins so
abbrev pub WritesAtOnce : Type 0
WritesAtOnce =
    (reads : List (List ℕ))
    → let written = (after_reads printer (at_first fresh_trip) reads).written in
    (written ≡ sheet_of (entries_of fresh_stm (given_of false (flatten reads)).portions))
    × ((later : List ℕ) → (more : List ℕ) × (trip_sheet (flatten reads ++ later) ≡ written ++ more))

-- a turn of the program is what `handed_on` tells, whatever stood in the room for output
abbrev pub TurnIsHanded : Type 0
TurnIsHanded =
    (s : Standing Trip) (all : Bool) (bytes room : List ℕ)
    → let handed = handed_on s.state (given_of all bytes) in
    turn_of printer all bytes s ≡ record {
      state = handed.state;
      left = cond handed.ended [] (drop handed.used bytes);
      written = s.written ++ take handed.written (placed (text_by printer s.state (given_of all bytes).portions) room);
      ended = handed.ended;
    }

-- there is room for what all that can be given of the bytes at hand adds: nothing waits until more bytes come
abbrev pub AllHasRoom : Type 0
AllHasRoom = (all : Bool) (bytes : List ℕ) → length bytes ≤ input_room → given_in output_room all bytes ≡ given_of all bytes
