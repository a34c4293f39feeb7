-- 01, "Figures to check": the marked figures as one table of tests. Proved in proofs/.
use Rattle.std.specs.Prelude.{◌≡◌, ℕ, zero, suc, Bool, true, ◌&&◌, eqb}
use mathlib.Core.List.{List, [], ◌∷◌, ◌++◌, foldr}
use Rattle.wire.specs.Report.{order_in, causes_in, offered_in}
use Rattle.pressure.specs.Figures.{pressure_figures}
use Rattle.interval.specs.Figures.{curve_figures}
use Rattle.rules.specs.Numbers.{code_number, state_number}
use Rattle.rules.specs.Reports.{two}
use Rattle.rules.specs.Commands.{fresh_stm}
use Rattle.rules.specs.Runs.{Sent, send, moment_of, state_at_end}
use Rattle.rules.specs.declared.Code.{Code}
use Rattle.rules.specs.declared.State.{State}
use Rattle.rules.specs.declared.Stm.{Stm}

-- ---- commands as bytes

-- "One code byte, a four-byte number, operands", the number below 65,536
abbrev pub numbered : Code → ℕ → List ℕ → Sent
numbered code n operands = send (code_number code ∷ two 0 (two n operands))

-- the start of 01's example with this train speed, full deceleration, T_B and T_EBCHK; the soft deceleration is 500
abbrev pub start_of : ℕ → ℕ → ℕ → ℕ → Sent
start_of speed full brake check =
    numbered Code.Start 1
    (0x00
    ∷ two speed (two 0x0190 (two full (two 0x01F4
    (brake ∷ 0x14 ∷ 0x14 ∷ 0x1E ∷ 0x0A ∷ 0x0F ∷ 0x32 ∷ two 0x017C (check ∷ []))))))

-- "speed 2 ..; moved 2 ..; measured deceleration 2 ..; P_EXT 2, .. half kPa; buttons 1"; the signed ones are not negative here
abbrev pub odometer : ℕ → ℕ → ℕ → ℕ → ℕ → ℕ → Sent
odometer n speed moved measured external buttons =
    numbered Code.Odometer n (two speed (two moved (two measured (two external (buttons ∷ [])))))

-- so many reports, numbered from n on, at standstill with 500 kPa and no button
abbrev pub standstill : ℕ → ℕ → List Sent
standstill n zero = []
standstill n (suc reports) = odometer n 0 0 0 1000 0 ∷ standstill (suc n) reports

-- a start, the 31 reports that make a reference pressure of 500 kPa, DA, and what follows, numbered from 34 on
abbrev pub into_da : Sent → List Sent → List Sent
into_da start after = start ∷ standstill 2 31 ++ (numbered Code.ChangeState 33 (state_number State.DA ∷ []) ∷ after)

-- ---- the table

-- a unit with VMAX 100 and full deceleration 700
unfoldable pub unit_at100 : Stm
unit_at100 = state_at_end fresh_stm (into_da (start_of 100 700 30 13) [])

-- what it writes at a command that follows others
unfoldable pub written_after : List Sent → Sent → List ℕ
written_after before x = (moment_of (state_at_end unit_at100 before) x).area

-- its report at a speed, with no cause before it and with bit 0
abbrev at_speed : ℕ → List ℕ
at_speed v = written_after [] (odometer 34 v 0 0 1000 0)

abbrev at_speed_with_bit0 : ℕ → List ℕ
at_speed_with_bit0 v = written_after (odometer 34 3056 0 0 1000 0 ∷ []) (odometer 35 v 0 0 1000 0)

-- its report at a fresh press of LOSS with this measured deceleration, after command 30, 1. It is at 36 km/h, so that bit 7 goes
abbrev pressed_after_stop : ℕ → List ℕ
pressed_after_stop measured = written_after (numbered Code.StopPassed 34 (1 ∷ []) ∷ []) (odometer 35 1000 0 measured 1000 1)

unfoldable pub speed_figures : List Bool
speed_figures =
    -- "VMAX 100: 3,055 no order, 3,056 bit 0"
    eqb (order_in (at_speed 3055)) 0
    ∷ eqb (causes_in (at_speed 3056)) 1
    -- "releasable at 2,916, not 2,917"
    ∷ eqb (offered_in (at_speed_with_bit0 2916)) 1
    ∷ eqb (offered_in (at_speed_with_bit0 2917)) 0
    ∷ []

unfoldable pub stop_figures : List Bool
stop_figures =
    -- "Full deceleration 700: 490 measured frees bit 6, 489 doesn't"
    eqb (causes_in (pressed_after_stop 490)) 0
    ∷ eqb (causes_in (pressed_after_stop 489)) 64
    ∷ []

-- in 01's order, with the unmarked 2,917 and 490 beside theirs
unfoldable pub figures : List Bool
figures = curve_figures ++ speed_figures ++ pressure_figures ++ stop_figures

abbrev pub FiguresHold : Type 0
FiguresHold = foldr ◌&&◌ true figures ≡ true
