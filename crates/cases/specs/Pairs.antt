-- Closed pairs of runs for point 3 (rules/TwoRuns): six in each of which one presumption is not met and the second run is milder
-- than the first, and two that meet them all. Their units are led from the state before any start. Proved in proofs/.
use Rattle.std.specs.Prelude.{ℕ, List, [], ◌∷◌}
use Rattle.rules.specs.Reports.{two}
use Rattle.rules.specs.Commands.{fresh_stm}
use Rattle.rules.specs.Runs.{Sent, state_at_end}
use Rattle.cases.specs.Figures.{numbered, start_of, odometer, into_da, standstill}
use Rattle.rules.specs.declared.Code.{Code}
use Rattle.rules.specs.declared.Stm.{Stm}

-- the commands that lead to the two units, and the reports that these are then sent
pub record Pair : Type 0 where
  pub first : List Sent
  pub second : List Sent
  pub slower : List Sent
  pub faster : List Sent

abbrev pub first_unit : Pair → Stm
first_unit pair = state_at_end fresh_stm pair.first

abbrev pub second_unit : Pair → Stm
second_unit pair = state_at_end fresh_stm pair.second

-- two runs of one unit
abbrev pub of_one : List Sent → List Sent → List Sent → Pair
of_one led slower faster = record { first = led; second = led; slower = slower; faster = faster }

-- a train of 100 km/h with this full deceleration, T_B and T_EBCHK, in DA and on
abbrev pub in_da : ℕ → ℕ → ℕ → List Sent → List Sent
in_da full brake check after = into_da (start_of 100 full brake check) after

-- curve 1 on level track: its kind, distance in m and speed
abbrev curve : ℕ → ℕ → ℕ → ℕ → Sent
curve n kind distance speed = numbered Code.NewCurve n (1 ∷ kind ∷ two distance (two speed (0 ∷ [])))

-- ---- the pairs: a report is `odometer number speed moved measured external buttons`, with 1 for LOSS and 8 for neutral

-- without "no report has the controller in neutral": both roll 501 cm with neutral. The first has halted before, which orders
-- bit 10; the second has not, so that its rolling is not counted, and has no order
unfoldable pub gear_pair : Pair
gear_pair =
    of_one (in_da 700 30 13 [])
    (odometer 34 0 0 0 1000 8 ∷ odometer 35 100 501 0 1000 8 ∷ [])
    (odometer 34 100 0 0 1000 8 ∷ odometer 35 100 501 0 1000 8 ∷ [])

-- an unexpected stop is passed
abbrev pub stop_passed : List Sent
stop_passed = numbered Code.StopPassed 34 (1 ∷ []) ∷ []

-- without "where decelerations differ, no unexpected-stop braking stands when the list begins": bits 6 and 7 stand in both. 450
-- measured is more than 7/10 of 600 and less than 7/10 of 700: LOSS drops both bits in the second, and bit 7 alone in the first
unfoldable pub stops_pair : Pair
stops_pair = record {
  first = in_da 700 30 13 stop_passed;
  second = in_da 600 30 13 stop_passed;
  slower = odometer 35 1000 0 450 1000 1 ∷ [];
  faster = odometer 35 1000 0 450 1000 1 ∷ [];
}

-- three reports, at speed u, then v and v; the second brings a drop of 100 kPa, the others none
abbrev pub drop_between : ℕ → ℕ → List Sent
drop_between u v = odometer 34 u 0 0 1000 0 ∷ odometer 35 v 0 0 800 0 ∷ odometer 36 v 0 0 1000 0 ∷ []

-- without "neither has a brake fault", bit 11: T_B is 1. In the second bit 0 is ordered at the first report, and the drop
-- satisfies the check. In the first it is ordered at the second report, whose drop does not count: bit 11, emergency, at the third
unfoldable pub service_pair : Pair
service_pair = of_one (in_da 700 1 13 []) (drop_between 0 3100) (drop_between 3100 3100)

-- without the same, NÖDBROMSFEL: T_EBCHK is 1, and bit 1 is ordered likewise. At the third report the first goes to FA, where the
-- permitted speed is 0; it is 100 in the second
unfoldable pub emergency_pair : Pair
emergency_pair = of_one (in_da 700 30 1 []) (drop_between 0 3200) (drop_between 3200 3200)

-- a stop is expected in 100 m, with release speed 10
abbrev pub stop_ahead : List Sent
stop_ahead = curve 34 1 100 10 ∷ []

-- without "each report is refused by both units or by neither": the first accepts a report whose 12 m bring the stop nearer, and
-- refuses the next (7), which has the same number and no ground. The second refuses the one (9, at 10,001 cm/s) and accepts the
-- other. At the third report, which both accept, it permits more
unfoldable pub refusals_pair : Pair
refusals_pair =
    of_one (in_da 700 30 13 stop_ahead)
    (odometer 35 500 1200 0 1000 0 ∷ odometer 35 500 0 0 1000 0 ∷ odometer 36 500 0 0 1000 0 ∷ [])
    (odometer 35 10001 1200 0 1000 0 ∷ odometer 35 500 0 0 1000 0 ∷ odometer 36 500 0 0 1000 0 ∷ [])

-- a start, a test that is asked for, and the 31 reports by which its pressure settles
abbrev pub in_test : List Sent
in_test = start_of 100 700 30 13 ∷ numbered Code.TestBrakes 2 [] ∷ standstill 3 31

-- without "no test runs" (02, F-3): the test of both brakes, in DE. At the next report the first goes on braking; the second has a
-- speed, which ends its test and the order
unfoldable pub test_pair : Pair
test_pair = of_one in_test (odometer 34 0 0 0 1000 0 ∷ []) (odometer 34 1 0 0 1000 0 ∷ [])

-- 40 km/h in 800 m; and a section of 95 km/h and 30 km/h in 250 m. A proceed signal keeps the numbers alike
abbrev pub far_curve : List Sent
far_curve = numbered Code.Proceed 34 [] ∷ curve 35 0 800 40 ∷ []

abbrev pub near_curve : List Sent
near_curve = numbered Code.NewSection 34 (2 ∷ two 95 []) ∷ curve 35 0 250 30 ∷ []

-- with all that is presumed, for a report, its repeat and a further report: the second has a lower full deceleration, a section
-- more, a nearer curve with a lower target, and higher speeds. At the further report its curve is in F, and that of the first in A
unfoldable pub harder_pair : Pair
harder_pair = record {
  first = in_da 700 30 13 far_curve;
  second = in_da 600 30 13 near_curve;
  slower = odometer 36 1000 100 0 1000 0 ∷ odometer 36 1000 100 0 1000 0 ∷ odometer 37 2400 240 0 1000 0 ∷ [];
  faster = odometer 36 1050 100 0 1000 0 ∷ odometer 36 1050 100 0 1000 0 ∷ odometer 37 2500 240 0 1000 0 ∷ [];
}

-- for 02's F-1: at 2,500 cm/s the curve of the first is 43,325 cm away and still in C, with no centimetre left; that of the second,
-- 1 m nearer, is in D, with 7,400
abbrev pub in434 : List Sent
in434 = curve 34 0 434 40 ∷ []

abbrev pub in433 : List Sent
in433 = curve 34 0 433 40 ∷ []

unfoldable pub change_pair : Pair
change_pair = record {
  first = in_da 700 30 13 in434;
  second = in_da 700 30 13 in433;
  slower = odometer 35 2500 75 0 1000 0 ∷ [];
  faster = odometer 35 2500 75 0 1000 0 ∷ [];
}
