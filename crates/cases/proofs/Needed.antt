-- Each presumption of point 3 is needed: without it the claim fails of a pair of specs/Pairs.
use mathlib.Core.Path.{refl}
use Prim.Native.Nat.{ℕ, ◌≤◌, zero-le}
use native.Mathlib.Nat.{le_refl}
use native.Mathlib.Bridge.{IsLe, le_by_compare}
use native.Mathlib.Omega.{arith}
use mathlib.Core.Bool.{true, false, false≢true}
use mathlib.Core.List.{[]}
use Rattle.curve.specs.Free.{free_curve}
use Rattle.rules.specs.Commands.{fresh_stm}
use Rattle.rules.specs.Runs.{state_at_end}
use Rattle.rules.specs.TwoRuns.{Both, Faster, RefusalsAreNeeded, NoServiceFaultIsNeeded, NoEmergencyFaultIsNeeded, GearIsNeeded, StopsAreNeeded, NoTestIsNeeded}
use Rattle.cases.specs.Pairs.{gear_pair, stop_passed, stops_pair, drop_between, service_pair, emergency_pair, stop_ahead, refusals_pair, in_test, test_pair}
use Rattle.rules.specs.declared.Stm.{Stm}
use Rattle.rules.proofs.Computing.{computing}
use Rattle.cases.proofs.LedUnits.{trains, standing, led, led_weaker, led_short_brake, led_short_check}
use Rattle.cases.proofs.Pairs.{same_curve, itself, faster, Meets, concluded}

-- ---- no neutral

gear_meets : Meets true true true false true true (standing 700 30 13) (standing 700 30 13) gear_pair
unfolding computing gear_pair
gear_meets = record {
  first = led [];
  second = led [];
  compared = itself (standing 700 30 13) (trains 700 700 30 13 (le_refl _)) (same_curve free_curve false);
  lists = (faster 34 0 100 0 0 1000 8 zero-le, (faster 35 100 100 501 0 1000 8 (le_refl _), tt));
  refusals = (refl, (refl, tt));
  service = ((refl, refl), ((refl, refl), tt));
  emergency = ((refl, refl), ((refl, refl), tt));
  gear = tt;
  stops = λ e. (refl, refl);
  idle = refl;
}

-- full, and none
pub gear_is_needed : GearIsNeeded
unfolding computing gear_pair
gear_is_needed claim = let milder : 2 ≤ 0 = ((concluded claim gear_meets).1.0 refl refl).order in omega arith

-- ---- no unexpected-stop braking

abbrev after_stop : ℕ → Stm
after_stop full = state_at_end (standing full 30 13) stop_passed

stops_meets : Meets true true true true false true (after_stop 700) (after_stop 600) stops_pair
unfolding computing stops_pair IsLe
stops_meets = record {
  first = led stop_passed;
  second = led_weaker stop_passed;
  compared = record {
    control = refl;
    train = trains 700 600 30 13 (le_by_compare 600 700 tt);
    track = same_curve free_curve true;
    brakes = refl;
    feedback = refl;
    test = refl;
    kept = refl;
    last = record { code = refl; number = refl; permitted = le_refl 40; order = le_refl 3 };
  };
  lists = (faster 35 1000 1000 0 450 1000 1 (le_refl _), tt);
  refusals = (refl, tt);
  service = ((refl, refl), tt);
  emergency = ((refl, refl), tt);
  gear = (refl, tt);
  stops = tt;
  idle = refl;
}

-- emergency, and none
pub stops_are_needed : StopsAreNeeded
unfolding computing stops_pair
stops_are_needed claim = let milder : 3 ≤ 0 = ((concluded claim stops_meets).0 refl refl).order in omega arith

-- ---- no brake fault

drops_faster : (v : ℕ) → Both Faster (drop_between 0 v) (drop_between v v)
drops_faster v =
    (faster 34 0 v 0 0 1000 0 zero-le, (faster 35 v v 0 0 800 0 (le_refl v), (faster 36 v v 0 0 1000 0 (le_refl v), tt)))

service_meets : Meets true false true true true true (standing 700 1 13) (standing 700 1 13) service_pair
unfolding computing service_pair
service_meets = record {
  first = led_short_brake [];
  second = led_short_brake [];
  compared = itself (standing 700 1 13) (trains 700 700 1 13 (le_refl _)) (same_curve free_curve false);
  lists = drops_faster 3100;
  refusals = (refl, (refl, (refl, tt)));
  service = tt;
  emergency = ((refl, refl), ((refl, refl), ((refl, refl), tt)));
  gear = (refl, (refl, (refl, tt)));
  stops = λ e. (refl, refl);
  idle = refl;
}

-- emergency, and full
pub no_service_fault_is_needed : NoServiceFaultIsNeeded
unfolding computing service_pair
no_service_fault_is_needed claim =
    let milder : 3 ≤ 2 = ((concluded claim service_meets).1.1.0 refl refl).order in omega arith

emergency_meets : Meets true true false true true true (standing 700 30 1) (standing 700 30 1) emergency_pair
unfolding computing emergency_pair
emergency_meets = record {
  first = led_short_check [];
  second = led_short_check [];
  compared = itself (standing 700 30 1) (trains 700 700 30 1 (le_refl _)) (same_curve free_curve false);
  lists = drops_faster 3200;
  refusals = (refl, (refl, (refl, tt)));
  service = ((refl, refl), ((refl, refl), ((refl, refl), tt)));
  emergency = tt;
  gear = (refl, (refl, (refl, tt)));
  stops = λ e. (refl, refl);
  idle = refl;
}

-- 0 permitted in FA, and 100
pub no_emergency_fault_is_needed : NoEmergencyFaultIsNeeded
unfolding computing emergency_pair
no_emergency_fault_is_needed claim =
    let milder : 100 ≤ 0 = ((concluded claim emergency_meets).1.1.0 refl refl).permitted in omega arith

-- ---- refused by both or by neither

abbrev ahead : Stm
ahead = state_at_end (standing 700 30 13) stop_ahead

refusals_meets : Meets false true true true true true ahead ahead refusals_pair
unfolding computing refusals_pair IsLe
refusals_meets = record {
  first = led stop_ahead;
  second = led stop_ahead;
  compared = itself ahead (trains 700 700 30 13 (le_refl _)) (same_curve _ false);
  lists = (
    faster 35 500 10001 1200 0 1000 0 (le_by_compare 500 10001 tt),
    (faster 35 500 500 0 0 1000 0 (le_refl _), (faster 36 500 500 0 0 1000 0 (le_refl _), tt)),
  );
  refusals = tt;
  service = ((refl, refl), ((refl, refl), ((refl, refl), tt)));
  emergency = ((refl, refl), ((refl, refl), ((refl, refl), tt)));
  gear = (refl, (refl, (refl, tt)));
  stops = λ e. (refl, refl);
  idle = refl;
}

-- 26 permitted, and 28
pub refusals_are_needed : RefusalsAreNeeded
unfolding computing refusals_pair
refusals_are_needed claim =
    let milder : 28 ≤ 26 = ((concluded claim refusals_meets).1.1.0 refl refl).permitted in omega arith

-- ---- no test

abbrev testing : Stm
testing = state_at_end fresh_stm in_test

test_meets : Meets true true true true true false testing testing test_pair
unfolding computing test_pair
test_meets = record {
  first = refl;
  second = refl;
  compared = itself testing (trains 700 700 30 13 (le_refl _)) (same_curve free_curve false);
  lists = (faster 34 0 1 0 0 1000 0 zero-le, tt);
  refusals = (refl, tt);
  service = ((refl, refl), tt);
  emergency = ((refl, refl), tt);
  gear = (refl, tt);
  stops = λ e. absurd (false≢true e);
  idle = tt;
}

-- full, and none
pub no_test_is_needed : NoTestIsNeeded
unfolding computing test_pair
no_test_is_needed claim = let milder : 2 ≤ 0 = ((concluded claim test_meets).0 refl refl).order in omega arith
