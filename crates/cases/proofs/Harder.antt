-- Point 3 is not empty: a pair of specs/Pairs meets all that is presumed, and in it the second unit alone is ordered to brake.
use mathlib.Core.Path.{refl}
use native.Mathlib.Nat.{le_refl}
use native.Mathlib.Bridge.{IsLe, le_by_compare}
use mathlib.Core.Bool.{true, false, false≢true}
use Rattle.places.specs.Places.{places}
use Rattle.rules.specs.Runs.{state_at_end}
use Rattle.rules.specs.TwoRuns.{Compared, BrakesHarder}
use Rattle.cases.specs.Pairs.{far_curve, near_curve, harder_pair}
use Rattle.rules.specs.declared.Stm.{Stm}
use Rattle.rules.proofs.Computing.{computing}
use Rattle.cases.proofs.LedUnits.{trains, standing, led, led_weaker}
use Rattle.cases.proofs.Pairs.{one_curve, faster, Meets, units}

abbrev far : Stm
far = state_at_end (standing 700 30 13) far_curve

abbrev near : Stm
near = state_at_end (standing 600 30 13) near_curve

compared : Compared far near
unfolding computing IsLe
compared = record {
  control = refl;
  train = trains 700 600 30 13 (le_by_compare 600 700 tt);
  track =
      one_curve _ _ 15 places _ false _ refl refl refl
      (record { kind = refl; gradient = λ level. refl; distance = le_by_compare 25000 80000 tt; speed = le_by_compare 30 40 tt });
  brakes = refl;
  feedback = refl;
  test = refl;
  kept = refl;
  last = record { code = refl; number = refl; permitted = le_by_compare _ _ tt; order = le_refl 0 };
}

meets : Meets true true true true true true far near harder_pair
unfolding computing harder_pair IsLe
meets = record {
  first = led far_curve;
  second = led_weaker near_curve;
  compared = compared;
  lists = (
    faster 36 1000 1050 100 0 1000 0 (le_by_compare 1000 1050 tt),
    (
      faster 36 1000 1050 100 0 1000 0 (le_by_compare 1000 1050 tt),
      (faster 37 2400 2500 240 0 1000 0 (le_by_compare 2400 2500 tt), tt),
    ),
  );
  refusals = (refl, (refl, (refl, tt)));
  service = ((refl, refl), ((refl, refl), ((refl, refl), tt)));
  emergency = ((refl, refl), ((refl, refl), ((refl, refl), tt)));
  gear = (refl, (refl, (refl, tt)));
  stops = λ e. absurd (false≢true e);
  idle = refl;
}

pub brakes_harder : BrakesHarder
unfolding computing harder_pair
brakes_harder = record {
  u = far;
  w = near;
  xs = harder_pair.slower;
  ys = harder_pair.faster;
  compared = meets.compared;
  faster = meets.lists;
  units = units meets;
  refusals = meets.refusals;
  service = meets.service;
  emergency = meets.emergency;
  gear = meets.gear;
  stops = meets.stops;
  tests = meets.idle;
  answers = refl;
  answers' = refl;
  first = refl;
  second = refl;
}
