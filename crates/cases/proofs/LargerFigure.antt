-- Point 3 says nothing of 02's F-1: a pair of specs/Pairs meets all that is presumed, and in it the second unit's figure is larger.
use mathlib.Core.Path.{◌≡◌, refl}
use Prim.Native.Nat.{◌≤◌}
use native.Mathlib.Nat.{le_refl}
use native.Mathlib.Bridge.{IsLe, le_by_compare}
use native.Mathlib.Omega.{arith}
use mathlib.Core.Bool.{true, false, false≢true}
use Rattle.wire.specs.Report.{change_in}
use Rattle.places.specs.Places.{places}
use Rattle.rules.specs.Runs.{Sent, moment_of, state_at_end}
use Rattle.rules.specs.TwoRuns.{Compared, FigureMayBeLarger}
use Rattle.cases.specs.Figures.{odometer}
use Rattle.cases.specs.Pairs.{in434, in433, change_pair}
use Rattle.rules.specs.declared.Stm.{Stm}
use Rattle.rules.proofs.Computing.{computing}
use Rattle.cases.proofs.LedUnits.{trains, standing, led}
use Rattle.cases.proofs.Pairs.{one_curve, faster, Meets, units}
use Rattle.cases.proofs.ChangeFigures.{figure_divided}

abbrev far : Stm
far = state_at_end (standing 700 30 13) in434

abbrev near : Stm
near = state_at_end (standing 700 30 13) in433

compared : Compared far near
unfolding computing IsLe
compared = record {
  control = refl;
  train = trains 700 700 30 13 (le_refl 700);
  track =
      one_curve _ _ 15 places _ false _ refl refl refl
      (record { kind = refl; gradient = λ level. refl; distance = le_by_compare 43300 43400 tt; speed = le_refl 40 });
  brakes = refl;
  feedback = refl;
  test = refl;
  kept = refl;
  last = record { code = refl; number = refl; permitted = le_by_compare _ _ tt; order = le_refl 0 };
}

meets : Meets true true true true true true far near change_pair
unfolding computing change_pair IsLe
meets = record {
  first = led in434;
  second = led in433;
  compared = compared;
  lists = (faster 35 2500 2500 75 0 1000 0 (le_refl 2500), tt);
  refusals = (refl, tt);
  service = ((refl, refl), tt);
  emergency = ((refl, refl), tt);
  gear = (refl, tt);
  stops = λ e. absurd (false≢true e);
  idle = refl;
}

-- the report of both lists
abbrev x : Sent
x = odometer 35 2500 75 0 1000 0

of_first : change_in (moment_of far x).area ≡ 0
unfolding computing
of_first = figure_divided far x refl refl

of_second : change_in (moment_of near x).area ≡ 7400
unfolding computing
of_second = figure_divided near x refl refl

pub figure_may_be_larger : FigureMayBeLarger
unfolding computing change_pair
figure_may_be_larger claim =
    let both =
    claim far near change_pair.slower change_pair.faster meets.compared meets.lists (units meets) meets.refusals
    meets.service meets.emergency meets.gear meets.stops meets.idle in
    let no_larger : change_in (moment_of near x).area ≤ change_in (moment_of far x).area = both.0 in
    absurd (omega (arith, no_larger, of_first, of_second))
