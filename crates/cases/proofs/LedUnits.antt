-- The unit that every pair of specs/Pairs begins from, written out.
use mathlib.Core.Path.{◌≡◌, refl}
use Prim.Native.Nat.{ℕ, ◌≤◌}
use native.Mathlib.Nat.{le_refl}
use mathlib.Core.Bool.{true, false}
use mathlib.Core.List.{List, [], ◌∷◌}
use Rattle.wire.specs.Codes.{longest}
use Rattle.pressure.specs.declared.Feed.{Feed}
use Rattle.pressure.specs.declared.Phase.{Phase}
use Rattle.pressure.specs.Convert.{kpa}
use Rattle.rules.specs.Places.{fresh_track}
use Rattle.rules.specs.Releases.{fresh_brakes}
use Rattle.rules.specs.BrakeTest.{fresh_test}
use Rattle.rules.specs.Commands.{fresh_stm, padded}
use Rattle.rules.specs.Runs.{Sent, state_at_end}
use Rattle.rules.specs.TwoRuns.{TrainsCompared}
use Rattle.cases.specs.Pairs.{in_da}
use Rattle.rules.specs.declared.State.{State}
use Rattle.rules.specs.declared.Train.{Train}
use Rattle.rules.specs.declared.Stm.{Stm}
use Rattle.rules.proofs.Computing.{computing}

-- the train of 01's example, with 100 km/h and these figures
abbrev pub train_with : ℕ → ℕ → ℕ → Train
train_with full brake check = record {
  softly = false;
  feed = Feed.Pipe;
  speed = 100;
  length = 400;
  full = full;
  soft = 500;
  times = record { brake = brake; c = 20; permitted = 20; bf = 30; extra = 0 };
  margin = 10;
  emergency = 15;
  sufficient = 50;
  pressure = 380;
  check = check;
}

-- two of them, the second with no higher full deceleration
pub trains : (full full' brake check : ℕ) → full' ≤ full
    → TrainsCompared (train_with full brake check) (train_with full' brake check)
trains full full' brake check h = record {
  softly = refl;
  feed = refl;
  speed = refl;
  length = refl;
  full = h;
  soft = le_refl _;
  times = refl;
  margin = refl;
  emergency = refl;
  sufficient = refl;
  pressure = refl;
  check = refl;
}

-- in DA with a reference pressure, after command 33
abbrev pub standing : ℕ → ℕ → ℕ → Stm
standing full brake check = record {
  control = record { started = true; state = State.DA };
  train = train_with full brake check;
  track = fresh_track;
  brakes = fresh_brakes;
  feedback = record {
    phase = Phase.Set (kpa 500) 0;
    pressures = record { pressure = kpa 500; reference = kpa 500 };
    fault = false;
  };
  test = fresh_test;
  kept = record { speed = 0; loss = false; text = false; halka = false };
  last = record {
    bytes = padded longest (2 ∷ 0 ∷ 0 ∷ 0 ∷ 33 ∷ 3 ∷ []);
    report = 3 ∷ 0 ∷ 0 ∷ 0 ∷ 0 ∷ 100 ∷ 0 ∷ 100 ∷ 255 ∷ 0 ∷ 0 ∷ 0 ∷ 0 ∷ 0 ∷ 255 ∷ 255 ∷ 255 ∷ 255 ∷ 8 ∷ [];
  };
}

-- commands lead to it, and on from it
abbrev pub Led : ℕ → ℕ → ℕ → Type 0
Led full brake check =
    (after : List Sent) → state_at_end fresh_stm (in_da full brake check after) ≡ state_at_end (standing full brake check) after

pub led : Led 700 30 13
unfolding computing
led after = refl

-- with a lower full deceleration, with T_B 1 and with T_EBCHK 1
pub led_weaker : Led 600 30 13
unfolding computing
led_weaker after = refl

pub led_short_brake : Led 700 1 13
unfolding computing
led_short_brake after = refl

pub led_short_check : Led 700 30 1
unfolding computing
led_short_check after = refl
