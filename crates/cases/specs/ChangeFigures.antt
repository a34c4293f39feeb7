-- Figures of 02's F-1, each through whole calls from the state before any start. Proved in proofs/.
use Rattle.std.specs.Prelude.{◌≡◌, ℕ, ◌+◌, ◌-◌, ◌/◌, ◌%◌, List, [], ◌∷◌}
use Rattle.wire.specs.Report.{change_in}
use Rattle.curve.specs.Ground.{never}
use Rattle.rules.specs.Runs.{moment_of}
use Rattle.cases.specs.Tables.{Command, sent, further, start, report, curve, curve_end}
use Rattle.cases.specs.Cases.{fast_train, started_in_da, halka, every_field}
use Rattle.rules.specs.declared.Stm.{Stm}

-- what a unit writes at a command that follows others
abbrev pub written_by : Stm → List Command → Command → List ℕ
written_by stm before x = (moment_of (further stm before) (sent (further stm before) x)).area

-- a train in DA with b 700 and 500 (HALKA), T_B 30, gaps 20, 20 and 30 and F margin 10
abbrev pub train_in_da : Stm
train_in_da = started_in_da (start 0 160 400 700 500 30 20 20 30 10 15 50 380 13)

abbrev figure_after : List Command → Command → ℕ
figure_after before x = change_in (written_by train_in_da before x)

-- curve 1 to 40 km/h, and a report at a speed, with these buttons, that leaves it so many cm away
abbrev pub to40 : ℕ → Command
to40 distance = curve 1 0 (distance / 100 + 1) 40 0

abbrev pub leaving : ℕ → ℕ → ℕ → Command
leaving distance speed buttons = report speed (100 - distance % 100) 0 1000 buttons

abbrev figure_at : ℕ → ℕ → ℕ
figure_at distance speed = figure_after (to40 distance ∷ []) (leaving distance speed 0)

pub record ChangeFigures : Type 0 where
  -- 01's curve (b 700, 2,500 cm/s, target 40, T_B 30): D at 43,324 cm, with E at 35,824; at 43,325 the next centimetre is D
  pub in_d : figure_at 43324 2500 ≡ 7499
  pub before_d : figure_at 43325 2500 ≡ 0
  -- in E, F is next, with u' for u, at 26,455 cm
  pub in_e : figure_at 35824 2500 ≡ 9368
  pub before_f : figure_at 26456 2500 ≡ 0
  -- nothing comes after F
  pub in_f : figure_at 26455 2500 ≡ never
  -- nor where u' does not exceed w: at 1,200 cm/s E begins at 1,467 cm; nor at or under the floor: 1,111 cm/s is under 40 km/h
  pub no_f : figure_at 1467 1200 ≡ never
  pub at_floor : figure_at 1467 1111 ≡ never
  -- nor at distance 0
  pub at_target : figure_after (curve 1 0 1 40 0 ∷ []) (report 1200 100 0 1000 0) ≡ never
  -- in B the permitted boundary, at 53,324 cm, is no change: C is next, at 48,324
  pub in_b : figure_at 60000 2500 ≡ 11675
  -- with HALKA b is 500: Bf begins at 82,654 cm, and not at 68,324
  pub with_halka : figure_after (to40 90000 ∷ []) (leaving 90000 2500 halka) ≡ 7345
  -- once in B and now in A, at 1,500 cm/s, it is shown as Ab: Bf is next, at 26,753 cm
  pub in_ab : figure_after (to40 60000 ∷ leaving 60000 2500 0 ∷ []) (report 1500 0 0 1000 0) ≡ 33246
  -- of two curves the shown one's: curve 2, 500 m away, is in B, and curve 1, in D, has 7,499
  pub of_shown : figure_after (to40 43324 ∷ curve 2 0 500 40 0 ∷ []) (leaving 43324 2500 0) ≡ 7499
  -- at another command it is written anew, with the last speed and HALKA: a curve put nearer, and the last one ended
  pub put_nearer : figure_after (to40 60000 ∷ leaving 60000 2500 0 ∷ []) (curve 1 0 480 40 0) ≡ 4675
  pub none_left : figure_after (to40 60000 ∷ leaving 60000 2500 0 ∷ []) (curve_end 1) ≡ never
  -- where every other field tells something (Cases): D is 2,166 cm away
  pub with_all : change_in (written_by (started_in_da fast_train) every_field (report 7400 1000 0 1911 0)) ≡ 2166
