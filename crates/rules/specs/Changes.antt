-- Metres to the next change (02, F-1), over reports: what the last four bytes of a report tell of the next one. Proved in proofs/.
use Rattle.std.specs.Prelude.{◌≡◌, ℕ, suc, ◌≤◌, Bool, true, false}
use Rattle.wire.specs.Report.{id_in, messages_in, change_in}
use Rattle.curve.specs.declared.Curve.{Curve}
use Rattle.records.specs.Lives.{as_curve}
use Rattle.curve.specs.declared.Interval.{Interval}
use Rattle.rules.specs.Numbers.{is_accepted}
use Rattle.rules.specs.Runs.{Sent, answer_to, state_after, moment_of}
use Rattle.rules.specs.History.{speed_of, moved_of, button_of, is_supervised, curve_at, record_at, interval_in}
use Rattle.rules.specs.Operands.{bit_of}
use Rattle.rules.specs.Units.{IsUnit}
use Rattle.rules.specs.declared.Stm.{Stm}

-- the curve at a place or, with `et`, what the record at a place of records is as one (02, F-7)
abbrev pub supervised_at : Bool → ℕ → Stm → Curve
supervised_at false place stm = curve_at place stm
supervised_at true place stm = as_curve (record_at place stm)

-- its computed interval
abbrev pub interval_at : Bool → ℕ → Stm → Interval
interval_at et place stm = interval_in stm (supervised_at et place stm)

-- the report of an accepted command shows the curve, or the record, at this place; an id is held once in a unit
pub record ShownAt (stm : Stm) (x : Sent) (et : Bool) (place : ℕ) : Type 0 where
  pub accepted : is_accepted (answer_to stm x) ≡ true
  pub held : (supervised_at et place (state_after stm x)).held ≡ true
  pub marked : bit_of 6 (messages_in (moment_of stm x).area) ≡ et
  pub id : id_in (moment_of stm x).area ≡ (supervised_at et place (state_after stm x)).id

-- an accepted report in DA, "at its present speed" and with HALKA as it is
pub record GoesOn (stm : Stm) (y : Sent) : Type 0 where
  pub accepted : is_accepted (answer_to stm y) ≡ true
  pub supervised : is_supervised stm y.command ≡ true
  pub speed : speed_of y.command ≡ stm.kept.speed
  pub halka : button_of 2 y.command ≡ stm.kept.halka

-- "the most whole centimetres the train can still cover at its present speed with no change of that curve's computed interval": if
-- the next report moves no more, the interval is the same, and if it moves one more, it is another
abbrev pub NextChangeIsTold : Type 0
NextChangeIsTold =
    (stm : Stm) (x y : Sent) (et : Bool) (place : ℕ)
    → IsUnit stm → ShownAt stm x et place → GoesOn (state_after stm x) y
    → (moved_of y.command ≤ change_in (moment_of stm x).area
    → interval_at et place (state_after (state_after stm x) y) ≡ interval_at et place (state_after stm x))
    × (moved_of y.command ≡ suc (change_in (moment_of stm x).area)
    → interval_at et place (state_after (state_after stm x) y) ≡ interval_at et place (state_after stm x) → ⊥)
