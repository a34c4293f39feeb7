-- The columns "Ordered when" and "Releasable when" of 01's table of causes, as plain facts of the unit that a report leaves: its
-- speed, VMAX, curves, drop and notes. Bits 10 and 11 are ordered by what came before: see Rolling and Timers. Proved in proofs/.
use Rattle.std.specs.Prelude.{◌≡◌, ℕ, ◌+◌, ◌*◌, ◌≤◌, ◌<◌, Bool, true, false, ◌&&◌, ◌||◌, ◌⊎◌, List, eqb}
use Rattle.std.specs.Float.Ieee.{lt}
use Rattle.pressure.specs.Convert.{kpa}
use Rattle.curve.specs.declared.Kind.{Kind}
use Rattle.curve.specs.declared.Curve.{Curve}
use Rattle.curve.specs.declared.Interval.{Interval}
use Rattle.interval.specs.Intervals.{rank_of}
use Rattle.rules.specs.Numbers.{bit_number, is_accepted}
use Rattle.rules.specs.Speeds.{vmax_of}
use Rattle.rules.specs.Table.{stands}
use Rattle.rules.specs.Runs.{Sent, answer_to, state_after, is_of, freshens}
use Rattle.rules.specs.History.{Tells, is_supervised, passes_stop, Supervises, interval_in, drop_in}
use Rattle.rules.specs.Braking.{ordered_now, releasable_now}
use Rattle.rules.specs.declared.Code.{Code}
use Rattle.rules.specs.declared.Cause.{Cause}
use Rattle.rules.specs.declared.Hold.{Hold}
use Rattle.rules.specs.declared.Stm.{Stm}

abbrev pub vmax_is : Stm → ℕ
vmax_is stm = vmax_of stm.train stm.track

-- "v ≥ target+10 (kind 0) or v is above the release speed (kind 1)"
abbrev pub IsFast : Kind → ℕ → ℕ → Type 0
IsFast Kind.SpeedTarget target v = 250 * (target + 10) ≤ 9 * v
IsFast Kind.ExpectStop release v = 250 * release < 9 * v

-- a curve, or a record that is one, brakes in D, in E or in F, or in a later interval
pub record BrakesFrom (interval : Interval) (stm : Stm) : Type 0 where
  pub et : Bool
  pub curve : Curve
  pub holds : Supervises stm.track et curve
  pub late : rank_of interval ≤ rank_of (interval_in stm curve)
  pub fast : IsFast curve.kind curve.speed stm.kept.speed

-- "drop below sufficient"
abbrev pub is_short : Stm → Bool
is_short stm = lt (drop_in stm) (kpa stm.train.sufficient)

-- "a curve brakes in D with drop below sufficient, or in E or F"
abbrev pub CurveOrders : Stm → Type 0
CurveOrders stm = (BrakesFrom Interval.D stm × (is_short stm ≡ true)) ⊎ BrakesFrom Interval.E stm

-- ---- "Ordered when"

pub record Orders (ordered : Cause → Bool) (stm : Stm) : Type 0 where
  -- "v ≥ VMAX+10", "v ≥ VMAX+emergency margin"
  pub overspeed : Tells (ordered Cause.Overspeed) (250 * (vmax_is stm + 10) ≤ 9 * stm.kept.speed)
  pub excess : Tells (ordered Cause.EmergencyOverspeed) (250 * (vmax_is stm + stm.train.emergency) ≤ 9 * stm.kept.speed)
  -- "bit 2 HALKA off, 3 on"; "a curve brakes in F"
  pub full : Tells (ordered Cause.CurveFull) (CurveOrders stm × (stm.kept.halka ≡ false))
  pub soft : Tells (ordered Cause.CurveSoft) (CurveOrders stm × (stm.kept.halka ≡ true))
  pub emergency : Tells (ordered Cause.CurveEmergency) (BrakesFrom Interval.F stm)
  -- 30 and 32 order bits 5 to 9, and no report does
  pub by_command : (cause : Cause) → 5 ≤ bit_number cause → bit_number cause ≤ 9 → ordered cause ≡ false

abbrev pub OrderedAtReport : Type 0
OrderedAtReport =
    (stm : Stm) (x : Sent)
    → is_accepted (answer_to stm x) ≡ true → is_supervised stm x.command ≡ true
    → Orders (ordered_now stm x.command) (state_after stm x)

-- "command 30, 0", "30, 1" for bits 6 and 7, "30, 2", "32"
abbrev pub command_orders : List ℕ → ℕ → Bool
command_orders command bit =
    passes_stop 0 command && eqb bit 5
    || passes_stop 1 command && (eqb bit 6 || eqb bit 7)
    || passes_stop 2 command && eqb bit 8
    || is_of Code.BaliseError command && eqb bit 9

-- every other command, but for a start and CS, adds these and drops none
abbrev pub OrderedByCommand : Type 0
OrderedByCommand =
    (stm : Stm) (x : Sent) (cause : Cause)
    → is_accepted (answer_to stm x) ≡ true → is_supervised stm x.command ≡ false → freshens x.command ≡ false
    → stands (state_after stm x).brakes.causes cause
    ≡ (stands stm.brakes.causes cause || command_orders x.command (bit_number cause))

-- ---- "Releasable when"

-- "v ≤ 80 km/h"
abbrev pub IsLow : ℕ → Type 0
IsLow v = 9 * v ≤ 250 * 80

-- 02, F-2: 20 further reports are counted, or "the old rule stands"; over runs: see BaliseErrors
abbrev pub UnheldWhen : Hold → ℕ → Type 0
UnheldWhen Hold.Undecided v = IsLow v
UnheldWhen Hold.High v = IsLow v
UnheldWhen (Hold.Low count) v = 20 ≤ count

-- each by itself; bit 11 asks of all others
abbrev pub FreedWhen : Stm → Cause → Type 0
FreedWhen stm Cause.Overspeed = 9 * stm.kept.speed < 250 * (vmax_is stm + 5)
FreedWhen stm Cause.EmergencyOverspeed = 9 * stm.kept.speed < 250 * (vmax_is stm + 5)
FreedWhen stm Cause.CurveFull = BrakesFrom Interval.D stm → ⊥
FreedWhen stm Cause.CurveSoft = BrakesFrom Interval.D stm → ⊥
FreedWhen stm Cause.CurveEmergency = BrakesFrom Interval.D stm → ⊥
FreedWhen stm Cause.AimedStop = stm.brakes.since.aimed ≡ true
FreedWhen stm Cause.UnexpectedStop = stm.brakes.since.unexpected ≡ true
FreedWhen stm Cause.UnexpectedSpeed = 9 * stm.kept.speed < 250 * (vmax_is stm + 5)
FreedWhen stm Cause.Landslide = stm.brakes.since.landslide ≡ true
FreedWhen stm Cause.BaliseFault = UnheldWhen stm.brakes.since.balise stm.kept.speed
FreedWhen stm Cause.Rolling = Unit {0}
FreedWhen stm Cause.ServiceFault = Unit {0}

-- "all others are": every one that stands
pub record IsFree (stm : Stm) (standing : Cause → Bool) (cause : Cause) : Type 0 where
  pub itself : FreedWhen stm cause
  pub others : bit_number cause ≡ 11 → (other : Cause) → standing other ≡ true → FreedWhen stm other

abbrev pub ReleasableAtReport : Type 0
ReleasableAtReport =
    (stm : Stm) (x : Sent) (cause : Cause)
    → is_accepted (answer_to stm x) ≡ true → is_supervised stm x.command ≡ true
    → Tells (releasable_now stm x.command cause)
    (IsFree (state_after stm x) (λ other. stands stm.brakes.causes other || ordered_now stm x.command other) cause)
