-- What holds of what a curve says, for any lead: statements, proved in proofs/.
use Rattle.std.specs.Prelude.{◌≡◌, ℕ, ◌*◌, ◌≤◌, ◌<◌, min, true, false}
use Rattle.curve.specs.Boundary.{is_reached_at_kmh}
use Rattle.curve.specs.Ground.{moved_by, never}
use Rattle.interval.specs.Judging.{brakes_at, judged_of}
use Rattle.interval.specs.Changes.{to_change}
use Rattle.curve.specs.Claims.{Stricter, StaysFor}
use Rattle.interval.specs.Intervals.{interval_of, rank_of}
use Rattle.interval.specs.Permitted.{permitted_of}
use Rattle.curve.specs.declared.Curve.{Curve}
use Rattle.curve.specs.declared.Leads.{Leads}
use Rattle.curve.specs.declared.Braking.{Braking}
use Rattle.curve.specs.declared.Interval.{Interval}
use Rattle.curve.specs.declared.Interval.TheVariants.{A}

-- ---- stricter figures

-- no lead of the second is shorter
pub record LongerLeads (leads leads' : Leads) : Type 0 where
  pub d : leads.d ≤ leads'.d
  pub c : leads.c ≤ leads'.c
  pub permitted : leads.permitted ≤ leads'.permitted
  pub b : leads.b ≤ leads'.b
  pub bf : leads.bf ≤ leads'.bf

-- the second train decelerates no better, and has no lead shorter and no higher F margin
pub record WeakerBraking (braking braking' : Braking) : Type 0 where
  pub level : braking'.level ≤ braking.level
  pub leads : LongerLeads braking.leads braking'.leads
  pub margin : braking'.margin ≤ braking.margin

-- a curve no less strict, a train that brakes no better and a speed no lower: a computed interval is not earlier,
abbrev pub IntervalIsNotEarlier : Type 0
IntervalIsNotEarlier =
    (curve curve' : Curve) (braking braking' : Braking) (v v' : ℕ)
    → Stricter curve curve' → WeakerBraking braking braking' → v ≤ v'
    → rank_of (interval_of curve braking v) ≤ rank_of (interval_of curve' braking' v')

-- a permitted speed is not higher,
abbrev pub PermittedIsNotHigher : Type 0
PermittedIsNotHigher =
    (curve curve' : Curve) (level level' T T' : ℕ)
    → Stricter curve curve' → level' ≤ level → T ≤ T'
    → permitted_of curve' level' T' ≤ permitted_of curve level T

-- and a curve that brakes still does
abbrev pub StillBrakes : Type 0
StillBrakes =
    (curve curve' : Curve) (braking braking' : Braking) (v v' : ℕ)
    → Stricter curve curve' → WeakerBraking braking braking' → v ≤ v'
    → (judged_of braking v curve).brakes ≡ true → (judged_of braking' v' curve').brakes ≡ true

-- ---- one curve

-- "Braking at a curve with v at or under its target because T is long" does not happen, nor at or under its release speed: there
-- every curve is in A, and brakes in no interval
abbrev pub NoBrakingAtFloor : Type 0
NoBrakingAtFloor =
    (curve : Curve) (braking : Braking) (v : ℕ)
    → 9 * v ≤ 250 * curve.speed
    → (interval_of curve braking v ≡ A)
    × ((interval : Interval) → brakes_at curve interval v ≡ false)

-- the permitted speed is the largest up to 300: it and all below are not reached, and all above are
abbrev pub PermittedIsLargest : Type 0
PermittedIsLargest =
    (curve : Curve) (level T : ℕ)
    → (permitted_of curve level T ≤ 300)
    × ((k : ℕ) → k ≤ permitted_of curve level T → is_reached_at_kmh curve level k T ≡ false)
    × ((k : ℕ) → permitted_of curve level T < k → k ≤ 300 → is_reached_at_kmh curve level k T ≡ true)

-- it is not below the target or the release speed, up to 300
abbrev pub PermittedIsNotBelowFloor : Type 0
PermittedIsNotBelowFloor = (curve : Curve) (level T : ℕ) → min 300 curve.speed ≤ permitted_of curve level T

-- ---- how far to a change (02, F-1)

-- for how far the computed interval is the same
abbrev pub ChangeIsTold : Type 0
ChangeIsTold =
    (curve : Curve) (braking : Braking) (v : ℕ)
    → StaysFor (λ m. interval_of (moved_by curve m) braking v ≡ interval_of curve braking v) curve.distance (to_change curve braking v)

-- so that, of a distance that four bytes hold, FFFFFFFF tells exactly that it is the same down to distance 0
abbrev pub NeverMeansNever : Type 0
NeverMeansNever =
    (curve : Curve) (braking : Braking) (v : ℕ)
    → curve.distance ≤ never
    → (to_change curve braking v ≡ never → (m : ℕ) → interval_of (moved_by curve m) braking v ≡ interval_of curve braking v)
    × (((m : ℕ) → m ≤ curve.distance → interval_of (moved_by curve m) braking v ≡ interval_of curve braking v) → to_change curve braking v ≡ never)
