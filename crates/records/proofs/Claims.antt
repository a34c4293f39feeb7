-- What is promised of one record. Assumes nothing.
use mathlib.Core.Path.{◌≡◌, refl, sym, ◌∙◌, ap}
use Prim.Native.Nat.{ℕ, ◌+◌, ◌≤◌, ◌<◌}
use native.Mathlib.Omega.{arith}
use native.Mathlib.Nat.{zero-add, add-zero}
use mathlib.Core.Bool.{Bool, true, false, ◌&&◌, ◌||◌, and-false}
use lib.Dec.{eqb}
use mathlib.Core.List.{List, [], ◌∷◌}
use native.Mathlib.Decide.{dec_le}
use Rattle.curve.specs.declared.Curve.{Curve}
use Rattle.curve.specs.Ground.{moved_by}
use Rattle.records.specs.Numbers.{is_route, route_for}
use Rattle.records.specs.Rows.{classed_by, classed_by_none}
use Rattle.records.specs.Lives.{is_undecided, is_effective, with_condition, with_curve, as_curve, covered_by, classed}
use Rattle.records.specs.Claims.{NumbersAreTold, row_number, Undecided, ByRow, ControllingDecides, OthersLeaveIt, DecidedStays, moved_over, sum, GroundIsLost, HundredMetres, GroundDecidesNothing, FreePlaceStays, EffectiveIsTold, SupersededIsTold}
use Rattle.records.specs.declared.Condition.{Condition}
use Rattle.records.specs.declared.EtRecord.{EtRecord}
use Rattle.records.proofs.Told.{category_told, signal_told, route_told, controls_told, row_told, decided, moved_held, moved_free, moved_nothing, moved_on_lem, covered_below, covered_past, covered_decided, passed_controlled, passed_other, is_controlled_lem, free_uncontrolled, decided_uncontrolled, other_uncontrolled}

-- ---- numbers

pub numbers_are_told : NumbersAreTold
numbers_are_told = (category_told, signal_told, route_told)

-- ---- the rows

-- a condition of any row but a: the rest of the record is kept
kept_row : (condition : Condition) (et : EtRecord) → (row_number condition ≡ 1 → ⊥)
    → ByRow (row_number condition) et (with_condition et condition)
kept_row condition et n = record { told = refl; freed = λ e. absurd (n e); kept = λ m. (refl, refl) }

by_row : (condition : Condition) (et : EtRecord) → ByRow (row_number condition) et (classed condition et)
unfolding classed
by_row (Condition.Undecided covered) et = kept_row (Condition.Undecided covered) et (λ e. omega (arith, e))
by_row Condition.Terminated et = record { told = refl; freed = λ e. refl; kept = λ n. absurd (n refl) }
by_row Condition.DefinitelyActive et = kept_row Condition.DefinitelyActive et (λ e. omega (arith, e))
by_row Condition.PreliminaryPassive et = kept_row Condition.PreliminaryPassive et (λ e. omega (arith, e))
by_row Condition.PreliminaryActive et = kept_row Condition.PreliminaryActive et (λ e. omega (arith, e))
by_row Condition.Locked et = kept_row Condition.Locked et (λ e. omega (arith, e))

pub controlling_decides : ControllingDecides
controlling_decides signal route et covered u t =
    let undecided : is_undecided et.condition ≡ true = ap is_undecided u.condition in
    let controlled = is_controlled_lem signal et u.held undecided (controls_told signal et.category ∙ t) in
    let condition = classed_by signal (is_route (route_for et.category) route) in
    rw (passed_controlled signal route et controlled, sym (row_told signal route et.category)) (by_row condition et)

pub others_leave_it : OthersLeaveIt
others_leave_it signal route et f =
    passed_other signal route et (other_uncontrolled signal et (controls_told signal et.category ∙ f))

pub decided_stays : DecidedStays
decided_stays signal route et n =
    passed_other signal route et (decided_uncontrolled signal et (decided et.condition n))

-- ---- ground

-- a record that is held, by its curve and its condition
abbrev held_as : EtRecord → Curve → Condition → EtRecord
held_as et curve condition = with_condition (with_curve et curve) condition

pub moved_over_lem : (moved : ℕ) (rest : List ℕ) (et : EtRecord) → et.curve.held ≡ true
    → moved_over (moved ∷ rest) et ≡ moved_over rest (held_as et (moved_by et.curve moved) (covered_by moved et.condition))
unfolding moved_over
moved_over_lem moved rest et h = ap (moved_over rest) (moved_held moved et h)

pub ground_is_lost : GroundIsLost
unfolding moved_over
ground_is_lost [] et h = (sym (moved_nothing et.curve), refl)
ground_is_lost (moved ∷ rest) et h =
    let next = held_as et (moved_by et.curve moved) (covered_by moved et.condition) in
    let on = moved_over_lem moved rest et h in
    let lost = ground_is_lost rest next h in (
      ap (λ e. e.curve) on ∙ lost.0 ∙ moved_on_lem et.curve moved (sum rest),
      ap (λ e. e.category) on ∙ lost.1,
    )

-- one that is decided keeps its condition
ground_decides_held : (covered : List ℕ) (et : EtRecord) → et.curve.held ≡ true → (row_number et.condition ≡ 0 → ⊥)
    → (moved_over covered et).condition ≡ et.condition
unfolding moved_over
ground_decides_held [] et h n = refl
ground_decides_held (moved ∷ rest) et h n =
    let stays = covered_decided moved et.condition n in
    let next = held_as et (moved_by et.curve moved) (covered_by moved et.condition) in
    ap (λ e. e.condition) (moved_over_lem moved rest et h)
    ∙ ground_decides_held rest next h (λ e. n (sym (ap row_number stays) ∙ e))
    ∙ stays

free_over : (covered : List ℕ) (et : EtRecord) → et.curve.held ≡ false → moved_over covered et ≡ et
unfolding moved_over
free_over [] et h = refl
free_over (moved ∷ rest) et h = ap (moved_over rest) (moved_free moved et h) ∙ free_over rest et h

pub ground_decides_nothing : GroundDecidesNothing
ground_decides_nothing covered et n = by et.curve.held refl
  where
    by : (t : Bool) → et.curve.held ≡ t → (moved_over covered et).condition ≡ et.condition
    by true h = ground_decides_held covered et h n
    by false h = ap (λ e. e.condition) (free_over covered et h)

pub free_place_stays : FreePlaceStays
free_place_stays covered signal route et h =
    (free_over covered et h, passed_other signal route et (free_uncontrolled signal et h))

-- an undecided one, with some ground before
below : (covered : List ℕ) (et : EtRecord) (before : ℕ) → Undecided et before → before + sum covered < 10000
    → (moved_over covered et).condition ≡ Condition.Undecided (before + sum covered)
unfolding moved_over
below [] et before u h = u.condition ∙ ap Condition.Undecided (sym (add-zero before))
below (moved ∷ rest) et before u h =
    let first : before + moved < 10000 = omega (arith, h) in
    let whole : before + moved + sum rest ≡ before + (moved + sum rest) = omega arith in
    let next = held_as et (moved_by et.curve moved) (covered_by moved et.condition) in
    let still = ap (covered_by moved) u.condition ∙ covered_below before moved first in
    ap (λ e. e.condition) (moved_over_lem moved rest et u.held)
    ∙ below rest next (before + moved) (record { held = u.held; condition = still }) (omega (arith, h, whole))
    ∙ ap Condition.Undecided whole

past : (covered : List ℕ) (et : EtRecord) (before : ℕ) → Undecided et before → before < 10000 → 10000 ≤ before + sum covered
    → (moved_over covered et).condition ≡ classed_by_none
past [] et before u b h = absurd (omega (arith, b, h))
past (moved ∷ rest) et before u b h =
    let next = held_as et (moved_by et.curve moved) (covered_by moved et.condition) in
    let on = ap (λ e. e.condition) (moved_over_lem moved rest et u.held) in
    elim (dec_le 10000 (before + moved)) [
      | yes g ↦
          let locked = ap (covered_by moved) u.condition ∙ covered_past before moved g in
          on ∙ ground_decides_held rest next u.held (λ e. omega (arith, sym (ap row_number locked) ∙ e)) ∙ locked
      | no g ↦
          let first : before + moved < 10000 = omega (arith, g) in
          let still = ap (covered_by moved) u.condition ∙ covered_below before moved first in
          on ∙ past rest next (before + moved) (record { held = u.held; condition = still }) first (omega (arith, h))
    ]

pub hundred_metres : HundredMetres
hundred_metres covered et u = (
  λ h. below covered et 0 u (omega (arith, h)) ∙ ap Condition.Undecided (zero-add (sum covered)),
  λ h. ap row_number (past covered et 0 u (omega arith) (omega (arith, h))),
)

-- ---- what a record is

-- a curve held or not, with the other figures of this one
abbrev held_curve : Curve → Bool → Curve
held_curve curve held = record {
  held = held;
  id = curve.id;
  kind = curve.kind;
  distance = curve.distance;
  speed = curve.speed;
  gradient = curve.gradient;
  past = curve.past;
}

as_held : (et : EtRecord) → et.curve.held ≡ true → is_effective et.condition ≡ true → as_curve et ≡ et.curve
as_held et h e =
    ap (λ t. held_curve et.curve (t && is_effective et.condition)) h
    ∙ ap (held_curve et.curve) e
    ∙ ap (held_curve et.curve) (sym h)

effective_rows : (condition : Condition)
    → is_effective condition ≡ (eqb (row_number condition) 2 || eqb (row_number condition) 4 || eqb (row_number condition) 5)
effective_rows (Condition.Undecided covered) = refl
effective_rows Condition.Terminated = refl
effective_rows Condition.DefinitelyActive = refl
effective_rows Condition.PreliminaryPassive = refl
effective_rows Condition.PreliminaryActive = refl
effective_rows Condition.Locked = refl

pub effective_is_told : EffectiveIsTold
effective_is_told et = (
  effective_rows et.condition,
  as_held et,
  λ e. ap (λ t. et.curve.held && t) e ∙ and-false et.curve.held,
  λ h. ap (λ t. t && is_effective et.condition) h,
)

pub superseded_is_told : SupersededIsTold
superseded_is_told (Condition.Undecided covered) = refl
superseded_is_told Condition.Terminated = refl
superseded_is_told Condition.DefinitelyActive = refl
superseded_is_told Condition.PreliminaryPassive = refl
superseded_is_told Condition.PreliminaryActive = refl
superseded_is_told Condition.Locked = refl
