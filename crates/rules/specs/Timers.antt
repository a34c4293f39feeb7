-- The brake checks over runs (01, "Causes and release": "Each check counts from 0 when its order begins (any order for bit 11,
-- emergency for the other) and one more at each later report in DA. It judges once, when the count gets to its limit and before
-- releases; such a drop at any later report up to then satisfies it."). Proved in proofs/.
use Rattle.std.specs.Prelude.{◌≡◌, ℕ, ◌+◌, ◌≤◌, Bool, true, false, not, ◌&&◌, ◌||◌, List, eqb, length}
use Rattle.std.specs.Float.Ieee.{le}
use Rattle.pressure.specs.Convert.{kpa}
use Rattle.rules.specs.Numbers.{is_accepted}
use Rattle.rules.specs.Places.{any_of}
use Rattle.rules.specs.Runs.{Sent, answer_to, state_after, state_at_end, freshens}
use Rattle.rules.specs.History.{is_in, is_supervised, collected, stands_through, drop_in}
use Rattle.rules.specs.Braking.{ordered_now}
use Rattle.rules.specs.declared.State.{State}
use Rattle.rules.specs.declared.Cause.{Cause}
use Rattle.rules.specs.declared.Stm.{Stm}

-- "any order": one of the twelve causes stands
abbrev pub is_ordered : Stm → Bool
is_ordered stm =
    stm.brakes.causes.overspeed
    || stm.brakes.causes.excess
    || stm.brakes.causes.full
    || stm.brakes.causes.soft
    || stm.brakes.causes.emergency
    || stm.brakes.causes.aimed
    || stm.brakes.causes.unexpected
    || stm.brakes.causes.speed
    || stm.brakes.causes.landslide
    || stm.brakes.causes.balise
    || stm.brakes.causes.rolling
    || stm.brakes.causes.service

-- an emergency order: bit 1, 4, 5, 6 or 11 stands
abbrev pub is_emergency : Stm → Bool
is_emergency stm =
    stm.brakes.causes.excess
    || stm.brakes.causes.emergency
    || stm.brakes.causes.aimed
    || stm.brakes.causes.unexpected
    || stm.brakes.causes.service

-- "a drop of 60 kPa or more"
abbrev pub has_drop : Stm → Bool
has_drop stm = le (kpa 60) (drop_in stm)

-- of each accepted report in DA, whether it brings such a drop
abbrev pub drops_over : Stm → List Sent → List Bool
drops_over stm xs = collected is_supervised (λ before x. has_drop (state_after before x)) stm xs

-- an order begins at an accepted command x and stands through ys; z is a further report in DA
pub record OrderStands (ordered : Stm → Bool) (stm : Stm) (x : Sent) (ys : List Sent) (z : Sent) : Type 0 where
  pub accepted : is_accepted (answer_to stm x) ≡ true
  pub before : ordered stm ≡ false
  pub through : stands_through ordered (state_after stm x) ys ≡ true
  pub report : is_accepted (answer_to (state_at_end (state_after stm x) ys) z) ≡ true
  pub supervised : is_supervised (state_at_end (state_after stm x) ys) z.command ≡ true

-- a check fails at a report: its number since the beginning is the limit, and neither it nor one before it has brought the drop
abbrev pub fails_with : ℕ → List Bool → Bool → Bool
fails_with limit drops now = eqb (length drops + 1) limit && not (now || any_of (λ drop. drop) drops)

-- bit 11 is ordered at the T_B-th report and at no other, if neither it nor one before it brings the drop; "T_B 1, 1–100"
abbrev pub ServiceFaultAtLimit : Type 0
ServiceFaultAtLimit =
    (stm : Stm) (x : Sent) (ys : List Sent) (z : Sent)
    → OrderStands is_ordered stm x ys z
    → let last = state_at_end (state_after stm x) ys in
    1 ≤ last.train.times.brake
    → ordered_now last z.command Cause.ServiceFault
    ≡ fails_with last.train.times.brake (drops_over (state_after stm x) ys) (has_drop (state_after last z))

-- "An emergency order without a 60 kPa drop by T_EBCHK shows NÖDBROMSFEL and leads to FA", and no other report does; a unit in DA
-- does not show it yet
abbrev pub EmergencyFaultAtLimit : Type 0
EmergencyFaultAtLimit =
    (stm : Stm) (x : Sent) (ys : List Sent) (z : Sent)
    → OrderStands is_emergency stm x ys z
    → let last = state_at_end (state_after stm x) ys in
    let fails = fails_with last.train.check (drops_over (state_after stm x) ys) (has_drop (state_after last z)) in
    1 ≤ last.train.check → last.brakes.failed ≡ false
    → ((state_after last z).brakes.failed ≡ fails) × (is_in State.FA (state_after last z) ≡ fails)

-- a report that finds no order does not order bit 11, and one that finds no emergency order does not bring NÖDBROMSFEL
abbrev pub NoFaultWithoutOrder : Type 0
NoFaultWithoutOrder =
    (stm : Stm) (x : Sent)
    → is_accepted (answer_to stm x) ≡ true → is_supervised stm x.command ≡ true
    → (is_ordered stm ≡ false → ordered_now stm x.command Cause.ServiceFault ≡ false)
    × (is_emergency stm ≡ false → (state_after stm x).brakes.failed ≡ stm.brakes.failed)

-- "Bit 11 shows DRIFTBROMSFEL until no order stands"
abbrev pub DriftIsShown : Type 0
DriftIsShown =
    (stm : Stm) (x : Sent)
    → is_accepted (answer_to stm x) ≡ true
    → (is_supervised stm x.command ≡ true → is_in State.DA (state_after stm x) ≡ true
    → (state_after stm x).brakes.drift
    ≡ ((stm.brakes.drift || ordered_now stm x.command Cause.ServiceFault) && is_ordered (state_after stm x)))
    × (is_supervised stm x.command ≡ true → is_in State.DA (state_after stm x) ≡ false
    → (state_after stm x).brakes.drift ≡ (stm.brakes.drift || ordered_now stm x.command Cause.ServiceFault))

-- another command than a report in DA, a start and CS leaves both messages
abbrev pub FaultsStay : Type 0
FaultsStay =
    (stm : Stm) (x : Sent)
    → is_accepted (answer_to stm x) ≡ true → is_supervised stm x.command ≡ false → freshens x.command ≡ false
    → ((state_after stm x).brakes.drift ≡ stm.brakes.drift) × ((state_after stm x).brakes.failed ≡ stm.brakes.failed)
