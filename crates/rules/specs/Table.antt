-- The table of causes (01, "Causes and release"), column by column, a clause for each bit in the table's order.
use Rattle.std.specs.Prelude.{ℕ, ◌+◌, ◌*◌, Bool, true, false, cond, not, ◌&&◌, ◌||◌, List, [], ◌∷◌, eqb, leb, ltb}
use Rattle.rules.specs.Numbers.{bit_number, is_code, is_order}
use Rattle.rules.specs.Places.{any_of, all_of}
use Rattle.rules.specs.Hold.{is_unheld}
use Rattle.rules.specs.declared.Code.{Code}
use Rattle.rules.specs.declared.Cause.{Cause}
use Rattle.rules.specs.declared.Causes.{Causes}
use Rattle.rules.specs.declared.Order.{Order}
use Rattle.rules.specs.declared.Seen.{Seen}

-- ---- the bits

abbrev pub causes : List Cause
causes =
    Cause.Overspeed ∷
    Cause.EmergencyOverspeed ∷
    Cause.CurveFull ∷
    Cause.CurveSoft ∷
    Cause.CurveEmergency ∷
    Cause.AimedStop ∷
    Cause.UnexpectedStop ∷
    Cause.UnexpectedSpeed ∷
    Cause.Landslide ∷
    Cause.BaliseFault ∷
    Cause.Rolling ∷
    Cause.ServiceFault ∷
    []

-- whether a cause stands
abbrev pub stands : Causes → Cause → Bool
stands c Cause.Overspeed = c.overspeed
stands c Cause.EmergencyOverspeed = c.excess
stands c Cause.CurveFull = c.full
stands c Cause.CurveSoft = c.soft
stands c Cause.CurveEmergency = c.emergency
stands c Cause.AimedStop = c.aimed
stands c Cause.UnexpectedStop = c.unexpected
stands c Cause.UnexpectedSpeed = c.speed
stands c Cause.Landslide = c.landslide
stands c Cause.BaliseFault = c.balise
stands c Cause.Rolling = c.rolling
stands c Cause.ServiceFault = c.service

-- the causes for which a test passes
abbrev pub causes_for : (Cause → Bool) → Causes
causes_for test = record {
  overspeed = test Cause.Overspeed;
  excess = test Cause.EmergencyOverspeed;
  full = test Cause.CurveFull;
  soft = test Cause.CurveSoft;
  emergency = test Cause.CurveEmergency;
  aimed = test Cause.AimedStop;
  unexpected = test Cause.UnexpectedStop;
  speed = test Cause.UnexpectedSpeed;
  landslide = test Cause.Landslide;
  balise = test Cause.BaliseFault;
  rolling = test Cause.Rolling;
  service = test Cause.ServiceFault;
}

unfoldable pub no_causes : Causes
no_causes = causes_for (λ cause. false)

-- ---- the column "Ordered when"

-- "a curve brakes in D with drop below sufficient, or in E or F"
unfoldable pub curve_orders : Seen → Bool
curve_orders s = s.d && s.insufficient || s.e

-- at an odometer report in DA; `fault` is bit 11's, "service ordered, no drop of 60 kPa or more by T_B"
abbrev pub ordered_at : Seen → Bool → Cause → Bool
ordered_at s fault Cause.Overspeed = leb (250 * (s.vmax + 10)) (9 * s.speed)
ordered_at s fault Cause.EmergencyOverspeed = leb (250 * (s.vmax + s.margin)) (9 * s.speed)
ordered_at s fault Cause.CurveFull = curve_orders s && not s.halka
ordered_at s fault Cause.CurveSoft = curve_orders s && s.halka
ordered_at s fault Cause.CurveEmergency = s.f
ordered_at s fault Cause.AimedStop = false
ordered_at s fault Cause.UnexpectedStop = false
ordered_at s fault Cause.UnexpectedSpeed = false
ordered_at s fault Cause.Landslide = false
ordered_at s fault Cause.BaliseFault = false
ordered_at s fault Cause.Rolling = s.rolled
ordered_at s fault Cause.ServiceFault = fault

-- "command 30, 0", "30, 1", "30, 2"
abbrev pub is_stop : ℕ → Code → ℕ → Bool
is_stop wanted code which = is_code Code.StopPassed code && eqb which wanted

-- by another command, with its first operand
abbrev pub ordered_by : Code → ℕ → Cause → Bool
ordered_by code which Cause.Overspeed = false
ordered_by code which Cause.EmergencyOverspeed = false
ordered_by code which Cause.CurveFull = false
ordered_by code which Cause.CurveSoft = false
ordered_by code which Cause.CurveEmergency = false
ordered_by code which Cause.AimedStop = is_stop 0 code which
ordered_by code which Cause.UnexpectedStop = is_stop 1 code which
ordered_by code which Cause.UnexpectedSpeed = is_stop 1 code which
ordered_by code which Cause.Landslide = is_stop 2 code which
ordered_by code which Cause.BaliseFault = is_code Code.BaliseError code
ordered_by code which Cause.Rolling = false
ordered_by code which Cause.ServiceFault = false

-- ---- the column "Strength"

abbrev pub strength_of : Cause → Order
strength_of Cause.Overspeed = Order.Soft
strength_of Cause.EmergencyOverspeed = Order.Emergency
strength_of Cause.CurveFull = Order.Full
strength_of Cause.CurveSoft = Order.Soft
strength_of Cause.CurveEmergency = Order.Emergency
strength_of Cause.AimedStop = Order.Emergency
strength_of Cause.UnexpectedStop = Order.Emergency
strength_of Cause.UnexpectedSpeed = Order.Full
strength_of Cause.Landslide = Order.Full
strength_of Cause.BaliseFault = Order.Soft
strength_of Cause.Rolling = Order.Soft
strength_of Cause.ServiceFault = Order.Emergency

-- a cause of this strength stands
unfoldable pub stands_with : Order → Causes → Bool
stands_with strength c = any_of (λ cause. stands c cause && is_order strength (strength_of cause)) causes

-- any order stands
unfoldable pub any_stands : Causes → Bool
any_stands c = any_of (stands c) causes

-- the order is the strongest; "“Soft” means soft with flag bit 0, else full"
unfoldable pub order_of : Bool → Causes → Order
order_of softly c =
    cond (stands_with Order.Emergency c) Order.Emergency
    (cond (stands_with Order.Full c) Order.Full
    (cond (stands_with Order.Soft c) (cond softly Order.Soft Order.Full) Order.Nothing))

-- ---- the column "Releasable when"

-- "v < VMAX+5"
unfoldable pub is_slow : Seen → Bool
is_slow s = ltb (9 * s.speed) (250 * (s.vmax + 5))

-- `others` is bit 11's, "all others are"
abbrev pub releasable_when : Seen → Bool → Cause → Bool
releasable_when s others Cause.Overspeed = is_slow s
releasable_when s others Cause.EmergencyOverspeed = is_slow s
releasable_when s others Cause.CurveFull = not s.d
releasable_when s others Cause.CurveSoft = not s.d
releasable_when s others Cause.CurveEmergency = not s.d
releasable_when s others Cause.AimedStop = s.since.aimed
releasable_when s others Cause.UnexpectedStop = s.since.unexpected
releasable_when s others Cause.UnexpectedSpeed = is_slow s
releasable_when s others Cause.Landslide = s.since.landslide
-- 02, F-2
releasable_when s others Cause.BaliseFault = is_unheld s.since.balise s.speed
releasable_when s others Cause.Rolling = true
releasable_when s others Cause.ServiceFault = others

-- "all others are": every cause that stands, bit 11 itself left out
unfoldable pub others_releasable : Seen → Causes → Bool
others_releasable s c = all_of (λ cause. not (stands c cause) || releasable_when s true cause) causes

-- a cause is releasable while these stand
unfoldable pub is_releasable : Seen → Causes → Cause → Bool
is_releasable s c cause = releasable_when s (others_releasable s c) cause

-- ---- one rule for every bit

-- the causes with those that are ordered now
unfoldable pub added_causes : (Cause → Bool) → Causes → Causes
added_causes ordered c = causes_for (λ cause. stands c cause || ordered cause)

-- "A fresh press of LOSS drops every releasable cause but 10; a fresh press of text drops 10"
abbrev pub pressed_for : Bool → Bool → Cause → Bool
pressed_for loss text cause = cond (eqb (bit_number cause) 10) text loss

-- a press drops a cause
unfoldable pub is_dropped : Seen → Bool → Bool → Causes → Cause → Bool
is_dropped s loss text c cause = pressed_for loss text cause && is_releasable s c cause

-- the causes that are left
unfoldable pub left_causes : Seen → Bool → Bool → Causes → Causes
left_causes s loss text c = causes_for (λ cause. stands c cause && not (is_dropped s loss text c cause))
