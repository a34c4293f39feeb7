-- The table of causes for two units, of which the second sees nothing milder: the causes after a report, and the order.
-- Assumes nothing.
use Prim.Native.Nat.{ℕ, ◌+◌, ◌*◌, ◌≤◌, zero-le}
use mathlib.Core.Path.{◌≡◌, refl, sym, ◌∙◌, ap₂}
use mathlib.Core.Bool.{Bool, true, false, cond, not, ◌&&◌, ◌||◌, false≢true, and-eq-true_iff, or-false}
use native.Mathlib.Nat.{le_refl, le_trans}
use native.Mathlib.Omega.{arith}
use lib.Dec.{lit≤}
use Rattle.rules.specs.Numbers.{order_number}
use Rattle.rules.specs.Hold.{is_unheld}
use Rattle.rules.specs.Table.{causes, stands, curve_orders, ordered_at, stands_with, order_of}
use Rattle.rules.specs.Table.{is_slow, is_releasable, added_causes, is_dropped, left_causes}
use Rattle.rules.specs.declared.Cause.{Cause}
use Rattle.rules.specs.declared.Causes.{Causes}
use Rattle.rules.specs.declared.Hold.{Hold}
use Rattle.rules.specs.declared.Order.{Order}
use Rattle.rules.specs.declared.Seen.{Seen}
use Rattle.rules.proofs.Monotone.{◌⇒◌, equal_implies, same_implies, and_implies, or_implies, not_implies}
use Rattle.rules.proofs.Monotone.{leb_implies, ltb_implies, any_implies}

-- ---- what is seen

-- the second sees nothing milder; the note of an unexpected stop is left out
pub record SeenBelow (s s' : Seen) : Type 0 where
  pub speed : s.speed ≤ s'.speed
  pub vmax : s'.vmax ≤ s.vmax
  pub margin : s'.margin ≡ s.margin
  pub d : s.d ⇒ s'.d
  pub e : s.e ⇒ s'.e
  pub f : s.f ⇒ s'.f
  pub insufficient : s'.insufficient ≡ s.insufficient
  pub halka : s'.halka ≡ s.halka
  pub aimed : s'.since.aimed ⇒ s.since.aimed
  pub landslide : s'.since.landslide ⇒ s.since.landslide
  pub balise : s'.since.balise ≡ s.since.balise
  pub rolled : s.rolled ⇒ s'.rolled

-- a cause that stands in the first stands in the second
pub record CausesBelow (c c' : Causes) : Type 0 where
  pub at : (cause : Cause) → stands c cause ⇒ stands c' cause

-- ---- one bit

-- it stood or is ordered, and is not dropped: where it stands in the first, the second may drop it only if the first may
bit : {stood stood' ordered ordered' releasable releasable' : Bool} (pressed : Bool)
    → stood ⇒ stood' → ordered ⇒ ordered' → ((stood || ordered) ≡ true → releasable' ⇒ releasable)
    → (stood || ordered) && not (pressed && releasable) ⇒ (stood' || ordered') && not (pressed && releasable')
bit {stood} {ordered = ordered} {releasable = releasable} pressed h k r = record {
  run = λ t.
      let (standing, left) = (and-eq-true_iff (stood || ordered) (not (pressed && releasable))).0 t in
      ap₂ ◌&&◌ ((or_implies h k).run standing)
      ((not_implies (and_implies (same_implies {a = pressed}) (r standing))).run left);
}

-- ---- the twelve bits

-- the causes after a report that finds c
abbrev pub causes_after : Seen → Bool → Bool → Bool → Causes → Causes
causes_after s fault loss text c = left_causes s loss text (added_causes (ordered_at s fault) c)

module _ {s s' : Seen} (seen : SeenBelow s s') where
  faster : 9 * s.speed ≤ 9 * s'.speed
  faster = omega (arith, seen.speed)

  limit_no_higher : (k : ℕ) → 250 * (s'.vmax + k) ≤ 250 * (s.vmax + k)
  limit_no_higher k = omega (arith, seen.vmax)

  margin_no_higher : 250 * (s'.vmax + s'.margin) ≤ 250 * (s.vmax + s.margin)
  margin_no_higher = rw seen.margin (limit_no_higher s.margin)

  slow : is_slow s' ⇒ is_slow s
  unfolding is_slow
  slow = ltb_implies faster (limit_no_higher 5)

  curves_order : curve_orders s ⇒ curve_orders s'
  unfolding curve_orders
  curves_order = or_implies (and_implies seen.d (equal_implies (sym seen.insufficient))) seen.e

  halka : s.halka ⇒ s'.halka
  halka = equal_implies (sym seen.halka)

  no_halka : not s.halka ⇒ not s'.halka
  no_halka = not_implies (equal_implies seen.halka)

  clear : not s'.d ⇒ not s.d
  clear = not_implies seen.d

  -- one hold, and no lower speed
  unheld_at : (hold : Hold) → is_unheld hold s'.speed ⇒ is_unheld hold s.speed
  unheld_at Hold.Undecided = leb_implies faster (le_refl (250 * 80))
  unheld_at Hold.High = leb_implies faster (le_refl (250 * 80))
  unheld_at (Hold.Low count) = same_implies

  unheld : is_unheld s'.since.balise s'.speed ⇒ is_unheld s.since.balise s.speed
  unheld = rw seen.balise (unheld_at s.since.balise)

  -- the note of an unexpected stop counts only where one stands; bit 11 does not stand in the first after the report
  module _ (fault fault' loss text : Bool) {c c' : Causes} (stood : CausesBelow c c')
      (noted : c.unexpected ≡ true → s'.since.unexpected ⇒ s.since.unexpected)
      (sound : stands (causes_after s fault loss text c) Cause.ServiceFault ≡ false) where
    bit_after : (cause : Cause)
        → stands (causes_after s fault loss text c) cause ⇒ stands (causes_after s' fault' loss text c') cause
    unfolding left_causes added_causes is_dropped is_releasable
    bit_after Cause.Overspeed = bit loss (stood.at Cause.Overspeed) (leb_implies (limit_no_higher 10) faster) (λ t. slow)
    bit_after Cause.EmergencyOverspeed =
        bit loss (stood.at Cause.EmergencyOverspeed) (leb_implies margin_no_higher faster) (λ t. slow)
    bit_after Cause.CurveFull = bit loss (stood.at Cause.CurveFull) (and_implies curves_order no_halka) (λ t. clear)
    bit_after Cause.CurveSoft = bit loss (stood.at Cause.CurveSoft) (and_implies curves_order halka) (λ t. clear)
    bit_after Cause.CurveEmergency = bit loss (stood.at Cause.CurveEmergency) seen.f (λ t. clear)
    bit_after Cause.AimedStop = bit loss (stood.at Cause.AimedStop) same_implies (λ t. seen.aimed)
    bit_after Cause.UnexpectedStop = bit loss (stood.at Cause.UnexpectedStop) same_implies (λ t. noted (rw or-false at t))
    bit_after Cause.UnexpectedSpeed = bit loss (stood.at Cause.UnexpectedSpeed) same_implies (λ t. slow)
    bit_after Cause.Landslide = bit loss (stood.at Cause.Landslide) same_implies (λ t. seen.landslide)
    bit_after Cause.BaliseFault =
        bit loss (stood.at Cause.BaliseFault) same_implies (λ t. unheld)
    bit_after Cause.Rolling = bit text (stood.at Cause.Rolling) seen.rolled (λ t. same_implies)
    bit_after Cause.ServiceFault = record { run = λ t. absurd (false≢true (sym sound ∙ t)) }

    pub causes_after_lem : CausesBelow (causes_after s fault loss text c) (causes_after s' fault' loss text c')
    causes_after_lem = record { at = bit_after }

-- an unexpected stop that stands after a report stood before it: none is ordered there
pub stop_stood : (s : Seen) (fault loss text : Bool) (c : Causes)
    → stands (causes_after s fault loss text c) Cause.UnexpectedStop ≡ true → stands c Cause.UnexpectedStop ≡ true
unfolding left_causes added_causes is_dropped is_releasable
stop_stood s fault loss text c e = rw or-false at ((and-eq-true_iff (c.unexpected || false) _).0 e).0

-- ---- the order

stands_with_lem : {c c' : Causes} → CausesBelow c c' → (strength : Order) → stands_with strength c ⇒ stands_with strength c'
unfolding stands_with
stands_with_lem below strength =
    any_implies _ _ causes causes (λ cause m e. (cause, m, (and_implies (below.at cause) same_implies).run e))

-- the second of two orders is no milder, and the first has a number up to n
record NoMilder (n : ℕ) (order order' : Order) : Type 0 where
  stronger : order_number order ≤ order_number order'
  within : order_number order ≤ n

-- one more order in front of what is chosen from
chosen : {t t' : Bool} {n : ℕ} {rest rest' : Order} (order : Order) → n ≤ order_number order
    → t ⇒ t' → NoMilder n rest rest' → NoMilder (order_number order) (cond t order rest) (cond t' order rest')
chosen {t = true} {t' = true} order h i k = record { stronger = le_refl _; within = le_refl _ }
chosen {t = true} {t' = false} order h i k = absurd (false≢true (i.run refl))
chosen {t = false} {t' = true} order h i k = record { stronger = le_trans k.within h; within = le_trans k.within h }
chosen {t = false} {t' = false} order h i k = record { stronger = k.stronger; within = le_trans k.within h }

soft_within_full : (softly : Bool) → order_number (cond softly Order.Soft Order.Full) ≤ 2
soft_within_full true = lit≤ tt
soft_within_full false = lit≤ tt

pub order_no_milder : (softly : Bool) {c c' : Causes} → CausesBelow c c'
    → order_number (order_of softly c) ≤ order_number (order_of softly c')
unfolding order_of
order_no_milder softly below =
    (chosen Order.Emergency (lit≤ tt) (stands_with_lem below Order.Emergency)
    (chosen Order.Full (soft_within_full softly) (stands_with_lem below Order.Full)
    (chosen (cond softly Order.Soft Order.Full) zero-le (stands_with_lem below Order.Soft) nothing))).stronger
  where
    nothing : NoMilder 0 Order.Nothing Order.Nothing
    nothing = record { stronger = zero-le; within = zero-le }
