-- What stricter figures keep: intervals and braking. Assumes nothing.
use Prim.Native.Nat.{ℕ, ◌+◌, ◌*◌, ◌≤◌, zero-le}
use mathlib.Core.Path.{◌≡◌, refl, sym, ◌∙◌, ap₂}
use mathlib.Core.Bool.{Bool, true, false, cond, ◌&&◌, false≢true, and-false}
use native.Mathlib.Nat.{le_refl, le_trans}
use native.Mathlib.Omega.{arith}
use lib.Dec.{leb, lit≤}
use borrow.Author.Tests.{ltb-true, lt-ltb, le-ltb, leb-true, le-leb, lt-leb}
use Rattle.curve.specs.Boundary.{is_above, is_reached, is_reached_f}
use Rattle.interval.specs.Intervals.{interval_of, rank_of}
use Rattle.interval.specs.Judging.{is_fast_for, is_fast, brakes_at, judged_of}
use Rattle.interval.specs.Claims.{IntervalIsNotEarlier, StillBrakes, NoBrakingAtFloor}
use Rattle.curve.specs.declared.Kind.{Kind}
use Rattle.curve.specs.declared.Kind.TheVariants.{SpeedTarget, ExpectStop}
use Rattle.curve.specs.declared.Curve.{Curve}
use Rattle.curve.specs.declared.Braking.{Braking}
use Rattle.curve.specs.declared.Interval.{Interval}
use Rattle.curve.specs.declared.Interval.TheVariants.{A, Bf, B, C, D, E, F}
use Rattle.laws.proofs.Lists.{not_true_false}
use Rattle.curve.proofs.Stricter.{both, stays_reached, f_stays_reached, longer_lead_is_reached, f_implies_e}

-- ---- one curve

-- where Bf isn't reached and no lead is longer than its own, no boundary is
pub before_bf : (curve : Curve) (braking : Braking) (v : ℕ)
    → is_reached curve braking.level v braking.leads.bf ≡ false
    → (leb braking.leads.b braking.leads.bf && leb braking.leads.c braking.leads.bf && leb braking.leads.d braking.leads.bf) ≡ true
    → interval_of curve braking v ≡ A
unfolding interval_of
before_bf curve braking v e longest =
    let (b_c, d) = both _ _ longest in
    let (b, c) = both _ _ b_c in
    let e_off = shorter 0 zero-le in
    let f_off = not_true_false _ (λ f. false≢true (sym e_off ∙ f_implies_e curve braking.level braking.margin v f)) in
    let leads = braking.leads in
    let d_off = shorter leads.d (leb-true _ _ d) in
    let c_off = shorter leads.c (leb-true _ _ c) in
    let b_off = shorter leads.b (leb-true _ _ b) in
    rw (f_off, e_off, d_off, c_off, b_off, e)
  where
    shorter : (T : ℕ) → T ≤ braking.leads.bf → is_reached curve braking.level v T ≡ false
    shorter T h = not_true_false _ (λ t. false≢true (sym e ∙ longer_lead_is_reached curve braking.level v T _ h t))

-- ---- intervals

-- the second of two intervals is not earlier, and the first has a rank up to n
record NotEarlier (n : ℕ) (interval interval' : Interval) : Type 0 where
  later : rank_of interval ≤ rank_of interval'
  within : rank_of interval ≤ n

-- one more boundary in front of what is chosen from
chosen : {t t' : Bool} {n : ℕ} {rest rest' : Interval} (x : Interval) → n ≤ rank_of x
    → (t ≡ true → t' ≡ true) → NotEarlier n rest rest' → NotEarlier (rank_of x) (cond t x rest) (cond t' x rest')
chosen {t = true} {t' = true} x h i k = record { later = le_refl _; within = le_refl _ }
chosen {t = true} {t' = false} x h i k = absurd (false≢true (i refl))
chosen {t = false} {t' = true} x h i k = record { later = le_trans k.within h; within = le_trans k.within h }
chosen {t = false} {t' = false} x h i k = record { later = k.later; within = le_trans k.within h }

none_chosen : NotEarlier 0 A A
none_chosen = record { later = zero-le; within = zero-le }

pub interval_is_not_earlier : IntervalIsNotEarlier
unfolding interval_of
interval_is_not_earlier curve curve' braking braking' v v' stricter weaker hv =
    (chosen F (lit≤ tt) (f_stays_reached curve curve' _ _ _ _ v v' stricter weaker.level weaker.margin hv)
    (chosen E (lit≤ tt) (reached (le_refl 0))
    (chosen D (lit≤ tt) (reached weaker.leads.d)
    (chosen C (lit≤ tt) (reached weaker.leads.c)
    (chosen B (lit≤ tt) (reached weaker.leads.b)
    (chosen Bf (lit≤ tt) (reached weaker.leads.bf) none_chosen)))))).later
  where
    reached : {T T' : ℕ} → T ≤ T' → is_reached curve braking.level v T ≡ true → is_reached curve' braking'.level v' T' ≡ true
    reached h = stays_reached curve curve' braking.level braking'.level v v' _ _ stricter weaker.level hv h

-- ---- braking

fast_kept : (kind : Kind) (speed speed' v v' : ℕ) → speed' ≤ speed → v ≤ v' → is_fast_for kind speed v ≡ true → is_fast_for kind speed' v' ≡ true
fast_kept SpeedTarget speed speed' v v' h hv e =
    le-leb (250 * (speed' + 10)) (9 * v') (omega (arith, leb-true (250 * (speed + 10)) (9 * v) e))
fast_kept ExpectStop speed speed' v v' h hv e = lt-ltb (250 * speed') (9 * v') (omega (arith, ltb-true (250 * speed) (9 * v) e))

pub still_brakes : StillBrakes
unfolding judged_of brakes_at is_fast
still_brakes curve curve' braking braking' v v' stricter weaker hv e =
    let i = interval_of curve braking v in
    let i' = interval_of curve' braking' v' in
    let (late, fast) = both (leb (rank_of D) (rank_of i)) (is_fast curve v) e in
    let later = interval_is_not_earlier curve curve' braking braking' v v' stricter weaker hv in
    ap₂ ◌&&◌ (le-leb (rank_of D) (rank_of i') (le_trans (leb-true (rank_of D) (rank_of i) late) later))
    (rw stricter.kind (fast_kept curve.kind curve.speed curve'.speed v v' stricter.speed hv fast))

not_fast : (kind : Kind) (speed v : ℕ) → 9 * v ≤ 250 * speed → is_fast_for kind speed v ≡ false
not_fast SpeedTarget speed v h = lt-leb (250 * (speed + 10)) (9 * v) (omega arith)
not_fast ExpectStop speed v h = le-ltb (250 * speed) (9 * v) h

pub no_braking_at_floor : NoBrakingAtFloor
unfolding interval_of is_reached is_reached_f is_above brakes_at is_fast
no_braking_at_floor curve braking v h =
    (rw (le-ltb (250 * curve.speed) (9 * v) h), λ interval. rw (not_fast curve.kind curve.speed v h, and-false))
