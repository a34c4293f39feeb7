-- A place that holds a curve is moved and judged as its curve is, and one that holds none stays as it is. Assumes nothing.
use Prim.Native.Nat.{ℕ}
use mathlib.Core.Path.{◌≡◌, refl, sym, ◌∙◌, ap}
use mathlib.Core.Bool.{Bool, true, false, cond, false≢true, or-false}
use Rattle.curve.specs.Ground.{moved_by}
use Rattle.interval.specs.Judging.{judged_of, noted_at}
use Rattle.places.specs.Places.{moved_here, none_judged, judged_here, permitted_here, brakes_from}
use Rattle.curve.specs.declared.Curve.{Curve}
use Rattle.curve.specs.declared.Braking.{Braking}
use Rattle.curve.specs.declared.Interval.{Interval}
use Rattle.curve.specs.declared.Interval.TheVariants.{A}

-- ---- where a curve is held

taken : {A : Type 0} (t : Bool) (x y : A) → t ≡ true → cond t x y ≡ x
taken true x y e = refl
taken false x y e = absurd (false≢true e)

pub held_moved : (moved : ℕ) (curve : Curve) → curve.held ≡ true → moved_here moved curve ≡ moved_by curve moved
held_moved moved curve e = taken curve.held _ _ e

pub held_judged : (braking : Braking) (v : ℕ) (curve : Curve) → curve.held ≡ true → judged_here braking v curve ≡ judged_of braking v curve
held_judged braking v curve e = taken curve.held _ _ e

-- ---- where none is

left : {A : Type 0} (t : Bool) (x y : A) → t ≡ false → cond t x y ≡ y
left true x y e = absurd (false≢true (sym e))
left false x y e = refl

pub free_moved : (moved : ℕ) (curve : Curve) → curve.held ≡ false → moved_here moved curve ≡ curve
free_moved moved curve e = left curve.held _ _ e

-- A notes nothing
noted_in_a : (curve : Curve) → noted_at curve A ≡ curve
noted_in_a curve = ap (past_of curve) (or-false curve.past)
  where
    past_of : Curve → Bool → Curve
    past_of curve past = record {
      distance = curve.distance;
      speed = curve.speed;
      held = curve.held;
      id = curve.id;
      kind = curve.kind;
      gradient = curve.gradient;
      past = past;
    }

pub free_noted : (braking : Braking) (v : ℕ) (curve : Curve) → curve.held ≡ false
    → noted_at curve (judged_here braking v curve).interval ≡ curve
free_noted braking v curve e =
    ap (λ j. noted_at curve j.interval) (left curve.held (judged_of braking v curve) none_judged e) ∙ noted_in_a curve

-- ---- at every place

-- a field of a place that a change leaves as it was
kept : {A : Type 0} (field : Curve → A) (t : Bool) (changed curve : Curve) → field changed ≡ field curve → field (cond t changed curve) ≡ field curve
kept field true changed curve e = e
kept field false changed curve e = refl

module _ (moved : ℕ) (curve : Curve) where
  pub moved_held : (moved_here moved curve).held ≡ curve.held
  moved_held = kept (λ c. c.held) curve.held (moved_by curve moved) curve refl

  pub moved_id : (moved_here moved curve).id ≡ curve.id
  moved_id = kept (λ c. c.id) curve.held (moved_by curve moved) curve refl

pub judged_held : (braking : Braking) (v : ℕ) (curve : Curve) → (judged_here braking v curve).held ≡ curve.held
unfolding judged_of
judged_held braking v curve = by curve.held refl
  where
    by : (t : Bool) → curve.held ≡ t → (cond t (judged_of braking v curve) none_judged).held ≡ t
    by true e = e
    by false e = refl

-- ---- what is asked of all places

module _ (braking : Braking) (v : ℕ) (curve : Curve) where
  pub permits_here : permitted_here (judged_here braking v curve) ≡ permitted_here (judged_of braking v curve)
  unfolding judged_of
  permits_here = by curve.held refl
    where
      by : (t : Bool) → curve.held ≡ t → permitted_here (cond t (judged_of braking v curve) none_judged) ≡ permitted_here (judged_of braking v curve)
      by true e = refl
      by false e = rw e

  pub brakes_here : (interval : Interval) → brakes_from interval (judged_here braking v curve) ≡ brakes_from interval (judged_of braking v curve)
  unfolding judged_of
  brakes_here interval = by curve.held refl
    where
      by : (t : Bool) → curve.held ≡ t
          → brakes_from interval (cond t (judged_of braking v curve) none_judged) ≡ brakes_from interval (judged_of braking v curve)
      by true e = refl
      by false e = rw e
