-- What a closed pair of runs has to meet for point 3, and laws by which it does.
use mathlib.Core.Path.{◌≡◌, refl, sym, ◌∙◌, ap, subst}
use Prim.Native.Nat.{ℕ, zero, suc, ◌≤◌}
use native.Mathlib.Nat.{le_refl}
use mathlib.Core.Bool.{Bool, true, false, false≢true}
use mathlib.Core.List.Memᴰ
use mathlib.Core.List.{List, ◌∷◌, Memᴰ}
use lib.ListN.{replicate}
use Rattle.wire.proofs.Values.{bytes_read}
use Rattle.curve.specs.declared.Curve.{Curve}
use Rattle.curve.specs.Claims.{Stricter}
use Rattle.curve.proofs.Stricter.{same}
use Rattle.rules.specs.Numbers.{code_of}
use Rattle.places.specs.Places.{places}
use Rattle.areas.specs.declared.Stay.{Stay}
use Rattle.areas.specs.Stays.{fresh_stay}
use Rattle.curve.specs.Free.{free_curve}
use Rattle.records.specs.Lives.{free_record}
use Rattle.rules.specs.Places.{any_of, free_section, record_places, no_records}
use Rattle.rules.specs.Runs.{moments}
use Rattle.rules.specs.Units.{IsUnit}
use Rattle.rules.specs.TwoRuns.{TrainsCompared, TracksCompared, Compared, Both, Faster, RefusedAlike, NoServiceFault, NoEmergencyFault, InGear, UnexpectedStopAlike, NoTestRuns, Presumed, Claimed, ClaimGiven}
use Rattle.cases.specs.Figures.{odometer}
use Rattle.cases.specs.Pairs.{Pair, first_unit, second_unit}
use Rattle.rules.specs.declared.Section.{Section}
use Rattle.rules.specs.declared.Stm.{Stm}
use Rattle.rules.proofs.Keeps.{every_run_is_unit}

-- ---- the units

-- no free place is held
none_held : {A : Type 0} (held : A → Bool) (free : A) → held free ≡ false → (n : ℕ) {x : A}
    → Memᴰ x (replicate n free) → held x ≡ true → ⊥
none_held held free e zero m h = Memᴰ.not-nil m
none_held held free e (suc n) (Memᴰ.head p) h = false≢true (sym e ∙ ap held (sym p) ∙ h)
none_held held free e (suc n) (Memᴰ.tail m) h = none_held held free e n m h

-- where every later place is free, what is held stands at the first
held_first : (curve : Curve) (n : ℕ) {x : Curve} → Memᴰ x (curve ∷ replicate n free_curve) → x.held ≡ true → x ≡ curve
held_first curve n (Memᴰ.head p) h = p
held_first curve n (Memᴰ.tail m) h = absurd (none_held (λ x. x.held) free_curve refl n m h)

-- one curve in each, and sections in the second alone
pub one_curve : (curve curve' : Curve) (n m : ℕ) (sections : List Section) (forty : Bool) (stay : Stay)
    → curve'.held ≡ curve.held → curve'.id ≡ curve.id → curve'.past ≡ curve.past → Stricter curve curve'
    → TracksCompared (record { curves = curve ∷ replicate n free_curve; sections = replicate m free_section; forty = forty; stay = stay; records = no_records })
    (record { curves = curve' ∷ replicate n free_curve; sections = sections; forty = forty; stay = stay; records = no_records })
unfolding any_of
one_curve curve curve' n m sections forty stay held id past stricter = record {
  ids = λ i e. rw (held, id) e;
  curves = λ c c' h h' e. rw (held_first curve n h.place h.held, held_first curve' n h'.place h'.held) stricter;
  past = λ c c' h h' e. rw (held_first curve n h.place h.held, held_first curve' n h'.place h'.held) past;
  sections = λ s h. absurd (none_held (λ x. x.held) free_section refl m h.place h.held);
  forty = refl;
  stay = refl;
  record_ids = λ i e. e;
  records = λ et et' h h' e. absurd (none_held (λ x. x.curve.held) free_record refl record_places h.place h.held);
}

-- the same curve in each, or none where it is a free place, and no section
pub same_curve : (curve : Curve) (forty : Bool)
    → TracksCompared (record { curves = curve ∷ replicate 15 free_curve; sections = replicate places free_section; forty = forty; stay = fresh_stay; records = no_records })
    (record { curves = curve ∷ replicate 15 free_curve; sections = replicate places free_section; forty = forty; stay = fresh_stay; records = no_records })
same_curve curve forty = one_curve curve curve 15 places (replicate places free_section) forty fresh_stay refl refl refl (same curve)

-- a unit and itself
pub itself : (unit : Stm) → TrainsCompared unit.train unit.train → TracksCompared unit.track unit.track
    → Compared unit unit
itself unit train track = record {
  control = refl;
  train = train;
  track = track;
  brakes = refl;
  feedback = refl;
  test = refl;
  kept = refl;
  last = record { code = refl; number = refl; permitted = le_refl _; order = le_refl _ };
}

-- ---- the lists

-- a report, and the same with a speed that is no lower
pub faster : (n v v' moved measured external buttons : ℕ) → v ≤ v'
    → Faster (odometer n v moved measured external buttons) (odometer n v' moved measured external buttons)
unfolding code_of
faster n v v' moved measured external buttons h = record {
  odometer = refl;
  before = refl;
  after = refl;
  length = refl;
  speed = rw (bytes_read v, bytes_read v') h;
}

-- ---- what a pair has to meet

-- its units are u and w; it meets what `ClaimGiven` presumes with these marks
pub record Meets (r s e g t i : Bool) (u w : Stm) (pair : Pair) : Type 0 where
  pub first : first_unit pair ≡ u
  pub second : second_unit pair ≡ w
  pub compared : Compared u w
  pub lists : Both Faster pair.slower pair.faster
  pub refusals : Presumed r (Both RefusedAlike (moments u pair.slower) (moments w pair.faster))
  pub service : Presumed s (Both NoServiceFault (moments u pair.slower) (moments w pair.faster))
  pub emergency : Presumed e (Both NoEmergencyFault (moments u pair.slower) (moments w pair.faster))
  pub gear : Presumed g (Both InGear pair.slower pair.faster)
  pub stops : Presumed t (UnexpectedStopAlike u w)
  pub idle : Presumed i (NoTestRuns u)

-- then these are units, since commands have led to them,
pub units : {r s e g t i : Bool} {u w : Stm} {pair : Pair} → Meets r s e g t i u w pair → IsUnit u × IsUnit w
units {pair = pair} m =
    (subst IsUnit m.first (every_run_is_unit pair.first), subst IsUnit m.second (every_run_is_unit pair.second))

-- and the claim gives what it claims
pub concluded : {r s e g t i : Bool} {u w : Stm} {pair : Pair}
    → ClaimGiven true r s e g t i → Meets r s e g t i u w pair
    → Both Claimed (moments u pair.slower) (moments w pair.faster)
concluded {u = u} {w = w} {pair = pair} claim m =
    claim u w pair.slower pair.faster m.compared m.lists (units m) m.refusals m.service m.emergency
    m.gear m.stops m.idle
