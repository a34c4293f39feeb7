-- Metres to the next change: the next report bears out what a report tells. Assumes nothing.
use mathlib.Core.Path.{◌≡◌, refl, sym, ◌∙◌, ap, ap₂, subst}
use Prim.Native.Nat.{ℕ, zero, suc, ◌≤◌}
use mathlib.Core.Bool.{Bool, true, false, not, ◌&&◌}
use mathlib.Core.Logic.{inl, inr}
use mathlib.Core.List.Memᴰ
use mathlib.Core.List.{List, [], ◌∷◌}
use native.Mathlib.Omega.{arith}
use lib.Dec.{leb}
use lib.ListN.{get_or}
use borrow.Author.Tests.{eq-eqb, leb-true}
use Rattle.laws.proofs.Lists.{◌∈◌}
use Rattle.wire.specs.Numbers.{byte_at}
use Rattle.wire.specs.Form.{operands_of}
use Rattle.wire.specs.Report.{change_in}
use Rattle.curve.specs.declared.Curve.{Curve}
use Rattle.curve.specs.declared.Braking.{Braking}
use Rattle.curve.specs.declared.Judged.{Judged}
use Rattle.curve.specs.Boundary.{target_of, is_above, line_for, is_reached, is_reached_f}
use Rattle.curve.specs.Deceleration.{level_of}
use Rattle.records.specs.declared.Condition.{Condition}
use Rattle.records.specs.declared.EtRecord.{EtRecord}
use Rattle.records.specs.Lives.{free_record, with_condition, with_curve, as_curve, covered_by, moved_record}
use Rattle.interval.specs.Intervals.{interval_of}
use Rattle.curve.specs.Ground.{moved_by}
use Rattle.interval.specs.Judging.{judged_of}
use Rattle.interval.specs.Changes.{to_change}
use Rattle.curve.specs.Claims.{StaysFor}
use Rattle.interval.proofs.Changes.{change_is_told}
use Rattle.rules.specs.Numbers.{code_of}
use Rattle.rules.specs.Operands.{code_byte, two_at, reading_of, odometer_in_range, in_range}
use Rattle.curve.specs.Free.{free_curve}
use Rattle.rules.specs.Speeds.{braking_of}
use Rattle.rules.specs.Odometer.{moves, measures, noted_record, notes}
use Rattle.rules.specs.Runs.{Sent, state_after, moment_of}
use Rattle.rules.specs.History.{moved_of, is_report, is_in, curve_at, record_at, Supervises, braking_in}
use Rattle.rules.specs.Units.{differ, IsUnit}
use Rattle.rules.specs.Braking.{measured_at}
use Rattle.rules.specs.Changes.{supervised_at, interval_at, ShownAt, GoesOn, NextChangeIsTold}
use Rattle.rules.specs.declared.Code.{Code}
use Rattle.rules.specs.declared.State.{State}
use Rattle.rules.specs.declared.Stm.{Stm}
use Rattle.rules.proofs.Tests.{impossible, both, and_left, and_right}
use Rattle.rules.proofs.Told.{code_is, state_is_lem}
use Rattle.rules.proofs.Supervising.{as_itself, as_held, moved_record_lem}
use Rattle.rules.proofs.AtRecords.{judging, noted_for, record_in, record_after}
use Rattle.rules.proofs.Answers.{passed}
use Rattle.rules.proofs.After.{train_measured, kept_measured}
use Rattle.rules.proofs.Claims.{all_holds}
use Rattle.rules.proofs.Holding.{is_else, differs_head, differs_tail}
use Rattle.rules.proofs.Keeps.{call_keeps_unit}
use Rattle.rules.proofs.Past.{curve_after, interval_of_rest}
use Rattle.rules.proofs.Written.{shown_in_da}

-- ---- an id is held once

module _ {A : Type 0} (held : A → Bool) (id : A → ℕ) where
  at_in : (free : A) → held free ≡ false → (xs : List A) (i : ℕ) → held (get_or xs i free) ≡ true → get_or xs i free ∈ xs
  at_in free none [] i h = impossible (sym none ∙ h)
  at_in free none (x ∷ xs) zero h = Memᴰ.head refl
  at_in free none (x ∷ xs) (suc i) h = Memᴰ.tail (at_in free none xs i h)

  -- no later place holds the first one's id
  not_later : (x : A) (xs : List A) → differ held id (x ∷ xs) ≡ true → held x ≡ true
      → {y : A} → y ∈ xs → held y ≡ true → id y ≡ id x → ⊥
  not_later x xs e h {y} m g same =
      let else = all_holds (is_else held id (id x)) xs (differs_head held id x xs e h) y m in
      impossible (sym (ap₂ (λ s t. not (s && t)) g (eq-eqb (id y) (id x) same)) ∙ else)

  one_of_id : (xs : List A) → differ held id xs ≡ true → {x y : A} → x ∈ xs → y ∈ xs
      → held x ≡ true → held y ≡ true → id x ≡ id y → x ≡ y
  one_of_id [] e m k h g same = absurd (Memᴰ.not-nil m)
  one_of_id (z ∷ xs) e (Memᴰ.head p) (Memᴰ.head q) h g same = p ∙ sym q
  one_of_id (z ∷ xs) e (Memᴰ.head p) (Memᴰ.tail k) h g same =
      absurd (not_later z xs e (ap held (sym p) ∙ h) k g (sym same ∙ ap id p))
  one_of_id (z ∷ xs) e (Memᴰ.tail m) (Memᴰ.head q) h g same =
      absurd (not_later z xs e (ap held (sym q) ∙ g) m h (same ∙ ap id q))
  one_of_id (z ∷ xs) e (Memᴰ.tail m) (Memᴰ.tail k) h g same = one_of_id xs (differs_tail held id z xs e) m k h g same

-- ---- the figure is the shown one's

-- what is held at a place, of either set, is supervised
at_place : (et : Bool) (place : ℕ) (stm : Stm) → (supervised_at et place stm).held ≡ true → Supervises stm.track et (supervised_at et place stm)
at_place false place stm h =
    record { place = at_in (λ curve. curve.held) (λ curve. curve.id) free_curve refl stm.track.curves place h; held = h }
at_place true place stm h =
    let one = record_at place stm in
    let (held, effective) = as_held one h in
    record {
      et = one;
      holds = record {
        place = at_in (λ et. et.curve.held) (λ et. et.curve.id) free_record refl stm.track.records place held;
        held = held;
      };
      effective = effective;
      is = sym (as_itself one held effective);
    }

-- of one id and set there is one
one_supervised : (et : Bool) (stm : Stm) → IsUnit stm → {curve other : Curve} → Supervises stm.track et curve
    → Supervises stm.track et other → curve.id ≡ other.id → curve ≡ other
one_supervised false stm unit s t same =
    one_of_id (λ curve. curve.held) (λ curve. curve.id) stm.track.curves unit.curve_ids s.place t.place s.held t.held same
one_supervised true stm unit s t same =
    let ids = ap (λ curve. curve.id) s.is ∙ same ∙ ap (λ curve. curve.id) (sym t.is) in
    let one =
    one_of_id (λ et. et.curve.held) (λ et. et.curve.id) stm.track.records unit.record_ids s.holds.place t.holds.place
    s.holds.held t.holds.held ids in
    sym s.is ∙ ap (λ et. et.curve) one ∙ t.is

module _ (stm : Stm) (x : Sent) (et : Bool) (place : ℕ) (unit : IsUnit stm) (shown : ShownAt stm x et place) where
  abbrev after : Stm
  after = state_after stm x

  pub figure_of : is_in State.DA after ≡ true
      → change_in (moment_of stm x).area ≡ to_change (supervised_at et place after) (braking_in after) after.kept.speed
  figure_of d =
      let there = at_place et place after shown.held in
      let s = (shown_in_da stm x shown.accepted d).0 et (supervised_at et place after) there in
      let own = subst (λ t. Supervises after.track t s.curve) (sym s.marked ∙ shown.marked) s.holds in
      let one = one_supervised et after (call_keeps_unit stm x unit) own there (sym s.id ∙ shown.id) in
      s.change ∙ ap (λ curve. to_change curve (braking_in after) after.kept.speed) one

-- ---- the next report

-- what an interval goes by
same_interval : (et : EtRecord) (j : Judged) (moved : ℕ) (condition : Condition) (braking : Braking) (v : ℕ)
    → interval_of (as_curve (noted_record (with_condition (with_curve et (moved_by et.curve moved)) condition) j)) braking v
    ≡ interval_of (moved_by (as_curve et) moved) braking v
unfolding interval_of is_reached is_reached_f is_above line_for target_of
same_interval et j moved condition braking v = refl

module _ (stm : Stm) (y : Sent) (goes : GoesOn stm y) where
  abbrev next : Stm
  next = state_after stm y

  kept_on : (next.kept.speed ≡ stm.kept.speed) × (next.kept.halka ≡ stm.kept.halka)
  unfolding measured_at notes measures moves reading_of
  kept_on = (
    ap (λ kept. kept.speed) (kept_measured stm y goes.accepted goes.supervised) ∙ goes.speed,
    ap (λ kept. kept.halka) (kept_measured stm y goes.accepted goes.supervised) ∙ goes.halka,
  )

  brakes_on : braking_in next ≡ braking_in stm
  unfolding measured_at notes measures moves
  brakes_on = rw (train_measured stm y goes.accepted goes.supervised, kept_on.1)

  is_report_lem : code_of (code_byte y.command) ≡ Code.Odometer
  is_report_lem = code_is Code.Odometer (code_of (code_byte y.command)) (both (is_report y.command) (is_in State.DA stm) goes.supervised).0

  record_on : (place : ℕ) → record_at place next
      ≡ noted_for (reading_of (operands_of y.command)) stm (moved_record (reading_of (operands_of y.command)).moved (record_at place stm))
  record_on place =
      record_after stm y Code.Odometer goes.accepted is_report_lem place
      ∙ ap (λ state. record_in state (reading_of (operands_of y.command)) stm (record_at place stm))
      (state_is_lem State.DA stm.control.state (both (is_report y.command) (is_in State.DA stm) goes.supervised).1)

  interval_on : (et : Bool) (place : ℕ) → (supervised_at et place stm).held ≡ true
      → interval_at et place next ≡ interval_of (moved_by (supervised_at et place stm) (moved_of y.command)) (braking_in stm) stm.kept.speed
  unfolding reading_of judged_of braking_of level_of
  interval_on false place held =
      let moved = moved_by (curve_at place stm) (moved_of y.command) in
      ap (λ curve. interval_of curve (braking_in next) next.kept.speed) (curve_after stm y place goes.accepted goes.supervised held)
      ∙ interval_of_rest moved (interval_of moved (braking_in next) next.kept.speed) next
      ∙ ap₂ (λ braking v. interval_of moved braking v) brakes_on kept_on.0
  interval_on true place held =
      let r = reading_of (operands_of y.command) in
      let one = record_at place stm in
      let moved = moved_record_lem r.moved one (as_held one held).0 in
      let covered = covered_by r.moved one.condition in
      ap (λ et. interval_of (as_curve et) (braking_in next) next.kept.speed) (record_on place ∙ ap (noted_for r stm) moved)
      ∙ same_interval one (judging r stm (as_curve (with_condition (with_curve one (moved_by one.curve r.moved)) covered))) (moved_of y.command) covered
      (braking_in next) next.kept.speed
      ∙ ap₂ (λ braking v. interval_of (moved_by (as_curve one) (moved_of y.command)) braking v) brakes_on kept_on.0

  -- "moved 2 (0–1,200 cm)"
  moved_within : moved_of y.command ≤ 1200
  unfolding odometer_in_range
  moved_within =
      let s = operands_of y.command in
      let range = subst (λ code. in_range code s ≡ true) is_report_lem (passed stm y goes.accepted).1.range in
      let speed = leb (two_at s 0) 10000 in
      let moved = leb (two_at s 2) 1200 in
      leb-true (two_at s 2) 1200 (and_right speed moved (and_left (speed && moved) (leb (byte_at s 8) 15) range))

-- what a figure says of the centimetres that a report can move
told_by : {Same : ℕ → Type 0} {distance n : ℕ} → StaysFor Same distance n
    → (m : ℕ) → m ≤ 1200 → (m ≤ n → Same m) × (m ≡ suc n → Same m → ⊥)
told_by {Same} (inl c) m h = (c.stays m, λ e s. c.changes (subst Same e s))
told_by {Same} {distance} {n} (inr c) m h = (λ _. c.stays m, λ e s. beyond e)
  where
    beyond : m ≡ suc n → ⊥
    beyond e = absurd (omega (arith, h, c.told, e))

pub next_change_is_told : NextChangeIsTold
next_change_is_told stm x y et place unit shown goes =
    let after = state_after stm x in
    let d = (both (is_report y.command) (is_in State.DA after) goes.supervised).1 in
    let told = told_by (change_is_told (supervised_at et place after) (braking_in after) after.kept.speed) (moved_of y.command)
    (moved_within after y goes) in
    rw (figure_of stm x et place unit shown d, interval_on after y goes et place shown.held) told
