-- What commands 51 to 53, ground and notes keep of the records: eight places, figures in range, conditions as commands leave them, no id
-- twice.
use mathlib.Core.Path.{◌≡◌, refl, sym, subst}
use Prim.Native.Nat.{ℕ, ◌+◌}
use mathlib.Core.Bool.{Bool, true, false, ◌&&◌}
use mathlib.Core.List.{List, map}
use lib.Dec.{leb}
use borrow.Author.Tests.{leb-false, lt-ltb}
use Rattle.curve.specs.declared.Curve.{Curve}
use Rattle.curve.specs.declared.Judged.{Judged}
use Rattle.curve.specs.Ground.{moved_by}
use Rattle.records.specs.declared.Signal.{Signal}
use Rattle.records.specs.declared.Route.{Route}
use Rattle.records.specs.declared.Condition.{Condition}
use Rattle.records.specs.declared.EtRecord.{EtRecord}
use Rattle.records.specs.Numbers.{is_route, route_for}
use Rattle.records.specs.Rows.{classed_by}
use Rattle.records.specs.Lives.{free_record, with_condition, with_curve, as_curve, covered_by, moved_record, is_controlled, classed, passed_record}
use Rattle.rules.specs.Operands.{curve_in_range}
use Rattle.rules.specs.Places.{all_of, record_places, no_records, is_record, given_record, ended_record, signalled_records}
use Rattle.rules.specs.Odometer.{noted_record, noted_records}
use Rattle.rules.specs.Units.{is_condition_sound, is_target, is_record_sound}
use Rattle.rules.proofs.Tests.{impossible, and_left, and_right, and_both, if_mono, cond_by}
use Rattle.rules.proofs.Holding.{Sound, map_sound, changed_sound, given_sound}
use Rattle.rules.proofs.Supervising.{noted_at_places}

abbrev pub RecordsSound : List EtRecord → Type 0
RecordsSound ets = Sound record_places (λ et. et.curve.held) (λ et. et.curve.id) is_record_sound ets

pub records_empty : RecordsSound no_records
unfolding all_of
records_empty = record { sized = refl; each = refl; once = refl }

-- ---- commands 51 and 53

pub record_given_lem : (ets : List EtRecord) → RecordsSound ets → (new : EtRecord) → is_record_sound new ≡ true → RecordsSound (given_record new ets)
unfolding given_record
record_given_lem ets s new good = given_sound s new (λ _. new) good (λ _. refl) (λ _. good)

pub record_ended : (ets : List EtRecord) → RecordsSound ets → (id : ℕ) → RecordsSound (ended_record id ets)
unfolding ended_record
record_ended ets s id = changed_sound s (is_record id) (λ _. free_record) (λ _ _ e. impossible e) (λ _ _. refl)

-- ---- another condition, other figures

-- what is asked of the figures and of the condition
abbrev figures : EtRecord → Bool
figures et = curve_in_range et.curve && is_target et.curve.kind

with_condition_lem : (et : EtRecord) (condition : Condition) → (is_condition_sound et.condition ≡ true → is_condition_sound condition ≡ true)
    → is_record_sound et ≡ true → is_record_sound (with_condition et condition) ≡ true
with_condition_lem et condition h =
    if_mono et.curve.held (figures et && is_condition_sound et.condition) (figures et && is_condition_sound condition)
    (λ e. and_both (figures et) (is_condition_sound condition) (and_left (figures et) (is_condition_sound et.condition) e)
    (h (and_right (figures et) (is_condition_sound et.condition) e)))

moved_figures : (et : EtRecord) (moved : ℕ) → (curve_in_range et.curve ≡ true → curve_in_range (moved_by et.curve moved) ≡ true)
    → is_record_sound et ≡ true → is_record_sound (with_curve et (moved_by et.curve moved)) ≡ true
moved_figures et moved h =
    let c = is_condition_sound et.condition in
    let target = is_target et.curve.kind in
    let range = curve_in_range (moved_by et.curve moved) in
    if_mono et.curve.held (figures et && c) (range && target && c)
    (λ e. and_both (range && target) c
    (and_both range target (h (and_left (curve_in_range et.curve) target (and_left (figures et) c e)))
    (and_right (curve_in_range et.curve) target (and_left (figures et) c e)))
    (and_right (figures et) c e))

-- ---- command 52

-- each row leaves a condition that is sound, or a free place
classed_sound : (signal : Signal) (own : Bool) (et : EtRecord) → is_record_sound et ≡ true → is_record_sound (classed (classed_by signal own) et) ≡ true
unfolding classed
classed_sound Signal.Main false et e = refl
classed_sound Signal.Main true et e = with_condition_lem et Condition.DefinitelyActive (λ _. refl) e
classed_sound Signal.Distant false et e = with_condition_lem et Condition.PreliminaryPassive (λ _. refl) e
classed_sound Signal.Distant true et e = with_condition_lem et Condition.PreliminaryActive (λ _. refl) e

classed_holds : (signal : Signal) (own : Bool) (et : EtRecord) → (classed (classed_by signal own) et).curve.held ≡ true
    → (et.curve.held ≡ true) × ((classed (classed_by signal own) et).curve.id ≡ et.curve.id)
unfolding classed
classed_holds Signal.Main false et e = impossible e
classed_holds Signal.Main true et e = (e, refl)
classed_holds Signal.Distant false et e = (e, refl)
classed_holds Signal.Distant true et e = (e, refl)

pub records_signalled : (ets : List EtRecord) → RecordsSound ets → (signal : Signal) (route : Route)
    → RecordsSound (signalled_records signal route ets)
unfolding signalled_records passed_record
records_signalled ets s signal route =
    changed_sound s (is_controlled signal) (λ et. classed (classed_by signal (is_route (route_for et.category) route)) et)
    (λ et _. classed_holds signal (is_route (route_for et.category) route) et)
    (λ et. classed_sound signal (is_route (route_for et.category) route) et)

-- ---- ground, and notes

covered_sound : (moved : ℕ) (condition : Condition) → is_condition_sound condition ≡ true → is_condition_sound (covered_by moved condition) ≡ true
covered_sound moved (Condition.Undecided covered) e =
    cond_by (λ c. is_condition_sound c ≡ true) (leb 10000 (covered + moved)) Condition.Locked (Condition.Undecided (covered + moved)) (λ _. refl)
    (λ t. lt-ltb (covered + moved) 10000 (leb-false 10000 (covered + moved) t))
covered_sound moved Condition.Terminated e = e
covered_sound moved Condition.DefinitelyActive e = e
covered_sound moved Condition.PreliminaryPassive e = e
covered_sound moved Condition.PreliminaryActive e = e
covered_sound moved Condition.Locked e = e

-- `range` is what ground does to the figures of any curve
pub records_moved : (ets : List EtRecord) → RecordsSound ets → (moved : ℕ)
    → ((curve : Curve) → curve_in_range curve ≡ true → curve_in_range (moved_by curve moved) ≡ true)
    → RecordsSound (map (moved_record moved) ets)
unfolding moved_record
records_moved ets s moved range =
    changed_sound s (λ et. et.curve.held) (λ et. with_condition (with_curve et (moved_by et.curve moved)) (covered_by moved et.condition))
    (λ _ _ e. (e, refl))
    (λ et e.
    with_condition_lem (with_curve et (moved_by et.curve moved)) (covered_by moved et.condition) (covered_sound moved et.condition)
    (moved_figures et moved (range et.curve) e))

pub records_noted : (ets : List EtRecord) → RecordsSound ets → (judge : Curve → Judged)
    → RecordsSound (noted_records ets (map judge (map as_curve ets)))
unfolding curve_in_range
records_noted ets s judge =
    subst RecordsSound (sym (noted_at_places judge ets))
    (map_sound s (λ et. noted_record et (judge (as_curve et))) (λ _ e. (e, refl)) (λ _ e. e))
