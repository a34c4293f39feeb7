-- What is supervised, among all curves: those that places hold, and those of active and locked records. Assumes nothing.
use Prim.Native.Nat.{ℕ}
use mathlib.Core.Path.{◌≡◌, refl, sym, ◌∙◌, ap, ap₂}
use mathlib.Core.Bool.{Bool, true, false, ◌&&◌, and-eq-true_iff}
use mathlib.Core.Logic.{inl, inr}
use mathlib.Core.List.Memᴰ
use mathlib.Core.List.{List, [], ◌∷◌, map, zip_with}
use Rattle.curve.specs.declared.Curve.{Curve}
use Rattle.records.specs.declared.EtRecord.{EtRecord}
use Rattle.curve.specs.declared.Judged.{Judged}
use Rattle.curve.specs.Ground.{moved_by}
use Rattle.records.specs.Lives.{is_effective, with_condition, with_curve, as_curve, covered_by, moved_record}
use Rattle.records.proofs.Told.{moved_held, moved_free}
use Rattle.rules.specs.Places.{all_curves}
use Rattle.rules.specs.Odometer.{noted_record, noted_records}
use Rattle.rules.specs.History.{Holds, RecordIs, Supervises}
use Rattle.rules.specs.declared.Track.{Track}

-- ---- one record

held_with : (curve : Curve) (t : Bool) → t ≡ curve.held
    → record {
      held = t;
      id = curve.id;
      kind = curve.kind;
      distance = curve.distance;
      speed = curve.speed;
      gradient = curve.gradient;
      past = curve.past;
    } ≡ curve
held_with curve t e = rw e

-- an active or locked record is its curve
pub as_itself : (et : EtRecord) → et.curve.held ≡ true → is_effective et.condition ≡ true → as_curve et ≡ et.curve
as_itself et h e = held_with et.curve (et.curve.held && is_effective et.condition) (ap₂ ◌&&◌ h e ∙ sym h)

-- what is held as a curve is held, and active or locked
pub as_held : (et : EtRecord) → (as_curve et).held ≡ true → (et.curve.held ≡ true) × (is_effective et.condition ≡ true)
as_held et e = (and-eq-true_iff et.curve.held (is_effective et.condition)).0 e

-- ground moved, of a record that is held; any place keeps what it holds
pub moved_record_lem : (moved : ℕ) (et : EtRecord) → et.curve.held ≡ true
    → moved_record moved et ≡ with_condition (with_curve et (moved_by et.curve moved)) (covered_by moved et.condition)
moved_record_lem = moved_held

pub unmoved_record : (moved : ℕ) (et : EtRecord) → et.curve.held ≡ false → moved_record moved et ≡ et
unmoved_record = moved_free

pub moved_record_held : (moved : ℕ) (et : EtRecord) → (moved_record moved et).curve.held ≡ et.curve.held
moved_record_held moved et = by et.curve.held refl
  where
    by : (t : Bool) → et.curve.held ≡ t → (moved_record moved et).curve.held ≡ et.curve.held
    by true h = ap (λ e. e.curve.held) (moved_record_lem moved et h)
    by false h = ap (λ e. e.curve.held) (unmoved_record moved et h)

pub moved_record_id : (moved : ℕ) (et : EtRecord) → (moved_record moved et).curve.id ≡ et.curve.id
moved_record_id moved et = by et.curve.held refl
  where
    by : (t : Bool) → et.curve.held ≡ t → (moved_record moved et).curve.id ≡ et.curve.id
    by true h = ap (λ e. e.curve.id) (moved_record_lem moved et h)
    by false h = ap (λ e. e.curve.id) (unmoved_record moved et h)

-- every record noted at its place: what is judged there is its curve, if it is one
pub noted_at_places : (judge : Curve → Judged) (ets : List EtRecord)
    → noted_records ets (map judge (map as_curve ets)) ≡ map (λ et. noted_record et (judge (as_curve et))) ets
unfolding zip_with
noted_at_places judge [] = refl
noted_at_places judge (et ∷ ets) = ap (noted_record et (judge (as_curve et)) ∷◌) (noted_at_places judge ets)

-- ---- all of them

-- a record that is a curve
pub record_in_lem : {ets : List EtRecord} {curve : Curve} → RecordIs ets curve → Holds (map as_curve ets) curve
record_in_lem r =
    let same = as_itself r.et r.holds.held r.effective ∙ r.is in
    record { place = Memᴰ.cast (sym same) (Memᴰ.map as_curve r.holds.place); held = ap (λ curve. curve.held) (sym r.is) ∙ r.holds.held }

pub record_of_lem : (ets : List EtRecord) (curve : Curve) → Holds (map as_curve ets) curve → RecordIs ets curve
record_of_lem ets curve holds =
    let (et, place, same) = Memᴰ.of_map as_curve ets holds.place in
    let (held, effective) = as_held et (ap (λ c. c.held) same ∙ holds.held) in
    record {
      et = et;
      holds = record { place = place; held = held };
      effective = effective;
      is = sym (as_itself et held effective) ∙ same;
    }

module _ (track : Track) where
  pub among_all : (et : Bool) (curve : Curve) → Supervises track et curve → Holds (all_curves track) curve
  unfolding all_curves
  among_all false curve s = record { place = Memᴰ.append_left (map as_curve track.records) s.place; held = s.held }
  among_all true curve s =
      let holds = record_in_lem s in
      record { place = Memᴰ.append_right track.curves holds.place; held = holds.held }

  pub from_all : (curve : Curve) → Holds (all_curves track) curve → (et : Bool) × Supervises track et curve
  unfolding all_curves
  from_all curve holds =
      elim (Memᴰ.append_cases track.curves holds.place) [
        | inl m ↦ (false, record { place = m; held = holds.held })
        | inr m ↦ (true, record_of_lem track.records curve (record { place = m; held = holds.held }))
      ]
