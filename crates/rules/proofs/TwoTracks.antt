-- Two tracks, of which the second is the stricter by id: a report keeps that. Assumes nothing.
use Prim.Native.Nat.{ℕ}
use mathlib.Core.Path.{◌≡◌, refl, sym, ◌∙◌, ap, ap₂, subst₂}
use mathlib.Core.Bool.{Bool, true, false, false≢true, and-eq-true_iff, ◌&&◌}
use mathlib.Core.List.Memᴰ
use mathlib.Core.List.{List, [], ◌∷◌, map, zip_with}
use native.Mathlib.Omega.{arith}
use lib.Dec.{eqb}
use borrow.Author.Tests.{eq-eqb, eqb-true}
use Rattle.curve.specs.declared.Curve.{Curve}
use Rattle.curve.specs.declared.Braking.{Braking}
use Rattle.interval.specs.Judging.{noted_at}
use Rattle.places.specs.Places.{moved_here, judged_here, judged_all, noted_all}
use Rattle.areas.specs.Stays.{covered_stay}
use Rattle.curve.specs.Claims.{Stricter}
use Rattle.records.specs.declared.EtRecord.{EtRecord}
use Rattle.records.specs.Lives.{as_curve, covered_by, moved_record}
use Rattle.places.proofs.Held.{held_moved, moved_held, moved_id}
use Rattle.rules.specs.Places.{any_of, moved_section, moved_track}
use Rattle.rules.specs.Speeds.{braking_of, judged_now}
use Rattle.rules.specs.Odometer.{noted_record, noted_track}
use Rattle.rules.specs.TwoRuns.{RecordsCompared, TracksCompared}
use Rattle.rules.specs.History.{HeldIn, HoldsSection}
use Rattle.rules.specs.declared.Train.{Train}
use Rattle.rules.specs.declared.Section.{Section}
use Rattle.rules.specs.declared.Track.{Track}
use Rattle.rules.specs.declared.Kept.{Kept}
use Rattle.rules.proofs.Monotone.{any_in, any_from}
use Rattle.rules.proofs.Supervising.{moved_record_lem, moved_record_held, moved_record_id, noted_at_places}

-- ---- places by id

-- each held one of the first has a held one of its id in the second, and any two held ones of one id are related
pub record ById {A : Type 0} (is_held : A → Bool) (id : A → ℕ) (Related : A → A → Type 0) (xs ys : List A) : Type 0 where
  pub partner : (x : A) → HeldIn is_held xs x → (y : A) × HeldIn is_held ys y × (id y ≡ id x)
  pub related : (x y : A) → HeldIn is_held xs x → HeldIn is_held ys y → id y ≡ id x → Related x y

module _ {A : Type 0} (is_held : A → Bool) (id : A → ℕ) where
  abbrev is_there : ℕ → A → Bool
  is_there n x = is_held x && eqb (id x) n

  id_held : {xs : List A} {x : A} → HeldIn is_held xs x → any_of (is_there (id x)) xs ≡ true
  id_held {xs} {x} holds = any_in (is_there (id x)) xs holds.place (ap₂ ◌&&◌ holds.held (eq-eqb (id x) (id x) refl))

  held_id : (n : ℕ) (xs : List A) → any_of (is_there n) xs ≡ true → (x : A) × HeldIn is_held xs x × (id x ≡ n)
  held_id n xs e =
      let (x, place, t) = any_from (is_there n) xs e in
      let (held, same) = (and-eq-true_iff (is_held x) (eqb (id x) n)).0 t in
      (x, record { place = place; held = held }, eqb-true (id x) n same)

  -- a change that leaves place and id
  record Keeps (change : A → A) : Type 0 where
    held : (x : A) → is_held (change x) ≡ is_held x
    same : (x : A) → id (change x) ≡ id x

  module _ {change : A → A} (keeps : Keeps change) where
    held_changed : {xs : List A} {x : A} → HeldIn is_held xs x → HeldIn is_held (map change xs) (change x)
    held_changed {x = x} holds = record { place = Memᴰ.map change holds.place; held = keeps.held x ∙ holds.held }

    -- what a held one was before the change
    held_before : (xs : List A) {x : A} → HeldIn is_held (map change xs) x
        → (before : A) × HeldIn is_held xs before × (change before ≡ x) × (id before ≡ id x)
    held_before xs holds =
        let (before, place, e) = Memᴰ.of_map change xs holds.place in (
          before,
          record { place = place; held = sym (keeps.held before) ∙ ap is_held e ∙ holds.held },
          e,
          sym (keeps.same before) ∙ ap id e,
        )

  by_id_changed : {Related : A → A → Type 0} {change change' : A → A} → Keeps change → Keeps change'
      → ((x y : A) → is_held x ≡ true → is_held y ≡ true → Related x y → Related (change x) (change' y))
      → {xs ys : List A} → ById is_held id Related xs ys → ById is_held id Related (map change xs) (map change' ys)
  by_id_changed {Related} {change' = change'} keeps keeps' h {xs} {ys} below = record {
    partner = λ x holds.
        let (before, was, e, same) = held_before keeps xs holds in
        let (before', was', alike) = below.partner before was in
        (change' before', held_changed keeps' was', keeps'.same before' ∙ alike ∙ same);
    related = λ x y holds holds' alike.
        let (before, was, e, same) = held_before keeps xs holds in
        let (before', was', e', same') = held_before keeps' ys holds' in
        let closer = below.related before before' was was' (same' ∙ alike ∙ sym same) in
        subst₂ Related e e' (h before before' was.held was'.held closer);
  }

-- ---- the two tracks

-- of two curves of one id the second is stricter, and of two records
abbrev pub CurvesBelow : List Curve → List Curve → Type 0
CurvesBelow curves curves' = ById (λ curve. curve.held) (λ curve. curve.id) Stricter curves curves'

abbrev pub RecordsBelow : List EtRecord → List EtRecord → Type 0
RecordsBelow ets ets' = ById (λ et. et.curve.held) (λ et. et.curve.id) RecordsCompared ets ets'

-- each held section of the first is held just so by the second
abbrev pub SectionsBelow : List Section → List Section → Type 0
SectionsBelow sections sections' = (section : Section) → HoldsSection sections section → HoldsSection sections' section

pub record TracksBelow (track track' : Track) : Type 0 where
  pub curves : CurvesBelow track.curves track'.curves
  pub sections : SectionsBelow track.sections track'.sections
  pub forty : track'.forty ≡ track.forty
  pub stay : track'.stay ≡ track.stay
  pub records : RecordsBelow track.records track'.records

-- ---- at the beginning

pub tracks_at_first : {track track' : Track} → TracksCompared track track' → TracksBelow track track'
tracks_at_first {track' = track'} compared = record {
  curves = record {
    partner = λ curve holds.
        held_id (λ c. c.held) (λ c. c.id) curve.id track'.curves (compared.ids curve.id (id_held (λ c. c.held) (λ c. c.id) holds));
    related = compared.curves;
  };
  sections = compared.sections;
  forty = compared.forty;
  stay = compared.stay;
  records = record {
    partner = λ et holds.
        held_id (λ e. e.curve.held) (λ e. e.curve.id) et.curve.id track'.records
        (compared.record_ids et.curve.id (id_held (λ e. e.curve.held) (λ e. e.curve.id) holds));
    related = compared.records;
  };
}

-- ---- ground moved

moved_keeps : (moved : ℕ) → Keeps (λ curve. curve.held) (λ curve. curve.id) (moved_here moved)
moved_keeps moved = record { held = moved_held moved; same = moved_id moved }

moved_stricter : (moved : ℕ) (curve curve' : Curve) → curve.held ≡ true → curve'.held ≡ true
    → Stricter curve curve' → Stricter (moved_here moved curve) (moved_here moved curve')
moved_stricter moved curve curve' held held' stricter =
    rw (held_moved moved curve held, held_moved moved curve' held')
    (record {
      kind = stricter.kind;
      gradient = stricter.gradient;
      distance = omega (arith, stricter.distance);
      speed = stricter.speed;
    })

record_moved_keeps : (moved : ℕ) → Keeps (λ et. et.curve.held) (λ et. et.curve.id) (moved_record moved)
record_moved_keeps moved = record { held = moved_record_held moved; same = moved_record_id moved }

record_moved_compared : (moved : ℕ) (et et' : EtRecord) → et.curve.held ≡ true → et'.curve.held ≡ true
    → RecordsCompared et et' → RecordsCompared (moved_record moved et) (moved_record moved et')
record_moved_compared moved et et' held held' c =
    rw (moved_record_lem moved et held, moved_record_lem moved et' held')
    (record {
      condition = ap (covered_by moved) c.condition;
      stricter = record {
        kind = c.stricter.kind;
        gradient = c.stricter.gradient;
        distance = omega (arith, c.stricter.distance);
        speed = c.stricter.speed;
      };
    })

-- a section is held only where it was held before
section_held : (length moved : ℕ) (section : Section) → (moved_section length moved section).held ≡ true → section.held ≡ true
unfolding moved_section
section_held length moved section = by section.held refl
  where
    by : (t : Bool) → section.held ≡ t → (moved_section length moved section).held ≡ true → section.held ≡ true
    by true e h = e
    by false e h = absurd (false≢true (rw e at h))

sections_moved : (length moved : ℕ) {sections sections' : List Section} → SectionsBelow sections sections'
    → SectionsBelow (map (moved_section length moved) sections) (map (moved_section length moved) sections')
sections_moved length moved {sections} {sections'} below section holds =
    let (before, place, e) = Memᴰ.of_map (moved_section length moved) sections holds.place in
    let was = section_held length moved before (ap (λ s. s.held) e ∙ holds.held) in
    let holds' : HoldsSection sections' before = below before (record { place = place; held = was }) in
    record { place = Memᴰ.cast (sym e) (Memᴰ.map (moved_section length moved) holds'.place); held = holds.held }

pub tracks_moved : (length moved : ℕ) {track track' : Track} → TracksBelow track track'
    → TracksBelow (moved_track length moved track) (moved_track length moved track')
unfolding moved_track
tracks_moved length moved below = record {
  curves = by_id_changed (λ curve. curve.held) (λ curve. curve.id) (moved_keeps moved) (moved_keeps moved) (moved_stricter moved) below.curves;
  sections = sections_moved length moved below.sections;
  forty = below.forty;
  stay = ap (covered_stay moved) below.stay;
  records =
      by_id_changed (λ et. et.curve.held) (λ et. et.curve.id) (record_moved_keeps moved) (record_moved_keeps moved)
      (record_moved_compared moved) below.records;
}

-- ---- past in B noted

abbrev noted : Braking → ℕ → Curve → Curve
noted braking v curve = noted_at curve (judged_here braking v curve).interval

noted_is : (braking : Braking) (v : ℕ) (curves : List Curve)
    → noted_all curves (judged_all braking v curves) ≡ map (noted braking v) curves
unfolding zip_with
noted_is braking v [] = refl
noted_is braking v (curve ∷ curves) = ap (noted braking v curve ∷◌) (noted_is braking v curves)

noted_keeps : (braking : Braking) (v : ℕ) → Keeps (λ curve. curve.held) (λ curve. curve.id) (noted braking v)
noted_keeps braking v = record { held = λ curve. refl; same = λ curve. refl }

noted_stricter : (braking braking' : Braking) (v v' : ℕ) (curve curve' : Curve) → curve.held ≡ true → curve'.held ≡ true
    → Stricter curve curve' → Stricter (noted braking v curve) (noted braking' v' curve')
noted_stricter braking braking' v v' curve curve' held held' stricter =
    record { kind = stricter.kind; gradient = stricter.gradient; distance = stricter.distance; speed = stricter.speed }

-- a record noted at its place: what is judged there is its curve, if it is one
abbrev noted_et : Braking → ℕ → EtRecord → EtRecord
noted_et braking v et = noted_record et (judged_here braking v (as_curve et))

record_noted_keeps : (braking : Braking) (v : ℕ) → Keeps (λ et. et.curve.held) (λ et. et.curve.id) (noted_et braking v)
record_noted_keeps braking v = record { held = λ et. refl; same = λ et. refl }

record_noted_compared : (braking braking' : Braking) (v v' : ℕ) (et et' : EtRecord) → et.curve.held ≡ true → et'.curve.held ≡ true
    → RecordsCompared et et' → RecordsCompared (noted_et braking v et) (noted_et braking' v' et')
record_noted_compared braking braking' v v' et et' held held' c = record {
  condition = c.condition;
  stricter = record {
    kind = c.stricter.kind;
    gradient = c.stricter.gradient;
    distance = c.stricter.distance;
    speed = c.stricter.speed;
  };
}

pub tracks_noted : (train train' : Train) (kept kept' : Kept) {track track' : Track} → TracksBelow track track'
    → TracksBelow (noted_track train kept track) (noted_track train' kept' track')
unfolding noted_track judged_now
tracks_noted train train' kept kept' {track} {track'} below =
    let braking = braking_of train kept.halka in
    let braking' = braking_of train' kept'.halka in
    record {
      curves =
          rw (noted_is braking kept.speed track.curves, noted_is braking' kept'.speed track'.curves)
          (by_id_changed (λ curve. curve.held) (λ curve. curve.id) (noted_keeps braking kept.speed) (noted_keeps braking' kept'.speed)
          (noted_stricter braking braking' kept.speed kept'.speed) below.curves);
      sections = below.sections;
      forty = below.forty;
      stay = below.stay;
      records =
          rw (noted_at_places (judged_here braking kept.speed) track.records, noted_at_places (judged_here braking' kept'.speed) track'.records)
          (by_id_changed (λ et. et.curve.held) (λ et. et.curve.id) (record_noted_keeps braking kept.speed) (record_noted_keeps braking' kept'.speed)
          (record_noted_compared braking braking' kept.speed kept'.speed) below.records);
    }
