-- What the commands and the reports keep of the track: of curves and sections 16 places, figures in range, no id twice; a sound stay; sound records.
use mathlib.Core.Path.{◌≡◌, refl, sym, subst}
use Prim.Native.Nat.{ℕ, ◌+◌, ◌-◌, ◌*◌, ◌≤◌}
use native.Mathlib.Omega.{arith}
use mathlib.Core.Bool.{Bool, true, false, cond, ◌&&◌}
use mathlib.Core.List.{List, map}
use lib.Dec.{leb, ltb}
use borrow.Author.Tests.{leb-true, leb-false, le-leb, lt-ltb}
use Rattle.curve.specs.declared.Curve.{Curve}
use Rattle.curve.specs.declared.Judged.{Judged}
use Rattle.curve.specs.Ground.{moved_by}
use Rattle.interval.specs.Judging.{noted_at}
use Rattle.places.specs.Places.{places, moved_all, noted_all}
use Rattle.areas.specs.declared.Event.{Event}
use Rattle.areas.specs.declared.Stay.{Stay}
use Rattle.areas.specs.Numbers.{is_event}
use Rattle.areas.specs.Rows.{is_taken}
use Rattle.areas.specs.Stays.{fresh_stay, cleared_stay, deletes_sections}
use Rattle.rules.specs.Operands.{within, speed_in_range, curve_in_range, section_in_range}
use Rattle.curve.specs.Free.{free_curve}
use Rattle.rules.specs.Places.{all_of, free_section, no_sections, empty_track, fresh_track, cleared_track, passed_track, is_curve, is_section, with_past, given_curve, ended_curve, given_section, ending_section, ended_section, moved_section, moved_track}
use Rattle.rules.specs.Units.{is_curve_sound, is_ground_sound, is_section_sound, is_stay_sound}
use Rattle.rules.specs.declared.Section.{Section}
use Rattle.rules.specs.declared.Track.{Track}
use Rattle.rules.proofs.Tests.{impossible, and_left, and_both, if_made, if_mono, cond_by, zip_self}
use Rattle.rules.proofs.SoundStays.{stay_cleared, stay_covered, stay_passed}
use Rattle.rules.proofs.SoundRecords.{RecordsSound, records_empty, records_moved}
use Rattle.rules.proofs.Holding.{Sound, map_sound, changed_sound, given_sound}

-- ---- curves

abbrev pub CurvesSound : List Curve → Type 0
CurvesSound curves = Sound places (λ curve. curve.held) (λ curve. curve.id) is_curve_sound curves

-- the past is no figure
pub curve_given_lem : (curves : List Curve) → CurvesSound curves → (new : Curve) → curve_in_range new ≡ true
    → CurvesSound (given_curve new curves)
unfolding given_curve curve_in_range
curve_given_lem curves s new range =
    given_sound s new (λ curve. with_past new curve.past) (if_made new.held (curve_in_range new) (λ _. range)) (λ _. refl)
    (λ curve. if_made new.held (curve_in_range (with_past new curve.past)) (λ _. range))

pub curves_noted : (curves : List Curve) → CurvesSound curves → (judge : Curve → Judged)
    → CurvesSound (noted_all curves (map judge curves))
unfolding curve_in_range
curves_noted curves s judge =
    subst CurvesSound (sym (zip_self (λ curve j. noted_at curve j.interval) judge curves))
    (map_sound s (λ curve. noted_at curve (judge curve).interval) (λ _ e. (e, refl)) (λ _ e. e))

pub curve_ended : (curves : List Curve) → CurvesSound curves → (id : ℕ) → CurvesSound (ended_curve id curves)
unfolding ended_curve
curve_ended curves s id = changed_sound s (is_curve id) (λ _. free_curve) (λ _ _ e. impossible e) (λ _ _. refl)

-- d falls
moved_in_range : (curve : Curve) (moved : ℕ) → curve_in_range curve ≡ true → curve_in_range (moved_by curve moved) ≡ true
unfolding curve_in_range
moved_in_range curve moved e =
    rest (leb curve.id 254) (leb curve.distance 1000000) (leb (curve.distance - moved) 1000000)
    (speed_in_range curve.kind curve.speed) (leb curve.gradient.size 30)
    (λ h. le-leb (curve.distance - moved) 1000000 (omega (arith, leb-true curve.distance 1000000 h))) e
  where
    rest : (a b b' c d : Bool) → (b ≡ true → b' ≡ true) → (a && b && c && d) ≡ true → (a && b' && c && d) ≡ true
    rest true true b' c d h e = rw (h refl) e
    rest true false b' c d h e = impossible e
    rest false b b' c d h e = impossible e

curves_moved : (curves : List Curve) → CurvesSound curves → (moved : ℕ) → CurvesSound (moved_all moved curves)
curves_moved curves s moved =
    changed_sound s (λ curve. curve.held) (λ curve. moved_by curve moved) (λ _ _ e. (e, refl))
    (λ curve. if_mono curve.held (curve_in_range curve) (curve_in_range (moved_by curve moved)) (moved_in_range curve moved))

-- ---- sections

abbrev pub SectionsSound : ℕ → List Section → Type 0
SectionsSound length sections = Sound places (λ section. section.held) (λ section. section.id) (is_section_sound length) sections

module _ (length : ℕ) where
  pub section_given_lem : (sections : List Section) → SectionsSound length sections
      → (new : Section) → is_section_sound length new ≡ true → SectionsSound length (given_section new sections)
  unfolding given_section
  section_given_lem sections s new good = given_sound s new (λ _. new) good (λ _. refl) (λ _. good)

  -- a section that ends, its ground below the train's length
  ending_sound : (section : Section) (covered : ℕ) → ltb covered (100 * length) ≡ true → is_section_sound length section ≡ true
      → is_section_sound length (ending_section section covered) ≡ true
  unfolding section_in_range
  ending_sound section covered below =
      let range = section_in_range section in
      let before = is_ground_sound length section in
      if_mono section.held (range && before) (range && ltb covered (100 * length))
      (λ e. and_both range (ltb covered (100 * length)) (and_left range before e) below)

  pub section_ended : (sections : List Section) → SectionsSound length sections → (id : ℕ) → 1 ≤ length
      → SectionsSound length (ended_section id sections)
  unfolding ended_section
  section_ended sections s id some =
      changed_sound s (is_section id) (λ section. ending_section section 0) (λ _ _ h. (h, refl))
      (λ section. ending_sound section 0 (lt-ltb 0 (100 * length) (omega arith)))

  -- ground moved: where it reaches the train's length the place is free, and elsewhere it stays below
  module _ (moved : ℕ) where
    abbrev reaches : Section → Bool
    reaches section = leb (100 * length) (section.covered + moved)

    abbrev onward : Section → Section
    onward section = cond (reaches section) free_section (ending_section section (section.covered + moved))

    onward_holds : (section : Section) → (onward section).held ≡ true
        → (section.held ≡ true) × ((onward section).id ≡ section.id)
    onward_holds section =
        cond_by (λ new. new.held ≡ true → (section.held ≡ true) × (new.id ≡ section.id)) (reaches section) free_section
        (ending_section section (section.covered + moved)) (λ _ e. impossible e) (λ _ h. (h, refl))

    onward_sound : (section : Section) → is_section_sound length section ≡ true → is_section_sound length (onward section) ≡ true
    onward_sound section e =
        let covered = section.covered + moved in
        cond_by (λ new. is_section_sound length new ≡ true) (reaches section) free_section (ending_section section covered) (λ _. refl)
        (λ t. ending_sound section covered (lt-ltb covered (100 * length) (leb-false (100 * length) covered t)) e)

    sections_moved : (sections : List Section) → SectionsSound length sections
        → SectionsSound length (map (moved_section length moved) sections)
    unfolding moved_section
    sections_moved sections s =
        changed_sound s (λ section. section.held && section.ending) onward (λ section _. onward_holds section) onward_sound

-- ---- the track

pub record TrackSound (length : ℕ) (track : Track) : Type 0 where
  pub curves : CurvesSound track.curves
  pub sections : SectionsSound length track.sections
  pub stay : is_stay_sound track.stay ≡ true
  pub records : RecordsSound track.records

sections_empty : (length : ℕ) → SectionsSound length no_sections
unfolding all_of
sections_empty length = record { sized = refl; each = refl; once = refl }

track_empty : (length : ℕ) (stay : Stay) → is_stay_sound stay ≡ true → TrackSound length (empty_track stay)
unfolding empty_track all_of
track_empty length stay s = record {
  curves = record { sized = refl; each = refl; once = refl };
  sections = sections_empty length;
  stay = s;
  records = records_empty;
}

pub track_fresh : (length : ℕ) → TrackSound length fresh_track
unfolding fresh_track
track_fresh length = track_empty length fresh_stay refl

pub track_cleared : (length : ℕ) (track : Track) → TrackSound length track → TrackSound length (cleared_track track)
unfolding cleared_track
track_cleared length track s = track_empty length (cleared_stay track.stay) (stay_cleared track.stay s.stay)

-- an event that is taken, its speed in range
pub track_passed : (length : ℕ) (event : Event) (speed : ℕ) (track : Track) → TrackSound length track → is_taken track.stay.area event ≡ true
    → (is_event Event.GMD event ≡ true → within 10 300 speed ≡ true) → TrackSound length (passed_track event speed track)
unfolding passed_track
track_passed length event speed track s t r = record {
  curves = s.curves;
  sections =
      cond_by (SectionsSound length) (deletes_sections event track.stay) no_sections track.sections (λ _. sections_empty length)
      (λ _. s.sections);
  stay = stay_passed event speed track.stay s.stay t r;
  records = s.records;
}

pub track_moved : (length moved : ℕ) (track : Track) → TrackSound length track → TrackSound length (moved_track length moved track)
unfolding moved_track
track_moved length moved track s = record {
  curves = curves_moved track.curves s.curves moved;
  sections = sections_moved length moved track.sections s.sections;
  stay = stay_covered moved track.stay s.stay;
  records = records_moved track.records s.records moved (λ curve. moved_in_range curve moved);
}
