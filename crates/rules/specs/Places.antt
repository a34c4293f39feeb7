-- The places of curves, sections and ET records, and the whole track (01, "Answers", refusals 12 and 13 and what follows them; "Curves";
-- 02, F-6 and F-7).
use Rattle.std.specs.Prelude.{ℕ, ◌+◌, ◌*◌, Bool, true, false, cond, not, ◌&&◌, ◌||◌, List, [], ◌∷◌, ◌++◌, map, eqb, leb, replicate}
use Rattle.curve.specs.declared.Curve.{Curve}
use Rattle.curve.specs.Free.{free_curve}
use Rattle.places.specs.Places.{places, moved_all}
use Rattle.areas.specs.declared.Event.{Event}
use Rattle.areas.specs.declared.Stay.{Stay}
use Rattle.areas.specs.Stays.{fresh_stay, cleared_stay, passed_stay, deletes_sections, covered_stay}
use Rattle.records.specs.declared.Signal.{Signal}
use Rattle.records.specs.declared.Route.{Route}
use Rattle.records.specs.declared.EtRecord.{EtRecord}
use Rattle.records.specs.Lives.{is_superseded, free_record, as_curve, moved_record, passed_record}
use Rattle.rules.specs.declared.Section.{Section}
use Rattle.rules.specs.declared.Track.{Track}

-- a test passes at one of a list, or at all of it
unfoldable pub any_of : {A : Type 0} → (A → Bool) → List A → Bool
any_of test [] = false
any_of test (x ∷ xs) = test x || any_of test xs

unfoldable pub all_of : {A : Type 0} → (A → Bool) → List A → Bool
all_of test [] = true
all_of test (x ∷ xs) = test x && all_of test xs

-- "A freed place is used again": the first that holds none
abbrev pub placed : {A : Type 0} → (A → Bool) → A → List A → List A
placed held new [] = []
placed held new (x ∷ xs) = cond (held x) (x ∷ placed held new xs) (new ∷ xs)

-- a place that holds no section
abbrev pub free_section : Section
free_section = record { held = false; id = 0; speed = 0; ending = false; covered = 0 }

-- no section at any place
abbrev pub no_sections : List Section
no_sections = replicate places free_section

-- "There are eight records"
abbrev pub record_places : ℕ
record_places = 8

abbrev pub no_records : List EtRecord
no_records = replicate record_places free_record

-- no curve, no section, no 40, no record, in this stay
unfoldable pub empty_track : Stay → Track
empty_track stay = record {
  curves = replicate places free_curve;
  sections = no_sections;
  forty = false;
  stay = stay;
  records = no_records;
}

-- after a start
unfoldable pub fresh_track : Track
fresh_track = empty_track fresh_stay

-- after CS is entered; 02, F-6: "CS, ends a pending 50 m; CS keeps the area"; 02, F-7: "entering CS drops them"
unfoldable pub cleared_track : Track → Track
cleared_track track = empty_track (cleared_stay track.stay)

-- ---- curves

-- this place holds the id
abbrev pub is_curve : ℕ → Curve → Bool
is_curve id curve = curve.held && eqb curve.id id

abbrev pub holds_curve : ℕ → List Curve → Bool
holds_curve id curves = any_of (is_curve id) curves

-- refusal 13: "all 16 curves .. held"
abbrev pub all_curves_held : List Curve → Bool
all_curves_held curves = all_of (λ curve. curve.held) curves

-- "A held id is replaced (its past in B is kept ..)"
abbrev pub with_past : Curve → Bool → Curve
with_past curve past = record {
  held = curve.held;
  id = curve.id;
  kind = curve.kind;
  distance = curve.distance;
  speed = curve.speed;
  gradient = curve.gradient;
  past = past;
}

abbrev pub replaced_curve : Curve → Curve → Curve
replaced_curve new curve = cond (is_curve new.id curve) (with_past new curve.past) curve

-- a new curve among the others
unfoldable pub given_curve : Curve → List Curve → List Curve
given_curve new curves = cond (holds_curve new.id curves) (map (replaced_curve new) curves) (placed (λ curve. curve.held) new curves)

-- "only an ending, CS or a start removes a curve"
unfoldable pub ended_curve : ℕ → List Curve → List Curve
ended_curve id curves = map (λ curve. cond (is_curve id curve) free_curve curve) curves

-- ---- sections

abbrev pub is_section : ℕ → Section → Bool
is_section id section = section.held && eqb section.id id

abbrev pub holds_section : ℕ → List Section → Bool
holds_section id sections = any_of (is_section id) sections

-- refusal 12: "its section is already ending", so that what can be ended is held and doesn't end yet
abbrev pub stands_section : ℕ → List Section → Bool
stands_section id sections = any_of (λ section. is_section id section && not section.ending) sections

-- refusal 13: "all 16 sections, held"; an ending one is held
abbrev pub all_sections_held : List Section → Bool
all_sections_held sections = all_of (λ section. section.held) sections

-- "A held id is replaced (.. an ending section stands again)"
abbrev pub replaced_section : Section → Section → Section
replaced_section new section = cond (is_section new.id section) new section

unfoldable pub given_section : Section → List Section → List Section
given_section new sections =
    cond (holds_section new.id sections) (map (replaced_section new) sections) (placed (λ section. section.held) new sections)

-- a section whose end is told, with the ground moved since
abbrev pub ending_section : Section → ℕ → Section
ending_section section covered = record {
  held = section.held;
  id = section.id;
  speed = section.speed;
  ending = true;
  covered = covered;
}

unfoldable pub ended_section : ℕ → List Section → List Section
ended_section id sections = map (λ section. cond (is_section id section) (ending_section section 0) section) sections

-- "an ending one until the ground moved since reaches the train's length"; the length is in m
unfoldable pub moved_section : ℕ → ℕ → Section → Section
moved_section length moved section =
    cond (section.held && section.ending)
    (cond (leb (100 * length) (section.covered + moved)) free_section (ending_section section (section.covered + moved)))
    section

-- ---- ET records (02, F-7)

-- "ET ids are a set apart from curve ids"
abbrev pub is_record : ℕ → EtRecord → Bool
is_record id et = et.curve.held && eqb et.curve.id id

abbrev pub holds_record : ℕ → List EtRecord → Bool
holds_record id ets = any_of (is_record id) ets

-- 17: "no ET place free"
abbrev pub all_records_held : List EtRecord → Bool
all_records_held ets = all_of (λ et. et.curve.held) ets

-- 18: "a record that can't be superseded"
abbrev pub keeps_record : ℕ → List EtRecord → Bool
keeps_record id ets = any_of (λ et. is_record id et && not (is_superseded et.condition)) ets

-- "A repeater is a 51 with a held id. It puts a new undecided record in place"; 18 has gone before
abbrev pub replaced_record : EtRecord → EtRecord → EtRecord
replaced_record new et = cond (is_record new.curve.id et) new et

unfoldable pub given_record : EtRecord → List EtRecord → List EtRecord
given_record new ets =
    cond (holds_record new.curve.id ets) (map (replaced_record new) ets) (placed (λ et. et.curve.held) new ets)

-- "A command 53 (6 bytes) ends a record"
unfoldable pub ended_record : ℕ → List EtRecord → List EtRecord
ended_record id ets = map (λ et. cond (is_record id et) free_record et) ets

-- "A command 52 (7 bytes) tells of a passed signal", to every record
unfoldable pub signalled_records : Signal → Route → List EtRecord → List EtRecord
signalled_records signal route ets = map (passed_record signal route) ets

-- ---- the whole track

-- "Active and locked ones are curves in all that the members voted": the curves, and after them what the records are as curves
unfoldable pub all_curves : Track → List Curve
all_curves track = track.curves ++ map as_curve track.records

abbrev pub with_curves : Track → List Curve → Track
with_curves track curves = record {
  curves = curves;
  sections = track.sections;
  forty = track.forty;
  stay = track.stay;
  records = track.records;
}

abbrev pub with_sections : Track → List Section → Track
with_sections track sections = record {
  curves = track.curves;
  sections = sections;
  forty = track.forty;
  stay = track.stay;
  records = track.records;
}

abbrev pub with_forty : Track → Bool → Track
with_forty track forty = record {
  curves = track.curves;
  sections = track.sections;
  forty = forty;
  stay = track.stay;
  records = track.records;
}

abbrev pub with_records : Track → List EtRecord → Track
with_records track ets = record {
  curves = track.curves;
  sections = track.sections;
  forty = track.forty;
  stay = track.stay;
  records = ets;
}

-- 02, F-6: an event, with the command's speed; "An entering GMD deletes the sections"
unfoldable pub passed_track : Event → ℕ → Track → Track
passed_track event speed track = record {
  curves = track.curves;
  sections = cond (deletes_sections event track.stay) no_sections track.sections;
  forty = track.forty;
  stay = passed_stay event speed track.stay;
  records = track.records;
}

-- ground moved: "d falls by the ground moved", the ground of every ending section grows by it, and so do that of a pending 50 m and that
-- of every undecided record
unfoldable pub moved_track : ℕ → ℕ → Track → Track
moved_track length moved track = record {
  curves = moved_all moved track.curves;
  sections = map (moved_section length moved) track.sections;
  forty = track.forty;
  stay = covered_stay moved track.stay;
  records = map (moved_record moved) track.records;
}
