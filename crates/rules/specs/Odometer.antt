-- An odometer report (01, "Causes and release": "An odometer report in DA moves, measures, adds causes, then releases. In HS it moves
-- and measures, in DE and CS it only measures; each keeps its figures and buttons."; 02, F-3).
use Rattle.std.specs.Prelude.{ℕ, Bool, cond, not, ◌&&◌, Option}
use mathlib.Core.List.{List, map, zip_with}
use Rattle.std.specs.Float.Ieee.{lt}
use Rattle.pressure.specs.declared.Measured.{Measured}
use Rattle.pressure.specs.Convert.{kpa}
use Rattle.pressure.specs.Reference.{drop_of}
use Rattle.pressure.specs.Report.{reported_to}
use Rattle.curve.specs.declared.Judged.{Judged}
use Rattle.curve.specs.declared.Interval.{Interval}
use Rattle.interval.specs.Judging.{noted_at}
use Rattle.places.specs.Places.{noted_all, any_brakes}
use Rattle.records.specs.declared.EtRecord.{EtRecord}
use Rattle.records.specs.Lives.{with_curve, as_curve}
use Rattle.rules.specs.Places.{all_curves, with_curves, with_records, moved_track}
use Rattle.rules.specs.Speeds.{judged_now, vmax_of}
use Rattle.rules.specs.Checks.{is_drop}
use Rattle.rules.specs.BrakeTest.{tested_at, extra_left}
use Rattle.rules.specs.Releases.{is_rolled, noted_brakes, added_brakes, released_brakes}
use Rattle.rules.specs.declared.State.{State}
use Rattle.rules.specs.declared.Train.{Train}
use Rattle.rules.specs.declared.Track.{Track}
use Rattle.rules.specs.declared.Since.{Since}
use Rattle.rules.specs.declared.Brakes.{Brakes}
use Rattle.rules.specs.declared.BrakeTest.{BrakeTest}
use Rattle.rules.specs.declared.Kept.{Kept}
use Rattle.rules.specs.declared.Stm.{Stm}
use Rattle.rules.specs.declared.Reading.{Reading}
use Rattle.rules.specs.declared.Seen.{Seen}

-- ---- a part of the state changed

abbrev pub with_state : Stm → State → Stm
with_state stm state = record {
  control = record { started = stm.control.started; state = state };
  train = stm.train;
  track = stm.track;
  brakes = stm.brakes;
  feedback = stm.feedback;
  test = stm.test;
  kept = stm.kept;
  last = stm.last;
}

abbrev pub with_track : Stm → Track → Stm
with_track stm track = record {
  control = stm.control;
  train = stm.train;
  track = track;
  brakes = stm.brakes;
  feedback = stm.feedback;
  test = stm.test;
  kept = stm.kept;
  last = stm.last;
}

abbrev pub with_brakes : Stm → Brakes → Stm
with_brakes stm brakes = record {
  control = stm.control;
  train = stm.train;
  track = stm.track;
  brakes = brakes;
  feedback = stm.feedback;
  test = stm.test;
  kept = stm.kept;
  last = stm.last;
}

abbrev pub with_measured : Stm → Measured → Kept → Stm
with_measured stm feedback kept = record {
  control = stm.control;
  train = stm.train;
  track = stm.track;
  brakes = stm.brakes;
  feedback = feedback;
  test = stm.test;
  kept = kept;
  last = stm.last;
}

abbrev pub with_test : Stm → BrakeTest → Stm
with_test stm test = record {
  control = stm.control;
  train = stm.train;
  track = stm.track;
  brakes = stm.brakes;
  feedback = stm.feedback;
  test = test;
  kept = stm.kept;
  last = stm.last;
}

-- another extra in the train's leads
abbrev pub with_extra : Train → ℕ → Train
with_extra train extra = record {
  softly = train.softly;
  feed = train.feed;
  speed = train.speed;
  length = train.length;
  full = train.full;
  soft = train.soft;
  times = record {
    brake = train.times.brake;
    c = train.times.c;
    permitted = train.times.permitted;
    bf = train.times.bf;
    extra = extra;
  };
  margin = train.margin;
  emergency = train.emergency;
  sufficient = train.sufficient;
  pressure = train.pressure;
  check = train.check;
}

abbrev pub with_train : Stm → Train → Stm
with_train stm train = record {
  control = stm.control;
  train = train;
  track = stm.track;
  brakes = stm.brakes;
  feedback = stm.feedback;
  test = stm.test;
  kept = stm.kept;
  last = stm.last;
}

-- ---- what the table of causes looks at

-- "drop below sufficient"
unfoldable pub is_insufficient : Train → Measured → Bool
is_insufficient train feedback = lt (drop_of feedback.pressures) (kpa train.sufficient)

-- by what the curves say, and VMAX
unfoldable pub seen_with : List Judged → ℕ → Train → Measured → Kept → Since → Option ℕ → Seen
seen_with judged vmax train feedback kept since roll = record {
  speed = kept.speed;
  vmax = vmax;
  margin = train.emergency;
  d = any_brakes Interval.D judged;
  e = any_brakes Interval.E judged;
  f = any_brakes Interval.F judged;
  insufficient = is_insufficient train feedback;
  halka = kept.halka;
  since = since;
  rolled = is_rolled roll;
}

unfoldable pub seen_of : Train → Track → Measured → Kept → Since → Option ℕ → Seen
seen_of train track feedback kept since roll =
    seen_with (judged_now train kept (all_curves track)) (vmax_of train track) train feedback kept since roll

-- in a state, with its last figures
unfoldable pub seen_in : Stm → Seen
seen_in stm = seen_of stm.train stm.track stm.feedback stm.kept stm.brakes.since stm.brakes.roll

-- ---- moves, measures, adds causes, releases

-- moves
unfoldable pub moves : Reading → Stm → Stm
moves r stm = with_track stm (moved_track stm.train.length r.moved stm.track)

-- measures, and "keeps its figures and buttons"
abbrev pub kept_of : Reading → Kept
kept_of r = record { speed = r.speed; loss = r.loss; text = r.text; halka = r.halka }

unfoldable pub measures : Reading → Stm → Stm
measures r stm =
    with_measured stm (reported_to stm.feedback stm.train.feed stm.train.pressure r.external) (kept_of r)

-- "A curve's past in B is noted at reports in DA", and so is that of a record that is a curve; another is judged A, which notes nothing
abbrev pub noted_record : EtRecord → Judged → EtRecord
noted_record et j = with_curve et (noted_at et.curve j.interval)

abbrev pub noted_records : List EtRecord → List Judged → List EtRecord
noted_records ets judged = zip_with noted_record ets judged

unfoldable pub noted_track : Train → Kept → Track → Track
noted_track train kept track =
    with_records (with_curves track (noted_all track.curves (judged_now train kept track.curves)))
    (noted_records track.records (judged_now train kept (map as_curve track.records)))

-- the notes: past in B, halted, braked, rolled
unfoldable pub notes : Reading → Stm → Stm
notes r stm =
    with_brakes (with_track stm (noted_track stm.train stm.kept stm.track)) (noted_brakes stm.train r stm.brakes)

-- adds causes
unfoldable pub adds : Stm → Stm
adds stm = with_brakes stm (added_brakes stm.train (is_drop stm.feedback) (seen_in stm) stm.brakes)

-- releases; "shows NÖDBROMSFEL and leads to FA", before releases
unfoldable pub releases : Bool → Bool → Stm → Stm
releases loss text stm =
    cond stm.brakes.failed (with_state stm State.FA)
    (with_brakes stm (released_brakes (seen_in stm) loss text stm.brakes))

-- "A fresh press": pressed now and not at the last report
abbrev pub is_fresh : Bool → Bool → Bool
is_fresh before now = now && not before

-- in DA
unfoldable pub supervised : Reading → Stm → Stm
supervised r stm =
    releases (is_fresh stm.kept.loss r.loss) (is_fresh stm.kept.text r.text) (adds (notes r (measures r (moves r stm))))

-- in DE, once it has measured: 02, F-3; with a test that has passed the extra goes
abbrev pub with_tested : Stm → BrakeTest → Stm
with_tested stm test = with_test (with_train stm (with_extra stm.train (extra_left test.result stm.train.times.extra))) test

abbrev pub tests : Reading → Stm → Stm
tests r stm = with_tested stm (tested_at stm.train stm.feedback r stm.test)

-- by the state; in FA no report is taken (refusal 8)
abbrev pub reported_in : State → Reading → Stm → Stm
reported_in State.DE r stm = tests r (measures r stm)
reported_in State.CS r stm = measures r stm
reported_in State.HS r stm = measures r (moves r stm)
reported_in State.DA r stm = supervised r stm
reported_in State.FA r stm = stm
