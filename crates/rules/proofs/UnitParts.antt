-- A unit by its parts: the train, the track, what brakes, the feedback, what the state tells of them, and brake test A.
use mathlib.Core.Path.{◌≡◌, refl}
use mathlib.Core.Bool.{Bool, true, false, ◌||◌}
use lib.Dec.{leb}
use lib.ListN.{length}
use Rattle.wire.specs.Codes.{longest}
use Rattle.wire.specs.Form.{report_length}
use Rattle.pressure.specs.declared.Measured.{Measured}
use Rattle.pressure.specs.declared.Phase.{Phase}
use Rattle.pressure.specs.Phases.{is_set}
use Rattle.pressure.specs.Report.{fresh_feedback}
use Rattle.rules.specs.Numbers.{is_state}
use Rattle.rules.specs.Operands.{train_in_range}
use Rattle.rules.specs.Places.{any_of}
use Rattle.rules.specs.Table.{no_causes, any_stands}
use Rattle.rules.specs.Releases.{fresh_brakes}
use Rattle.rules.specs.Odometer.{with_track, with_brakes}
use Rattle.rules.specs.Commands.{fresh_kept, fresh_last, fresh_with, fresh_stm, no_train}
use Rattle.rules.specs.BrakeTest.{fresh_test}
use Rattle.rules.specs.Units.{Reached, is_extra_sound, IsUnit, FreshIsUnit}
use Rattle.rules.specs.declared.State.{State}
use Rattle.rules.specs.declared.Train.{Train}
use Rattle.rules.specs.declared.Track.{Track}
use Rattle.rules.specs.declared.Brakes.{Brakes}
use Rattle.rules.specs.declared.Verdict.{Verdict}
use Rattle.rules.specs.declared.Kept.{Kept}
use Rattle.rules.specs.declared.Stm.{Stm}
use Rattle.rules.proofs.Tests.{impossible}
use Rattle.rules.proofs.SoundTracks.{TrackSound, track_fresh}
use Rattle.rules.proofs.Counts.{BrakesSound, brakes_fresh}
use Rattle.rules.proofs.Feedback.{reached_fresh}
use Rattle.rules.proofs.TestParts.{TestSound}

-- ---- the parts

-- what is asked in every state
pub record Body (started : Bool) (train : Train) (track : Track) (brakes : Brakes) (feedback : Measured) (kept : Kept) : Type 0 where
  pub range : started ≡ true → train_in_range train ≡ true
  pub places : TrackSound train.length track
  pub counts : BrakesSound train brakes
  pub reached : Reached train feedback
  pub speed : leb kept.speed 10000 ≡ true

abbrev pub BodyOf : Stm → Type 0
BodyOf stm = Body stm.control.started stm.train stm.track stm.brakes stm.feedback stm.kept

-- what the state tells
pub record At (state : State) (brakes : Brakes) (phase : Phase) : Type 0 where
  pub braking : any_stands brakes.causes ≡ true → (is_state State.DA state || is_state State.FA state) ≡ true
  pub failed : brakes.failed ≡ true → is_state State.FA state ≡ true
  pub reference : is_state State.DA state ≡ true → is_set phase ≡ true

-- all of a unit but the last command and its report
pub record Parts (stm : Stm) : Type 0 where
  pub body : BodyOf stm
  pub at : At stm.control.state stm.brakes stm.feedback.phase
  pub test : TestSound stm.train stm.control.state stm.test

pub unit_parts : (stm : Stm) → IsUnit stm → Parts stm
unit_parts stm u = record {
  body = record {
    range = u.train;
    places = record {
      curves = record { sized = u.curve_places; each = u.curves; once = u.curve_ids };
      sections = record { sized = u.section_places; each = u.sections; once = u.section_ids };
      stay = u.stay;
      records = record { sized = u.record_places; each = u.records; once = u.record_ids };
    };
    counts = record { service = u.service; emergency = u.emergency; hold = u.hold; roll = u.roll; drift = u.drift };
    reached = u.feedback;
    speed = u.speed;
  };
  at = record { braking = u.braking; failed = u.failed; reference = u.reference };
  test = record { stage = u.stage; extra = u.extra };
}

pub parts_unit : (stm : Stm) → Parts stm → length stm.last.bytes ≡ longest → length stm.last.report ≡ report_length
    → IsUnit stm
parts_unit stm p bytes report =
    let b = p.body in
    record {
      curve_places = b.places.curves.sized;
      section_places = b.places.sections.sized;
      train = b.range;
      curves = b.places.curves.each;
      sections = b.places.sections.each;
      stay = b.places.stay;
      record_places = b.places.records.sized;
      records = b.places.records.each;
      speed = b.speed;
      feedback = b.reached;
      stage = p.test.stage;
      extra = p.test.extra;
      service = b.counts.service;
      emergency = b.counts.emergency;
      hold = b.counts.hold;
      roll = b.counts.roll;
      braking = p.at.braking;
      drift = b.counts.drift;
      failed = p.at.failed;
      curve_ids = b.places.curves.once;
      section_ids = b.places.sections.once;
      record_ids = b.places.records.once;
      reference = p.at.reference;
      last_bytes = bytes;
      last_report = report;
    }

-- ---- a part changed

pub with_track_lem : (stm : Stm) → BodyOf stm → (track : Track) → TrackSound stm.train.length track → BodyOf (with_track stm track)
with_track_lem stm b track t = record { range = b.range; places = t; counts = b.counts; reached = b.reached; speed = b.speed }

pub with_brakes_lem : (stm : Stm) → BodyOf stm → (brakes : Brakes) → BrakesSound stm.train brakes → BodyOf (with_brakes stm brakes)
with_brakes_lem stm b brakes s = record { range = b.range; places = b.places; counts = s; reached = b.reached; speed = b.speed }

-- ---- fresh

pub fresh_at : (state : State) (phase : Phase) → (is_state State.DA state ≡ true → is_set phase ≡ true) → At state fresh_brakes phase
unfolding fresh_brakes no_causes any_stands any_of
fresh_at state phase set = record { braking = λ e. impossible e; failed = λ e. impossible e; reference = set }

pub fresh_parts : (started : Bool) (train : Train) → (started ≡ true → train_in_range train ≡ true)
    → is_extra_sound train.times.extra Verdict.Pending ≡ true → Parts (fresh_with started train)
unfolding fresh_with fresh_test fresh_kept
fresh_parts started train range extra = record {
  body = record {
    range = range;
    places = track_fresh train.length;
    counts = brakes_fresh train;
    reached = reached_fresh train;
    speed = refl;
  };
  at = fresh_at State.DE fresh_feedback.phase (λ e. impossible e);
  test = record { stage = tt; extra = extra };
}

pub fresh_is_unit : FreshIsUnit
unfolding fresh_stm fresh_with fresh_last no_train
fresh_is_unit = parts_unit fresh_stm (fresh_parts false no_train (λ e. impossible e) refl) refl refl
