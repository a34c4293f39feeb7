-- An odometer report keeps the parts of a unit.
use mathlib.Core.Path.{◌≡◌, refl, sym, ◌∙◌}
use Prim.Native.Nat.{ℕ}
use mathlib.Core.Bool.{Bool, true, ◌&&◌}
use mathlib.Core.List.{List}
use lib.Dec.{leb}
use Rattle.wire.specs.Numbers.{byte_at}
use Rattle.pressure.specs.Phases.{is_set}
use Rattle.places.specs.Places.{judged_here}
use Rattle.rules.specs.Operands.{two_at, reading_of, odometer_in_range, train_in_range}
use Rattle.rules.specs.Places.{moved_track}
use Rattle.rules.specs.Speeds.{braking_of, judged_now}
use Rattle.rules.specs.Checks.{is_drop}
use Rattle.rules.specs.Releases.{added_brakes, left_brakes, released_brakes}
use Rattle.rules.specs.Odometer.{with_state, with_brakes, seen_in, moves, measures, noted_track, notes, adds, releases, is_fresh, supervised, tests, reported_in}
use Rattle.rules.specs.declared.State.{State}
use Rattle.rules.specs.declared.Train.{Train}
use Rattle.rules.specs.declared.Track.{Track}
use Rattle.rules.specs.declared.Kept.{Kept}
use Rattle.rules.specs.declared.Reading.{Reading}
use Rattle.rules.specs.declared.Stm.{Stm}
use Rattle.rules.proofs.Tests.{impossible, and_left, cond_by}
use Rattle.rules.proofs.SoundTracks.{TrackSound, curves_noted, track_moved}
use Rattle.rules.proofs.SoundRecords.{records_noted}
use Rattle.rules.proofs.Counts.{LimitsSound, brakes_noted, brakes_added, brakes_released}
use Rattle.rules.proofs.HighReadings.{Alike, signed_alike}
use Rattle.rules.proofs.Feedback.{reached_more, set_stays}
use Rattle.rules.proofs.TestParts.{TestSound, elsewhere_sound, tested_sound}
use Rattle.rules.proofs.UnitParts.{BodyOf, Parts, with_track_lem, with_brakes_lem}

-- the figures of a report that has passed refusal 9
pub record ReadingSound (r : Reading) : Type 0 where
  pub speed : leb r.speed 10000 ≡ true
  pub external : Alike r.external

pub reading_sound : (s : List ℕ) → odometer_in_range s ≡ true → ReadingSound (reading_of s)
unfolding reading_of odometer_in_range
reading_sound s e =
    let speed = leb (two_at s 0) 10000 in
    let moved = leb (two_at s 2) 1200 in
    record {
      speed = and_left speed moved (and_left (speed && moved) (leb (byte_at s 8) 15) e);
      external = signed_alike (two_at s 6);
    }

-- ---- moves, measures, notes, adds causes

moves_body : (r : Reading) (stm : Stm) → BodyOf stm → BodyOf (moves r stm)
unfolding moves
moves_body r stm b =
    let length = stm.train.length in
    with_track_lem stm b (moved_track length r.moved stm.track) (track_moved length r.moved stm.track b.places)

measures_body : (r : Reading) (stm : Stm) → ReadingSound r → BodyOf stm → BodyOf (measures r stm)
unfolding measures
measures_body r stm sound b = record {
  range = b.range;
  places = b.places;
  counts = b.counts;
  reached = reached_more stm.train stm.feedback r.external sound.external b.reached;
  speed = sound.speed;
}

noted_track_lem : (train : Train) (kept : Kept) (track : Track) → TrackSound train.length track
    → TrackSound train.length (noted_track train kept track)
unfolding noted_track judged_now
noted_track_lem train kept track t = record {
  curves = curves_noted track.curves t.curves (judged_here (braking_of train kept.halka) kept.speed);
  records = records_noted track.records t.records (judged_here (braking_of train kept.halka) kept.speed);
  sections = t.sections;
  stay = t.stay;
}

notes_body : (r : Reading) (stm : Stm) → BodyOf stm → BodyOf (notes r stm)
unfolding notes
notes_body r stm b = record {
  range = b.range;
  places = noted_track_lem stm.train stm.kept stm.track b.places;
  counts = brakes_noted stm.train r stm.brakes b.counts;
  reached = b.reached;
  speed = b.speed;
}

adds_body : (stm : Stm) → LimitsSound stm.train → BodyOf stm → BodyOf (adds stm)
unfolding adds
adds_body stm limits b =
    let dropped = is_drop stm.feedback in
    with_brakes_lem stm b (added_brakes stm.train dropped (seen_in stm) stm.brakes)
    (brakes_added stm.train dropped (seen_in stm) stm.brakes limits b.counts)

-- ---- in DA

-- releases, or leads to FA where NÖDBROMSFEL is shown
releases_parts : (loss text : Bool) (stm : Stm) → stm.control.state ≡ State.DA → is_set stm.feedback.phase ≡ true → BodyOf stm
    → TestSound stm.train stm.control.state stm.test → Parts (releases loss text stm)
unfolding releases released_brakes left_brakes
releases_parts loss text stm da set b test =
    let released = released_brakes (seen_in stm) loss text stm.brakes in
    cond_by Parts stm.brakes.failed (with_state stm State.FA) (with_brakes stm released)
    (λ _. record {
      body = b;
      at = record { braking = λ _. refl; failed = λ _. refl; reference = λ e. impossible e };
      test = record {
        stage = elsewhere_sound stm.train stm.control.state State.FA stm.test.stage (rw da) test.stage;
        extra = test.extra;
      };
    })
    (λ sound. record {
      body = with_brakes_lem stm b released (brakes_released stm.train (seen_in stm) loss text stm.brakes b.counts);
      at = record { braking = λ _. rw da refl; failed = λ e. impossible (sym sound ∙ e); reference = λ _. set };
      test = test;
    })

supervised_parts : (r : Reading) (stm : Stm) → ReadingSound r → LimitsSound stm.train → stm.control.state ≡ State.DA
    → Parts stm → Parts (supervised r stm)
unfolding supervised adds notes measures moves
supervised_parts r stm sound limits da p =
    let moved = moves r stm in
    let measured = measures r moved in
    let noted = notes r measured in
    releases_parts (is_fresh stm.kept.loss r.loss) (is_fresh stm.kept.text r.text) (adds noted) da
    (set_stays stm.train stm.feedback r.external (p.at.reference (rw da refl)))
    (adds_body noted limits (notes_body r measured (measures_body r moved sound (moves_body r stm p.body))))
    p.test

-- ---- in the other states

moves_parts : (r : Reading) (stm : Stm) → Parts stm → Parts (moves r stm)
unfolding moves
moves_parts r stm p = record { body = moves_body r stm p.body; at = p.at; test = p.test }

measures_parts : (r : Reading) (stm : Stm) → ReadingSound r → Parts stm → Parts (measures r stm)
unfolding measures
measures_parts r stm sound p = record {
  body = measures_body r stm sound p.body;
  at = record {
    braking = p.at.braking;
    failed = p.at.failed;
    reference = λ e. set_stays stm.train stm.feedback r.external (p.at.reference e);
  };
  test = p.test;
}

-- in DE a test goes on; the extra does not matter to the rest
tests_parts : (r : Reading) (stm : Stm) → ReadingSound r → LimitsSound stm.train → Parts stm → Parts (tests r stm)
unfolding train_in_range
tests_parts r stm sound limits p =
    let b = p.body in
    record {
      body = record {
        range = b.range;
        places = b.places;
        counts = record {
          service = b.counts.service;
          emergency = b.counts.emergency;
          hold = b.counts.hold;
          roll = b.counts.roll;
          drift = b.counts.drift;
        };
        reached = record { readings = b.reached.readings; width = b.reached.width; led = b.reached.led };
        speed = b.speed;
      };
      at = p.at;
      test =
          tested_sound stm.train stm.control.state stm.feedback r stm.test sound.external limits.brake p.test;
    }

-- ---- by the state

pub reported_parts : (state : State) (r : Reading) (stm : Stm) → stm.control.state ≡ state → ReadingSound r
    → LimitsSound stm.train → Parts stm → Parts (reported_in state r stm)
unfolding measures
reported_parts State.DE r stm is sound limits p = tests_parts r (measures r stm) sound limits (measures_parts r stm sound p)
reported_parts State.CS r stm is sound limits p = measures_parts r stm sound p
reported_parts State.HS r stm is sound limits p = measures_parts r (moves r stm) sound (moves_parts r stm p)
reported_parts State.DA r stm is sound limits p = supervised_parts r stm sound limits is p
reported_parts State.FA r stm is sound limits p = p
