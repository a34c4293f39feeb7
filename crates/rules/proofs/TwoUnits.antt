-- One odometer report at two units, of which the second is the stricter: it stays so. Assumes nothing.
use Prim.Native.Nat.{ℕ, ◌≤◌}
use Rattle.std.specs.Prelude.{Option, None, Some}
use mathlib.Core.Path.{◌≡◌, refl, sym, ◌∙◌, ap, ap₂}
use mathlib.Core.Bool.{Bool, true, false, cond, false≢true}
use native.Mathlib.Omega.{arith}
use lib.Dec.{eqb}
use borrow.Author.Tests.{eqb-true, eq-eqb}
use Rattle.pressure.specs.declared.Measured.{Measured}
use Rattle.curve.specs.declared.Interval.{Interval}
use Rattle.rules.specs.Table.{stands}
use Rattle.rules.specs.Hold.{held_on}
use Rattle.rules.specs.Checks.{is_drop}
use Rattle.rules.specs.Releases.{is_halt, is_braked, since_at, rolled_on, roll_at, is_rolled, noted_brakes}
use Rattle.rules.specs.Releases.{service_fails, causes_at, added_brakes, left_brakes, released_brakes}
use Rattle.rules.specs.BrakeTest.{extra_left}
use Rattle.rules.specs.Odometer.{with_extra, tests, with_state, with_brakes, is_insufficient, seen_with, seen_of, seen_in}
use Rattle.rules.specs.Odometer.{moves, measures, notes, adds, releases, is_fresh, supervised, reported_in}
use Rattle.rules.specs.TwoRuns.{TrainsCompared}
use Rattle.rules.specs.declared.State.{State}
use Rattle.rules.specs.declared.Cause.{Cause}
use Rattle.rules.specs.declared.Brakes.{Brakes}
use Rattle.rules.specs.declared.Train.{Train}
use Rattle.rules.specs.declared.Reading.{Reading}
use Rattle.rules.specs.declared.Seen.{Seen}
use Rattle.rules.specs.declared.Stage.{Stage}
use Rattle.rules.specs.declared.Verdict.{Verdict}
use Rattle.rules.specs.declared.Stm.{Stm}
use Rattle.rules.proofs.Monotone.{◌⇒◌, equal_implies, and_implies, or_implies}
use Rattle.rules.proofs.TwoTracks.{TracksBelow, tracks_moved, tracks_noted}
use Rattle.rules.proofs.TwoSpeeds.{KeptBelow, vmax_no_higher, curves_still_brake}
use Rattle.rules.proofs.TwoCauses.{SeenBelow, CausesBelow, causes_after_lem, stop_stood}
use Rattle.rules.proofs.TestParts.{none_tested}

-- ---- the two units

-- the second has every cause of the first, and a halt noted only where the first has one; bit 9 is held alike; where an unexpected stop stands in the
-- first, the full decelerations are equal, and the second has its note only where the first has it
pub record BrakesBelow (full full' : ℕ) (b b' : Brakes) : Type 0 where
  pub causes : CausesBelow b.causes b'.causes
  pub aimed : b'.since.aimed ⇒ b.since.aimed
  pub landslide : b'.since.landslide ⇒ b.since.landslide
  pub balise : b'.since.balise ≡ b.since.balise
  pub stop : stands b.causes Cause.UnexpectedStop ≡ true → (full' ≡ full) × (b'.since.unexpected ⇒ b.since.unexpected)

-- what a report keeps of the comparison, the last command and its report left out
pub record Below (u w : Stm) : Type 0 where
  pub state : w.control.state ≡ u.control.state
  pub train : TrainsCompared u.train w.train
  pub track : TracksBelow u.track w.track
  pub brakes : BrakesBelow u.train.full w.train.full u.brakes w.brakes
  pub feedback : w.feedback ≡ u.feedback
  -- no test runs in either
  pub idle : u.test.stage ≡ Stage.Idle
  pub test : w.test ≡ u.test
  pub kept : KeptBelow u.kept w.kept

-- two readings: the second's speed may be higher, and the controller is not in neutral
pub record ReadingsBelow (r r' : Reading) : Type 0 where
  pub speed : r.speed ≤ r'.speed
  pub moved : r'.moved ≡ r.moved
  pub measured : r'.measured ≡ r.measured
  pub external : r'.external ≡ r.external
  pub loss : r'.loss ≡ r.loss
  pub text : r'.text ≡ r.text
  pub halka : r'.halka ≡ r.halka
  pub gear : r.neutral ≡ false

-- ---- moves and measures

module _ {r r' : Reading} (readings : ReadingsBelow r r') {u w : Stm} (below : Below u w) where
  moves_below : Below (moves r u) (moves r' w)
  unfolding moves
  moves_below = record {
    state = below.state;
    train = below.train;
    track = rw (below.train.length, readings.moved) (tracks_moved u.train.length r.moved below.track);
    brakes = below.brakes;
    feedback = below.feedback;
    idle = below.idle;
    test = below.test;
    kept = below.kept;
  }

  measures_below : Below (measures r u) (measures r' w)
  unfolding measures
  measures_below = record {
    state = below.state;
    train = below.train;
    track = below.track;
    brakes = below.brakes;
    feedback = rw (below.feedback, below.train.feed, below.train.pressure, readings.external);
    idle = below.idle;
    test = below.test;
    kept = record { speed = readings.speed; loss = readings.loss; text = readings.text; halka = readings.halka };
  }

-- ---- no test

-- the extra goes or stays in both
extra_below : {train train' : Train} (result : Verdict) → TrainsCompared train train'
    → TrainsCompared (with_extra train (extra_left result train.times.extra)) (with_extra train' (extra_left result train'.times.extra))
extra_below result trains = record {
  softly = trains.softly;
  feed = trains.feed;
  speed = trains.speed;
  length = trains.length;
  full = trains.full;
  soft = trains.soft;
  times = ap (λ times. record {
    brake = times.brake;
    c = times.c;
    permitted = times.permitted;
    bf = times.bf;
    extra = extra_left result times.extra;
  }) trains.times;
  margin = trains.margin;
  emergency = trains.emergency;
  sufficient = trains.sufficient;
  pressure = trains.pressure;
  check = trains.check;
}

module _ {r r' : Reading} (readings : ReadingsBelow r r') {u w : Stm} (below : Below u w) where
  tests_below : Below (tests r u) (tests r' w)
  tests_below =
      let same = none_tested u.train u.feedback r u.test below.idle in
      let same' = none_tested w.train w.feedback r' w.test (ap (λ test. test.stage) below.test ∙ below.idle) ∙ below.test in
      rw (same, same')
      (record {
        state = below.state;
        train = extra_below u.test.result below.train;
        track = below.track;
        brakes = below.brakes;
        feedback = below.feedback;
        idle = below.idle;
        test = refl;
        kept = below.kept;
      })

-- ---- the notes

module _ {r r' : Reading} (readings : ReadingsBelow r r') where
  stands_still : eqb r'.speed 0 ⇒ eqb r.speed 0
  stands_still = record { run = λ e. eq-eqb r.speed 0 (omega (arith, readings.speed, eqb-true r'.speed 0 e)) }

  halts : is_halt r' ⇒ is_halt r
  unfolding is_halt
  halts = and_implies stands_still (equal_implies (ap (λ moved. eqb moved 0) readings.moved))

  brakes_alike : (full full' : ℕ) → full' ≡ full → is_braked full' r' ⇒ is_braked full r
  unfolding is_braked
  brakes_alike full full' e = equal_implies (rw (e, readings.measured))

  brakes_noted : (train train' : Train) {b b' : Brakes} → BrakesBelow train.full train'.full b b'
      → BrakesBelow train.full train'.full (noted_brakes train r b) (noted_brakes train' r' b')
  unfolding noted_brakes since_at
  brakes_noted train train' below = record {
    causes = below.causes;
    aimed = or_implies below.aimed halts;
    landslide = or_implies below.landslide halts;
    balise = ap held_on below.balise;
    stop = λ stood.
        let (same, noted) = below.stop stood in
        (same, or_implies noted (brakes_alike train.full train'.full same));
  }

  notes_below : {u w : Stm} → Below u w → Below (notes r u) (notes r' w)
  unfolding notes
  notes_below {u} {w} below = record {
    state = below.state;
    train = below.train;
    track = tracks_noted u.train w.train u.kept w.kept below.track;
    brakes = brakes_noted u.train w.train below.brakes;
    feedback = below.feedback;
    idle = below.idle;
    test = below.test;
    kept = below.kept;
  }

-- nothing has rolled after a report without neutral
not_rolled : (halt neutral : Bool) (on : Option ℕ) → neutral ≡ false
    → is_rolled (cond halt (Some 0) (cond neutral on None)) ≡ false
not_rolled true neutral on e = refl
not_rolled false true on e = absurd (false≢true (sym e))
not_rolled false false on e = refl

none_rolled : (r : Reading) (stm : Stm) → r.neutral ≡ false → is_rolled (notes r stm).brakes.roll ≡ false
unfolding notes noted_brakes roll_at
none_rolled r stm e = not_rolled (is_halt r) r.neutral (rolled_on r.moved stm.brakes.roll) e

-- ---- adds causes and releases

same_insufficient : {train train' : Train} {feedback feedback' : Measured} → TrainsCompared train train' → feedback' ≡ feedback
    → is_insufficient train' feedback' ≡ is_insufficient train feedback
unfolding is_insufficient
same_insufficient trains same = rw (same, trains.sufficient)

seen_below : {u w : Stm} → Below u w → is_rolled u.brakes.roll ≡ false → SeenBelow (seen_in u) (seen_in w)
unfolding seen_in seen_of seen_with
seen_below below still = record {
  speed = below.kept.speed;
  vmax = vmax_no_higher below.train below.track;
  margin = below.train.emergency;
  d = curves_still_brake below.train below.track below.kept Interval.D;
  e = curves_still_brake below.train below.track below.kept Interval.E;
  f = curves_still_brake below.train below.track below.kept Interval.F;
  insufficient = same_insufficient below.train below.feedback;
  halka = below.kept.halka;
  aimed = below.brakes.aimed;
  landslide = below.brakes.landslide;
  balise = below.brakes.balise;
  rolled = record { run = λ e. absurd (false≢true (sym still ∙ e)) };
}

stop_noted : {u w : Stm} → Below u w → stands u.brakes.causes Cause.UnexpectedStop ≡ true
    → (seen_in w).since.unexpected ⇒ (seen_in u).since.unexpected
unfolding seen_in seen_of seen_with
stop_noted below stood = (below.brakes.stop stood).1

-- what brakes after both, by what is seen
abbrev settled : Train → Bool → Seen → Bool → Bool → Brakes → Brakes
settled train dropped s loss text b = released_brakes s loss text (added_brakes train dropped s b)

module _ {s s' : Seen} (seen : SeenBelow s s') (train train' : Train) (dropped dropped' loss text : Bool) {b b' : Brakes}
    (below : BrakesBelow train.full train'.full b b')
    (noted : stands b.causes Cause.UnexpectedStop ≡ true → s'.since.unexpected ⇒ s.since.unexpected) where
  brakes_settled : stands (settled train dropped s loss text b).causes Cause.ServiceFault ≡ false
      → BrakesBelow train.full train'.full (settled train dropped s loss text b) (settled train' dropped' s' loss text b')
  unfolding released_brakes left_brakes added_brakes causes_at
  brakes_settled sound =
      let fault = service_fails train dropped b in
      let fault' = service_fails train' dropped' b' in
      record {
        causes = causes_after_lem seen fault fault' loss text below.causes noted sound;
        aimed = below.aimed;
        landslide = below.landslide;
        balise = below.balise;
        stop = λ e. below.stop (stop_stood s fault loss text b.causes e);
      }

-- where NÖDBROMSFEL is not shown after it, the report has not led to FA
not_failed : (failed : Bool) (x y : Stm) → x.brakes.failed ≡ failed → (cond failed x y).brakes.failed ≡ false
    → cond failed x y ≡ y
not_failed true x y e h = absurd (false≢true (sym h ∙ e))
not_failed false x y e h = refl

released_is : (loss text : Bool) (stm : Stm) → (releases loss text stm).brakes.failed ≡ false
    → releases loss text stm ≡ with_brakes stm (released_brakes (seen_in stm) loss text stm.brakes)
unfolding releases
released_is loss text stm h =
    not_failed stm.brakes.failed (with_state stm State.FA)
    (with_brakes stm (released_brakes (seen_in stm) loss text stm.brakes)) refl h

settled_is : (loss text : Bool) (stm : Stm) → (releases loss text (adds stm)).brakes.failed ≡ false
    → releases loss text (adds stm)
    ≡ with_brakes stm (settled stm.train (is_drop stm.feedback) (seen_in stm) loss text stm.brakes)
unfolding adds seen_in added_brakes
settled_is loss text stm h = released_is loss text (adds stm) h

module _ (loss text : Bool) {u w : Stm} (below : Below u w) (still : is_rolled u.brakes.roll ≡ false) where
  settles_below : stands (releases loss text (adds u)).brakes.causes Cause.ServiceFault ≡ false
      → (releases loss text (adds u)).brakes.failed ≡ false → (releases loss text (adds w)).brakes.failed ≡ false
      → Below (releases loss text (adds u)) (releases loss text (adds w))
  settles_below sound h h' =
      let e = settled_is loss text u h in
      rw (e, settled_is loss text w h')
      (record {
        state = below.state;
        train = below.train;
        track = below.track;
        brakes =
            brakes_settled (seen_below below still) u.train w.train (is_drop u.feedback) (is_drop w.feedback) loss text
            below.brakes (stop_noted below) (rw e at sound);
        feedback = below.feedback;
        idle = below.idle;
        test = below.test;
        kept = below.kept;
      })

-- ---- a report, by the state

fresh_alike : {before before' now now' : Bool} → before' ≡ before → now' ≡ now → is_fresh before' now' ≡ is_fresh before now
fresh_alike p q = ap₂ is_fresh p q

module _ {r r' : Reading} (readings : ReadingsBelow r r') {u w : Stm} (below : Below u w) where
  noted_below : Below (notes r (measures r (moves r u))) (notes r' (measures r' (moves r' w)))
  noted_below = notes_below readings (measures_below readings (moves_below readings below))

  supervised_below : stands (supervised r u).brakes.causes Cause.ServiceFault ≡ false
      → (supervised r u).brakes.failed ≡ false → (supervised r' w).brakes.failed ≡ false
      → Below (supervised r u) (supervised r' w)
  unfolding supervised
  supervised_below sound h h' =
      let loss = fresh_alike below.kept.loss readings.loss in
      let text = fresh_alike below.kept.text readings.text in
      rw (loss, text)
      (settles_below (is_fresh u.kept.loss r.loss) (is_fresh u.kept.text r.text) noted_below
      (none_rolled r (measures r (moves r u)) readings.gear) sound h (rw (loss, text) at h'))

  pub reported_below : (state : State) → stands (reported_in state r u).brakes.causes Cause.ServiceFault ≡ false
      → (reported_in state r u).brakes.failed ≡ false → (reported_in state r' w).brakes.failed ≡ false
      → Below (reported_in state r u) (reported_in state r' w)
  reported_below State.DE sound h h' = tests_below readings (measures_below readings below)
  reported_below State.CS sound h h' = measures_below readings below
  reported_below State.HS sound h h' = measures_below readings (moves_below readings below)
  reported_below State.DA sound h h' = supervised_below sound h h'
  reported_below State.FA sound h h' = below
