-- What an odometer report in DA leaves once it has moved, where the curves and records are judged once: their pasts, noted since,
-- change nothing that they say. Assumes nothing.
use Rattle.std.specs.Prelude.{Option}
use mathlib.Core.Path.{◌≡◌, refl, sym, ap, ap₂, ◌∙◌}
use Prim.Native.Nat.{ℕ}
use mathlib.Core.Bool.{Bool, true, false, cond}
use mathlib.Core.List.{List}
use lib.ListN.{length}
use Rattle.wire.specs.Codes.{longest}
use Rattle.pressure.specs.declared.Measured.{Measured}
use Rattle.pressure.specs.Report.{reported_to}
use Rattle.curve.specs.declared.Curve.{Curve}
use Rattle.curve.specs.declared.Judged.{Judged}
use Rattle.places.specs.Places.{places}
use Rattle.rules.specs.Places.{all_curves}
use Rattle.rules.specs.Speeds.{judged_now, vmax_of}
use Rattle.rules.specs.Checks.{is_drop}
use Rattle.rules.specs.Releases.{is_rolled, noted_brakes, added_brakes, left_brakes, released_brakes}
use Rattle.rules.specs.Odometer.{with_state, with_brakes, seen_with, seen_of, seen_in, kept_of, measures, noted_track, notes, adds, releases, is_fresh}
use Rattle.rules.specs.Reports.{report_of}
use Rattle.rules.specs.Commands.{padded, with_last, remembered}
use Rattle.rules.specs.declared.State.{State}
use Rattle.rules.specs.declared.Train.{Train}
use Rattle.rules.specs.declared.Track.{Track}
use Rattle.rules.specs.declared.Since.{Since}
use Rattle.rules.specs.declared.Brakes.{Brakes}
use Rattle.rules.specs.declared.Kept.{Kept}
use Rattle.rules.specs.declared.Reading.{Reading}
use Rattle.rules.specs.declared.Seen.{Seen}
use Rattle.rules.specs.declared.Stm.{Stm}
use Rattle.track.specs.Among.{noted_among}
use Rattle.track.proofs.Judging.{track_noted, judged_again, vmax_again}

-- ---- what is seen

-- what is seen is the same once the pasts are noted
seen_noted : (train : Train) (track : Track) (feedback : Measured) (kept : Kept) (since : Since) (roll : Option ℕ)
    → seen_of train (noted_track train kept track) feedback kept since roll
    ≡ seen_with (judged_now train kept (all_curves track)) (vmax_of train track) train feedback kept since roll
unfolding seen_of
seen_noted train track feedback kept since roll = rw (judged_again train kept track, vmax_again train kept track)

-- ---- what brakes

-- adding and releasing keep what has been noted since
added_since : (train : Train) (dropped : Bool) (s : Seen) (b : Brakes) → (added_brakes train dropped s b).since ≡ b.since
unfolding added_brakes
added_since train dropped s b = refl

added_roll : (train : Train) (dropped : Bool) (s : Seen) (b : Brakes) → (added_brakes train dropped s b).roll ≡ b.roll
unfolding added_brakes
added_roll train dropped s b = refl

left_since : (t : Bool) (s : Seen) (loss text : Bool) (b : Brakes) → (cond t b (released_brakes s loss text b)).since ≡ b.since
unfolding released_brakes left_brakes
left_since true s loss text b = refl
left_since false s loss text b = refl

-- ---- the report, step by step

abbrev pub pressed_by : Reading → Stm → Measured
pressed_by r stm = reported_to stm.feedback stm.train.feed stm.train.pressure r.external

abbrev pub said_by : Reading → Stm → List Judged
said_by r stm = judged_now stm.train (kept_of r) (all_curves stm.track)

abbrev pub track_by : Reading → Stm → Track
track_by r stm = noted_track stm.train (kept_of r) stm.track

abbrev pub noted_by : Reading → Stm → Brakes
noted_by r stm = noted_brakes stm.train r stm.brakes

-- what is seen, with this rolled ground
abbrev pub seen_by : Reading → Stm → Option ℕ → Seen
seen_by r stm roll =
    seen_with (said_by r stm) (vmax_of stm.train stm.track) stm.train (pressed_by r stm) (kept_of r) (noted_by r stm).since roll

abbrev pub added_by : Reading → Stm → Brakes
added_by r stm = added_brakes stm.train (is_drop (pressed_by r stm)) (seen_by r stm (noted_by r stm).roll) (noted_by r stm)

abbrev pub left_by : Reading → Stm → Brakes
left_by r stm =
    cond (added_by r stm).failed (added_by r stm)
    (released_brakes (seen_by r stm (noted_by r stm).roll) (is_fresh stm.kept.loss r.loss) (is_fresh stm.kept.text r.text) (added_by r stm))

-- the state with these brakes, led to FA or not
abbrev pub stm_by : Reading → Stm → State → Brakes → Stm
stm_by r stm state brakes = record {
  control = record { started = stm.control.started; state = state };
  train = stm.train;
  track = track_by r stm;
  brakes = brakes;
  feedback = pressed_by r stm;
  test = stm.test;
  kept = kept_of r;
  last = stm.last;
}

abbrev pub next_by : Reading → Stm → Stm
next_by r stm = stm_by r stm (cond (added_by r stm).failed State.FA stm.control.state) (left_by r stm)

-- what is seen in such a state
seen_by_lem : (r : Reading) (stm : Stm) (state : State) (brakes : Brakes) → brakes.since ≡ (noted_by r stm).since
    → seen_in (stm_by r stm state brakes) ≡ seen_by r stm brakes.roll
unfolding seen_in
seen_by_lem r stm state brakes since =
    rw since (seen_noted stm.train stm.track (pressed_by r stm) (kept_of r) (noted_by r stm).since brakes.roll)

adds_by : (r : Reading) (stm : Stm) → adds (notes r (measures r stm)) ≡ stm_by r stm stm.control.state (added_by r stm)
unfolding adds notes measures seen_in
adds_by r stm =
    rw (seen_noted stm.train stm.track (pressed_by r stm) (kept_of r) (noted_by r stm).since (noted_by r stm).roll)

-- releases or leads to FA
by_failed : (t : Bool) (stm : Stm) (brakes : Brakes)
    → cond t (with_state stm State.FA) (with_brakes stm brakes)
    ≡ with_brakes (with_state stm (cond t State.FA stm.control.state)) (cond t stm.brakes brakes)
by_failed true stm brakes = refl
by_failed false stm brakes = refl

releases_by : (r : Reading) (stm : Stm) (loss text : Bool)
    → releases loss text (stm_by r stm stm.control.state (added_by r stm))
    ≡ stm_by r stm (cond (added_by r stm).failed State.FA stm.control.state)
    (cond (added_by r stm).failed (added_by r stm) (released_brakes (seen_by r stm (noted_by r stm).roll) loss text (added_by r stm)))
unfolding releases
releases_by r stm loss text =
    rw (seen_by_lem r stm stm.control.state (added_by r stm) (added_since _ _ _ _) ∙ ap (seen_by r stm) (added_roll _ _ _ _))
    (by_failed (added_by r stm).failed (stm_by r stm stm.control.state (added_by r stm))
    (released_brakes (seen_by r stm (noted_by r stm).roll) loss text (added_by r stm)))

-- what comes once the train has moved
abbrev pub supervised_on : Reading → Stm → Stm
supervised_on r stm =
    releases (is_fresh stm.kept.loss r.loss) (is_fresh stm.kept.text r.text) (adds (notes r (measures r stm)))

supervised_by : (r : Reading) (stm : Stm) → supervised_on r stm ≡ next_by r stm
supervised_by r stm = ap (releases _ _) (adds_by r stm) ∙ releases_by r stm _ _

-- what is seen, with another rolled ground
abbrev pub rolled_in : Seen → Option ℕ → Seen
rolled_in s roll = record {
  speed = s.speed;
  vmax = s.vmax;
  margin = s.margin;
  d = s.d;
  e = s.e;
  f = s.f;
  insufficient = s.insufficient;
  halka = s.halka;
  since = s.since;
  rolled = is_rolled roll;
}

rolled_in_lem : (r : Reading) (stm : Stm) (before after : Option ℕ) → rolled_in (seen_by r stm before) after ≡ seen_by r stm after
unfolding seen_with
rolled_in_lem r stm before after = refl

-- what is seen after it
seen_after : (r : Reading) (stm : Stm) → seen_in (next_by r stm) ≡ seen_by r stm (left_by r stm).roll
seen_after r stm =
    seen_by_lem r stm _ (left_by r stm) (left_since (added_by r stm).failed _ _ _ (added_by r stm) ∙ added_since _ _ _ _)

-- ---- the same in steps, each by those before it

pub record Steps (r : Reading) (stm : Stm) : Type 0 where
  pub measured : Measured
  pub kept : Kept
  pub all : List Curve
  pub judged : List Judged
  pub vmax : ℕ
  pub noted : Brakes
  pub seen : Seen
  pub dropped : Bool
  pub added : Brakes
  pub loss : Bool
  pub text : Bool
  pub left : Brakes
  pub state : State
  pub track : Track
  pub measured_is : measured ≡ pressed_by r stm
  pub kept_is : kept ≡ kept_of r
  pub all_is : all ≡ all_curves stm.track
  pub judged_is : judged ≡ judged_now stm.train kept all
  pub vmax_is : vmax ≡ vmax_of stm.train stm.track
  pub noted_is : noted ≡ noted_by r stm
  pub seen_is : seen ≡ seen_with judged vmax stm.train measured kept noted.since noted.roll
  pub dropped_is : dropped ≡ is_drop measured
  pub added_is : added ≡ added_brakes stm.train dropped seen noted
  pub loss_is : loss ≡ is_fresh stm.kept.loss r.loss
  pub text_is : text ≡ is_fresh stm.kept.text r.text
  pub left_is : left ≡ cond added.failed added (released_brakes seen loss text added)
  pub state_is : state ≡ cond added.failed State.FA stm.control.state
  pub whole : length stm.track.curves ≡ places
  pub track_is : track ≡ noted_among stm.track judged

-- the steps, from what the calls return and ensure
abbrev pub steps_of : {r : Reading} {stm : Stm} {measured : Measured} {kept : Kept} {all : List Curve} {judged : List Judged} {vmax : ℕ}
    {noted : Brakes} {seen : Seen} {dropped : Bool} {added : Brakes} {loss text : Bool} {left : Brakes} {state : State} {track : Track}
    → measured ≡ pressed_by r stm → kept ≡ kept_of r → all ≡ all_curves stm.track → judged ≡ judged_now stm.train kept all
    → vmax ≡ vmax_of stm.train stm.track → noted ≡ noted_by r stm
    → seen ≡ seen_with judged vmax stm.train measured kept noted.since noted.roll → dropped ≡ is_drop measured
    → added ≡ added_brakes stm.train dropped seen noted → loss ≡ is_fresh stm.kept.loss r.loss → text ≡ is_fresh stm.kept.text r.text
    → left ≡ cond added.failed added (released_brakes seen loss text added) → state ≡ cond added.failed State.FA stm.control.state
    → length stm.track.curves ≡ places → track ≡ noted_among stm.track judged → Steps r stm
steps_of {measured = measured} {kept} {all} {judged} {vmax} {noted} {seen} {dropped} {added} {loss} {text} {left} {state} {track}
    e1 e2 e3 e4 e5 e6 e7 e8 e9 e10 e11 e12 e13 e14 e15 =
    record {
      measured = measured;
      kept = kept;
      all = all;
      judged = judged;
      vmax = vmax;
      noted = noted;
      seen = seen;
      dropped = dropped;
      added = added;
      loss = loss;
      text = text;
      left = left;
      state = state;
      track = track;
      measured_is = e1;
      kept_is = e2;
      all_is = e3;
      judged_is = e4;
      vmax_is = e5;
      noted_is = e6;
      seen_is = e7;
      dropped_is = e8;
      added_is = e9;
      loss_is = e10;
      text_is = e11;
      left_is = e12;
      state_is = e13;
      whole = e14;
      track_is = e15;
    }

abbrev pub last_of : {r : Reading} {stm : Stm} → Steps r stm → Stm
last_of {r} {stm} s = record {
  control = record { started = stm.control.started; state = s.state };
  train = stm.train;
  track = s.track;
  brakes = s.left;
  feedback = s.measured;
  test = stm.test;
  kept = s.kept;
  last = stm.last;
}

track_by_lem : {r : Reading} {stm : Stm} (s : Steps r stm) → s.track ≡ noted_track stm.train s.kept stm.track
track_by_lem {r} {stm} s =
    s.track_is ∙ track_noted stm.train s.kept stm.track s.judged (s.judged_is ∙ ap (judged_now stm.train s.kept) s.all_is) s.whole

last_by : {r : Reading} {stm : Stm} (s : Steps r stm) → last_of s ≡ next_by r stm
last_by s =
    rw (
      track_by_lem s,
      s.state_is,
      s.left_is,
      s.text_is,
      s.loss_is,
      s.added_is,
      s.dropped_is,
      s.seen_is,
      s.noted_is,
      s.vmax_is,
      s.judged_is,
      s.all_is,
      s.kept_is,
      s.measured_is,
    )

pub last_is : {r : Reading} {stm : Stm} (s : Steps r stm) → last_of s ≡ supervised_on r stm
last_is {r} {stm} s = last_by s ∙ sym (supervised_by r stm)

-- what the curves say, VMAX and what is seen, after it
pub judged_last : {r : Reading} {stm : Stm} (s : Steps r stm) → s.judged ≡ judged_now stm.train s.kept (all_curves s.track)
judged_last {r} {stm} s = rw (track_by_lem s, s.judged_is, s.all_is) (sym (judged_again stm.train s.kept stm.track))

pub vmax_last : {r : Reading} {stm : Stm} (s : Steps r stm) → s.vmax ≡ vmax_of stm.train s.track
vmax_last {r} {stm} s = rw (track_by_lem s, s.vmax_is) (sym (vmax_again stm.train s.kept stm.track))

seen_steps : {r : Reading} {stm : Stm} (s : Steps r stm) → s.seen ≡ seen_by r stm (noted_by r stm).roll
seen_steps s = rw (s.seen_is, s.noted_is, s.vmax_is, s.judged_is, s.all_is, s.kept_is, s.measured_is)

pub seen_last : {r : Reading} {stm : Stm} (s : Steps r stm) → rolled_in s.seen s.left.roll ≡ seen_in (last_of s)
seen_last {r} {stm} s =
    ap₂ rolled_in (seen_steps s) (ap (λ x. x.brakes.roll) (last_by s))
    ∙ rolled_in_lem r stm (noted_by r stm).roll (left_by r stm).roll
    ∙ sym (ap seen_in (last_by s) ∙ seen_after r stm)

-- ---- what is kept of it for a repeat

pub remembered_as : (command : List ℕ) {x y : Stm} {report bytes : List ℕ} → x ≡ y → report ≡ report_of y → bytes ≡ padded longest command
    → with_last x (record { bytes = bytes; report = report }) ≡ remembered command y
unfolding remembered
remembered_as command e report bytes = rw (e, report, bytes)
