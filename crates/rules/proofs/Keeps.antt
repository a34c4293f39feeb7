-- Every call leaves a unit, and so does every run from the state before any start.
use mathlib.Core.Path.{◌≡◌, refl, sym, ap, ◌∙◌, subst}
use Prim.Native.Nat.{ℕ, zero, suc, ◌≤◌}
use native.Mathlib.Omega.{arith}
use mathlib.Core.Bool.{Bool, true, false, cond, not, ◌&&◌, ◌||◌, or-false}
use mathlib.Core.List.{List, [], ◌∷◌}
use lib.Dec.{eqb, leb}
use lib.ListN.{length, drop}
use borrow.Author.Tests.{leb-true, not-false}
use Rattle.wire.specs.Codes.{longest}
use Rattle.wire.specs.Numbers.{byte_at}
use Rattle.wire.specs.Form.{report_length, operands_of}
use Rattle.pressure.specs.Phases.{is_set}
use Rattle.curve.specs.declared.Curve.{Curve}
use Rattle.areas.specs.declared.Event.{Event}
use Rattle.areas.specs.Numbers.{is_event}
use Rattle.areas.specs.Rows.{is_taken}
use Rattle.rules.specs.Numbers.{is_code, is_state, code_of, state_of, is_accepted}
use Rattle.rules.specs.Operands.{code_byte, within, bit_of, extra_of, train_of, train_in_range, start_in_range, reading_of, curve_of, curve_in_range, new_curve_in_range, section_of, section_in_range, event_in, event_speed, event_speed_in_range, event_in_range, record_of, new_record_in_range, signal_in, route_in, in_range}
use Rattle.rules.specs.Places.{cleared_track, passed_track, with_curves, with_sections, with_forty, with_records, given_curve, ended_curve, given_section, ended_section, given_record, ended_record, signalled_records}
use Rattle.records.specs.declared.EtRecord.{EtRecord}
use Rattle.rules.specs.Releases.{fresh_brakes, brakes_by}
use Rattle.rules.specs.BrakeTest.{begun_test, left_test}
use Rattle.rules.specs.Odometer.{with_state, with_track, with_brakes, with_test}
use Rattle.rules.specs.Reports.{shown_fields, report_with, report_in_da, report_outside, report_for, report_of}
use Rattle.rules.specs.Commands.{fresh_stm, entered, forty_by, stopped, carried_out, padded, remembered, accepted_of}
use Rattle.rules.specs.Refusals.{is_path, is_allowed, orders_da, tests_outside, is_untaken}
use Rattle.rules.specs.Runs.{Sent, answer_to, state_after, state_at_end}
use Rattle.rules.specs.Units.{is_extra_sound, is_section_sound, is_record_sound, IsUnit, CallKeepsUnit, EveryRunIsUnit}
use Rattle.rules.specs.declared.Code.{Code}
use Rattle.rules.specs.declared.State.{State}
use Rattle.rules.specs.declared.Verdict.{Verdict}
use Rattle.rules.specs.declared.Train.{Train}
use Rattle.rules.specs.declared.Section.{Section}
use Rattle.rules.specs.declared.Track.{Track}
use Rattle.rules.specs.declared.Stm.{Stm}
use Rattle.rules.proofs.Answers.{Passed, after_accepted, after_other, passed}
use Rattle.rules.proofs.Tests.{impossible, and_left, and_right, and_both, or_left, or_right, or_second, unless_used, joined_first, joined_each}
use Rattle.rules.proofs.SoundTracks.{CurvesSound, SectionsSound, curve_given_lem, curve_ended, section_given_lem, section_ended, TrackSound, track_cleared, track_passed}
use Rattle.rules.proofs.SoundRecords.{RecordsSound, record_given_lem, record_ended, records_signalled}
use Rattle.rules.proofs.Counts.{LimitsSound, brakes_fresh, brakes_by_lem}
use Rattle.rules.proofs.TestParts.{begun_sound, left_sound}
use Rattle.rules.proofs.UnitParts.{Parts, unit_parts, parts_unit, with_track_lem, with_brakes_lem, fresh_at, fresh_parts, fresh_is_unit}
use Rattle.rules.proofs.Reporting.{reading_sound, reported_parts}

-- ---- another state

-- from DA and FA, where causes may stand, paths lead to CS and FA only
braking_stays : (old new : State) → is_path old new ≡ true → is_state State.CS new ≡ false
    → (is_state State.DA old || is_state State.FA old) ≡ true → (is_state State.DA new || is_state State.FA new) ≡ true
braking_stays State.DE new path other e = impossible e
braking_stays State.CS new path other e = impossible e
braking_stays State.HS new path other e = impossible e
braking_stays State.DA new path other e =
    or_right (is_state State.DA new) (is_state State.FA new) (or_second (is_state State.CS new) (is_state State.FA new) path other)
braking_stays State.FA new path other e = or_right (is_state State.DA new) (is_state State.FA new) path

failed_stays : (old new : State) → is_path old new ≡ true → is_state State.FA old ≡ true → is_state State.FA new ≡ true
failed_stays State.DE new path e = impossible e
failed_stays State.CS new path e = impossible e
failed_stays State.HS new path e = impossible e
failed_stays State.DA new path e = impossible e
failed_stays State.FA new path e = path

module _ (stm : Stm) (p : Parts stm) where
  state_parts : (new : State) → is_path stm.control.state new ≡ true → is_state State.CS new ≡ false
      → (is_state State.DA new ≡ true → is_set stm.feedback.phase ≡ true)
      → Parts (with_test (with_state stm new) (left_test stm.test))
  state_parts new path other set = record {
    body = p.body;
    at = record {
      braking = λ e. braking_stays stm.control.state new path other (p.at.braking e);
      failed = λ e. failed_stays stm.control.state new path (p.at.failed e);
      reference = set;
    };
    test = left_sound stm.train stm.control.state new stm.test p.test;
  }

  entered_parts : (new : State) → is_path stm.control.state new ≡ true
      → (is_state State.DA new ≡ true → is_set stm.feedback.phase ≡ true)
      → Parts (with_test (entered new stm) (left_test stm.test))
  entered_parts State.DE path set = state_parts State.DE path refl set
  entered_parts State.CS path set =
      let cleared = cleared_track stm.track in
      let emptied = with_track (with_state stm State.CS) cleared in
      let body =
      with_track_lem (with_state stm State.CS) p.body cleared (track_cleared stm.train.length stm.track p.body.places) in
      record {
        body = with_brakes_lem emptied body fresh_brakes (brakes_fresh stm.train);
        at = fresh_at State.CS stm.feedback.phase set;
        test = left_sound stm.train stm.control.state State.CS stm.test p.test;
      }
  entered_parts State.HS path set = state_parts State.HS path refl set
  entered_parts State.DA path set = state_parts State.DA path refl set
  entered_parts State.FA path set = state_parts State.FA path refl set

  -- ---- curves, sections, the 40

  track_parts : (track : Track) → TrackSound stm.train.length track → Parts (with_track stm track)
  track_parts track t = record { body = with_track_lem stm p.body track t; at = p.at; test = p.test }

  curves_parts : (curves : List Curve) → CurvesSound curves → Parts (with_track stm (with_curves stm.track curves))
  curves_parts curves c =
      let places = p.body.places in
      track_parts (with_curves stm.track curves) (record { curves = c; sections = places.sections; stay = places.stay; records = places.records })

  sections_parts : (sections : List Section) → SectionsSound stm.train.length sections
      → Parts (with_track stm (with_sections stm.track sections))
  sections_parts sections s =
      let places = p.body.places in
      track_parts (with_sections stm.track sections) (record { curves = places.curves; sections = s; stay = places.stay; records = places.records })

  forty_parts : (forty : Bool) → Parts (with_track stm (with_forty stm.track forty))
  forty_parts forty =
      let places = p.body.places in
      track_parts (with_forty stm.track forty) (record { curves = places.curves; sections = places.sections; stay = places.stay; records = places.records })

  records_parts : (ets : List EtRecord) → RecordsSound ets → Parts (with_track stm (with_records stm.track ets))
  records_parts ets s =
      let places = p.body.places in
      track_parts (with_records stm.track ets) (record { curves = places.curves; sections = places.sections; stay = places.stay; records = s })

  -- ---- causes that a command adds, in DA

  by_parts : (code : Code) (which v : ℕ) → LimitsSound stm.train → is_state State.DA stm.control.state ≡ true
      → Parts (with_brakes stm (brakes_by code which v stm.brakes))
  unfolding brakes_by
  by_parts code which v limits da = record {
    body =
        with_brakes_lem stm p.body (brakes_by code which v stm.brakes)
        (brakes_by_lem stm.train code which v stm.brakes limits p.body.counts);
    at = record {
      braking = λ _. or_left (is_state State.DA stm.control.state) (is_state State.FA stm.control.state) da;
      failed = p.at.failed;
      reference = p.at.reference;
    };
    test = p.test;
  }

  -- ---- command 40, in DE

  begun_parts : is_state State.DE stm.control.state ≡ true → Parts (with_test stm (begun_test stm.test))
  begun_parts de =
      record { body = p.body; at = p.at; test = begun_sound stm.train stm.control.state stm.test de p.test }

-- command 50, with its operands in range and taken
given_speed : (s : List ℕ) → event_in_range s ≡ true → is_event Event.GMD (event_in s) ≡ true → within 10 300 (event_speed s) ≡ true
unfolding event_in_range
given_speed s e g =
    ap (λ t. cond t (within 10 300 (event_speed s)) (eqb (event_speed s) 0)) (sym g)
    ∙ and_right (leb (byte_at s 0) 6) (event_speed_in_range (event_in s) (event_speed s)) e

pub taken_there : (stm : Stm) (s : List ℕ) → is_untaken stm Code.AreaEvent s ≡ false → is_taken stm.track.stay.area (event_in s) ≡ true
unfolding is_untaken
taken_there stm s e = not-false (is_taken stm.track.stay.area (event_in s)) e

event_parts : (s : List ℕ) (stm : Stm) → Parts stm → event_in_range s ≡ true → is_untaken stm Code.AreaEvent s ≡ false
    → Parts (with_track stm (passed_track (event_in s) (event_speed s) stm.track))
event_parts s stm p range taken =
    track_parts stm p (passed_track (event_in s) (event_speed s) stm.track)
    (track_passed stm.train.length (event_in s) (event_speed s) stm.track p.body.places (taken_there stm s taken)
    (given_speed s range))

stopped_parts : (which : ℕ) (stm : Stm) → Parts stm → LimitsSound stm.train → is_state State.DA stm.control.state ≡ true
    → Parts (stopped which stm)
unfolding stopped
stopped_parts which stm p limits da =
    let forty = forty_by which stm.track.forty in
    by_parts (with_track stm (with_forty stm.track forty)) (forty_parts stm p forty) Code.StopPassed which stm.kept.speed limits da

-- ---- operands in range

given_train : (s : List ℕ) → start_in_range s ≡ true → train_in_range (train_of s) ≡ true
unfolding start_in_range
given_train s e = and_right (leb (byte_at s 0) 7) (train_in_range (train_of s)) e

given_extra : (s : List ℕ) → is_extra_sound (train_of s).times.extra Verdict.Pending ≡ true
unfolding train_of
given_extra s = go (bit_of 2 (byte_at s 0))
  where
    go : (flag : Bool) → is_extra_sound (extra_of flag) Verdict.Pending ≡ true
    go true = refl
    go false = refl

given_record_lem : (s : List ℕ) → new_record_in_range s ≡ true → is_record_sound (record_of s) ≡ true
unfolding new_record_in_range record_of
given_record_lem s e = rw (and_right (leb (byte_at s 1) 3) (curve_in_range (record_of s).curve) e)

given_curve_lem : (s : List ℕ) → new_curve_in_range s ≡ true → curve_in_range (curve_of s) ≡ true
unfolding new_curve_in_range
given_curve_lem s e = and_right (leb (byte_at s 1) 1) (curve_in_range (curve_of s)) e

given_section_lem : (length : ℕ) (s : List ℕ) → section_in_range (section_of s) ≡ true → is_section_sound length (section_of s) ≡ true
unfolding section_of
given_section_lem length s e = and_both (section_in_range (section_of s)) true e refl

at_least : (least most x : ℕ) → within least most x ≡ true → least ≤ x
at_least least most x e = leb-true least x (and_left (leb least x) (leb x most) e)

-- the tests of a train after its speed's
abbrev later_tests : Train → List Bool
later_tests train =
    within 10 1000 train.length
    ∷ within 400 2000 train.full
    ∷ within 400 train.full train.soft
    ∷ within 1 100 train.times.brake
    ∷ leb train.times.c 200
    ∷ leb train.times.permitted 200
    ∷ leb train.times.bf 200
    ∷ within 1 30 train.margin
    ∷ within 11 30 train.emergency
    ∷ within 30 150 train.sufficient
    ∷ within 150 600 train.pressure
    ∷ within 1 100 train.check
    ∷ []

limits_of : (train : Train) → train_in_range train ≡ true → LimitsSound train
unfolding train_in_range
limits_of train e =
    let passes = joined_each (within 10 300 train.speed) (later_tests train) e in
    record {
      length = omega (arith, at_least 10 1000 train.length (passes 0));
      brake = at_least 1 100 train.times.brake (passes 3);
      check = at_least 1 100 train.check (passes 11);
    }

pub speed_most : (train : Train) → train_in_range train ≡ true → train.speed ≤ 300
unfolding train_in_range
speed_most train e =
    let test = joined_first (within 10 300 train.speed) (later_tests train) e in
    leb-true train.speed 300 (and_right (leb 10 train.speed) (leb train.speed 300) test)

-- a command that is no start finds a train
train_limits : (stm : Stm) → Parts stm → (stm.control.started || false) ≡ true → LimitsSound stm.train
train_limits stm p e = limits_of stm.train (p.body.range (sym (or-false stm.control.started) ∙ e))

-- a test that is not refused by 14 is asked in DE
pub asked_in_de : (stm : Stm) → tests_outside stm Code.TestBrakes ≡ false → is_state State.DE stm.control.state ≡ true
unfolding tests_outside
asked_in_de stm e = not-false (is_state State.DE stm.control.state) e

-- ---- every accepted command

-- what refusals 5, 9 to 11, 14 and 16 let pass
pub record Granted (code : Code) (s : List ℕ) (stm : Stm) : Type 0 where
  pub started : (stm.control.started || is_code Code.Start code) ≡ true
  pub range : in_range code s ≡ true
  pub allowed : is_allowed stm.control.state code s ≡ true
  pub reference : (orders_da code s && not (is_set stm.feedback.phase)) ≡ false
  pub in_de : tests_outside stm code ≡ false
  pub taken : is_untaken stm code s ≡ false

carried_parts : (code : Code) (s : List ℕ) (stm : Stm) → Granted code s stm → Parts stm → Parts (carried_out code s stm)
carried_parts Code.Start s stm g p = fresh_parts true (train_of s) (λ _. given_train s g.range) (given_extra s)
carried_parts Code.ChangeState s stm g p =
    let new = state_of (byte_at s 0) in
    entered_parts stm p new g.allowed (unless_used (is_state State.DA new) (is_set stm.feedback.phase) g.reference)
carried_parts Code.Odometer s stm g p =
    reported_parts stm.control.state (reading_of s) stm refl (reading_sound s g.range) (train_limits stm p g.started) p
carried_parts Code.NewCurve s stm g p =
    curves_parts stm p (given_curve (curve_of s) stm.track.curves)
    (curve_given_lem stm.track.curves p.body.places.curves (curve_of s) (given_curve_lem s g.range))
carried_parts Code.EndCurve s stm g p =
    curves_parts stm p (ended_curve (byte_at s 0) stm.track.curves)
    (curve_ended stm.track.curves p.body.places.curves (byte_at s 0))
carried_parts Code.NewSection s stm g p =
    let length = stm.train.length in
    sections_parts stm p (given_section (section_of s) stm.track.sections)
    (section_given_lem length stm.track.sections p.body.places.sections (section_of s) (given_section_lem length s g.range))
carried_parts Code.EndSection s stm g p =
    let length = stm.train.length in
    let limits = train_limits stm p g.started in
    sections_parts stm p (ended_section (byte_at s 0) stm.track.sections)
    (section_ended length stm.track.sections p.body.places.sections (byte_at s 0) limits.length)
carried_parts Code.StopPassed s stm g p = stopped_parts (byte_at s 0) stm p (train_limits stm p g.started) g.allowed
carried_parts Code.Proceed s stm g p = forty_parts stm p false
carried_parts Code.BaliseError s stm g p = by_parts stm p Code.BaliseError 0 stm.kept.speed (train_limits stm p g.started) g.allowed
carried_parts Code.TestBrakes s stm g p = begun_parts stm p (asked_in_de stm g.in_de)
carried_parts Code.AreaEvent s stm g p = event_parts s stm p g.range g.taken
carried_parts Code.NewRecord s stm g p =
    records_parts stm p (given_record (record_of s) stm.track.records)
    (record_given_lem stm.track.records p.body.places.records (record_of s) (given_record_lem s g.range))
carried_parts Code.SignalPassed s stm g p =
    records_parts stm p (signalled_records (signal_in s) (route_in s) stm.track.records)
    (records_signalled stm.track.records p.body.places.records (signal_in s) (route_in s))
carried_parts Code.EndRecord s stm g p =
    records_parts stm p (ended_record (byte_at s 0) stm.track.records)
    (record_ended stm.track.records p.body.places.records (byte_at s 0))

-- ---- what is remembered of it

length_padded : (n : ℕ) (s : List ℕ) → length (padded n s) ≡ n
unfolding padded
length_padded zero s = refl
length_padded (suc n) s = ap suc (length_padded n (drop 1 s))

length_in_da : (stm : Stm) → length (report_in_da stm) ≡ report_length
unfolding report_in_da report_with shown_fields
length_in_da stm = refl

length_report : (state : State) (stm : Stm) → length (report_for state stm) ≡ report_length
unfolding report_outside
length_report State.DE stm = refl
length_report State.CS stm = refl
length_report State.HS stm = refl
length_report State.DA stm = length_in_da stm
length_report State.FA stm = refl

remembered_unit : (command : List ℕ) (stm : Stm) → Parts stm → IsUnit (remembered command stm)
unfolding remembered report_of
remembered_unit command stm p =
    parts_unit (remembered command stm) (record { body = p.body; at = p.at; test = p.test }) (length_padded longest command)
    (length_report stm.control.state stm)

-- ---- every call, every run

granted_of : (command : List ℕ) (stm : Stm) → Passed stm command → Granted (code_of (code_byte command)) (operands_of command) stm
granted_of command stm t = record { started = t.started; range = t.range; allowed = t.allowed; reference = t.reference; in_de = t.in_de; taken = t.taken }

accepted_unit : (command : List ℕ) (stm : Stm) → Passed stm command → IsUnit stm → IsUnit (accepted_of command stm)
unfolding accepted_of
accepted_unit command stm t u =
    let code = code_of (code_byte command) in
    let s = operands_of command in
    remembered_unit command (carried_out code s stm) (carried_parts code s stm (granted_of command stm t) (unit_parts stm u))

pub call_keeps_unit : CallKeepsUnit
call_keeps_unit stm x u = go (is_accepted (answer_to stm x)) refl
  where
    go : (t : Bool) → is_accepted (answer_to stm x) ≡ t → IsUnit (state_after stm x)
    go true e = subst IsUnit (sym (after_accepted stm x e)) (accepted_unit x.command stm (passed stm x e).1 u)
    go false e = subst IsUnit (sym (after_other stm x e)) u

pub run_keeps_unit : (stm : Stm) (xs : List Sent) → IsUnit stm → IsUnit (state_at_end stm xs)
unfolding state_at_end
run_keeps_unit stm [] u = u
run_keeps_unit stm (x ∷ xs) u = run_keeps_unit (state_after stm x) xs (call_keeps_unit stm x u)

pub every_run_is_unit : EveryRunIsUnit
every_run_is_unit xs = run_keeps_unit fresh_stm xs fresh_is_unit
