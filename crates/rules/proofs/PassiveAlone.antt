-- Passive records influence no answer and no report. Assumes nothing.
use mathlib.Core.Path.{◌≡◌, refl, sym, ap, ap₂, ◌∙◌, subst}
use Prim.Native.Nat.{ℕ}
use mathlib.Core.Bool.{Bool, true, false, cond, not, ◌&&◌, ◌||◌}
use mathlib.Core.Logic.{inl, inr}
use mathlib.Core.List.{List, [], ◌∷◌, ◌++◌, map}
use lib.Dec.{eqb}
use lib.ListN.{length}
use borrow.Author.Tests.{not-true}
use Rattle.wire.specs.Codes.{longest}
use Rattle.wire.specs.Numbers.{byte_at}
use Rattle.wire.specs.Form.{form_of, operands_of}
use Rattle.pressure.specs.declared.Measured.{Measured}
use Rattle.curve.specs.declared.Curve.{Curve}
use Rattle.curve.specs.declared.Judged.{Judged}
use Rattle.curve.specs.declared.Braking.{Braking}
use Rattle.interval.specs.Judging.{judged_of}
use Rattle.places.specs.Places.{none_judged, judged_here}
use Rattle.areas.specs.declared.Stay.{Stay}
use Rattle.records.specs.declared.Condition.{Condition}
use Rattle.records.specs.declared.Signal.{Signal}
use Rattle.records.specs.declared.Route.{Route}
use Rattle.records.specs.declared.EtRecord.{EtRecord}
use Rattle.records.specs.Claims.{row_number}
use Rattle.records.specs.Numbers.{is_signal, controller_of}
use Rattle.records.specs.Lives.{is_undecided, is_effective, as_curve, covered_by, moved_record, is_controlled, passed_record}
use Rattle.records.proofs.Told.{passed_other}
use Rattle.rules.specs.Numbers.{is_code, code_of, state_of, is_accepted}
use Rattle.rules.specs.Operands.{code_byte, reading_of, signal_in, route_in}
use Rattle.rules.specs.Places.{all_of, no_records, fresh_track, cleared_track, empty_track, passed_track, signalled_records, moved_track, all_curves, with_records}
use Rattle.rules.specs.Speeds.{braking_of, judged_by, judged_now, vmax_of}
use Rattle.rules.specs.Checks.{is_drop}
use Rattle.rules.specs.BrakeTest.{left_test}
use Rattle.rules.specs.Releases.{added_brakes, released_brakes}
use Rattle.rules.specs.Odometer.{with_state, with_track, with_brakes, with_test, kept_of, seen_with, seen_of, seen_in, moves, measures, noted_records, noted_track, notes, adds, releases, is_fresh, supervised, reported_in}
use Rattle.rules.specs.Shows.{candidate, no_candidate, goes_before, chosen_of, chosen_from, candidates, chosen}
use Rattle.rules.specs.Reports.{report_with, report_in_da, report_outside, report_for, report_of}
use Rattle.rules.specs.Commands.{fresh_with, entered, stopped, carried_out, with_last, remembered, accepted_of, padded}
use Rattle.rules.specs.Refusals.{is_repeat, is_next, ends_nothing, finds_no_place, tests_outside, tests_twice, is_untaken, finds_no_record_place, repeats_nothing, rules_for, first_of, answer_for, answer_of}
use Rattle.rules.specs.Calls.{area_for, call_of, area_of}
use Rattle.rules.specs.Runs.{Sent, answer_to, state_after, moment_of, moments, is_of}
use Rattle.rules.specs.TwoRuns.{Both}
use Rattle.rules.specs.RecordRuns.{is_idle, AlikeThere, LikeButPassive, SameWritten, PassiveInfluencesNothing}
use Rattle.rules.specs.declared.Code.{Code}
use Rattle.rules.specs.declared.State.{State}
use Rattle.rules.specs.declared.Control.{Control}
use Rattle.rules.specs.declared.Train.{Train}
use Rattle.rules.specs.declared.Section.{Section}
use Rattle.rules.specs.declared.Brakes.{Brakes}
use Rattle.rules.specs.declared.BrakeTest.{BrakeTest}
use Rattle.rules.specs.declared.Kept.{Kept}
use Rattle.rules.specs.declared.Last.{Last}
use Rattle.rules.specs.declared.Reading.{Reading}
use Rattle.rules.specs.declared.Candidate.{Candidate}
use Rattle.rules.specs.declared.Stm.{Stm}
use Rattle.rules.proofs.Tests.{impossible, neither, not_both, if_used, if_mono, cond_by, all_head, all_tail}
use Rattle.rules.proofs.Answers.{after_accepted, after_other}
use Rattle.rules.proofs.Ordering.{done_by}
use Rattle.rules.proofs.Supervising.{noted_at_places}
use Rattle.rules.proofs.AtRecords.{judging, noted_for}

-- ---- an idle record

passive_is : (condition : Condition) → eqb (row_number condition) 3 ≡ true → condition ≡ Condition.PreliminaryPassive
passive_is (Condition.Undecided covered) e = impossible e
passive_is Condition.Terminated e = impossible e
passive_is Condition.DefinitelyActive e = impossible e
passive_is Condition.PreliminaryPassive e = refl
passive_is Condition.PreliminaryActive e = impossible e
passive_is Condition.Locked e = impossible e

module _ (et : EtRecord) (idle : is_idle et ≡ true) where
  -- where it is held it is passive
  held_passive : et.curve.held ≡ true → et.condition ≡ Condition.PreliminaryPassive
  held_passive h = passive_is et.condition (if_used et.curve.held (eqb (row_number et.condition) 3) idle h)

  -- so that it is no curve
  no_curve_lem : (as_curve et).held ≡ false
  no_curve_lem = not_both et.curve.held (is_effective et.condition) (λ h. ap is_effective (held_passive h))

  -- it stays idle
  idle_moved : (moved : ℕ) → is_idle (moved_record moved et) ≡ true
  unfolding moved_record
  idle_moved moved =
      cond_by (λ e. is_idle e ≡ true) et.curve.held _ et
      (λ _. if_mono et.curve.held (eqb (row_number et.condition) 3) (eqb (row_number (covered_by moved et.condition)) 3)
      (λ e. ap (λ c. eqb (row_number (covered_by moved c)) 3) (passive_is et.condition e)) idle)
      (λ _. idle)

  idle_passed : (signal : Signal) (route : Route) → is_idle (passed_record signal route et) ≡ true
  unfolding is_controlled
  idle_passed signal route =
      let decided = not_both et.curve.held (is_undecided et.condition) (λ h. ap is_undecided (held_passive h)) in
      let uncontrolled = ap (◌&& is_signal (controller_of et.category) signal) decided in
      ap is_idle (passed_other signal route et uncontrolled) ∙ idle

-- ---- alike lists

alike_itself : (ets : List EtRecord) → Both AlikeThere ets ets
alike_itself [] = tt
alike_itself (et ∷ ets) = (inl refl, alike_itself ets)

module _ (f : EtRecord → EtRecord) (keeps : (et : EtRecord) → is_idle et ≡ true → is_idle (f et) ≡ true) where
  alike_there : (et et' : EtRecord) → AlikeThere et et' → AlikeThere (f et) (f et')
  alike_there et et' (inl same) = inl (ap f same)
  alike_there et et' (inr (i, i')) = inr (keeps et i, keeps et' i')

  alike_map : (ets ets' : List EtRecord) → Both AlikeThere ets ets' → Both AlikeThere (map f ets) (map f ets')
  alike_map [] [] alike = tt
  alike_map [] (et' ∷ ets') alike = absurd alike
  alike_map (et ∷ ets) [] alike = absurd alike
  alike_map (et ∷ ets) (et' ∷ ets') alike = (alike_there et et' alike.0, alike_map ets ets' alike.1)

-- ---- what they say

module _ (judge : Curve → Judged) (unheld : (curve : Curve) → curve.held ≡ false → judge curve ≡ none_judged) where
  idle_judged : (et : EtRecord) → is_idle et ≡ true → judge (as_curve et) ≡ none_judged
  idle_judged et idle = unheld (as_curve et) (no_curve_lem et idle)

  judged_there : (et et' : EtRecord) → AlikeThere et et' → judge (as_curve et') ≡ judge (as_curve et)
  judged_there et et' (inl same) = ap (λ e. judge (as_curve e)) same
  judged_there et et' (inr (i, i')) = idle_judged et' i' ∙ sym (idle_judged et i)

  judged_alike : (curves : List Curve) (ets ets' : List EtRecord) → Both AlikeThere ets ets'
      → map judge (curves ++ map as_curve ets') ≡ map judge (curves ++ map as_curve ets)
  judged_alike (curve ∷ curves) ets ets' alike = ap (judge curve ∷◌) (judged_alike curves ets ets' alike)
  judged_alike [] [] [] alike = refl
  judged_alike [] [] (et' ∷ ets') alike = absurd alike
  judged_alike [] (et ∷ ets) [] alike = absurd alike
  judged_alike [] (et ∷ ets) (et' ∷ ets') alike =
      ap₂ ◌∷◌ (judged_there et et' alike.0) (judged_alike [] ets ets' alike.1)

  -- one that is idle is not shown
  abbrev says : EtRecord → Candidate
  says et = candidate true (as_curve et) (judge (as_curve et))

  not_chosen : (best : Candidate) (et : EtRecord) → is_idle et ≡ true → chosen_of best (says et) ≡ best
  unfolding chosen_of
  not_chosen best et idle =
      ap (λ j. cond (j.held && (not best.judged.held || goes_before (says et) best)) (says et) best) (idle_judged et idle)

  chosen_there : (best : Candidate) (et et' : EtRecord) → AlikeThere et et' → chosen_of best (says et') ≡ chosen_of best (says et)
  chosen_there best et et' (inl same) = ap (λ e. chosen_of best (says e)) same
  chosen_there best et et' (inr (i, i')) = not_chosen best et' i' ∙ sym (not_chosen best et i)

  chosen_alike : (best : Candidate) (first : List Candidate) (ets ets' : List EtRecord) → Both AlikeThere ets ets'
      → chosen_from best (first ++ map says ets') ≡ chosen_from best (first ++ map says ets)
  unfolding chosen_from
  chosen_alike best (next ∷ first) ets ets' alike = chosen_alike (chosen_of best next) first ets ets' alike
  chosen_alike best [] [] [] alike = refl
  chosen_alike best [] [] (et' ∷ ets') alike = absurd alike
  chosen_alike best [] (et ∷ ets) [] alike = absurd alike
  chosen_alike best [] (et ∷ ets) (et' ∷ ets') alike =
      ap (λ b. chosen_from b (map says ets')) (chosen_there best et et' alike.0)
      ∙ chosen_alike (chosen_of best (says et)) [] ets ets' alike.1

unheld_here : (braking : Braking) (v : ℕ) (curve : Curve) → curve.held ≡ false → judged_here braking v curve ≡ none_judged
unheld_here braking v curve e = ap (λ t. cond t (judged_of braking v curve) none_judged) e

-- ---- a unit with other records

abbrev over : Stm → List EtRecord → Stm
over stm ets = with_track stm (with_records stm.track ets)

record Like (u w : Stm) : Type 0 where
  ets : List EtRecord
  alike : Both AlikeThere u.track.records ets
  is : w ≡ over u ets

abbrev unit_of : Control → Train → List Curve → List Section → Bool → Stay → List EtRecord → Brakes → Measured → BrakeTest → Kept → Last → Stm
unit_of control train curves sections forty stay records brakes feedback test kept last = record {
  control = control;
  train = train;
  track = record { curves = curves; sections = sections; forty = forty; stay = stay; records = records };
  brakes = brakes;
  feedback = feedback;
  test = test;
  kept = kept;
  last = last;
}

parts_same : {control control' : Control} {train train' : Train} {curves curves' : List Curve} {sections sections' : List Section}
    {forty forty' : Bool} {stay stay' : Stay} {brakes brakes' : Brakes} {feedback feedback' : Measured} {test test' : BrakeTest}
    {kept kept' : Kept} {last last' : Last} (ets : List EtRecord)
    → control' ≡ control → train' ≡ train → curves' ≡ curves → sections' ≡ sections → forty' ≡ forty → stay' ≡ stay
    → brakes' ≡ brakes → feedback' ≡ feedback → test' ≡ test → kept' ≡ kept → last' ≡ last
    → unit_of control' train' curves' sections' forty' stay' ets brakes' feedback' test' kept' last'
    ≡ unit_of control train curves sections forty stay ets brakes feedback test kept last
parts_same ets c t cs ss f s b m test k l = rw (c, t, cs, ss, f, s, b, m, test, k, l)

like_is : (u w : Stm) → LikeButPassive u w → Like u w
like_is u w like = record {
  ets = w.track.records;
  alike = like.records;
  is = parts_same w.track.records like.control like.train like.curves like.sections like.forty like.stay
      like.brakes like.feedback like.test like.kept like.last;
}

-- ---- what is read of it

module _ (u : Stm) (ets : List EtRecord) (alike : Both AlikeThere u.track.records ets) where
  all_judged : judged_now u.train u.kept (all_curves (over u ets).track) ≡ judged_now u.train u.kept (all_curves u.track)
  unfolding judged_now all_curves
  all_judged =
      judged_alike (judged_here (braking_of u.train u.kept.halka) u.kept.speed)
      (unheld_here (braking_of u.train u.kept.halka) u.kept.speed) u.track.curves u.track.records ets alike

  same_chosen : chosen (judged_by u.train u.kept) (over u ets).track ≡ chosen (judged_by u.train u.kept) u.track
  unfolding chosen candidates judged_by
  same_chosen =
      let judge = judged_here (braking_of u.train u.kept.halka) u.kept.speed in
      chosen_alike judge (unheld_here (braking_of u.train u.kept.halka) u.kept.speed) no_candidate
      (map (λ curve. candidate false curve (judge curve)) u.track.curves) u.track.records ets alike

  same_seen : seen_in (over u ets) ≡ seen_in u
  unfolding seen_in seen_of vmax_of
  same_seen =
      ap (λ judged. seen_with judged (vmax_of u.train u.track) u.train u.feedback u.kept u.brakes.since u.brakes.roll)
      all_judged

  in_da_lem : report_in_da (over u ets) ≡ report_in_da u
  unfolding report_in_da report_with vmax_of
  in_da_lem =
      let judge = judged_by u.train u.kept in
      let vmax = vmax_of u.train u.track in
      ap (λ judged. report_with judged vmax (chosen judge (over u ets).track) (seen_in (over u ets)) u) all_judged
      ∙ ap₂ (λ shown seen. report_with (judged_now u.train u.kept (all_curves u.track)) vmax shown seen u) same_chosen same_seen

  same_report : (state : State) → report_for state (over u ets) ≡ report_for state u
  unfolding report_outside
  same_report State.DE = refl
  same_report State.CS = refl
  same_report State.HS = refl
  same_report State.DA = in_da_lem
  same_report State.FA = refl

  -- ---- what a report does

  adds_over : adds (over u ets) ≡ over (adds u) ets
  unfolding adds
  adds_over = ap (λ seen. with_brakes (over u ets) (added_brakes u.train (is_drop u.feedback) seen u.brakes)) same_seen

  ended_like : (failed : Bool) (released : Brakes)
      → Like (cond failed (with_state u State.FA) (with_brakes u released)) (cond failed (with_state (over u ets) State.FA) (with_brakes (over u ets) released))
  ended_like true released = record { ets = ets; alike = alike; is = refl }
  ended_like false released = record { ets = ets; alike = alike; is = refl }

  releases_like : (loss text : Bool) → Like (releases loss text u) (releases loss text (over u ets))
  unfolding releases
  releases_like loss text = rw same_seen (ended_like u.brakes.failed (released_brakes (seen_in u) loss text u.brakes))

module _ (r : Reading) (u : Stm) (ets : List EtRecord) (alike : Both AlikeThere u.track.records ets) where
  abbrev noted : Stm → Stm
  noted stm = notes r (measures r (moves r stm))

  abbrev noted_over : List EtRecord → List EtRecord
  noted_over all =
      let after = map (moved_record r.moved) all in
      noted_records after (judged_now u.train (kept_of r) (map as_curve after))

  moved_alike : Both AlikeThere (map (moved_record r.moved) u.track.records) (map (moved_record r.moved) ets)
  moved_alike = alike_map (moved_record r.moved) (λ et idle. idle_moved et idle r.moved) u.track.records ets alike

  noted_alike : Both AlikeThere (noted_over u.track.records) (noted_over ets)
  unfolding judged_now
  noted_alike =
      let before = map (moved_record r.moved) u.track.records in
      let after = map (moved_record r.moved) ets in
      rw (noted_at_places (judging r u) before, noted_at_places (judging r u) after)
      (alike_map (noted_for r u) (λ et idle. idle) before after moved_alike)

  supervised_like : Like (supervised r u) (supervised r (over u ets))
  unfolding supervised notes measures moves moved_track noted_track adds
  supervised_like =
      let loss = is_fresh u.kept.loss r.loss in
      let text = is_fresh u.kept.text r.text in
      let all = noted_over ets in
      subst (λ s. Like (supervised r u) (releases loss text s)) (sym (adds_over (noted u) all noted_alike))
      (releases_like (adds (noted u)) all noted_alike loss text)

  reported_like : (state : State) → Like (reported_in state r u) (reported_in state r (over u ets))
  unfolding measures moves moved_track
  reported_like State.DE = record { ets = ets; alike = alike; is = refl }
  reported_like State.CS = record { ets = ets; alike = alike; is = refl }
  reported_like State.HS = record { ets = map (moved_record r.moved) ets; alike = moved_alike; is = refl }
  reported_like State.DA = supervised_like
  reported_like State.FA = record { ets = ets; alike = alike; is = refl }

-- ---- what a command does

module _ (s : List ℕ) (u : Stm) (ets : List EtRecord) (alike : Both AlikeThere u.track.records ets) where
  entered_like : (state : State) (test : BrakeTest) → Like (with_test (entered state u) test) (with_test (entered state (over u ets)) test)
  unfolding cleared_track empty_track
  entered_like State.DE test = record { ets = ets; alike = alike; is = refl }
  entered_like State.CS test = record { ets = no_records; alike = alike_itself no_records; is = refl }
  entered_like State.HS test = record { ets = ets; alike = alike; is = refl }
  entered_like State.DA test = record { ets = ets; alike = alike; is = refl }
  entered_like State.FA test = record { ets = ets; alike = alike; is = refl }

  carried_like : (code : Code) → is_code Code.NewRecord code ≡ false → is_code Code.EndRecord code ≡ false
      → Like (carried_out code s u) (carried_out code s (over u ets))
  unfolding fresh_with fresh_track empty_track stopped passed_track signalled_records
  carried_like Code.Start n e = record { ets = no_records; alike = alike_itself no_records; is = refl }
  carried_like Code.ChangeState n e = entered_like (state_of (byte_at s 0)) (left_test u.test)
  carried_like Code.Odometer n e = reported_like (reading_of s) u ets alike u.control.state
  carried_like Code.NewCurve n e = record { ets = ets; alike = alike; is = refl }
  carried_like Code.EndCurve n e = record { ets = ets; alike = alike; is = refl }
  carried_like Code.NewSection n e = record { ets = ets; alike = alike; is = refl }
  carried_like Code.EndSection n e = record { ets = ets; alike = alike; is = refl }
  carried_like Code.StopPassed n e = record { ets = ets; alike = alike; is = refl }
  carried_like Code.Proceed n e = record { ets = ets; alike = alike; is = refl }
  carried_like Code.BaliseError n e = record { ets = ets; alike = alike; is = refl }
  carried_like Code.TestBrakes n e = record { ets = ets; alike = alike; is = refl }
  carried_like Code.AreaEvent n e = record { ets = ets; alike = alike; is = refl }
  carried_like Code.NewRecord n e = impossible (sym n)
  carried_like Code.SignalPassed n e = record {
    ets = map (passed_record (signal_in s) (route_in s)) ets;
    alike = alike_map (passed_record (signal_in s) (route_in s)) (λ et idle. idle_passed et idle (signal_in s) (route_in s)) u.track.records ets alike;
    is = refl;
  }
  carried_like Code.EndRecord n e = impossible (sym e)

remembered_like : (u w : Stm) (command : List ℕ) → Like u w → Like (remembered command u) (remembered command w)
unfolding remembered report_of
remembered_like u w command like = record {
  ets = like.ets;
  alike = like.alike;
  is = ap (remembered command) like.is
      ∙ ap (λ report. with_last (over u like.ets) (record { bytes = padded longest command; report = report }))
      (same_report u like.ets like.alike u.control.state);
}

-- ---- one command at both

module _ (u w : Stm) (x : Sent) (like : Like u w) (new : is_of Code.NewRecord x.command ≡ false)
    (end : is_of Code.EndRecord x.command ≡ false) where
  same_rules : (ets : List EtRecord)
      → rules_for (over u ets) x.command (code_of (code_byte x.command)) (operands_of x.command)
      ≡ rules_for u x.command (code_of (code_byte x.command)) (operands_of x.command)
  unfolding rules_for is_repeat is_next ends_nothing finds_no_place tests_outside tests_twice is_untaken finds_no_record_place repeats_nothing
  same_rules ets = rw (new, end)

  same_answer : answer_to w x ≡ answer_to u x
  unfolding call_of answer_of
  same_answer =
      ap (λ s. answer_to s x) like.is
      ∙ ap (λ rules. answer_for (form_of x.command (length x.area)) (first_of rules)) (same_rules like.ets)

  accepted_like : Like (accepted_of x.command u) (accepted_of x.command w)
  unfolding accepted_of
  accepted_like =
      remembered_like (done_by x.command u) (done_by x.command w) x.command
      (subst (λ s. Like (done_by x.command u) (done_by x.command s)) (sym like.is)
      (carried_like (operands_of x.command) u like.ets like.alike (code_of (code_byte x.command)) new end))

  next_like : (accepted : Bool) → is_accepted (answer_to u x) ≡ accepted → Like (state_after u x) (state_after w x)
  next_like true e = rw (after_accepted u x e, after_accepted w x (ap is_accepted same_answer ∙ e)) accepted_like
  next_like false e = rw (after_other u x e, after_other w x (ap is_accepted same_answer ∙ e)) like

  next : Like (state_after u x) (state_after w x)
  next = next_like (is_accepted (answer_to u x)) refl

  same_written : SameWritten (moment_of u x) (moment_of w x)
  unfolding area_of
  same_written = (same_answer, ap₂ (λ answer s. area_for answer s.last.report x.area) same_answer next.is)

-- ---- any list

abbrev is_other : Sent → Bool
is_other x = not (is_of Code.NewRecord x.command || is_of Code.EndRecord x.command)

all_written : (u w : Stm) (xs : List Sent) → Like u w → all_of is_other xs ≡ true → Both SameWritten (moments u xs) (moments w xs)
unfolding moments
all_written u w [] like others = tt
all_written u w (x ∷ xs) like others =
    let t = neither (is_of Code.NewRecord x.command) (is_of Code.EndRecord x.command) (not-true _ (all_head is_other x xs others)) in (
      same_written u w x like t.0 t.1,
      all_written (state_after u x) (state_after w x) xs (next u w x like t.0 t.1) (all_tail is_other x xs others),
    )

pub passive_influences_nothing : PassiveInfluencesNothing
passive_influences_nothing u w xs like others = all_written u w xs (like_is u w like) others
