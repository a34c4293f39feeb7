-- What the bytes of a report say of the unit. Assumes nothing.
use mathlib.Core.Path.{◌≡◌, refl, sym, ◌∙◌, ap, ap₂}
use Prim.Native.Nat.{ℕ}
use native.Mathlib.Omega.{arith}
use native.Mathlib.Decide.{dec_lt}
use mathlib.Core.Bool.{Bool, true, false, cond, not, ◌&&◌, ◌||◌, false≢true, and-true, and-false, or-false}
use mathlib.Core.Logic.{inl, inr}
use mathlib.Core.List.Memᴰ
use mathlib.Core.List.{List, [], ◌∷◌, map}
use lib.Dec.{eqb, ltb}
use borrow.Author.Tests.{eqb-true, eqb-false, ne_eqb, ltb-false}
use Rattle.std.specs.Prelude.{Option, Some, None}
use Rattle.wire.specs.Report.{causes_in, permitted_in, vmax_in, shown_in, messages_in, offered_in}
use Rattle.laws.proofs.Lists.{◌∈◌, not_true_false}
use Rattle.wire.proofs.Values.{bytes_read, four_read}
use Rattle.pressure.specs.Reference.{drop_of}
use Rattle.curve.specs.declared.Curve.{Curve}
use Rattle.curve.specs.declared.Judged.{Judged}
use Rattle.curve.specs.Deceleration.{level_of}
use Rattle.interval.specs.Intervals.{rank_of}
use Rattle.curve.specs.Ground.{never}
use Rattle.interval.specs.Changes.{to_change}
use Rattle.interval.specs.Judging.{judged_of}
use Rattle.places.specs.Places.{judged_here}
use Rattle.places.proofs.Held.{held_judged, judged_held}
use Rattle.colours.specs.Numbers.{showing_number, bar_number, mode_number}
use Rattle.areas.specs.Numbers.{area_number}
use Rattle.colours.specs.Rows.{rows, is_met, holds_for, passing, rows_for, row_of}
use Rattle.colours.specs.declared.Row.{Row}
use Rattle.colours.proofs.Claims.{one_row_holds, row_listed}
use Rattle.rules.specs.Numbers.{is_accepted, is_state, order_number, bit_number}
use Rattle.records.specs.Lives.{as_curve}
use Rattle.rules.specs.Places.{any_of, all_curves}
use Rattle.rules.specs.Speeds.{braking_of, judged_by, judged_now, vmax_of, permitted_speed}
use Rattle.rules.specs.Table.{causes, stands, order_of, pressed_for, is_releasable, is_dropped}
use Rattle.rules.specs.Odometer.{is_insufficient, seen_in}
use Rattle.rules.specs.Operands.{bit_of}
use Rattle.rules.specs.Shows.{candidate, no_candidate, set_number, is_lower, goes_before, chosen_of, chosen_from, candidates, chosen, shown_as, showing_of}
use Rattle.rules.specs.Reports.{causes_number, messages_of, would_drop, offered_of, is_over, shown_fields, change_of, two, four, report_with, report_in_da, report_outside, test_order, report_for, report_of}
use Rattle.rules.specs.Commands.{with_last, remembered, accepted_of}
use Rattle.rules.specs.BrakeTest.{is_running, has_passed, has_failed}
use Rattle.rules.specs.Runs.{Sent, answer_to, state_after, moment_of, state_at_end}
use Rattle.rules.specs.History.{Tells}
use Rattle.rules.specs.History.{is_in, Holds, Supervises, interval_in}
use Rattle.rules.specs.Claims.{UpToSources}
use Rattle.rules.specs.Columns.{IsFree}
use Rattle.rules.specs.Written.{Largest, permits, UpToPermitted, Offers, WrittenInDA, ReportInDA, FirstAtEqual, GoesFirst, ByRow, Shows, ShowsNone, ShownInDA, StateAndOrder, WrittenOutside, ReportOutsideDA, FromRow, EveryReportHasARow, order_in_test, runs_in, MessagesTell, MessagesAreWritten}
use Rattle.rules.specs.declared.State.{State}
use Rattle.rules.specs.declared.Cause.{Cause}
use Rattle.rules.specs.declared.Causes.{Causes}
use Rattle.rules.specs.declared.Seen.{Seen}
use Rattle.rules.specs.declared.Stage.{Stage}
use Rattle.rules.specs.declared.Verdict.{Verdict}
use Rattle.rules.specs.declared.Candidate.{Candidate}
use Rattle.rules.specs.declared.Last.{Last}
use Rattle.rules.specs.declared.Stm.{Stm}
use Rattle.rules.proofs.Answers.{after_accepted, after_other}
use Rattle.rules.proofs.Once.{answer_writes_report}
use Rattle.rules.proofs.Tests.{impossible, both, and_both}
use Rattle.rules.proofs.Told.{state_is_lem}
use Rattle.rules.proofs.Ordering.{done_by}
use Rattle.rules.proofs.Monotone.{any_in, any_from}
use Rattle.rules.proofs.Claims.{not_lower_told, over_first, held_one, vmax_is_least, permitted_is_least, shown_is_first}
use Rattle.rules.proofs.Columns.{listed, free_in, tells_by}
use Rattle.rules.proofs.Bits.{bit_stands, twelve_bits, order_strongest, seven_bits, two_bits}
use Rattle.rules.proofs.Supervising.{among_all, from_all, as_itself, as_held}
use Rattle.curve.specs.declared.Shown.{Shown}

-- ---- the report that is written is the unit's

-- what is remembered does not enter into it
report_of_rest : (stm : Stm) (last : Last) (state : State) → report_for state (with_last stm last) ≡ report_for state stm
unfolding report_in_da report_with report_outside seen_in
report_of_rest stm last State.DE = refl
report_of_rest stm last State.CS = refl
report_of_rest stm last State.HS = refl
report_of_rest stm last State.DA = refl
report_of_rest stm last State.FA = refl

remembered_report : (command : List ℕ) (stm : Stm) → (remembered command stm).last.report ≡ report_of (remembered command stm)
unfolding remembered report_of
remembered_report command stm = sym (report_of_rest stm (remembered command stm).last stm.control.state)

pub report_kept : (stm : Stm) (x : Sent) → is_accepted (answer_to stm x) ≡ true
    → (state_after stm x).last.report ≡ report_of (state_after stm x)
unfolding accepted_of
report_kept stm x e = rw (after_accepted stm x e) (remembered_report x.command (done_by x.command stm))

pub written_is : (stm : Stm) (x : Sent) → is_accepted (answer_to stm x) ≡ true → (moment_of stm x).area ≡ report_of (state_after stm x)
written_is stm x e = answer_writes_report stm x (rw e) ∙ report_kept stm x e

-- ---- in DA

module _ (stm : Stm) where
  abbrev pub judged : List Judged
  judged = judged_now stm.train stm.kept (all_curves stm.track)

  abbrev pub vmax : ℕ
  vmax = vmax_of stm.train stm.track

  abbrev pub shown : Candidate
  shown = chosen (judged_by stm.train stm.kept) stm.track

  abbrev pub field_or : (Candidate → ℕ) → ℕ → ℕ
  field_or field none = cond shown.judged.held (field shown) none

  -- the row of a curve that may be shown
  abbrev pub row_for : Candidate → Row
  row_for c = row_of (is_over stm.train stm.kept c) (not (is_insufficient stm.train stm.feedback)) (showing_of c)

  -- the report, field by field
  abbrev pub in_da : List ℕ
  in_da =
      3
      ∷ order_number (order_of stm.train.softly stm.brakes.causes)
      ∷ two (causes_number stm.brakes.causes) (two (permitted_speed vmax judged) (two vmax
      (field_or (λ c. c.curve.id) 255
      ∷ showing_number (showing_of shown)
      ∷ bar_number (row_for shown).bar
      ∷ mode_number (row_for shown).mode
      ∷ messages_of stm.brakes stm.feedback stm.test shown.et
      ∷ offered_of (seen_in stm) stm.brakes.causes
      ∷ four (change_of stm.train stm.kept shown) (area_number stm.track.stay.area ∷ []))))

  pub da_fields : report_in_da stm ≡ in_da
  unfolding report_in_da report_with shown_fields
  da_fields = refl

  pub in_da_lem : is_in State.DA stm ≡ true → report_of stm ≡ in_da
  unfolding report_of
  in_da_lem d = ap (λ state. report_for state stm) (state_is_lem State.DA stm.control.state d) ∙ da_fields

  -- ---- the speeds

  vmax_written : vmax_in in_da ≡ vmax
  vmax_written = bytes_read vmax _

  permitted_written : permitted_in in_da ≡ permitted_speed vmax judged
  permitted_written = bytes_read (permitted_speed vmax judged) _

  causes_written : causes_in in_da ≡ causes_number stm.brakes.causes
  causes_written = bytes_read (causes_number stm.brakes.causes) _

  vmax_largest : Largest (UpToSources stm.train stm.track) vmax
  vmax_largest = let l = vmax_is_least stm.train stm.track in record { holds = l.0; most = l.1 }

  -- a curve among those judged
  judged_in : {curve : Curve} → Holds (all_curves stm.track) curve
      → judged_of (braking_of stm.train stm.kept.halka) stm.kept.speed curve ∈ judged
  unfolding judged_now
  judged_in {curve} holds =
      let braking = braking_of stm.train stm.kept.halka in
      Memᴰ.cast (sym (held_judged braking stm.kept.speed curve holds.held))
      (Memᴰ.map (judged_here braking stm.kept.speed) holds.place)

  judged_from : (j : Judged) → j ∈ judged → j.held ≡ true
      → (curve : Curve) × Holds (all_curves stm.track) curve × (j.permitted ≡ permits stm curve)
  unfolding judged_now judged_of braking_of level_of
  judged_from j m h =
      let braking = braking_of stm.train stm.kept.halka in
      let (curve, place, e) = Memᴰ.of_map (judged_here braking stm.kept.speed) (all_curves stm.track) m in
      let held = sym (judged_held braking stm.kept.speed curve) ∙ ap (λ k. k.held) e ∙ h in
      let is = sym e ∙ held_judged braking stm.kept.speed curve held in
      (curve, record { place = place; held = held }, ap (λ k. k.permitted) is)

  permitted_largest : Largest (UpToPermitted stm vmax) (permitted_speed vmax judged)
  unfolding judged_of braking_of level_of
  permitted_largest =
      let l = permitted_is_least vmax judged in
      record {
        holds = record {
          limit = l.0.limit;
          top = l.0.top;
          curves = λ et curve s. let holds = among_all stm.track et curve s in l.0.curves _ (judged_in holds) holds.held;
        };
        most = λ m u. l.1 m (record {
          top = u.top;
          limit = u.limit;
          curves = λ j place held.
              let (curve, holds, e) = judged_from j place held in
              let (et, s) = from_all stm.track curve holds in
              rw e (u.curves et curve s);
        });
      }

  -- ---- the offer

  abbrev seen : Seen
  seen = seen_in stm

  abbrev standing : Causes
  standing = stm.brakes.causes

  -- what a fresh LOSS would drop
  abbrev LossDrops : Type 0
  LossDrops =
      (cause : Cause) × (stands standing cause ≡ true) × (bit_number cause ≡ 10 → ⊥) × IsFree stm (stands standing) cause

  not_text : (t : Bool) → cond t false true ≡ true → t ≡ false
  not_text true e = impossible e
  not_text false e = refl

  loss_told : Tells (would_drop seen true false standing) LossDrops
  unfolding is_dropped
  loss_told = (
    λ e.
        let (cause, m, t) = any_from (λ cause. stands standing cause && is_dropped seen true false standing cause) causes e in
        let p = both (stands standing cause) (pressed_for true false cause && is_releasable seen standing cause) t in
        let q = both (pressed_for true false cause) (is_releasable seen standing cause) p.1 in (
          cause,
          p.0,
          eqb-false (bit_number cause) 10 (not_text (eqb (bit_number cause) 10) q.0),
          (free_in stm standing cause).0 q.1,
        ),
    λ d.
        let cause = d.0 in
        any_in (λ each. stands standing each && is_dropped seen true false standing each) causes (listed cause)
        (and_both (stands standing cause) (is_dropped seen true false standing cause) d.1
        (and_both (pressed_for true false cause) (is_releasable seen standing cause)
        (ap (λ t. cond t false true) (ne_eqb (bit_number cause) 10 d.2)) ((free_in stm standing cause).1 d.3))),
  )

  text_told : would_drop seen false true standing ≡ stands standing Cause.Rolling
  unfolding is_dropped any_of is_releasable
  text_told = simp (and-false, and-true, or-false)

  offers : Offers stm (offered_of seen standing)
  unfolding offered_of
  offers =
      let bits = two_bits (would_drop seen true false standing) (would_drop seen false true standing) in
      record { loss = tells_by bits.0 loss_told; text = bits.1 ∙ text_told; most = bits.2 }

  pub written_in_da : WrittenInDA stm in_da
  written_in_da = record {
    state = refl;
    order = rw causes_written (order_strongest standing stm.train.softly);
    causes = λ cause. rw causes_written (bit_stands standing cause);
    no_other = rw causes_written (twelve_bits standing);
    vmax = rw vmax_written vmax_largest;
    permitted = rw (vmax_written, permitted_written) permitted_largest;
    offered = offers;
  }

pub report_in_da_lem : ReportInDA
report_in_da_lem stm x e d = rw (written_is stm x e, in_da_lem (state_after stm x) d) (written_in_da (state_after stm x))

-- ---- the shown curve

module _ (stm : Stm) where
  -- a curve, or a record's, with what its place says, and with what it says itself
  abbrev says : Bool → Curve → Candidate
  says et curve = candidate et curve (judged_by stm.train stm.kept curve)

  abbrev told : Bool → Curve → Candidate
  told et curve = candidate et curve (judged_of (braking_of stm.train stm.kept.halka) stm.kept.speed curve)

  says_held : (et : Bool) (curve : Curve) → curve.held ≡ true → says et curve ≡ told et curve
  unfolding judged_by
  says_held et curve held = ap (candidate et curve) (held_judged (braking_of stm.train stm.kept.halka) stm.kept.speed curve held)

  held_said : (et : Bool) (curve : Curve) → (says et curve).judged.held ≡ curve.held
  unfolding judged_by
  held_said et curve = judged_held (braking_of stm.train stm.kept.halka) stm.kept.speed curve

  abbrev all : List Candidate
  all = candidates (judged_by stm.train stm.kept) stm.track

  -- what is supervised is among those that may be shown, and what is held among them is supervised
  may_be_shown : (et : Bool) (curve : Curve) → Supervises stm.track et curve → says et curve ∈ all
  unfolding candidates
  may_be_shown false curve s =
      Memᴰ.append_left (map (λ et. says true (as_curve et)) stm.track.records) (Memᴰ.map (says false) s.place)
  may_be_shown true curve s =
      let same = as_itself s.et s.holds.held s.effective ∙ s.is in
      Memᴰ.append_right (map (says false) stm.track.curves) (Memᴰ.cast (ap (says true) (sym same)) (Memᴰ.map (λ et. says true (as_curve et)) s.holds.place))

  is_supervised_lem : (c : Candidate) → c ∈ all → c.judged.held ≡ true
      → (et : Bool) × (curve : Curve) × Supervises stm.track et curve × (told et curve ≡ c)
  unfolding candidates
  is_supervised_lem c m h =
      elim (Memᴰ.append_cases (map (says false) stm.track.curves) m) [
        | inl n ↦
            let (curve, place, is) = Memᴰ.of_map (says false) stm.track.curves n in
            let held = sym (held_said false curve) ∙ ap (λ x. x.judged.held) is ∙ h in
            (false, curve, record { place = place; held = held }, sym (says_held false curve held) ∙ is)
        | inr n ↦
            let (et, place, is) = Memᴰ.of_map (λ et. says true (as_curve et)) stm.track.records n in
            let held = sym (held_said true (as_curve et)) ∙ ap (λ x. x.judged.held) is ∙ h in
            let (own, effective) = as_held et held in (
              true,
              as_curve et,
              record { et = et; holds = record { place = place; held = own }; effective = effective; is = sym (as_itself et own effective) },
              sym (says_held true (as_curve et) held) ∙ is,
            )
      ]

  -- of two at equal rank
  first_at_equal : (et et' : Bool) (id id' : ℕ) → is_lower (set_number et') (set_number et) (ltb id' id) ≡ false → FirstAtEqual et et' id id'
  first_at_equal false false id id' e = ltb-false id' id e
  first_at_equal false true id id' e = tt
  first_at_equal true false id id' e = absurd (false≢true (sym e))
  first_at_equal true true id id' e = ltb-false id' id e

  -- of two, one that the other does not go before
  goes_first : (et : Bool) (curve : Curve) (et' : Bool) (other : Curve) → goes_before (told et' other) (told et curve) ≡ false
      → GoesFirst stm et curve et' other
  unfolding goes_before judged_of braking_of level_of
  goes_first et curve et' other e =
      let rank = rank_of (interval_in stm curve) in
      let rank' = rank_of (interval_in stm other) in
      let t = not_lower_told rank rank' _ e in
      elim (dec_lt rank' rank) [
        | yes l ↦ inl l
        | no l ↦
            let level : rank' ≡ rank = omega (arith, t.0, l) in
            let u = not_lower_told (permits stm other) (permits stm curve) _ (t.1 (sym level)) in
            inr (
              level,
              elim (dec_lt (permits stm curve) (permits stm other)) [
                | yes m ↦ inl m
                | no m ↦
                    let even : permits stm other ≡ permits stm curve = omega (arith, u.0, m) in
                    inr (sym even, first_at_equal et et' curve.id other.id (u.1 even))
              ],
            )
      ]

  -- a field of the shown curve
  field_of : (field : Candidate → ℕ) (none : ℕ) (one : Candidate) → one ≡ shown stm → (shown stm).judged.held ≡ true
      → field_or stm field none ≡ field one
  field_of field none one is held = ap₂ (λ t c. cond t (field c) none) held (sym is)

  -- what is shown, where a curve is
  showing : (one : Candidate) → one ≡ shown stm → (shown stm).judged.held ≡ true → showing_of (shown stm) ≡ Some (shown_as one)
  unfolding showing_of
  showing one is held = ap₂ (λ t c. cond t (Some (shown_as c)) None) held (sym is)

  -- its row
  by_row : (past sufficient : Bool) (what : Option Shown) → row_for stm (shown stm) ≡ row_of past sufficient what
      → ByRow past sufficient what (in_da stm)
  by_row past sufficient what e =
      let one = one_row_holds past sufficient what in
      record { row = one.row; alone = one.alone; bar = ap (λ r. bar_number r.bar) (e ∙ one.taken); mode = ap (λ r. mode_number r.mode) (e ∙ one.taken) }

  -- bit 6
  marked_in_da : bit_of 6 (messages_in (in_da stm)) ≡ (shown stm).et
  unfolding messages_of
  marked_in_da =
      let test = stm.test in
      (seven_bits stm.brakes.drift stm.brakes.failed stm.feedback.fault (is_running test.stage) (has_passed test.result)
      (has_failed test.result) (shown stm).et).seventh

  first_told : (et : Bool) (other : Curve) → Supervises stm.track et other
      → ((shown stm).judged.held ≡ true) × (shown stm ∈ all) × (goes_before (told et other) (shown stm) ≡ false)
  first_told et other s =
      let held = (among_all stm.track et other s).held in
      let first =
      shown_is_first (judged_by stm.train stm.kept) stm.track (says et other) (may_be_shown et other s) (held_said et other ∙ held) in
      rw (says_held et other held) at first

  shows : (et : Bool) (curve : Curve) → Supervises stm.track et curve → Shows stm (in_da stm)
  unfolding judged_of is_over braking_of level_of is_insufficient drop_of shown_as change_of
  shows et curve s =
      let (some_shown, among, _) = first_told et curve s in
      let (et', one, supervises, is) = is_supervised_lem (shown stm) among some_shown in
      record {
        et = et';
        curve = one;
        holds = supervises;
        first = λ e other s. goes_first et' one e other (ap (goes_before (told e other)) is ∙ (first_told e other s).2);
        marked = marked_in_da ∙ ap (λ c. c.et) (sym is);
        id = field_of (λ c. c.curve.id) 255 (told et' one) is some_shown;
        interval = ap showing_number (showing (told et' one) is some_shown);
        colours = by_row _ _ _ (ap₂ (λ past what. row_of past (not (is_insufficient stm.train stm.feedback)) what)
            (ap (is_over stm.train stm.kept) (sym is)) (showing (told et' one) is some_shown));
        change = four_read _ _
            ∙ field_of (λ c. to_change c.curve (braking_of stm.train stm.kept.halka) stm.kept.speed) never (told et' one) is some_shown;
      }

-- none is shown where none is supervised
none_shown : (stm : Stm) → ((et : Bool) (curve : Curve) → Supervises stm.track et curve → ⊥) → (shown stm).judged.held ≡ false
unfolding chosen
none_shown stm none =
    not_true_false (shown stm).judged.held
    (λ h. let (et, curve, s, _) = is_supervised_lem stm (shown stm) (held_one (all stm) h) h in none et curve s)

-- what is shown where none is held is no record
no_record : (best : Candidate) (xs : List Candidate) → best.et ≡ false → (chosen_from best xs).judged.held ≡ false → (chosen_from best xs).et ≡ false
unfolding chosen_from chosen_of
no_record best [] e h = e
no_record best (next ∷ rest) e h = by (next.judged.held && (not best.judged.held || goes_before next best)) refl (no_record best rest e)
  where
    by : (t : Bool) → (next.judged.held && (not best.judged.held || goes_before next best)) ≡ t
        → ((chosen_from best rest).judged.held ≡ false → (chosen_from best rest).et ≡ false) → (chosen_from best (next ∷ rest)).et ≡ false
    by true p later = absurd (false≢true (sym h ∙ ap (λ c. (chosen_from c rest).judged.held) (ap (λ t. cond t next best) p)
        ∙ (over_first next rest (both next.judged.held _ p).0).0))
    by false p later =
        let is = ap (λ t. cond t next best) p in
        ap (λ c. (chosen_from c rest).et) is ∙ later (sym (ap (λ c. (chosen_from c rest).judged.held) is) ∙ h)

unmarked : (stm : Stm) → (shown stm).judged.held ≡ false → (shown stm).et ≡ false
unfolding chosen
unmarked stm e = no_record no_candidate (all stm) refl e

shows_none : (stm : Stm) → (shown stm).judged.held ≡ false → ShowsNone (in_da stm)
unfolding change_of showing_of rows holds_for passing rows_for row_of
shows_none stm e = record {
  marked = marked_in_da stm ∙ unmarked stm e;
  id = rw e;
  interval = rw e;
  bar = rw e;
  mode = rw e;
  colours = λ past sufficient. record { row = _; alone = refl; bar = rw e; mode = rw e };
  change = four_read _ _ ∙ rw e;
}

pub shown_in_da : ShownInDA
shown_in_da stm x e d =
    let after = state_after stm x in
    rw (written_is stm x e, in_da_lem after d)
    (shows after, λ none. shows_none after (none_shown after none))

-- ---- outside DA

test_order_lem : (stage : Stage) → test_order stage ≡ order_in_test stage
test_order_lem Stage.Idle = refl
test_order_lem (Stage.Settling phase) = refl
test_order_lem (Stage.Braking steady reports) = refl

module _ (stm : Stm) where
  abbrev Outside : State → Type 0
  Outside state = WrittenOutside state stm.test.stage (report_for state stm)

  outside_marked : bit_of 6 (messages_of stm.brakes stm.feedback stm.test false) ≡ false
  unfolding messages_of
  outside_marked =
      (seven_bits stm.brakes.drift stm.brakes.failed stm.feedback.fault (is_running stm.test.stage) (has_passed stm.test.result)
      (has_failed stm.test.result) false).seventh

  outside : (state : State) (order : ℕ) → StateAndOrder state stm.test.stage (report_outside state order stm)
      → WrittenOutside state stm.test.stage (report_outside state order stm)
  unfolding report_outside rows holds_for passing rows_for
  outside state order first = record {
    first = first;
    causes = bytes_read 0 _;
    permitted = bytes_read 0 _;
    vmax = bytes_read 0 _;
    shown = record {
      marked = outside_marked;
      id = refl;
      interval = refl;
      bar = refl;
      mode = refl;
      colours = λ past sufficient. record { row = _; alone = refl; bar = refl; mode = refl };
      change = four_read never _;
    };
    offered = refl;
  }

  outside_da : (state : State) → is_state State.DA state ≡ false → Outside state
  unfolding report_outside
  outside_da State.DE d = outside State.DE (test_order stm.test.stage) (refl, test_order_lem stm.test.stage)
  outside_da State.CS d = outside State.CS 0 (refl, refl)
  outside_da State.HS d = outside State.HS 0 (refl, refl)
  outside_da State.DA d = impossible (sym d)
  outside_da State.FA d = outside State.FA 3 (refl, refl)

pub report_outside_da : ReportOutsideDA
unfolding report_of
report_outside_da stm x e d =
    let after = state_after stm x in
    rw (written_is stm x e) (outside_da after after.control.state d)

-- ---- the row of every report

from_row : {past sufficient : Bool} {showing : Option Shown} {report : List ℕ} → ByRow past sufficient showing report
    → shown_in report ≡ showing_number showing → FromRow report
unfolding holds_for
from_row {past} {sufficient} {showing} by e =
    let (listed, holds) = row_listed past sufficient showing by.row by.alone in
    let same = eqb (showing_number showing) (showing_number by.row.showing) in
    let asked = both (same && is_met by.row.past past) (is_met by.row.sufficient sufficient) holds in
    record {
      row = by.row;
      listed = listed;
      interval = e ∙ eqb-true _ _ (both same (is_met by.row.past past) asked.0).0;
      bar = by.bar;
      mode = by.mode;
    }

pub every_report_has_a_row : EveryReportHasARow
every_report_has_a_row stm x e = go (is_in State.DA (state_after stm x)) refl
  where
    go : (t : Bool) → is_in State.DA (state_after stm x) ≡ t → FromRow (moment_of stm x).area
    go true d = rw (written_is stm x e, in_da_lem (state_after stm x) d) (from_row (by_row (state_after stm x) _ _ _ refl) refl)
    go false d = let none = (report_outside_da stm x e d).shown in from_row (none.colours true true) none.interval

-- ---- the offer in a unit's report

pub offered_in_da : (stm : Stm) → is_in State.DA stm ≡ true → Offers stm (offered_in (report_of stm))
offered_in_da stm d = rw (in_da_lem stm d) (offers stm)

pub offered_outside : (stm : Stm) → is_in State.DA stm ≡ false → offered_in (report_of stm) ≡ 0
unfolding report_of
offered_outside stm d = (outside_da stm stm.control.state d).offered

-- the report that is kept, after any list that follows an accepted command
pub report_at_end : (stm : Stm) (xs : List Sent) → stm.last.report ≡ report_of stm
    → (state_at_end stm xs).last.report ≡ report_of (state_at_end stm xs)
unfolding state_at_end
report_at_end stm [] h = h
report_at_end stm (x ∷ xs) h = report_at_end (state_after stm x) xs (kept (is_accepted (answer_to stm x)) refl)
  where
    kept : (accepted : Bool) → is_accepted (answer_to stm x) ≡ accepted → (state_after stm x).last.report ≡ report_of (state_after stm x)
    kept true e = report_kept stm x e
    kept false e = rw (after_other stm x e) h

-- ---- messages

-- bit 6 is told in DA only
abbrev pub marked_in : State → Stm → Bool
marked_in State.DE stm = false
marked_in State.CS stm = false
marked_in State.HS stm = false
marked_in State.DA stm = (shown stm).et
marked_in State.FA stm = false

pub messages_in_lem : (stm : Stm) (state : State)
    → messages_in (report_for state stm) ≡ messages_of stm.brakes stm.feedback stm.test (marked_in state stm)
unfolding report_outside
messages_in_lem stm State.DE = refl
messages_in_lem stm State.CS = refl
messages_in_lem stm State.HS = refl
messages_in_lem stm State.DA = ap messages_in (da_fields stm)
messages_in_lem stm State.FA = refl

pub test_runs : (stage : Stage) → is_running stage ≡ runs_in stage
test_runs Stage.Idle = refl
test_runs (Stage.Settling phase) = refl
test_runs (Stage.Braking steady reports) = refl

-- the result, by its cases
passed_told : (result : Verdict) → Tells (has_passed result) (result ≡ Verdict.Passed)
passed_told result = (go result, λ is. ap has_passed is)
  where
    go : (result : Verdict) → has_passed result ≡ true → result ≡ Verdict.Passed
    go Verdict.Pending e = impossible e
    go Verdict.Passed e = refl
    go Verdict.Failed e = impossible e

failed_told : (result : Verdict) → Tells (has_failed result) (result ≡ Verdict.Failed)
failed_told result = (go result, λ is. ap has_failed is)
  where
    go : (result : Verdict) → has_failed result ≡ true → result ≡ Verdict.Failed
    go Verdict.Pending e = impossible e
    go Verdict.Passed e = impossible e
    go Verdict.Failed e = refl

pub messages_tell : (stm : Stm) → MessagesTell stm (messages_in (report_of stm))
unfolding report_of messages_of
messages_tell stm =
    let test = stm.test in
    let bits =
    seven_bits stm.brakes.drift stm.brakes.failed stm.feedback.fault (is_running test.stage) (has_passed test.result)
    (has_failed test.result) (marked_in stm.control.state stm) in
    rw (messages_in_lem stm stm.control.state)
    (record {
      drift = bits.first;
      failed = bits.second;
      fault = bits.third;
      running = bits.fourth ∙ test_runs test.stage;
      passed = rw bits.fifth (passed_told test.result);
      failed_test = rw bits.sixth (failed_told test.result);
      most = bits.most;
    })

pub messages_are_written : MessagesAreWritten
messages_are_written stm x e = rw (written_is stm x e) (messages_tell (state_after stm x))
