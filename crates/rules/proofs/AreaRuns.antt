-- Track areas over runs. Assumes nothing.
use mathlib.Core.Path.{◌≡◌, refl, sym, ◌∙◌, ap, subst}
use Prim.Native.Nat.{ℕ, ◌+◌, ◌≤◌, ◌<◌}
use native.Mathlib.Omega.{arith}
use native.Mathlib.Decide.{dec_le}
use native.Mathlib.Nat.{zero-add, add-zero}
use mathlib.Core.Bool.{Bool, true, false, cond, not, ◌&&◌, ◌||◌, false≢true}
use mathlib.Core.Logic.{◌⊎◌, inl, inr}
use mathlib.Core.List.{List, [], ◌∷◌}
use lib.Dec.{eqb, leb}
use lib.ListN.{length, get_or}
use borrow.Author.Tests.{eqb-true, eq-eqb, leb-true, not-false}
use Rattle.std.specs.Prelude.{Option, Some, None}
use Rattle.wire.specs.Numbers.{byte_at}
use Rattle.wire.specs.Report.{area_in}
use Rattle.std.specs.Prelude.{Result, Ok, Err, ⊤}
use Rattle.wire.specs.declared.form.FormError.{FormError}
use Rattle.wire.specs.Form.{form_of, operands_of}
use Rattle.areas.specs.declared.Area.{Area}
use Rattle.areas.specs.declared.Event.{Event}
use Rattle.areas.specs.declared.Stay.{Stay}
use Rattle.areas.specs.Numbers.{area_number, is_area, event_number, event_of}
use Rattle.areas.specs.Rows.{is_taken, target_of}
use Rattle.areas.specs.Stays.{begun_stay, with_missing, line_by, missed, passed_stay, covered_by, covered_stay}
use Rattle.areas.specs.Claims.{takes, enters}
use Rattle.areas.proofs.Told.{taken_by_lem, target_by, partial_is, full_is, event_number_lem, event_gmd}
use Rattle.areas.proofs.Table.{rows_are_told, target_number}
use Rattle.areas.proofs.Claims.{deletes_told, pends, covered_below, covered_past}
use Rattle.rules.specs.Numbers.{answer_number, is_accepted, is_code, is_state, code_of, state_of}
use Rattle.rules.specs.Operands.{code_byte, number_of, within, reading_of, event_in, event_speed, event_in_range}
use Rattle.rules.specs.Places.{free_section, no_sections, passed_track}
use Rattle.places.specs.Places.{places}
use Rattle.rules.specs.Reports.{report_outside, report_for, report_of}
use Rattle.rules.specs.Commands.{carried_out}
use Rattle.rules.specs.Refusals.{is_start, is_repeat, is_next, ends_nothing, finds_no_place, tests_outside, tests_twice, is_untaken, finds_no_record_place, repeats_nothing, first_of, rules_for, whole_answer, answer_for, answer_of}
use Rattle.rules.specs.Calls.{call_of}
use Rattle.rules.specs.Runs.{Sent, answer_to, state_after, state_at_end, none_accepted, is_of, freshens}
use Rattle.rules.specs.History.{first_operand, moved_of, is_in, is_moving, area_is, passes_event, event_speed_of, enters_by_gmd, collected, ground_over}
use Rattle.rules.specs.TestRuns.{is_judged}
use Rattle.rules.specs.AreaRuns.{AreaIsWritten, is_event_given, EventIsAnswered, EventDone, EventIsDone, FiftyMetres, ByEvent, AreaChangesBy, StayStays, ends_pending, GroundIsCounted, SpeedIsTheStays}
use Rattle.rules.specs.declared.Answer.{Answer}
use Rattle.rules.specs.declared.Code.{Code}
use Rattle.rules.specs.declared.State.{State}
use Rattle.rules.specs.declared.Stm.{Stm}
use Rattle.rules.proofs.Answers.{after_other}
use Rattle.rules.proofs.Tests.{impossible, both, neither, second_fails}
use Rattle.rules.proofs.Told.{code_is}
use Rattle.rules.proofs.Ordering.{done_by, brakes_after}
use Rattle.rules.proofs.Standing.{kept_to_end}
use Rattle.rules.proofs.After.{control_after, train_after_lem, track_after, feedback_after_lem, test_after, kept_after}
use Rattle.rules.proofs.Ground.{ground_step, spared_first}
use Rattle.rules.proofs.Fresh.{free_everywhere}
use Rattle.rules.proofs.Written.{da_fields, report_kept, written_is, report_at_end}
use Rattle.rules.proofs.Stays.{covered_in, entered_stay, stay_by, stay_after, covered_alone, entered_alone, event_told, event_taken}

-- ---- the report

area_in_lem : (state : State) (stm : Stm) → area_in (report_for state stm) ≡ area_is stm
unfolding report_outside
area_in_lem State.DE stm = refl
area_in_lem State.CS stm = refl
area_in_lem State.HS stm = refl
area_in_lem State.DA stm = ap area_in (da_fields stm)
area_in_lem State.FA stm = refl

area_of_lem : (stm : Stm) → area_in (report_of stm) ≡ area_is stm
unfolding report_of
area_of_lem stm = area_in_lem stm.control.state stm

pub area_is_written : AreaIsWritten
area_is_written stm x ys e =
    let last = state_at_end (state_after stm x) ys in (
      ap area_in (written_is stm x e) ∙ area_of_lem (state_after stm x),
      ap area_in (report_at_end (state_after stm x) ys (report_kept stm x e)) ∙ area_of_lem last,
    )

-- ---- the answer

answered_late : (t5 t6 t7 t8 again given allowed taken : Bool)
    → let answer = answer_number (cond t5 Answer.NotStarted (cond t6 Answer.ZeroNumber (cond t7 Answer.WrongNumber (cond t8 Answer.Failed
    (cond again Answer.Again (cond (not given) Answer.OutOfRange (cond (not allowed) Answer.NotAllowed (cond (not taken) Answer.NotTaken
    Answer.Accepted)))))))) in
    is_judged answer ≡ true → answer ≡ cond given (cond allowed (cond taken 0 16) 10) 9
answered_late true t6 t7 t8 again given allowed taken e = impossible e
answered_late false true t7 t8 again given allowed taken e = impossible e
answered_late false false true t8 again given allowed taken e = impossible e
answered_late false false false true again given allowed taken e = impossible e
answered_late false false false false true given allowed taken e = impossible e
answered_late false false false false false true true true e = refl
answered_late false false false false false true true false e = refl
answered_late false false false false false true false taken e = refl
answered_late false false false false false false allowed taken e = refl

given_told : (s : List ℕ) → event_in_range s ≡ is_event_given (byte_at s 0) (event_speed s)
unfolding event_in_range
given_told s =
    ap (λ gmd. leb (byte_at s 0) 6 && cond gmd (within 10 300 (event_speed s)) (eqb (event_speed s) 0)) (event_gmd (byte_at s 0))

taken_told : (area : Area) (byte : ℕ) → event_number (event_of byte) ≡ byte → is_taken area (event_of byte) ≡ takes (area_number area) byte
taken_told area byte n = (rows_are_told area (event_of byte)).0 ∙ ap (takes (area_number area)) n

-- the answer to a command with this code
abbrev answered : Stm → List ℕ → ℕ
answered stm command =
    cond (is_event_given (first_operand command) (event_speed_of command))
    (cond (is_in State.HS stm || is_in State.DA stm) (cond (takes (area_is stm) (first_operand command)) 0 16) 10) 9

abbrev AnsweredAs : Stm → List ℕ → Code → Type 0
AnsweredAs stm command code =
    let answer = answer_number (first_of (rules_for stm command code (operands_of command))) in
    is_judged answer ≡ true → answer ≡ answered stm command

abbrev numbered : Bool → Bool → Bool → ℕ
numbered given allowed taken = cond given (cond allowed (cond taken 0 16) 10) 9

given_counts : (given allowed taken taken' : Bool) → (given ≡ true → taken ≡ taken')
    → numbered given allowed taken ≡ numbered given allowed taken'
given_counts true allowed taken taken' h = ap (numbered true allowed) (h refl)
given_counts false allowed taken taken' h = refl

answered_whole : (stm : Stm) (command : List ℕ) → AnsweredAs stm command Code.AreaEvent
unfolding rules_for ends_nothing finds_no_place tests_outside tests_twice is_untaken finds_no_record_place repeats_nothing
answered_whole stm command e =
    let s = operands_of command in
    let byte = first_operand command in
    let moving = is_in State.HS stm || is_in State.DA stm in
    let area = stm.track.stay.area in
    answered_late (not stm.control.started && not (is_start command)) (eqb (number_of command) 0)
    (not (is_start command) && not (is_repeat stm command) && not (is_next stm command))
    (is_state State.FA stm.control.state && not (is_start command) && not (is_repeat stm command)) (is_repeat stm command)
    (event_in_range s) moving (is_taken area (event_in s)) e
    ∙ ap (λ given. numbered given moving (is_taken area (event_in s))) (given_told s)
    ∙ given_counts (is_event_given byte (event_speed_of command)) moving (is_taken area (event_in s)) (takes (area_number area) byte)
    (λ given. taken_told area byte (event_number_lem byte (up_to_six byte (event_speed_of command) given)))
  where
    up_to_six : (byte speed : ℕ) → is_event_given byte speed ≡ true → byte ≤ 6
    up_to_six byte speed given = leb-true byte 6 (both (leb byte 6) (cond (eqb byte 1) (within 10 300 speed) (eqb speed 0)) given).0

answered_form : (form : Result ⊤ FormError) (stm : Stm) (command : List ℕ) → is_of Code.AreaEvent command ≡ true
    → is_judged (answer_number (answer_for form (whole_answer stm command))) ≡ true
    → answer_number (answer_for form (whole_answer stm command)) ≡ answered stm command
answered_form (Err FormError.WrongArea) stm command c e = impossible e
answered_form (Err FormError.NoBytes) stm command c e = impossible e
answered_form (Err FormError.NoCode) stm command c e = impossible e
answered_form (Err FormError.WrongLength) stm command c e = impossible e
answered_form (Ok passed) stm command c e =
    subst (AnsweredAs stm command) (sym (code_is Code.AreaEvent (code_of (code_byte command)) c)) (answered_whole stm command) e

pub event_is_answered : EventIsAnswered
unfolding call_of answer_of
event_is_answered stm x c e = answered_form (form_of x.command (length x.area)) stm x.command c e

-- ---- what an event does

-- the stay after it, by its number
passed_by : (byte speed : ℕ) (stay : Stay) → event_number (event_of byte) ≡ byte
    → passed_stay (event_of byte) speed stay
    ≡ cond (eqb byte 3) (with_missing stay (missed stay.missing)) (begun_stay (target_of stay.area (event_of byte)) (line_by (event_of byte) speed))
unfolding passed_stay
passed_by byte speed stay n =
    ap (λ k. cond (eqb k 3) (with_missing stay (missed stay.missing)) (begun_stay (target_of stay.area (event_of byte)) (line_by (event_of byte) speed))) n

module _ (byte speed : ℕ) (stay : Stay) (n : event_number (event_of byte) ≡ byte) (t : is_taken stay.area (event_of byte) ≡ true) where
  passed_area : area_number (passed_stay (event_of byte) speed stay).area ≡ cond (eqb byte 3) (area_number stay.area) (enters byte)
  passed_area =
      ap (λ s. area_number s.area) (passed_by byte speed stay n)
      ∙ by (eqb byte 3)
    where
      by : (group : Bool)
          → area_number
          (cond group (with_missing stay (missed stay.missing)) (begun_stay (target_of stay.area (event_of byte)) (line_by (event_of byte) speed))).area
          ≡ cond group (area_number stay.area) (enters byte)
      by true = refl
      by false = target_number stay.area (event_of byte) t ∙ ap enters n

  passed_other : eqb byte 3 ≡ false
      → passed_stay (event_of byte) speed stay ≡ begun_stay (target_of stay.area (event_of byte)) (line_by (event_of byte) speed)
  passed_other g = passed_by byte speed stay n ∙ rw g

  passed_group : byte ≡ 3 → passed_stay (event_of byte) speed stay ≡ with_missing stay (missed stay.missing)
  passed_group g = passed_by byte speed stay n ∙ rw g

-- a group without overlap that is taken finds the fully equipped area
group_in_full : (area : Area) (byte : ℕ) → byte ≡ 3 → is_taken area (event_of byte) ≡ true → area ≡ Area.Full
unfolding event_of
group_in_full area byte three t =
    full_is area (sym (taken_by_lem area Event.NoOverlap) ∙ ap (λ k. is_taken area (event_of k)) (sym three) ∙ t)

-- the sections
deleted : (t : Bool) (stm : Stm) (place : ℕ) → t ≡ true → (get_or (cond t no_sections stm.track.sections) place free_section).held ≡ false
deleted true stm place e = ap (λ section. section.held) (free_everywhere places place free_section)
deleted false stm place e = impossible e

module _ (stm : Stm) (x : Sent) (e : is_accepted (answer_to stm x) ≡ true) (o : is_of Code.AreaEvent x.command ≡ true) where
  is_event_lem : code_of (code_byte x.command) ≡ Code.AreaEvent
  is_event_lem = code_is Code.AreaEvent (code_of (code_byte x.command)) o

  abbrev byte : ℕ
  byte = first_operand x.command

  abbrev speed : ℕ
  speed = event_speed_of x.command

  abbrev before : Stay
  before = stm.track.stay

  part : {A : Type 0} (f : Stm → A) → f (state_after stm x) ≡ f (done_by x.command stm)
      → f (state_after stm x) ≡ f (carried_out Code.AreaEvent (operands_of x.command) stm)
  part f after = after ∙ ap (λ is. f (carried_out is (operands_of x.command) stm)) is_event_lem

  track_is : (state_after stm x).track ≡ passed_track (event_of byte) speed stm.track
  track_is = part (λ s. s.track) (track_after stm x e)

  stay_is : (state_after stm x).track.stay ≡ passed_stay (event_of byte) speed before
  stay_is = stay_after stm x Code.AreaEvent e is_event_lem

  number_is : event_number (event_of byte) ≡ byte
  number_is = event_told stm x e is_event_lem

  taken_is : is_taken before.area (event_of byte) ≡ true
  taken_is = event_taken stm x e is_event_lem

  area_is_lem : area_is (state_after stm x) ≡ cond (eqb byte 3) (area_is stm) (enters byte)
  area_is_lem = ap (λ s. area_number s.area) stay_is ∙ passed_area byte speed before number_is taken_is

  enters_is : enters_by_gmd stm x.command ≡ (eqb byte 1 && not (eqb (area_is stm) 4))
  enters_is = ap (λ t. (t && eqb byte 1) && not (eqb (area_is stm) 4)) o

  sections_is : (state_after stm x).track.sections ≡ cond (enters_by_gmd stm x.command) no_sections stm.track.sections
  unfolding passed_track
  sections_is =
      ap (λ track. track.sections) track_is
      ∙ ap (λ t. cond t no_sections stm.track.sections) (deletes_told byte before ∙ sym enters_is)

  event_done : EventDone stm (state_after stm x) x.command
  unfolding passed_track
  event_done = record {
    area = area_is_lem;
    followed = λ g. ap (λ s. s.missing) (stay_is ∙ passed_other byte speed before number_is taken_is g);
    group = λ g p. ap (λ s. s.missing) (stay_is ∙ passed_group byte speed before number_is taken_is g) ∙ ap missed p;
    again = λ g covered p. stay_is ∙ passed_group byte speed before number_is taken_is g
        ∙ ap (λ o. with_missing before (missed o)) p ∙ ap (with_missing before) (sym p);
    deletes = λ t place. ap (λ sections. (get_or sections place free_section).held) sections_is ∙ deleted (enters_by_gmd stm x.command) stm place t;
    leaves = λ t. sections_is ∙ ap (λ d. cond d no_sections stm.track.sections) t;
    curves = ap (λ track. track.curves) track_is;
    records = ap (λ track. track.records) track_is;
    forty = ap (λ track. track.forty) track_is;
    control = part (λ s. s.control) (control_after stm x e);
    train = part (λ s. s.train) (train_after_lem stm x e);
    brakes = part (λ s. s.brakes) (brakes_after stm x e);
    feedback = part (λ s. s.feedback) (feedback_after_lem stm x e);
    test = part (λ s. s.test) (test_after stm x e);
    kept = part (λ s. s.kept) (kept_after stm x e);
  }

pub event_is_done : EventIsDone
event_is_done = event_done

-- ---- where the area comes from

-- by the overlap that a report finds: the area changes only at 50 m, from 8 to 4
covered_by_lem : (moved : ℕ) (stay : Stay) (missing : Option ℕ) → stay.missing ≡ missing
    → (area_number (covered_by moved stay missing).area ≡ area_number stay.area → ⊥)
    → (before : ℕ) × (stay.missing ≡ Some before) × (5000 ≤ before + moved) × (stay.area ≡ Area.Full)
    × (covered_by moved stay missing ≡ begun_stay Area.Partial None)
covered_by_lem moved stay None o n = absurd (n refl)
covered_by_lem moved stay (Some covered) o n = by (leb 5000 (covered + moved)) refl n
  where
    entering : (taken : Bool) → is_taken stay.area Event.NoOverlap ≡ taken → 5000 ≤ covered + moved
        → (area_number (target_of stay.area Event.NoOverlap) ≡ area_number stay.area → ⊥)
        → (before : ℕ) × (stay.missing ≡ Some before) × (5000 ≤ before + moved) × (stay.area ≡ Area.Full)
        × (begun_stay (target_of stay.area Event.NoOverlap) None ≡ begun_stay Area.Partial None)
    entering true t h m =
        let full = full_is stay.area (sym (taken_by_lem stay.area Event.NoOverlap) ∙ t) in
        (covered, o, h, full, ap (λ to. begun_stay to None) (target_by stay.area Event.NoOverlap true t))
    entering false t h m = absurd (m (ap area_number (target_by stay.area Event.NoOverlap false t)))

    by : (t : Bool) → leb 5000 (covered + moved) ≡ t
        → (area_number
        (cond t (begun_stay (target_of stay.area Event.NoOverlap) None) (with_missing stay (Some (covered + moved)))).area
        ≡ area_number stay.area → ⊥)
        → (before : ℕ) × (stay.missing ≡ Some before) × (5000 ≤ before + moved) × (stay.area ≡ Area.Full)
        × (cond t (begun_stay (target_of stay.area Event.NoOverlap) None) (with_missing stay (Some (covered + moved)))
        ≡ begun_stay Area.Partial None)
    by true t m = entering (is_taken stay.area Event.NoOverlap) refl (leb-true 5000 (covered + moved) t) m
    by false t m = absurd (m refl)

-- a report that changes the area finds HS or DA, and the 50 m end at it
pub record Reaches (state : State) (moved : ℕ) (stay : Stay) : Type 0 where
  pub moving : (is_state State.HS state || is_state State.DA state) ≡ true
  pub before : ℕ
  pub pending : stay.missing ≡ Some before
  pub reached : 5000 ≤ before + moved
  pub full : stay.area ≡ Area.Full
  pub entered : covered_in state moved stay ≡ begun_stay Area.Partial None

reaches : (state : State) (moved : ℕ) (stay : Stay) → (area_number (covered_in state moved stay).area ≡ area_number stay.area → ⊥)
    → Reaches state moved stay
unfolding covered_stay
reaches State.DE moved stay n = absurd (n refl)
reaches State.CS moved stay n = absurd (n refl)
reaches State.HS moved stay n =
    let r = covered_by_lem moved stay stay.missing refl n in
    record { moving = refl; before = r.0; pending = r.1; reached = r.2; full = r.3; entered = r.4 }
reaches State.DA moved stay n =
    let r = covered_by_lem moved stay stay.missing refl n in
    record { moving = refl; before = r.0; pending = r.1; reached = r.2; full = r.3; entered = r.4 }
reaches State.FA moved stay n = absurd (n refl)

entered_area : (state : State) (stay : Stay) → (entered_stay state stay).area ≡ stay.area
entered_area State.DE stay = refl
entered_area State.CS stay = refl
entered_area State.HS stay = refl
entered_area State.DA stay = refl
entered_area State.FA stay = refl

module _ (stm : Stm) (x : Sent) (e : is_accepted (answer_to stm x) ≡ true) where
  area_after : (code : Code) → code_of (code_byte x.command) ≡ code
      → area_is (state_after stm x) ≡ area_number (stay_by code (operands_of x.command) stm).area
  area_after code c = ap (λ s. area_number s.area) (stay_after stm x code e c)

  -- what changes the area
  abbrev ChangedBy : Type 0
  ChangedBy =
      (is_of Code.Start x.command ≡ true)
      ⊎ (ByEvent stm (state_after stm x) x.command ⊎ FiftyMetres stm (state_after stm x) x.command)

  by_event : is_of Code.AreaEvent x.command ≡ true → (area_is (state_after stm x) ≡ area_is stm → ⊥) → ByEvent stm (state_after stm x) x.command
  by_event o n = by (eqb (first_operand x.command) 3) refl
    where
      at : area_is (state_after stm x) ≡ cond (eqb (first_operand x.command) 3) (area_is stm) (enters (first_operand x.command))
      at = (event_is_done stm x e o).area

      by : (t : Bool) → eqb (first_operand x.command) 3 ≡ t → ByEvent stm (state_after stm x) x.command
      by true t = absurd (n (at ∙ ap (λ g. cond g (area_is stm) (enters (first_operand x.command))) t))
      by false t = record {
        event = o;
        row =
            let c = code_is Code.AreaEvent (code_of (code_byte x.command)) o in
            sym (taken_told stm.track.stay.area (first_operand x.command) (event_told stm x e c)) ∙ event_taken stm x e c;
        now = t;
        to = at ∙ ap (λ g. cond g (area_is stm) (enters (first_operand x.command))) t;
      }

  fifty_metres : code_of (code_byte x.command) ≡ Code.Odometer → (area_is (state_after stm x) ≡ area_is stm → ⊥)
      → FiftyMetres stm (state_after stm x) x.command
  unfolding reading_of
  fifty_metres c n =
      let r = reaches stm.control.state (moved_of x.command) stm.track.stay (λ same. n (area_after Code.Odometer c ∙ same)) in
      record {
        moving = ap (λ is. is_code Code.Odometer is && (is_in State.HS stm || is_in State.DA stm)) c ∙ r.moving;
        before = r.before;
        pending = r.pending;
        reached = r.reached;
        from = ap area_number r.full;
        to = area_after Code.Odometer c ∙ ap (λ s. area_number s.area) r.entered;
      }

  changed_by : (code : Code) → code_of (code_byte x.command) ≡ code → (area_is (state_after stm x) ≡ area_is stm → ⊥) → ChangedBy
  changed_by Code.Start c n = inl (ap (is_code Code.Start) c)
  changed_by Code.ChangeState c n =
      absurd (n (area_after Code.ChangeState c ∙ ap area_number (entered_area (state_of (byte_at (operands_of x.command) 0)) stm.track.stay)))
  changed_by Code.Odometer c n = inr (inr (fifty_metres c n))
  changed_by Code.NewCurve c n = absurd (n (area_after Code.NewCurve c))
  changed_by Code.EndCurve c n = absurd (n (area_after Code.EndCurve c))
  changed_by Code.NewSection c n = absurd (n (area_after Code.NewSection c))
  changed_by Code.EndSection c n = absurd (n (area_after Code.EndSection c))
  changed_by Code.StopPassed c n = absurd (n (area_after Code.StopPassed c))
  changed_by Code.Proceed c n = absurd (n (area_after Code.Proceed c))
  changed_by Code.BaliseError c n = absurd (n (area_after Code.BaliseError c))
  changed_by Code.TestBrakes c n = absurd (n (area_after Code.TestBrakes c))
  changed_by Code.AreaEvent c n = inr (inl (by_event (ap (is_code Code.AreaEvent) c) n))
  changed_by Code.NewRecord c n = absurd (n (area_after Code.NewRecord c))
  changed_by Code.SignalPassed c n = absurd (n (area_after Code.SignalPassed c))
  changed_by Code.EndRecord c n = absurd (n (area_after Code.EndRecord c))

pub area_changes_by : AreaChangesBy
area_changes_by stm x e n = changed_by stm x e (code_of (code_byte x.command)) refl n

-- ---- where nothing pends

still_by : (code : Code) (s : List ℕ) (stm : Stm) → (is_code Code.Start code || is_code Code.AreaEvent code) ≡ false
    → stm.track.stay.missing ≡ None → stay_by code s stm ≡ stm.track.stay
still_by Code.Start s stm n p = impossible (sym n)
still_by Code.ChangeState s stm n p = entered_alone (state_of (byte_at s 0)) stm.track.stay p
still_by Code.Odometer s stm n p = covered_alone stm.control.state (reading_of s).moved stm.track.stay p
still_by Code.NewCurve s stm n p = refl
still_by Code.EndCurve s stm n p = refl
still_by Code.NewSection s stm n p = refl
still_by Code.EndSection s stm n p = refl
still_by Code.StopPassed s stm n p = refl
still_by Code.Proceed s stm n p = refl
still_by Code.BaliseError s stm n p = refl
still_by Code.TestBrakes s stm n p = refl
still_by Code.AreaEvent s stm n p = impossible (sym n)
still_by Code.NewRecord s stm n p = refl
still_by Code.SignalPassed s stm n p = refl
still_by Code.EndRecord s stm n p = refl

abbrev moves_area : Stm → List ℕ → Bool
moves_area before command = is_of Code.Start command || is_of Code.AreaEvent command

pub stay_stays : StayStays
stay_stays stm xs p n =
    kept_to_end (λ s. s.track.stay ≡ stm.track.stay) moves_area moves_area
    (λ s x e f g same.
    stay_after s x (code_of (code_byte x.command)) e refl
    ∙ still_by (code_of (code_byte x.command)) (operands_of x.command) s f (ap (λ stay. stay.missing) same ∙ p) ∙ same)
    stm xs n n refl

-- ---- 50 m

-- a command that does not end what pends: the stay after it, with this ground before it
pending_in : (state : State) (moved : ℕ) (stay : Stay)
    → covered_in state moved stay ≡ cond (is_state State.HS state || is_state State.DA state) (covered_stay moved stay) stay
pending_in State.DE moved stay = refl
pending_in State.CS moved stay = refl
pending_in State.HS moved stay = refl
pending_in State.DA moved stay = refl
pending_in State.FA moved stay = refl

other_state : (state : State) (stay : Stay) → is_state State.CS state ≡ false → entered_stay state stay ≡ stay
other_state State.DE stay e = refl
other_state State.CS stay e = impossible (sym e)
other_state State.HS stay e = refl
other_state State.DA stay e = refl
other_state State.FA stay e = refl

module _ (stm : Stm) (x : Sent) (e : is_accepted (answer_to stm x) ≡ true) (n : ends_pending stm x.command ≡ false) where
  abbrev s : List ℕ
  s = operands_of x.command

  abbrev moves : Bool
  moves = is_in State.HS stm || is_in State.DA stm

  abbrev moved_stay : Code → Stay
  moved_stay code = cond (is_code Code.Odometer code && moves) (covered_stay (moved_of x.command) stm.track.stay) stm.track.stay

  unfresh : (is_of Code.Start x.command ≡ false) × ((is_of Code.ChangeState x.command && is_state State.CS (state_of (byte_at s 0))) ≡ false)
  unfresh =
      neither (is_of Code.Start x.command) (is_of Code.ChangeState x.command && is_state State.CS (state_of (byte_at s 0)))
      (neither (freshens x.command) (is_of Code.AreaEvent x.command && not (eqb (first_operand x.command) 3)) n).0

  -- an event is a group without overlap, in the fully equipped area
  only_group : is_of Code.AreaEvent x.command ≡ true → first_operand x.command ≡ 3
  only_group o =
      let t = (neither (freshens x.command) (is_of Code.AreaEvent x.command && not (eqb (first_operand x.command) 3)) n).1 in
      eqb-true (first_operand x.command) 3
      (not-false (eqb (first_operand x.command) 3) (second_fails (is_of Code.AreaEvent x.command) _ o t))

  found_in_full : is_of Code.AreaEvent x.command ≡ true → stm.track.stay.area ≡ Area.Full
  found_in_full o =
      group_in_full stm.track.stay.area (first_operand x.command) (only_group o)
      (event_taken stm x e (code_is Code.AreaEvent (code_of (code_byte x.command)) o))

  pending_by : (code : Code) → code_of (code_byte x.command) ≡ code → (covered : ℕ) → stm.track.stay.missing ≡ Some covered
      → (state_after stm x).track.stay ≡ moved_stay code
  unfolding reading_of
  pending_by Code.Start c covered p = absurd (false≢true (sym unfresh.0 ∙ ap (is_code Code.Start) c))
  pending_by Code.ChangeState c covered p =
      stay_after stm x Code.ChangeState e c
      ∙ other_state (state_of (byte_at s 0)) stm.track.stay
      (second_fails (is_of Code.ChangeState x.command) _ (ap (is_code Code.ChangeState) c) unfresh.1)
  pending_by Code.Odometer c covered p =
      stay_after stm x Code.Odometer e c ∙ pending_in stm.control.state (moved_of x.command) stm.track.stay
  pending_by Code.NewCurve c covered p = stay_after stm x Code.NewCurve e c
  pending_by Code.EndCurve c covered p = stay_after stm x Code.EndCurve e c
  pending_by Code.NewSection c covered p = stay_after stm x Code.NewSection e c
  pending_by Code.EndSection c covered p = stay_after stm x Code.EndSection e c
  pending_by Code.StopPassed c covered p = stay_after stm x Code.StopPassed e c
  pending_by Code.Proceed c covered p = stay_after stm x Code.Proceed e c
  pending_by Code.BaliseError c covered p = stay_after stm x Code.BaliseError e c
  pending_by Code.TestBrakes c covered p = stay_after stm x Code.TestBrakes e c
  pending_by Code.AreaEvent c covered p =
      let o = ap (is_code Code.AreaEvent) c in (event_is_done stm x e o).again (only_group o) covered p
  pending_by Code.NewRecord c covered p = stay_after stm x Code.NewRecord e c
  pending_by Code.SignalPassed c covered p = stay_after stm x Code.SignalPassed e c
  pending_by Code.EndRecord c covered p = stay_after stm x Code.EndRecord e c

-- one command, accepted or not
one_pending : (stm : Stm) (x : Sent) (accepted : Bool) → is_accepted (answer_to stm x) ≡ accepted
    → (accepted ≡ true → ends_pending stm x.command ≡ false) → (covered : ℕ) → stm.track.stay.missing ≡ Some covered
    → (state_after stm x).track.stay
    ≡ cond (accepted && is_moving stm x.command) (covered_stay (moved_of x.command) stm.track.stay) stm.track.stay
one_pending stm x true e n covered p = pending_by stm x e (n refl) (code_of (code_byte x.command)) refl covered p
one_pending stm x false e n covered p = ap (λ s. s.track.stay) (after_other stm x e)

-- and once the partial area is entered so, it stays
abbrev in_partial : Stay
in_partial = begun_stay Area.Partial None

partial_stays : (stm : Stm) (xs : List Sent) → stm.track.stay ≡ in_partial → none_accepted ends_pending stm xs ≡ true
    → (state_at_end stm xs).track.stay ≡ in_partial
partial_stays stm xs p n =
    kept_to_end (λ s. s.track.stay ≡ in_partial) ends_pending ends_pending
    (λ s x e f g same. on s x e f (is_of Code.AreaEvent x.command) refl same)
    stm xs n n p
  where
    on : (s : Stm) (x : Sent) → is_accepted (answer_to s x) ≡ true → ends_pending s x.command ≡ false → (event : Bool)
        → is_of Code.AreaEvent x.command ≡ event → s.track.stay ≡ in_partial → (state_after s x).track.stay ≡ in_partial
    on s x e f true o same =
        absurd (false≢true (ap (λ stay. is_area Area.Full stay.area) (sym same) ∙ ap (is_area Area.Full) (found_in_full s x e f o)))
    on s x e f false o same =
        let start = (unfresh s x e f).0 in
        stay_after s x (code_of (code_byte x.command)) e refl
        ∙ still_by (code_of (code_byte x.command)) (operands_of x.command) s (rw (start, o)) (ap (λ stay. stay.missing) same) ∙ same

-- one command, by the ground that it moves
module _ (line : Option ℕ) where
  step_below : (t : Bool) (before moved : ℕ) → before + cond t moved 0 < 5000
      → cond t (covered_stay moved (pends line before)) (pends line before) ≡ pends line (before + cond t moved 0)
  step_below true before moved h = covered_below line before moved h
  step_below false before moved h = ap (pends line) (sym (add-zero before))

  step_past : (t : Bool) (before moved : ℕ) → before < 5000 → 5000 ≤ before + cond t moved 0
      → cond t (covered_stay moved (pends line before)) (pends line before) ≡ in_partial
  step_past true before moved b h = covered_past line before moved h
  step_past false before moved b h = absurd (omega (arith, b, h))

  -- what is claimed of a list, by its ground
  abbrev Counted : Stm → ℕ → ℕ → Type 0
  Counted last before covered =
      (before + covered < 5000 → last.track.stay ≡ pends line (before + covered)) × (5000 ≤ before + covered → last.track.stay ≡ in_partial)

  counted : (stm : Stm) (ys : List Sent) (before : ℕ) → stm.track.stay ≡ pends line before → before < 5000
      → none_accepted ends_pending stm ys ≡ true → Counted (state_at_end stm ys) before (ground_over stm ys)
  unfolding collected state_at_end
  counted stm [] before p b n = (λ h. p ∙ ap (pends line) (sym (add-zero before)), λ h. absurd (omega (arith, b, h)))
  counted stm (x ∷ xs) before p b n =
      let spared = spared_first ends_pending stm x xs n in
      let t = is_accepted (answer_to stm x) && is_moving stm x.command in
      let moved = moved_of x.command in
      let first : (state_after stm x).track.stay ≡ cond t (covered_stay moved (pends line before)) (pends line before) =
      one_pending stm x (is_accepted (answer_to stm x)) refl spared.0 before (ap (λ stay. stay.missing) p)
      ∙ ap (λ stay. cond t (covered_stay moved stay) stay) p in
      let rest = ground_over (state_after stm x) xs in
      rw (ground_step stm x xs)
      (elim (dec_le 5000 (before + cond t moved 0)) [
        | yes g ↦
            let over = partial_stays (state_after stm x) xs (first ∙ step_past t before moved b g) spared.1 in
            (λ h. absurd (omega (arith, g, h)), λ h. over)
        | no g ↦
            let below : before + cond t moved 0 < 5000 = omega (arith, g) in
            let on = counted (state_after stm x) xs (before + cond t moved 0) (first ∙ step_below t before moved below) below spared.1 in
            let whole : before + cond t moved 0 + rest ≡ before + (cond t moved 0 + rest) = omega arith in
            (λ h. on.0 (rw whole h) ∙ ap (pends line) whole, λ h. on.1 (rw whole h))
      ])

pub ground_is_counted : GroundIsCounted
ground_is_counted stm x ys e group p n =
    let t = both (is_of Code.AreaEvent x.command) (eqb (first_operand x.command) 3) group in
    let c = code_is Code.AreaEvent (code_of (code_byte x.command)) t.0 in
    let three = eqb-true (first_operand x.command) 3 t.1 in
    let line = stm.track.stay.line in
    let begun : (state_after stm x).track.stay ≡ pends line 0 = first three c (event_taken stm x e c) in
    let done = counted line (state_after stm x) ys 0 begun (omega arith) n in
    let none = zero-add (ground_over (state_after stm x) ys) in
    let byte = (area_is_written stm x ys e).1 in (
      λ h.
          let is = done.0 (rw none h) ∙ ap (pends line) none in
          (is, byte ∙ ap (λ stay. area_number stay.area) is),
      λ h.
          let is = done.1 (rw none h) in
          (is, byte ∙ ap (λ stay. area_number stay.area) is),
    )
  where
    first : first_operand x.command ≡ 3 → code_of (code_byte x.command) ≡ Code.AreaEvent
        → is_taken stm.track.stay.area (event_of (first_operand x.command)) ≡ true
        → (state_after stm x).track.stay ≡ pends stm.track.stay.line 0
    first three c taken =
        let full = group_in_full stm.track.stay.area (first_operand x.command) three taken in
        stay_after stm x Code.AreaEvent e c
        ∙ passed_group (first_operand x.command) (event_speed_of x.command) stm.track.stay (event_told stm x e c) taken three
        ∙ ap (λ missing. with_missing stm.track.stay (missed missing)) p
        ∙ ap (λ area. record { area = area; line = stm.track.stay.line; missing = Some 0 }) full

-- ---- the speed of the stay

module _ (stm : Stm) (x : Sent) (e : is_accepted (answer_to stm x) ≡ true) (four : area_is (state_after stm x) ≡ 4)
    (anew : (not (eqb (area_is stm) 4) || passes_event 1 x.command) ≡ true) where
  abbrev line_at : Option ℕ
  line_at = cond (passes_event 1 x.command) (Some (event_speed_of x.command)) None

  -- a command that is no event was not in the partial area before
  elsewhere : is_of Code.AreaEvent x.command ≡ false → area_is (state_after stm x) ≡ area_is stm → ⊥
  elsewhere o same =
      let t : eqb (area_is stm) 4 ≡ true = eq-eqb (area_is stm) 4 (sym same ∙ four) in
      false≢true (rw (t, o) at anew)

  no_board : is_of Code.AreaEvent x.command ≡ false → line_at ≡ None
  no_board o = ap (λ t. cond (t && eqb (first_operand x.command) 1) (Some (event_speed_of x.command)) None) o

  is_partial : (stay : Stay) → area_number stay.area ≡ 4 → stay.area ≡ Area.Partial
  is_partial stay h = partial_is stay.area (eq-eqb (area_number stay.area) 4 h)

  entered_by_event : is_of Code.AreaEvent x.command ≡ true → (state_after stm x).track.stay ≡ begun_stay Area.Partial line_at
  entered_by_event o = by (eqb (first_operand x.command) 3) refl
    where
      code : code_of (code_byte x.command) ≡ Code.AreaEvent
      code = code_is Code.AreaEvent (code_of (code_byte x.command)) o

      line_is : line_by (event_of (first_operand x.command)) (event_speed_of x.command) ≡ line_at
      line_is =
          ap (λ t. cond t (Some (event_speed_of x.command)) None)
          (event_gmd (first_operand x.command) ∙ ap (λ t. t && eqb (first_operand x.command) 1) (sym o))

      by : (t : Bool) → eqb (first_operand x.command) 3 ≡ t → (state_after stm x).track.stay ≡ begun_stay Area.Partial line_at
      by true t =
          let three = eqb-true (first_operand x.command) 3 t in
          let same = (event_is_done stm x e o).area ∙ ap (λ g. cond g (area_is stm) (enters (first_operand x.command))) t in
          absurd (in_full three (sym same ∙ four))
        where
          in_full : first_operand x.command ≡ 3 → area_is stm ≡ 4 → ⊥
          in_full three h =
              let full = group_in_full stm.track.stay.area (first_operand x.command) three (event_taken stm x e code) in
              let eight : area_is stm ≡ 8 = ap area_number full in
              omega (arith, eight, h)
      by false t =
          let is = stay_after stm x Code.AreaEvent e code
          ∙ passed_other (first_operand x.command) (event_speed_of x.command) stm.track.stay (event_told stm x e code)
          (event_taken stm x e code) t in
          let to = is_partial (state_after stm x).track.stay four in
          is ∙ ap (λ line. begun_stay (target_of stm.track.stay.area (event_of (first_operand x.command))) line) line_is
          ∙ ap (λ area. begun_stay area line_at) (ap (λ stay. stay.area) (sym is) ∙ to)

  entered_anew : (event : Bool) → is_of Code.AreaEvent x.command ≡ event → (state_after stm x).track.stay ≡ begun_stay Area.Partial line_at
  unfolding reading_of
  entered_anew true o = entered_by_event o
  entered_anew false o =
      by_change (area_changes_by stm x e (elsewhere o))
    where
      by_change : ChangedBy stm x e → (state_after stm x).track.stay ≡ begun_stay Area.Partial line_at
      by_change (inl start) =
          let c = code_is Code.Start (code_of (code_byte x.command)) start in
          let eight : area_is (state_after stm x) ≡ 8 = area_after stm x e Code.Start c in
          absurd (omega (arith, eight, four))
      by_change (inr (inl row)) = absurd (false≢true (sym o ∙ row.event))
      by_change (inr (inr fifty)) =
          let t = both (is_of Code.Odometer x.command) (is_in State.HS stm || is_in State.DA stm) fifty.moving in
          let c = code_is Code.Odometer (code_of (code_byte x.command)) t.0 in
          let r = reaches stm.control.state (moved_of x.command) stm.track.stay (λ same. elsewhere o (area_after stm x e Code.Odometer c ∙ same)) in
          stay_after stm x Code.Odometer e c ∙ r.entered ∙ ap (begun_stay Area.Partial) (sym (no_board o))

pub speed_is_the_stays : SpeedIsTheStays
speed_is_the_stays stm x ys h =
    let first = entered_anew stm x h.accepted h.partial h.anew (is_of Code.AreaEvent x.command) refl in
    stay_stays (state_after stm x) ys (ap (λ stay. stay.missing) first) h.alone ∙ first
