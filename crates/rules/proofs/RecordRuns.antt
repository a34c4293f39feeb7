-- ET records: how commands 51 to 53 are answered, what they do, and what changes a record. Assumes nothing.
use mathlib.Core.Path.{◌≡◌, refl, sym, ◌∙◌, ap, ap₂, subst}
use Prim.Native.Nat.{ℕ, zero, suc, ◌+◌, ◌*◌, ◌≤◌}
use native.Mathlib.Omega.{arith}
use native.Mathlib.Decide.{dec_le}
use mathlib.Core.Bool.{Bool, true, false, cond, not, ◌&&◌, ◌||◌}
use mathlib.Core.Logic.{◌⊎◌, inl, inr}
use mathlib.Core.List.{List, [], ◌∷◌}
use lib.Dec.{eqb, leb}
use lib.ListN.{get_or, length}
use borrow.Author.Tests.{leb-true, le-leb, lt-leb, eqb-true, eqb-false}
use Rattle.wire.specs.Numbers.{byte_at}
use Rattle.std.specs.Prelude.{Result, Ok, Err, ⊤}
use Rattle.wire.specs.declared.form.FormError.{FormError}
use Rattle.wire.specs.Form.{form_of, operands_of}
use Rattle.curve.specs.declared.Interval.{Interval}
use Rattle.curve.specs.Deceleration.{level_of}
use Rattle.curve.specs.Boundary.{target_of, is_above, line_for, is_reached, is_reached_f}
use Rattle.interval.specs.Intervals.{interval_of, rank_of}
use Rattle.interval.specs.Judging.{judged_of}
use Rattle.places.specs.Places.{none_judged, judged_here}
use Rattle.places.proofs.Held.{held_judged}
use Rattle.records.specs.declared.Condition.{Condition}
use Rattle.records.specs.declared.EtRecord.{EtRecord}
use Rattle.records.specs.Numbers.{category_number, category_of, signal_number, route_number, route_of}
use Rattle.records.specs.Lives.{is_effective, is_superseded, free_record, as_curve, covered_by, moved_record, passed_record}
use Rattle.records.specs.Claims.{row_number, controls, row_for, ByRow}
use Rattle.records.proofs.Claims.{controlling_decides, others_leave_it, decided_stays, free_place_stays, superseded_is_told}
use Rattle.rules.specs.Numbers.{answer_number, is_accepted, is_code, is_state, code_of}
use Rattle.rules.specs.Operands.{code_byte, number_of, two_at, within, gradient_of, curve_in_range, reading_of, record_of, new_record_in_range, signal_in, route_in, signal_in_range}
use Rattle.rules.specs.Places.{any_of, all_of, with_records, is_record, holds_record, all_records_held, keeps_record, given_record}
use Rattle.rules.specs.Speeds.{braking_of}
use Rattle.rules.specs.Odometer.{with_track, moves, measures, notes}
use Rattle.rules.specs.Commands.{carried_out}
use Rattle.rules.specs.Refusals.{is_start, is_repeat, is_next, ends_nothing, finds_no_place, tests_outside, tests_twice, is_untaken, finds_no_record_place, repeats_nothing, first_of, rules_for, whole_answer, answer_for, answer_of}
use Rattle.rules.specs.Calls.{call_of}
use Rattle.rules.specs.Runs.{Sent, answer_to, state_after, is_of, freshens}
use Rattle.rules.specs.History.{first_operand, is_in, is_supervised, is_report, record_at, braking_in, interval_in}
use Rattle.rules.specs.Held.{Given}
use Rattle.rules.specs.Braking.{reading_in, measured_at}
use Rattle.rules.specs.TestRuns.{is_judged}
use Rattle.rules.specs.RecordRuns.{second_operand, is_record_given, holds_record_at, is_held, is_repeatable, is_full, is_track_state, RecordIsAnswered, NewRecordIs, RecordIsGiven, RecordIsEnded, is_decided_by, SignalIsPassed, LeavesRest, RecordsLeaveRest, touches_record, HundredMetres, RecordChangesBy, RecordPastIsNoted}
use Rattle.rules.specs.declared.Answer.{Answer}
use Rattle.rules.specs.declared.Code.{Code}
use Rattle.rules.specs.declared.State.{State}
use Rattle.rules.specs.declared.Reading.{Reading}
use Rattle.rules.specs.declared.Stm.{Stm}
use Rattle.rules.proofs.Tests.{impossible, both, neither, second_fails}
use Rattle.rules.proofs.Told.{code_is, state_is_lem}
use Rattle.rules.proofs.Answers.{passed}
use Rattle.rules.proofs.Ordering.{brakes_after, done_by}
use Rattle.rules.proofs.After.{control_after, train_after_lem, track_after, feedback_after_lem, test_after, kept_after, train_measured, kept_measured}
use Rattle.rules.proofs.AtPlaces.{given_to_lem}
use Rattle.rules.proofs.Held.{track_by_lem}
use Rattle.rules.proofs.Supervising.{as_itself, moved_record_lem, moved_record_held}
use Rattle.rules.proofs.AtRecords.{judging, noted_for, record_in, record_after}
use Rattle.rules.proofs.RecordLives.{untouched, signal_number_lem, signal_given}

-- ---- the answers

-- past 1 to 8 and no repeat, the answer is that of the rules behind them
late : (t5 t6 t7 t8 again : Bool) (rest : Answer)
    → let answer = answer_number (cond t5 Answer.NotStarted (cond t6 Answer.ZeroNumber (cond t7 Answer.WrongNumber (cond t8 Answer.Failed
    (cond again Answer.Again rest))))) in
    is_judged answer ≡ true → answer ≡ answer_number rest
late true t6 t7 t8 again rest e = impossible e
late false true t7 t8 again rest e = impossible e
late false false true t8 again rest e = impossible e
late false false false true again rest e = impossible e
late false false false false true rest e = impossible e
late false false false false false rest e = refl

-- of the three codes
given_late : (given allowed held full kept : Bool) → (held ≡ false → kept ≡ false)
    → answer_number (cond (not given) Answer.OutOfRange (cond (not allowed) Answer.NotAllowed
    (cond (not held && full) Answer.NoRecordPlace (cond kept Answer.NotSuperseded Answer.Accepted))))
    ≡ cond given (cond allowed (cond held (cond (not kept) 0 18) (cond full 17 0)) 10) 9
given_late false allowed held full kept h = refl
given_late true false held full kept h = refl
given_late true true true full true h = refl
given_late true true true full false h = refl
given_late true true false true kept h = refl
given_late true true false false kept h = rw (h refl)

passed_late : (given allowed : Bool)
    → answer_number (cond (not given) Answer.OutOfRange (cond (not allowed) Answer.NotAllowed Answer.Accepted)) ≡ cond given (cond allowed 0 10) 9
passed_late false allowed = refl
passed_late true false = refl
passed_late true true = refl

ended_late : (given allowed held : Bool)
    → answer_number (cond (not given) Answer.OutOfRange (cond (not allowed) Answer.NotAllowed (cond (not held) Answer.NotHeld Answer.Accepted)))
    ≡ cond given (cond allowed (cond held 0 12) 10) 9
ended_late false allowed held = refl
ended_late true false held = refl
ended_late true true false = refl
ended_late true true true = refl

-- what is kept is held
kept_held : (id : ℕ) (ets : List EtRecord) → holds_record id ets ≡ false → keeps_record id ets ≡ false
unfolding any_of
kept_held id [] e = refl
kept_held id (et ∷ ets) e =
    let t = neither (is_record id et) (holds_record id ets) e in
    rw (t.0, kept_held id ets t.1)

-- and what is not kept can be superseded
repeatable_one : (p a b s : Bool) → s ≡ (a || b) → not (p && not s) ≡ (not p || a || b)
repeatable_one true true b s e = rw e
repeatable_one true false true s e = rw e
repeatable_one true false false s e = rw e
repeatable_one false a b s e = refl

not_either : (a b : Bool) → not (a || b) ≡ (not a && not b)
not_either true b = refl
not_either false b = refl

repeatable : (id : ℕ) (ets : List EtRecord) → not (keeps_record id ets)
    ≡ all_of (λ et. not (holds_record_at id et) || eqb (row_number et.condition) 2 || eqb (row_number et.condition) 4) ets
unfolding any_of all_of
repeatable id [] = refl
repeatable id (et ∷ ets) =
    let row = row_number et.condition in
    not_either (is_record id et && not (is_superseded et.condition)) (keeps_record id ets)
    ∙ ap₂ ◌&&◌ (repeatable_one (is_record id et) (eqb row 2) (eqb row 4) (is_superseded et.condition) (superseded_is_told et.condition))
    (repeatable id ets)

-- metres and centimetres
distance_range : (d : ℕ) → leb (100 * d) 1000000 ≡ leb d 10000
distance_range d =
    elim (dec_le d 10000) [
      | yes h ↦ le-leb (100 * d) 1000000 (omega (arith, h)) ∙ sym (le-leb d 10000 h)
      | no h ↦ lt-leb (100 * d) 1000000 (omega (arith, h)) ∙ sym (lt-leb d 10000 (omega (arith, h)))
    ]

in_order : (c i d d' w g : Bool) → d ≡ d' → (c && (i && d && w && g)) ≡ (i && c && d' && w && g)
in_order true true d d' w g e = rw e
in_order true false d d' w g e = refl
in_order false true d d' w g e = refl
in_order false false d d' w g e = refl

given_is : (command : List ℕ) → new_record_in_range (operands_of command) ≡ is_record_given command
unfolding new_record_in_range curve_in_range record_of
given_is command =
    let s = operands_of command in
    in_order (leb (byte_at s 1) 3) (leb (byte_at s 0) 254) (leb (100 * two_at s 2) 1000000) (leb (two_at s 2) 10000) (within 10 300 (two_at s 4))
    (leb (gradient_of (byte_at s 6)).size 30) (distance_range (two_at s 2))

abbrev Answers : Stm → List ℕ → Code → ℕ → Type 0
Answers stm command code told =
    let answer = answer_number (first_of (rules_for stm command code (operands_of command))) in
    is_judged answer ≡ true → answer ≡ told

module _ (stm : Stm) (command : List ℕ) where
  -- the tests of 5 to 8, and of a repeat
  abbrev t5 : Bool
  t5 = not stm.control.started && not (is_start command)

  abbrev t7 : Bool
  t7 = not (is_start command) && not (is_repeat stm command) && not (is_next stm command)

  abbrev t8 : Bool
  t8 = is_state State.FA stm.control.state && not (is_start command) && not (is_repeat stm command)

  given_whole : Answers stm command Code.NewRecord
      (cond (is_record_given command)
      (cond (is_track_state stm)
      (cond (is_held stm (first_operand command)) (cond (is_repeatable stm (first_operand command)) 0 18) (cond (is_full stm) 17 0)) 10) 9)
  unfolding rules_for ends_nothing finds_no_place tests_outside tests_twice is_untaken finds_no_record_place repeats_nothing
  given_whole e =
      let s = operands_of command in
      let id = first_operand command in
      let ets = stm.track.records in
      late t5 (eqb (number_of command) 0) t7 t8 (is_repeat stm command) _ e
      ∙ given_late (new_record_in_range s) (is_track_state stm) (is_held stm id) (is_full stm) (keeps_record id ets) (kept_held id ets)
      ∙ ap₂ (λ given again. cond given (cond (is_track_state stm) (cond (is_held stm id) (cond again 0 18) (cond (is_full stm) 17 0)) 10) 9)
      (given_is command) (repeatable id ets)

  passed_whole : Answers stm command Code.SignalPassed
      (cond (leb (first_operand command) 1 && leb (second_operand command) 1) (cond (is_track_state stm) 0 10) 9)
  unfolding rules_for ends_nothing finds_no_place tests_outside tests_twice is_untaken finds_no_record_place repeats_nothing signal_in_range
  passed_whole e =
      late t5 (eqb (number_of command) 0) t7 t8 (is_repeat stm command) _ e
      ∙ passed_late (leb (first_operand command) 1 && leb (second_operand command) 1) (is_track_state stm)

  ended_whole : Answers stm command Code.EndRecord
      (cond (leb (first_operand command) 254) (cond (is_track_state stm) (cond (is_held stm (first_operand command)) 0 12) 10) 9)
  unfolding rules_for ends_nothing finds_no_place tests_outside tests_twice is_untaken finds_no_record_place repeats_nothing
  ended_whole e =
      late t5 (eqb (number_of command) 0) t7 t8 (is_repeat stm command) _ e
      ∙ ended_late (leb (first_operand command) 254) (is_track_state stm) (is_held stm (first_operand command))

-- with any form
by_form : (code : Code) (told : ℕ) (form : Result ⊤ FormError) (stm : Stm) (command : List ℕ) → Answers stm command code told → is_of code command ≡ true
    → is_judged (answer_number (answer_for form (whole_answer stm command))) ≡ true
    → answer_number (answer_for form (whole_answer stm command)) ≡ told
by_form code told (Err FormError.WrongArea) stm command h c e = impossible e
by_form code told (Err FormError.NoBytes) stm command h c e = impossible e
by_form code told (Err FormError.NoCode) stm command h c e = impossible e
by_form code told (Err FormError.WrongLength) stm command h c e = impossible e
by_form code told (Ok passed) stm command h c e =
    subst (λ is. Answers stm command is told) (sym (code_is code (code_of (code_byte command)) c)) h e

pub record_is_answered : RecordIsAnswered
unfolding call_of answer_of
record_is_answered stm x e =
    let form = form_of x.command (length x.area) in
    record {
      given = λ c. by_form Code.NewRecord _ form stm x.command (given_whole stm x.command) c e;
      passed = λ c. by_form Code.SignalPassed _ form stm x.command (passed_whole stm x.command) c e;
      ended = λ c. by_form Code.EndRecord _ form stm x.command (ended_whole stm x.command) c e;
    }

-- ---- what each does

category_number_lem : (byte : ℕ) → byte ≤ 3 → category_number (category_of byte) ≡ byte
unfolding category_of
category_number_lem zero h = refl
category_number_lem (suc zero) h = refl
category_number_lem (suc (suc zero)) h = refl
category_number_lem (suc (suc (suc zero))) h = refl
category_number_lem (suc (suc (suc (suc n)))) h = absurd (omega (arith, h))

pub new_record_is : NewRecordIs
unfolding record_of
new_record_is command = record {
  held = refl;
  id = refl;
  category = λ e. category_number_lem (second_operand command) (leb-true (second_operand command) 3 e);
  kind = refl;
  distance = refl;
  speed = refl;
  gradient = refl;
  past = refl;
  condition = refl;
}

record_room : (stm : Stm) (s : List ℕ) → finds_no_record_place stm Code.NewRecord s ≡ false
    → holds_record (byte_at s 0) stm.track.records ≡ false → all_records_held stm.track.records ≡ false
unfolding finds_no_record_place
record_room stm s e h = rw h at e

pub record_is_given : RecordIsGiven
unfolding given_record record_of
record_is_given stm x e c =
    let s = operands_of x.command in
    let new = record_of s in
    let room = ap (λ is. finds_no_record_place stm is s) (sym (code_is Code.NewRecord (code_of (code_byte x.command)) c)) ∙ (passed stm x e).1.record_place in
    subst (λ track. Given (λ et. et.curve.held) (λ et. et.curve.id) new (λ old. new)
    (λ place. record_at place stm) (λ place. get_or track.records place free_record))
    (sym (track_by_lem stm x Code.NewRecord e c))
    (given_to_lem (λ et. et.curve.held) (λ et. et.curve.id) free_record refl new (λ old. new) stm.track.records (record_room stm s room))

pub record_is_ended : RecordIsEnded
record_is_ended stm x place e c =
    let is = record_after stm x Code.EndRecord e (code_is Code.EndRecord (code_of (code_byte x.command)) c) place in
    (λ h. rw (is, h), λ h. rw (is, h))

-- a route's number is its byte, which is 0 or 1
route_number_lem : (byte : ℕ) → byte ≤ 1 → route_number (route_of byte) ≡ byte
route_number_lem zero h = refl
route_number_lem (suc zero) h = refl
route_number_lem (suc (suc n)) h = absurd (omega (arith, h))

-- the condition of an undecided record
undecided_is : (condition : Condition) → row_number condition ≡ 0 → (covered : ℕ) × (condition ≡ Condition.Undecided covered)
undecided_is (Condition.Undecided covered) e = (covered, refl)
undecided_is Condition.Terminated e = absurd (omega (arith, e))
undecided_is Condition.DefinitelyActive e = absurd (omega (arith, e))
undecided_is Condition.PreliminaryPassive e = absurd (omega (arith, e))
undecided_is Condition.PreliminaryActive e = absurd (omega (arith, e))
undecided_is Condition.Locked e = absurd (omega (arith, e))

module _ (stm : Stm) (x : Sent) (place : ℕ) (e : is_accepted (answer_to stm x) ≡ true) (c : is_of Code.SignalPassed x.command ≡ true) where
  is_signal_lem : code_of (code_byte x.command) ≡ Code.SignalPassed
  is_signal_lem = code_is Code.SignalPassed (code_of (code_byte x.command)) c

  abbrev before : EtRecord
  before = record_at place stm

  signal_is : signal_number (signal_in (operands_of x.command)) ≡ first_operand x.command
  signal_is = signal_number_lem (first_operand x.command) (signal_given stm x e is_signal_lem).0

  route_is : route_number (route_in (operands_of x.command)) ≡ second_operand x.command
  route_is = route_number_lem (second_operand x.command) (signal_given stm x e is_signal_lem).1

  after_is : record_at place (state_after stm x) ≡ passed_record (signal_in (operands_of x.command)) (route_in (operands_of x.command)) before
  after_is = record_after stm x Code.SignalPassed e is_signal_lem place

  decided_by : is_decided_by x.command before ≡ true
      → ByRow (row_for (first_operand x.command) (second_operand x.command) (category_number before.category)) before
      (record_at place (state_after stm x))
  decided_by h =
      let category = category_number before.category in
      let t = both (before.curve.held && eqb (row_number before.condition) 0) (controls (first_operand x.command) category) h in
      let u = both before.curve.held (eqb (row_number before.condition) 0) t.0 in
      let (covered, is) = undecided_is before.condition (eqb-true (row_number before.condition) 0 u.1) in
      let row =
      controlling_decides (signal_in (operands_of x.command)) (route_in (operands_of x.command)) before covered
      (record { held = u.0; condition = is }) (ap (λ signal. controls signal category) signal_is ∙ t.1) in
      rw after_is (subst (λ n. ByRow n before (passed_record (signal_in (operands_of x.command)) (route_in (operands_of x.command)) before))
      (ap₂ (λ signal route. row_for signal route category) signal_is route_is) row)

  left_alone : is_decided_by x.command before ≡ false
      → passed_record (signal_in (operands_of x.command)) (route_in (operands_of x.command)) before ≡ before
  left_alone h = by before.curve.held refl (eqb (row_number before.condition) 0) refl
    where
      by : (held : Bool) → before.curve.held ≡ held → (undecided : Bool) → eqb (row_number before.condition) 0 ≡ undecided
          → passed_record (signal_in (operands_of x.command)) (route_in (operands_of x.command)) before ≡ before
      by false p undecided q = (free_place_stays [] (signal_in (operands_of x.command)) (route_in (operands_of x.command)) before p).1
      by true p false q =
          decided_stays (signal_in (operands_of x.command)) (route_in (operands_of x.command)) before (eqb-false (row_number before.condition) 0 q)
      by true p true q =
          let category = category_number before.category in
          others_leave_it (signal_in (operands_of x.command)) (route_in (operands_of x.command)) before
          (ap (λ signal. controls signal category) signal_is
          ∙ second_fails (before.curve.held && eqb (row_number before.condition) 0) (controls (first_operand x.command) category) (ap₂ ◌&&◌ p q) h)

pub signal_is_passed : SignalIsPassed
signal_is_passed stm x place e c = (decided_by stm x place e c, λ h. after_is stm x place e c ∙ left_alone stm x place e c h)

-- ---- nothing else

only_records : (stm : Stm) (ets : List EtRecord) → LeavesRest stm (with_track stm (with_records stm.track ets))
only_records stm ets = record {
  control = refl;
  train = refl;
  curves = refl;
  sections = refl;
  forty = refl;
  stay = refl;
  brakes = refl;
  feedback = refl;
  test = refl;
  kept = refl;
}

rest_left : (stm : Stm) (x : Sent) → is_accepted (answer_to stm x) ≡ true → (code : Code) → code_of (code_byte x.command) ≡ code
    → LeavesRest stm (carried_out code (operands_of x.command) stm) → LeavesRest stm (state_after stm x)
rest_left stm x e code c l = record {
  control = part (λ s. s.control) (control_after stm x e) ∙ l.control;
  train = part (λ s. s.train) (train_after_lem stm x e) ∙ l.train;
  curves = part (λ s. s.track.curves) (ap (λ track. track.curves) (track_after stm x e)) ∙ l.curves;
  sections = part (λ s. s.track.sections) (ap (λ track. track.sections) (track_after stm x e)) ∙ l.sections;
  forty = part (λ s. s.track.forty) (ap (λ track. track.forty) (track_after stm x e)) ∙ l.forty;
  stay = part (λ s. s.track.stay) (ap (λ track. track.stay) (track_after stm x e)) ∙ l.stay;
  brakes = part (λ s. s.brakes) (brakes_after stm x e) ∙ l.brakes;
  feedback = part (λ s. s.feedback) (feedback_after_lem stm x e) ∙ l.feedback;
  test = part (λ s. s.test) (test_after stm x e) ∙ l.test;
  kept = part (λ s. s.kept) (kept_after stm x e) ∙ l.kept;
}
  where
    part : {A : Type 0} (f : Stm → A) → f (state_after stm x) ≡ f (done_by x.command stm)
        → f (state_after stm x) ≡ f (carried_out code (operands_of x.command) stm)
    part f after = after ∙ ap (λ is. f (carried_out is (operands_of x.command) stm)) c

rest_by : (stm : Stm) (x : Sent) → is_accepted (answer_to stm x) ≡ true → (code : Code) → code_of (code_byte x.command) ≡ code
    → (is_code Code.NewRecord code || is_code Code.SignalPassed code || is_code Code.EndRecord code) ≡ true
    → LeavesRest stm (state_after stm x)
rest_by stm x e Code.Start c h = impossible h
rest_by stm x e Code.ChangeState c h = impossible h
rest_by stm x e Code.Odometer c h = impossible h
rest_by stm x e Code.NewCurve c h = impossible h
rest_by stm x e Code.EndCurve c h = impossible h
rest_by stm x e Code.NewSection c h = impossible h
rest_by stm x e Code.EndSection c h = impossible h
rest_by stm x e Code.StopPassed c h = impossible h
rest_by stm x e Code.Proceed c h = impossible h
rest_by stm x e Code.BaliseError c h = impossible h
rest_by stm x e Code.TestBrakes c h = impossible h
rest_by stm x e Code.AreaEvent c h = impossible h
rest_by stm x e Code.NewRecord c h = rest_left stm x e Code.NewRecord c (only_records stm _)
rest_by stm x e Code.SignalPassed c h = rest_left stm x e Code.SignalPassed c (only_records stm _)
rest_by stm x e Code.EndRecord c h = rest_left stm x e Code.EndRecord c (only_records stm _)

pub records_leave_rest : RecordsLeaveRest
records_leave_rest stm x e h = rest_by stm x e (code_of (code_byte x.command)) refl h

-- ---- what changes a record

-- ground changes the row only at 100 m
covered_row : (moved : ℕ) (condition : Condition) → (row_number (covered_by moved condition) ≡ row_number condition → ⊥)
    → (covered : ℕ) × (condition ≡ Condition.Undecided covered) × (10000 ≤ covered + moved)
covered_row moved (Condition.Undecided covered) n =
    elim (dec_le 10000 (covered + moved)) [
      | yes h ↦ (covered, refl, h)
      | no h ↦ absurd (n (ap (λ t. row_number (cond t Condition.Locked (Condition.Undecided (covered + moved)))) (lt-leb 10000 (covered + moved) (omega (arith, h)))))
    ]
covered_row moved Condition.Terminated n = absurd (n refl)
covered_row moved Condition.DefinitelyActive n = absurd (n refl)
covered_row moved Condition.PreliminaryPassive n = absurd (n refl)
covered_row moved Condition.PreliminaryActive n = absurd (n refl)
covered_row moved Condition.Locked n = absurd (n refl)

-- the record is as it was, to the eye
abbrev Alike : EtRecord → EtRecord → Type 0
Alike before after = (after.curve.held ≡ true) × (row_number after.condition ≡ row_number before.condition)

module _ (stm : Stm) (x : Sent) (place : ℕ) (e : is_accepted (answer_to stm x) ≡ true) (held : (record_at place stm).curve.held ≡ true) where
  moved_changes : (r : Reading) → (Alike (record_at place stm) (moved_record r.moved (record_at place stm)) → ⊥)
      → (covered : ℕ) × ((record_at place stm).condition ≡ Condition.Undecided covered) × (10000 ≤ covered + r.moved)
  moved_changes r n =
      let et = record_at place stm in
      let is = moved_record_lem r.moved et held in
      covered_row r.moved et.condition
      (λ same. n (moved_record_held r.moved et ∙ held, ap (λ a. row_number a.condition) is ∙ same))

  report_changes : (state : State) → stm.control.state ≡ state
      → (Alike (record_at place stm) (record_in state (reading_of (operands_of x.command)) stm (record_at place stm)) → ⊥)
      → is_report x.command ≡ true → HundredMetres stm x.command (record_at place stm)
  unfolding reading_of
  report_changes State.DE p n o = absurd (n (held, refl))
  report_changes State.CS p n o = absurd (n (held, refl))
  report_changes State.HS p n o =
      let (covered, is, reached) = moved_changes (reading_of (operands_of x.command)) n in
      record { moving = rw (o, p); covered = covered; undecided = is; reached = reached }
  report_changes State.DA p n o =
      let (covered, is, reached) = moved_changes (reading_of (operands_of x.command)) n in
      record { moving = rw (o, p); covered = covered; undecided = is; reached = reached }
  report_changes State.FA p n o = absurd (n (held, refl))

  -- what neither touches nor decides it, by whether it is a report
  ground_changes : touches_record (record_at place stm).curve.id x.command ≡ false
      → (is_of Code.SignalPassed x.command && is_decided_by x.command (record_at place stm)) ≡ false
      → (Alike (record_at place stm) (record_at place (state_after stm x)) → ⊥) → HundredMetres stm x.command (record_at place stm)
  ground_changes t d n =
      let u = neither (freshens x.command) _ t in
      let code = code_of (code_byte x.command) in
      let is = record_after stm x code e refl place
      ∙ untouched (record_at place stm).curve.id place stm held refl code (operands_of x.command) u.0 u.1
      (λ c. left_alone stm x place e c (second_fails (is_of Code.SignalPassed x.command) (is_decided_by x.command (record_at place stm)) c d)) in
      by (is_report x.command) refl (subst (λ after. Alike (record_at place stm) after → ⊥) is n)
    where
      by : (t : Bool) → is_report x.command ≡ t
          → (Alike (record_at place stm)
          (cond (is_report x.command) (record_in stm.control.state (reading_of (operands_of x.command)) stm (record_at place stm)) (record_at place stm))
          → ⊥)
          → HundredMetres stm x.command (record_at place stm)
      by true o n = report_changes stm.control.state refl (λ same. n (subst (λ t. Alike (record_at place stm)
          (cond t (record_in stm.control.state (reading_of (operands_of x.command)) stm (record_at place stm)) (record_at place stm))) (sym o) same)) o
      by false o n = absurd (n (subst (λ t. Alike (record_at place stm)
          (cond t (record_in stm.control.state (reading_of (operands_of x.command)) stm (record_at place stm)) (record_at place stm))) (sym o) (held, refl)))

pub record_changes_by : RecordChangesBy
record_changes_by stm x place e held n =
    by (touches_record (record_at place stm).curve.id x.command) refl
    (is_of Code.SignalPassed x.command && is_decided_by x.command (record_at place stm)) refl
  where
    by : (t : Bool) → touches_record (record_at place stm).curve.id x.command ≡ t
        → (d : Bool) → (is_of Code.SignalPassed x.command && is_decided_by x.command (record_at place stm)) ≡ d
        → (touches_record (record_at place stm).curve.id x.command ≡ true)
        ⊎ ((is_of Code.SignalPassed x.command && is_decided_by x.command (record_at place stm)) ≡ true
        ⊎ HundredMetres stm x.command (record_at place stm))
    by true p d q = inl p
    by false p true q = inr (inl q)
    by false p false q = inr (inr (ground_changes stm x place e held p q n))

-- ---- past in B

-- what an interval goes by
interval_of_figures : (et : EtRecord) (t past : Bool) (stm : Stm)
    → interval_in stm (record {
      held = t;
      id = et.curve.id;
      kind = et.curve.kind;
      distance = et.curve.distance;
      speed = et.curve.speed;
      gradient = et.curve.gradient;
      past = past;
    }) ≡ interval_in stm et.curve
unfolding interval_of is_reached is_reached_f is_above line_for target_of
interval_of_figures et t past stm = refl

module _ (stm : Stm) (x : Sent) (place : ℕ) (e : is_accepted (answer_to stm x) ≡ true) (u : is_supervised stm x.command ≡ true)
    (held : (record_at place stm).curve.held ≡ true) where
  abbrev after : Stm
  after = state_after stm x

  abbrev moved : EtRecord
  moved = moved_record (reading_in x.command).moved (record_at place stm)

  noted_is : record_at place after ≡ noted_for (reading_in x.command) stm moved
  noted_is =
      let t = both (is_report x.command) (is_in State.DA stm) u in
      record_after stm x Code.Odometer e (code_is Code.Odometer (code_of (code_byte x.command)) t.0) place
      ∙ ap (λ state. record_in state (reading_in x.command) stm (record_at place stm)) (state_is_lem State.DA stm.control.state t.1)

  braking_is : braking_of stm.train (reading_in x.command).halka ≡ braking_in after
  unfolding braking_of level_of measured_at notes measures moves
  braking_is = rw (train_measured stm x e u, kept_measured stm x e u)

  speed_is : (reading_in x.command).speed ≡ after.kept.speed
  unfolding measured_at notes measures moves
  speed_is = rw (kept_measured stm x e u)

  moved_held : moved.curve.held ≡ true
  moved_held = moved_record_held (reading_in x.command).moved (record_at place stm) ∙ held

  -- what is judged at the place: the record's curve where it is one
  judged_interval : (effective : Bool) → is_effective moved.condition ≡ effective
      → leb (rank_of Interval.B) (rank_of (judging (reading_in x.command) stm (as_curve moved)).interval)
      ≡ (effective && leb (rank_of Interval.B) (rank_of (interval_in after moved.curve)))
  unfolding judged_of
  judged_interval true f =
      let r = reading_in x.command in
      let braking = braking_of stm.train r.halka in
      ap (λ j. leb (rank_of Interval.B) (rank_of j.interval))
      (ap (judged_here braking r.speed) (as_itself moved moved_held f) ∙ held_judged braking r.speed moved.curve moved_held)
      ∙ ap₂ (λ b v. leb (rank_of Interval.B) (rank_of (interval_of moved.curve b v))) braking_is speed_is
  judged_interval false f =
      let r = reading_in x.command in
      ap (λ t. leb (rank_of Interval.B) (rank_of (cond t (judged_of (braking_of stm.train r.halka) r.speed (as_curve moved)) none_judged).interval))
      (ap₂ ◌&&◌ moved_held f)

  past_of_moved : moved.curve.past ≡ (record_at place stm).curve.past
  past_of_moved = ap (λ et. et.curve.past) (moved_record_lem (reading_in x.command).moved (record_at place stm) held)

  past_noted : (record_at place after).curve.past
      ≡ ((record_at place stm).curve.past
      || is_effective (record_at place after).condition && leb (rank_of Interval.B) (rank_of (interval_in after (record_at place after).curve)))
  past_noted =
      ap (λ et. et.curve.past) noted_is
      ∙ ap₂ ◌||◌ past_of_moved
      (judged_interval (is_effective moved.condition) refl
      ∙ ap (λ interval. is_effective moved.condition && leb (rank_of Interval.B) (rank_of interval))
      (sym (interval_of_figures moved moved.curve.held (noted_for (reading_in x.command) stm moved).curve.past after))
      ∙ ap (λ et. is_effective et.condition && leb (rank_of Interval.B) (rank_of (interval_in after et.curve))) (sym noted_is))

pub record_past_is_noted : RecordPastIsNoted
record_past_is_noted = past_noted
