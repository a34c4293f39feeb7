-- ET records over runs (02, F-7). Proved in proofs/.
use Rattle.std.specs.Prelude.{◌≡◌, ℕ, ◌+◌, ◌*◌, ◌≤◌, ◌<◌, Bool, true, false, cond, not, ◌&&◌, ◌||◌, ◌⊎◌, List, eqb, leb}
use Rattle.wire.specs.Numbers.{byte_at}
use Rattle.wire.specs.Form.{operands_of}
use Rattle.curve.specs.declared.Kind.{Kind}
use Rattle.curve.specs.declared.Interval.{Interval}
use Rattle.interval.specs.Intervals.{rank_of}
use Rattle.records.specs.declared.Condition.{Condition}
use Rattle.records.specs.declared.EtRecord.{EtRecord}
use Rattle.records.specs.Numbers.{category_number}
use Rattle.records.specs.Lives.{is_effective}
use Rattle.records.specs.Claims.{row_number, controls, row_for, ByRow}
use Rattle.rules.specs.Numbers.{answer_number, is_accepted}
use Rattle.rules.specs.Operands.{two_at, within, gradient_of, record_of}
use Rattle.rules.specs.Places.{any_of, all_of}
use Rattle.rules.specs.Runs.{Sent, answer_to, state_after, Moment, moments, state_at_end, none_accepted, is_of, freshens}
use Rattle.rules.specs.History.{first_operand, moved_of, is_in, is_moving, is_supervised, ground_over, record_at, interval_in}
use Rattle.rules.specs.Ground.{HasLost}
use Rattle.rules.specs.Held.{holds_at, Given}
use Rattle.rules.specs.TwoRuns.{Both}
use Rattle.rules.specs.TestRuns.{is_judged}
use Rattle.rules.specs.declared.Code.{Code}
use Rattle.rules.specs.declared.State.{State}
use Rattle.rules.specs.declared.Stm.{Stm}

-- ---- the bytes

-- the second operand: the category of 51, the route of 52
abbrev pub second_operand : List ℕ → ℕ
second_operand command = byte_at (operands_of command) 1

-- 51's operands are in range: "command 20's widths and its ranges for kind 0"
abbrev pub is_record_given : List ℕ → Bool
is_record_given command =
    let s = operands_of command in
    leb (byte_at s 0) 254
    && leb (byte_at s 1) 3
    && leb (two_at s 2) 10000
    && within 10 300 (two_at s 4)
    && leb (gradient_of (byte_at s 6)).size 30

-- ---- the answers

abbrev pub holds_record_at : ℕ → EtRecord → Bool
holds_record_at n et = holds_at (λ r. r.curve.held) (λ r. r.curve.id) n et

-- a record of this id is held
abbrev pub is_held : Stm → ℕ → Bool
is_held stm id = any_of (holds_record_at id) stm.track.records

-- each of this id is definitely or preliminarily active
abbrev pub is_repeatable : Stm → ℕ → Bool
is_repeatable stm id =
    all_of (λ et. not (holds_record_at id et) || eqb (row_number et.condition) 2 || eqb (row_number et.condition) 4) stm.track.records

-- "no ET place free"
abbrev pub is_full : Stm → Bool
is_full stm = all_of (λ et. et.curve.held) stm.track.records

abbrev pub is_track_state : Stm → Bool
is_track_state stm = is_in State.HS stm || is_in State.DA stm

-- a 51, 52 or 53 that has passed 1 to 8 and is no repeat: 9, "All three want HS or DA", else 10; of a 51 17 where its id is not held and
-- no place is free, 18 where it is held and can't be superseded; of a 53 12 where its id is not held; and 0 for every other
pub record RecordAnswered (stm : Stm) (command : List ℕ) (answer : ℕ) : Type 0 where
  pub given :
      is_of Code.NewRecord command ≡ true
      → answer
      ≡ cond (is_record_given command)
      (cond (is_track_state stm)
      (cond (is_held stm (first_operand command)) (cond (is_repeatable stm (first_operand command)) 0 18) (cond (is_full stm) 17 0)) 10) 9
  pub passed :
      is_of Code.SignalPassed command ≡ true
      → answer ≡ cond (leb (first_operand command) 1 && leb (second_operand command) 1) (cond (is_track_state stm) 0 10) 9
  pub ended :
      is_of Code.EndRecord command ≡ true
      → answer ≡ cond (leb (first_operand command) 254) (cond (is_track_state stm) (cond (is_held stm (first_operand command)) 0 12) 10) 9

abbrev pub RecordIsAnswered : Type 0
RecordIsAnswered =
    (stm : Stm) (x : Sent)
    → is_judged (answer_number (answer_to stm x)) ≡ true → RecordAnswered stm x.command (answer_number (answer_to stm x))

-- ---- what each does

-- "id, category .., target distance, speed, gradient": the record that a 51 brings, undecided, with no past in B
pub record NewRecord (command : List ℕ) (et : EtRecord) : Type 0 where
  pub held : et.curve.held ≡ true
  pub id : et.curve.id ≡ byte_at (operands_of command) 0
  pub category : leb (second_operand command) 3 ≡ true → category_number et.category ≡ second_operand command
  pub kind : et.curve.kind ≡ Kind.SpeedTarget
  pub distance : et.curve.distance ≡ 100 * two_at (operands_of command) 2
  pub speed : et.curve.speed ≡ two_at (operands_of command) 4
  pub gradient : et.curve.gradient ≡ gradient_of (byte_at (operands_of command) 6)
  pub past : et.curve.past ≡ false
  pub condition : et.condition ≡ Condition.Undecided 0

abbrev pub NewRecordIs : Type 0
NewRecordIs = (command : List ℕ) → NewRecord command (record_of (operands_of command))

-- "It puts a new undecided record in place"; a new id has a free place
abbrev pub RecordIsGiven : Type 0
RecordIsGiven =
    (stm : Stm) (x : Sent)
    → is_accepted (answer_to stm x) ≡ true → is_of Code.NewRecord x.command ≡ true
    → let new = record_of (operands_of x.command) in
    Given (λ et. et.curve.held) (λ et. et.curve.id) new (λ old. new)
    (λ place. record_at place stm) (λ place. record_at place (state_after stm x))

-- 53: the place is free, and every other stays
abbrev pub RecordIsEnded : Type 0
RecordIsEnded =
    (stm : Stm) (x : Sent) (place : ℕ)
    → is_accepted (answer_to stm x) ≡ true → is_of Code.EndRecord x.command ≡ true
    → (holds_record_at (first_operand x.command) (record_at place stm) ≡ true → (record_at place (state_after stm x)).curve.held ≡ false)
    × (holds_record_at (first_operand x.command) (record_at place stm) ≡ false → record_at place (state_after stm x) ≡ record_at place stm)

-- 52: the signal controls the undecided record at a place, by 02's numbers,
abbrev pub is_decided_by : List ℕ → EtRecord → Bool
is_decided_by command et =
    et.curve.held && eqb (row_number et.condition) 0 && controls (first_operand command) (category_number et.category)

-- and then a row of table 4.6-2 decides it; every other place stays
abbrev pub SignalIsPassed : Type 0
SignalIsPassed =
    (stm : Stm) (x : Sent) (place : ℕ)
    → is_accepted (answer_to stm x) ≡ true → is_of Code.SignalPassed x.command ≡ true
    → let before = record_at place stm in
    let after = record_at place (state_after stm x) in
    (is_decided_by x.command before ≡ true
    → ByRow (row_for (first_operand x.command) (second_operand x.command) (category_number before.category)) before after)
    × (is_decided_by x.command before ≡ false → after ≡ before)

-- none of the three does anything else: no cause, no curve, no section
pub record LeavesRest (stm after : Stm) : Type 0 where
  pub control : after.control ≡ stm.control
  pub train : after.train ≡ stm.train
  pub curves : after.track.curves ≡ stm.track.curves
  pub sections : after.track.sections ≡ stm.track.sections
  pub forty : after.track.forty ≡ stm.track.forty
  pub stay : after.track.stay ≡ stm.track.stay
  pub brakes : after.brakes ≡ stm.brakes
  pub feedback : after.feedback ≡ stm.feedback
  pub test : after.test ≡ stm.test
  pub kept : after.kept ≡ stm.kept

abbrev pub RecordsLeaveRest : Type 0
RecordsLeaveRest =
    (stm : Stm) (x : Sent)
    → is_accepted (answer_to stm x) ≡ true
    → (is_of Code.NewRecord x.command || is_of Code.SignalPassed x.command || is_of Code.EndRecord x.command) ≡ true
    → LeavesRest stm (state_after stm x)

-- ---- a record's life

-- it touches the record of this id, whatever its condition: a start, CS, a 51 or 53 with its id
abbrev pub touches_record : ℕ → List ℕ → Bool
touches_record id command =
    freshens command || (is_of Code.NewRecord command || is_of Code.EndRecord command) && eqb (first_operand command) id

-- it is a controlling signal for this category
abbrev pub controls_record : ℕ → List ℕ → Bool
controls_record category command = is_of Code.SignalPassed command && controls (first_operand command) category

-- a record that is decided, passive and locked ones too, stays as it is through every list without those: no signal, and no ground, turns
-- it over; its d falls as a curve's
abbrev pub DecidedStaysOver : Type 0
DecidedStaysOver =
    (stm : Stm) (xs : List Sent) (place : ℕ)
    → (record_at place stm).curve.held ≡ true → (row_number (record_at place stm).condition ≡ 0 → ⊥)
    → none_accepted (λ before command. touches_record (record_at place stm).curve.id command) stm xs ≡ true
    → HasLost (ground_over stm xs) (record_at place stm).curve (record_at place (state_at_end stm xs)).curve
    × ((record_at place (state_at_end stm xs)).category ≡ (record_at place stm).category)
    × ((record_at place (state_at_end stm xs)).condition ≡ (record_at place stm).condition)

-- "For 100 m a record only loses ground, unless a controlling signal comes": whatever other signals come, its ground is what the accepted
-- reports in HS and DA have moved since its board; below 10,000 cm it is undecided, and from the report on that reaches them it is locked
abbrev pub UndecidedUntil : Type 0
UndecidedUntil =
    (stm : Stm) (xs : List Sent) (place covered : ℕ)
    → (record_at place stm).curve.held ≡ true → (record_at place stm).condition ≡ Condition.Undecided covered → covered < 10000
    → none_accepted
    (λ before command.
    touches_record (record_at place stm).curve.id command || controls_record (category_number (record_at place stm).category) command)
    stm xs
    ≡ true
    → HasLost (ground_over stm xs) (record_at place stm).curve (record_at place (state_at_end stm xs)).curve
    × ((record_at place (state_at_end stm xs)).category ≡ (record_at place stm).category)
    × (covered + ground_over stm xs < 10000
    → (record_at place (state_at_end stm xs)).condition ≡ Condition.Undecided (covered + ground_over stm xs))
    × (10000 ≤ covered + ground_over stm xs → row_number (record_at place (state_at_end stm xs)).condition ≡ 5)

-- the condition changes only by a start, CS, a repeater, a 53, a controlling signal, or the 100 m
pub record HundredMetres (stm : Stm) (command : List ℕ) (et : EtRecord) : Type 0 where
  pub moving : is_moving stm command ≡ true
  pub covered : ℕ
  pub undecided : et.condition ≡ Condition.Undecided covered
  pub reached : 10000 ≤ covered + moved_of command

abbrev pub RecordChangesBy : Type 0
RecordChangesBy =
    (stm : Stm) (x : Sent) (place : ℕ)
    → is_accepted (answer_to stm x) ≡ true
    → let before = record_at place stm in
    let after = record_at place (state_after stm x) in
    before.curve.held ≡ true
    → ((after.curve.held ≡ true) × (row_number after.condition ≡ row_number before.condition) → ⊥)
    → (touches_record before.curve.id x.command ≡ true)
    ⊎ ((is_of Code.SignalPassed x.command && is_decided_by x.command before) ≡ true
    ⊎ HundredMetres stm x.command before)

-- a place that holds none stays as it is until a new one comes
abbrev pub FreeRecordsStay : Type 0
FreeRecordsStay =
    (stm : Stm) (xs : List Sent) (place : ℕ)
    → (record_at place stm).curve.held ≡ false
    → none_accepted (λ before command. freshens command || is_of Code.NewRecord command) stm xs ≡ true
    → record_at place (state_at_end stm xs) ≡ record_at place stm

-- ---- past in B

-- "A curve's past in B is noted at reports in DA": that of a record at one that finds or makes it active or locked, and of no other record
abbrev pub RecordPastIsNoted : Type 0
RecordPastIsNoted =
    (stm : Stm) (x : Sent) (place : ℕ)
    → is_accepted (answer_to stm x) ≡ true → is_supervised stm x.command ≡ true → (record_at place stm).curve.held ≡ true
    → let after = record_at place (state_after stm x) in
    after.curve.past
    ≡ ((record_at place stm).curve.past
    || is_effective after.condition && leb (rank_of Interval.B) (rank_of (interval_in (state_after stm x) after.curve)))

-- ---- passive records

-- a place that holds none, or a passive one: row c
abbrev pub is_idle : EtRecord → Bool
is_idle et = not et.curve.held || eqb (row_number et.condition) 3

-- two states that differ in passive records only
abbrev pub AlikeThere : EtRecord → EtRecord → Type 0
AlikeThere et et' = (et' ≡ et) ⊎ ((is_idle et ≡ true) × (is_idle et' ≡ true))

pub record LikeButPassive (u w : Stm) : Type 0 where
  pub control : w.control ≡ u.control
  pub train : w.train ≡ u.train
  pub curves : w.track.curves ≡ u.track.curves
  pub sections : w.track.sections ≡ u.track.sections
  pub forty : w.track.forty ≡ u.track.forty
  pub stay : w.track.stay ≡ u.track.stay
  pub records : Both AlikeThere u.track.records w.track.records
  pub brakes : w.brakes ≡ u.brakes
  pub feedback : w.feedback ≡ u.feedback
  pub test : w.test ≡ u.test
  pub kept : w.kept ≡ u.kept
  pub last : w.last ≡ u.last

-- "passive ones are not" curves: they influence no answer and no report as long as no 51 and no 53 comes
abbrev pub SameWritten : Moment → Moment → Type 0
SameWritten m n = (n.answer ≡ m.answer) × (n.area ≡ m.area)

abbrev pub PassiveInfluencesNothing : Type 0
PassiveInfluencesNothing =
    (u w : Stm) (xs : List Sent)
    → LikeButPassive u w
    → all_of (λ x. not (is_of Code.NewRecord x.command || is_of Code.EndRecord x.command)) xs ≡ true
    → Both SameWritten (moments u xs) (moments w xs)
