-- What is called a unit (01, "The buyer's note"): "any state with its commands' figures in range, distances, sums and counts as
-- commands can leave them, no curve id and no section id held twice and, in DA, a reference pressure".
use Rattle.std.specs.Prelude.{◌≡◌, ℕ, ◌*◌, Bool, true, false, cond, not, ◌&&◌, ◌||◌, List, [], ◌∷◌, eqb, leb, ltb, ℤ, length, Option, Some, None}
use Rattle.wire.specs.Codes.{longest}
use Rattle.wire.specs.Form.{report_length}
use Rattle.pressure.specs.declared.Phase.{Phase}
use Rattle.pressure.specs.declared.Measured.{Measured}
use Rattle.pressure.specs.Exact.{SixteenBits}
use Rattle.pressure.specs.Phases.{is_set}
use Rattle.pressure.specs.Report.{fresh_feedback}
use Rattle.pressure.specs.Claims.{Each, after_all, Agrees}
use Rattle.curve.specs.declared.Curve.{Curve}
use Rattle.areas.specs.declared.Area.{Area}
use Rattle.areas.specs.declared.Stay.{Stay}
use Rattle.areas.specs.Numbers.{is_area}
use Rattle.curve.specs.declared.Kind.{Kind}
use Rattle.records.specs.declared.Condition.{Condition}
use Rattle.records.specs.declared.EtRecord.{EtRecord}
use Rattle.rules.specs.Numbers.{is_state}
use Rattle.rules.specs.Operands.{within, train_in_range, curve_in_range, section_in_range}
use Rattle.places.specs.Places.{places}
use Rattle.rules.specs.Places.{all_of}
use Rattle.rules.specs.Table.{any_stands, stands_with}
use Rattle.rules.specs.Commands.{fresh_stm}
use Rattle.rules.specs.Runs.{Sent, state_after, state_at_end}
use Rattle.rules.specs.declared.State.{State}
use Rattle.rules.specs.declared.Order.{Order}
use Rattle.rules.specs.declared.Hold.{Hold}
use Rattle.rules.specs.declared.Check.{Check}
use Rattle.rules.specs.declared.Stage.{Stage}
use Rattle.rules.specs.declared.Verdict.{Verdict}
use Rattle.rules.specs.declared.Section.{Section}
use Rattle.rules.specs.declared.Stm.{Stm}
use Rattle.rules.specs.declared.Train.{Train}

-- ---- figures in range

-- a place is free, or its curve's figures are in range; its d lies below the distance given, which was in range too
abbrev pub is_curve_sound : Curve → Bool
is_curve_sound curve = not curve.held || curve_in_range curve

-- a place is free, or its section's figures are in range and its ground is as reports leave it: 0 while the section stands, and
-- below the train's length while it ends
abbrev pub is_ground_sound : ℕ → Section → Bool
is_ground_sound length section = cond section.ending (ltb section.covered (100 * length)) (eqb section.covered 0)

abbrev pub is_section_sound : ℕ → Section → Bool
is_section_sound length section = not section.held || section_in_range section && is_ground_sound length section

-- 02, F-6: a GMD's speed is in range and was passed in this stay, in the partial area; the ground of a pending 50 m is below them, in the
-- fully equipped area
abbrev pub is_line_sound : Area → Option ℕ → Bool
is_line_sound area None = true
is_line_sound area (Some speed) = is_area Area.Partial area && within 10 300 speed

abbrev pub is_missing_sound : Area → Option ℕ → Bool
is_missing_sound area None = true
is_missing_sound area (Some covered) = is_area Area.Full area && ltb covered 5000

abbrev pub is_stay_sound : Stay → Bool
is_stay_sound stay = is_line_sound stay.area stay.line && is_missing_sound stay.area stay.missing

-- 02, F-7: a place is free, or its record's figures are in range, it is a speed target, and its ground is below 100 m while it is undecided;
-- a terminated record is not held
abbrev pub is_condition_sound : Condition → Bool
is_condition_sound (Condition.Undecided covered) = ltb covered 10000
is_condition_sound Condition.Terminated = false
is_condition_sound Condition.DefinitelyActive = true
is_condition_sound Condition.PreliminaryPassive = true
is_condition_sound Condition.PreliminaryActive = true
is_condition_sound Condition.Locked = true

abbrev pub is_target : Kind → Bool
is_target Kind.SpeedTarget = true
is_target Kind.ExpectStop = false

abbrev pub is_record_sound : EtRecord → Bool
is_record_sound et =
    not et.curve.held || curve_in_range et.curve && is_target et.curve.kind && is_condition_sound et.condition

-- ---- no id twice

-- no later place holds the id that this one holds
abbrev pub differ : {A : Type 0} → (A → Bool) → (A → ℕ) → List A → Bool
differ held id [] = true
differ held id (x ∷ xs) = (not (held x) || all_of (λ other. not (held other && eqb (id other) (id x))) xs) && differ held id xs

-- ---- counts

-- a check is idle exactly while its order does not stand, and its count is below its limit
abbrev pub is_check_sound : Bool → ℕ → Check → Bool
is_check_sound ordered limit Check.Idle = not ordered
is_check_sound ordered limit (Check.Counting count) = ordered && ltb count limit
is_check_sound ordered limit Check.Done = ordered

-- 02, F-2: bit 9 stands only where an error has decided how it is held, and the further reports are kept up to 20
abbrev pub is_hold_sound : Bool → Hold → Bool
is_hold_sound stood Hold.Undecided = not stood
is_hold_sound stood Hold.High = true
is_hold_sound stood (Hold.Low count) = leb count 20

-- the rolled ground is kept up to 501
abbrev pub is_roll_sound : Option ℕ → Bool
is_roll_sound None = true
is_roll_sound (Some covered) = leb covered 501

-- ---- feedback

-- the feedback after readings P_EXT
abbrev pub feedback_after : Train → Measured → List ℤ → Measured
feedback_after train feedback readings = after_all feedback train.feed train.pressure readings

-- some readings have led to it
pub record Reached (train : Train) (feedback : Measured) : Type 0 where
  pub readings : List ℤ
  pub width : Each SixteenBits readings
  pub led : feedback ≡ feedback_after train fresh_feedback readings

-- ---- brake test A (02, F-3)

-- some readings lead the feedback's rule, begun afresh, to this phase
pub record LeadsTo (train : Train) (phase : Phase) : Type 0 where
  pub readings : List ℤ
  pub width : Each SixteenBits readings
  pub led : (feedback_after train fresh_feedback readings).phase ≡ phase

-- a test runs in DE only; some readings have led to its phase, which is not set yet, or to its steady pressure; its count is below T_B
abbrev pub StageSound : Train → State → Stage → Type 0
StageSound train state Stage.Idle = Unit {0}
StageSound train state (Stage.Settling phase) =
    (is_state State.DE state ≡ true) × (is_set phase ≡ false) × LeadsTo train phase
StageSound train state (Stage.Braking steady reports) =
    (is_state State.DE state ≡ true) × (ltb reports train.times.brake ≡ true) × LeadsTo train (Phase.Set steady 0)

-- the extra is 50 or 0, and 0 where the last test that ended has passed
abbrev pub is_extra_sound : ℕ → Verdict → Bool
is_extra_sound extra Verdict.Pending = eqb extra 0 || eqb extra 50
is_extra_sound extra Verdict.Passed = eqb extra 0
is_extra_sound extra Verdict.Failed = eqb extra 0 || eqb extra 50

-- ---- a unit

pub record IsUnit (stm : Stm) : Type 0 where
  -- the places
  pub curve_places : length stm.track.curves ≡ places
  pub section_places : length stm.track.sections ≡ places
  -- 02, F-7: "There are eight records"
  pub record_places : length stm.track.records ≡ 8
  -- "figures in range", "distances, sums .. as commands can leave them"
  pub train : stm.control.started ≡ true → train_in_range stm.train ≡ true
  pub curves : all_of is_curve_sound stm.track.curves ≡ true
  pub sections : all_of (is_section_sound stm.train.length) stm.track.sections ≡ true
  pub stay : is_stay_sound stm.track.stay ≡ true
  pub records : all_of is_record_sound stm.track.records ≡ true
  pub speed : leb stm.kept.speed 10000 ≡ true
  pub feedback : Reached stm.train stm.feedback
  pub stage : StageSound stm.train stm.control.state stm.test.stage
  pub extra : is_extra_sound stm.train.times.extra stm.test.result ≡ true
  -- "counts as commands can leave them"
  pub service : is_check_sound (any_stands stm.brakes.causes) stm.train.times.brake stm.brakes.service ≡ true
  pub emergency :
      is_check_sound (stands_with Order.Emergency stm.brakes.causes) stm.train.check stm.brakes.emergency ≡ true
  pub hold : is_hold_sound stm.brakes.causes.balise stm.brakes.since.balise ≡ true
  pub roll : is_roll_sound stm.brakes.roll ≡ true
  -- a cause stands, and a brake fault is shown, only where brakes are ordered: in DA, and kept in FA
  pub braking :
      any_stands stm.brakes.causes ≡ true → (is_state State.DA stm.control.state || is_state State.FA stm.control.state) ≡ true
  pub drift : stm.brakes.drift ≡ true → any_stands stm.brakes.causes ≡ true
  pub failed : stm.brakes.failed ≡ true → is_state State.FA stm.control.state ≡ true
  -- "no curve id and no section id held twice"
  pub curve_ids : differ (λ curve. curve.held) (λ curve. curve.id) stm.track.curves ≡ true
  pub section_ids : differ (λ section. section.held) (λ section. section.id) stm.track.sections ≡ true
  -- 02, F-7: no id of records either, which "are a set apart"
  pub record_ids : differ (λ et. et.curve.held) (λ et. et.curve.id) stm.track.records ≡ true
  -- "in DA, a reference pressure"
  pub reference : is_state State.DA stm.control.state ≡ true → is_set stm.feedback.phase ≡ true
  -- the last command and its report
  pub last_bytes : length stm.last.bytes ≡ longest
  pub last_report : length stm.last.report ≡ report_length

-- the state before any start is one,
abbrev pub FreshIsUnit : Type 0
FreshIsUnit = IsUnit fresh_stm

-- every call keeps it,
abbrev pub CallKeepsUnit : Type 0
CallKeepsUnit = (stm : Stm) (x : Sent) → IsUnit stm → IsUnit (state_after stm x)

-- so that point 3 covers every state that a host can come to
abbrev pub EveryRunIsUnit : Type 0
EveryRunIsUnit = (xs : List Sent) → IsUnit (state_at_end fresh_stm xs)

-- and in each of them the P_REF of the record and that of the phase are one
abbrev pub UnitHasOneReference : Type 0
UnitHasOneReference = (stm : Stm) → IsUnit stm → Agrees stm.feedback
