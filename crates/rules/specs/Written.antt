-- What the bytes of a report say of the unit (01, "Report"; 02, F-1, F-3, F-4 and F-7). Proved in proofs/.
use Rattle.std.specs.Prelude.{◌≡◌, ℕ, max, ◌≤◌, ◌<◌, Bool, true, false, cond, not, ◌||◌, ◌⊎◌, leb, Option, Some, None}
use mathlib.Core.List.{List, [], ◌∷◌, map, foldr, Memᴰ}
use Rattle.wire.specs.Report.{state_in, order_in, causes_in, permitted_in, vmax_in, id_in, shown_in, bar_in, mode_in, messages_in, offered_in, change_in}
use Rattle.curve.specs.declared.Curve.{Curve}
use Rattle.curve.specs.declared.Interval.{Interval}
use Rattle.curve.specs.declared.Shown.{Shown}
use Rattle.curve.specs.Boundary.{is_reached}
use Rattle.interval.specs.Intervals.{rank_of, shown_of, shown_number}
use Rattle.interval.specs.Permitted.{permitted_of}
use Rattle.curve.specs.Ground.{never}
use Rattle.interval.specs.Changes.{to_change}
use Rattle.colours.specs.Numbers.{showing_number, bar_number, mode_number}
use Rattle.colours.specs.Rows.{rows, rows_for}
use Rattle.colours.specs.declared.Row.{Row}
use Rattle.rules.specs.Numbers.{is_accepted, bit_number}
use Rattle.rules.specs.Operands.{bit_of}
use Rattle.rules.specs.Table.{stands}
use Rattle.rules.specs.Runs.{Sent, answer_to, state_after, moment_of, state_at_end, none_accepted, freshens}
use Rattle.rules.specs.History.{Tells}
use Rattle.rules.specs.History.{is_in, is_supervised, curve_at, Supervises, braking_in, interval_in}
use Rattle.rules.specs.Claims.{UpToSources}
use Rattle.rules.specs.Ground.{names_curve}
use Rattle.rules.specs.Columns.{is_short, IsFree}
use Rattle.rules.specs.declared.State.{State}
use Rattle.rules.specs.declared.Cause.{Cause}
use Rattle.rules.specs.declared.Stage.{Stage}
use Rattle.rules.specs.declared.Verdict.{Verdict}
use Rattle.rules.specs.declared.Stm.{Stm}

-- the largest number of which something holds
pub record Largest (P : ℕ → Type 0) (n : ℕ) : Type 0 where
  pub holds : P n
  pub most : (m : ℕ) → P m → m ≤ n

-- ---- the order

-- a bit of the causes, and the order that it gives with flag bit 0 and without: 1 soft, 2 full, 3 emergency with full
pub record Strength : Type 0 where
  pub bit : ℕ
  pub flagged : ℕ
  pub plain : ℕ

abbrev pub strength : ℕ → ℕ → ℕ → Strength
strength bit flagged plain = record { bit = bit; flagged = flagged; plain = plain }

-- the column "Strength": "“Soft” means soft with flag bit 0, else full"
abbrev pub strengths : List Strength
strengths =
    strength 0 1 2
    ∷ strength 1 3 3
    ∷ strength 2 2 2
    ∷ strength 3 1 2
    ∷ strength 4 3 3
    ∷ strength 5 3 3
    ∷ strength 6 3 3
    ∷ strength 7 2 2
    ∷ strength 8 2 2
    ∷ strength 9 1 2
    ∷ strength 10 1 2
    ∷ strength 11 3 3
    ∷ []

-- the strongest of the standing causes, 0 where none stands
abbrev pub strongest : Bool → ℕ → ℕ
strongest softly causes =
    foldr max 0 (map (λ row. cond (bit_of row.bit causes) (cond softly row.flagged row.plain) 0) strengths)

-- ---- the speeds

-- "Permitted speed is the least of VMAX and the curves'", each curve's up to 300
abbrev pub permits : Stm → Curve → ℕ
permits stm curve = permitted_of curve (braking_in stm).level (braking_in stm).leads.permitted

pub record UpToPermitted (stm : Stm) (vmax n : ℕ) : Type 0 where
  pub limit : n ≤ vmax
  pub top : n ≤ 300
  pub curves : (et : Bool) (curve : Curve) → Supervises stm.track et curve → n ≤ permits stm curve

-- ---- in DA

pub record Offers (stm : Stm) (offered : ℕ) : Type 0 where
  -- "1 if a fresh LOSS would drop a cause": one other than bit 10 stands and is releasable
  pub loss :
      Tells (bit_of 0 offered)
      ((cause : Cause) × (stands stm.brakes.causes cause ≡ true) × (bit_number cause ≡ 10 → ⊥)
      × IsFree stm (stands stm.brakes.causes) cause)
  -- "plus 2 if a fresh text would": bit 10 stands
  pub text : bit_of 1 offered ≡ stands stm.brakes.causes Cause.Rolling
  pub most : offered ≤ 3

pub record WrittenInDA (stm : Stm) (report : List ℕ) : Type 0 where
  pub state : state_in report ≡ 3
  pub order : order_in report ≡ strongest stm.train.softly (causes_in report)
  pub causes : (cause : Cause) → bit_of (bit_number cause) (causes_in report) ≡ stands stm.brakes.causes cause
  pub no_other : causes_in report < 4096
  pub vmax : Largest (UpToSources stm.train stm.track) (vmax_in report)
  pub permitted : Largest (UpToPermitted stm (vmax_in report)) (permitted_in report)
  pub offered : Offers stm (offered_in report)

abbrev pub ReportInDA : Type 0
ReportInDA =
    (stm : Stm) (x : Sent)
    → is_accepted (answer_to stm x) ≡ true → is_in State.DA (state_after stm x) ≡ true
    → WrittenInDA (state_after stm x) (moment_of stm x).area

-- ---- the shown curve

-- 02, F-7: "at equal interval and permitted speed any curve is shown before any ET record"; "then lowest id"
abbrev pub FirstAtEqual : Bool → Bool → ℕ → ℕ → Type 0
FirstAtEqual false false id other = id ≤ other
FirstAtEqual false true id other = Unit {0}
FirstAtEqual true false id other = ⊥
FirstAtEqual true true id other = id ≤ other

-- "latest computed interval, then lowest permitted speed, then .."
abbrev pub GoesFirst : Stm → Bool → Curve → Bool → Curve → Type 0
GoesFirst stm et curve et' other =
    (rank_of (interval_in stm other) < rank_of (interval_in stm curve))
    ⊎ ((rank_of (interval_in stm other) ≡ rank_of (interval_in stm curve))
    × ((permits stm curve < permits stm other)
    ⊎ ((permits stm curve ≡ permits stm other) × FirstAtEqual et et' curve.id other.id)))

abbrev pub shown_as_in : Stm → Curve → Shown
shown_as_in stm curve = shown_of curve.past (interval_in stm curve)

-- "B past permitted"
abbrev pub is_past_permitted : Stm → Curve → Bool
is_past_permitted stm curve = is_reached curve (braking_in stm).level stm.kept.speed (braking_in stm).leads.permitted

-- 02, F-4: bytes 10 and 11 are bar and mode of the one row that holds for what is shown
pub record ByRow (past sufficient : Bool) (showing : Option Shown) (report : List ℕ) : Type 0 where
  pub row : Row
  pub alone : rows_for past sufficient showing ≡ row ∷ []
  pub bar : bar_in report ≡ bar_number row.bar
  pub mode : mode_in report ≡ mode_number row.mode

pub record Shows (stm : Stm) (report : List ℕ) : Type 0 where
  pub et : Bool
  pub curve : Curve
  pub holds : Supervises stm.track et curve
  pub first : (et' : Bool) (other : Curve) → Supervises stm.track et' other → GoesFirst stm et curve et' other
  -- 02, F-7: "messages bit 6 marks a shown ET record"
  pub marked : bit_of 6 (messages_in report) ≡ et
  pub id : id_in report ≡ curve.id
  pub interval : shown_in report ≡ shown_number (shown_as_in stm curve)
  pub colours : ByRow (is_past_permitted stm curve) (not (is_short stm)) (Some (shown_as_in stm curve)) report
  -- 02, F-1: "four bytes at its end with this for the shown curve"
  pub change : change_in report ≡ to_change curve (braking_in stm) stm.kept.speed

-- "shown id (255 none); interval (0 none ..)", "No curve: bar and mode 0"; 02, F-1: "FFFFFFFF where none is shown"; no
-- ET record is marked
pub record ShowsNone (report : List ℕ) : Type 0 where
  pub marked : bit_of 6 (messages_in report) ≡ false
  pub id : id_in report ≡ 255
  pub interval : shown_in report ≡ 0
  pub bar : bar_in report ≡ 0
  pub mode : mode_in report ≡ 0
  pub colours : (past sufficient : Bool) → ByRow past sufficient None report
  pub change : change_in report ≡ never

abbrev pub ShownInDA : Type 0
ShownInDA =
    (stm : Stm) (x : Sent)
    → is_accepted (answer_to stm x) ≡ true → is_in State.DA (state_after stm x) ≡ true
    → ((et : Bool) (curve : Curve) → Supervises (state_after stm x).track et curve → Shows (state_after stm x) (moment_of stm x).area)
    × (((et : Bool) (curve : Curve) → Supervises (state_after stm x).track et curve → ⊥) → ShowsNone (moment_of stm x).area)

-- ---- outside DA

-- 02, F-3: "the report shows order 2 in DE while the test brakes"
abbrev pub order_in_test : Stage → ℕ
order_in_test Stage.Idle = 0
order_in_test (Stage.Settling phase) = 0
order_in_test (Stage.Braking steady reports) = 2

-- "Outside DA order is 0 (FA: 3), id 255, messages as standing, the rest 0"
abbrev pub StateAndOrder : State → Stage → List ℕ → Type 0
StateAndOrder State.DE stage report = (state_in report ≡ 0) × (order_in report ≡ order_in_test stage)
StateAndOrder State.CS stage report = (state_in report ≡ 1) × (order_in report ≡ 0)
StateAndOrder State.HS stage report = (state_in report ≡ 2) × (order_in report ≡ 0)
StateAndOrder State.DA stage report = ⊥
StateAndOrder State.FA stage report = (state_in report ≡ 4) × (order_in report ≡ 3)

pub record WrittenOutside (state : State) (stage : Stage) (report : List ℕ) : Type 0 where
  pub first : StateAndOrder state stage report
  pub causes : causes_in report ≡ 0
  pub permitted : permitted_in report ≡ 0
  pub vmax : vmax_in report ≡ 0
  pub shown : ShowsNone report
  pub offered : offered_in report ≡ 0

abbrev pub ReportOutsideDA : Type 0
ReportOutsideDA =
    (stm : Stm) (x : Sent)
    → is_accepted (answer_to stm x) ≡ true → is_in State.DA (state_after stm x) ≡ false
    → WrittenOutside (state_after stm x).control.state (state_after stm x).test.stage (moment_of stm x).area

-- ---- the row, in every state

-- 02, F-4: bytes 9 to 11 are what a row of the table is for, its bar and its mode. Which row it is, `Shows` and `ShowsNone` tell
pub record FromRow (report : List ℕ) : Type 0 where
  pub row : Row
  pub listed : Memᴰ row rows
  pub interval : shown_in report ≡ showing_number row.showing
  pub bar : bar_in report ≡ bar_number row.bar
  pub mode : mode_in report ≡ mode_number row.mode

abbrev pub EveryReportHasARow : Type 0
EveryReportHasARow = (stm : Stm) (x : Sent) → is_accepted (answer_to stm x) ≡ true → FromRow (moment_of stm x).area

-- ---- the messages, in every state

-- 02, F-3: a test runs
abbrev pub runs_in : Stage → Bool
runs_in Stage.Idle = false
runs_in (Stage.Settling phase) = true
runs_in (Stage.Braking steady reports) = true

-- "bit 0 DRIFTBROMSFEL, 1 NÖDBROMSFEL, 2 TRYCKGIVARFEL at the last odometer report"; 02, F-3: "bit 3 running, bit 4 last test passed,
-- bit 5 last test failed". Of bit 6 `Shows` and `ShowsNone` tell
pub record MessagesTell (stm : Stm) (messages : ℕ) : Type 0 where
  pub drift : bit_of 0 messages ≡ stm.brakes.drift
  pub failed : bit_of 1 messages ≡ stm.brakes.failed
  pub fault : bit_of 2 messages ≡ stm.feedback.fault
  pub running : bit_of 3 messages ≡ runs_in stm.test.stage
  pub passed : Tells (bit_of 4 messages) (stm.test.result ≡ Verdict.Passed)
  pub failed_test : Tells (bit_of 5 messages) (stm.test.result ≡ Verdict.Failed)
  pub most : messages < 128

abbrev pub MessagesAreWritten : Type 0
MessagesAreWritten =
    (stm : Stm) (x : Sent)
    → is_accepted (answer_to stm x) ≡ true → MessagesTell (state_after stm x) (messages_in (moment_of stm x).area)

-- ---- past in B

-- "A curve's past in B is noted at reports in DA": it was noted, or the computed interval is B or later,
abbrev pub PastIsNoted : Type 0
PastIsNoted =
    (stm : Stm) (x : Sent) (place : ℕ)
    → is_accepted (answer_to stm x) ≡ true → is_supervised stm x.command ≡ true → (curve_at place stm).held ≡ true
    → (curve_at place (state_after stm x)).past
    ≡ ((curve_at place stm).past
    || leb (rank_of Interval.B) (rank_of (interval_in (state_after stm x) (curve_at place (state_after stm x)))))

-- and at nothing else
abbrev pub PastStays : Type 0
PastStays =
    (stm : Stm) (xs : List Sent) (place : ℕ)
    → (curve_at place stm).held ≡ true
    → none_accepted (λ before command. freshens command || names_curve (curve_at place stm).id command) stm xs ≡ true
    → none_accepted is_supervised stm xs ≡ true
    → (curve_at place (state_at_end stm xs)).past ≡ (curve_at place stm).past
