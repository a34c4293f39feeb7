-- Track areas over runs (02, F-6). Proved in proofs/.
use Rattle.std.specs.Prelude.{◌≡◌, ℕ, ◌+◌, ◌≤◌, ◌<◌, Bool, true, false, cond, not, ◌&&◌, ◌||◌, ◌⊎◌, List, eqb, leb, Some, None}
use Rattle.wire.specs.Report.{area_in}
use Rattle.areas.specs.declared.Area.{Area}
use Rattle.areas.specs.Claims.{takes, enters}
use Rattle.rules.specs.Numbers.{answer_number, is_accepted}
use Rattle.rules.specs.Operands.{within}
use Rattle.rules.specs.Runs.{Sent, answer_to, state_after, moment_of, state_at_end, none_accepted, is_of, freshens}
use Rattle.rules.specs.History.{first_operand, moved_of, is_in, is_moving, area_is, passes_event, event_speed_of, enters_by_gmd, ground_over, section_at}
use Rattle.rules.specs.TestRuns.{is_judged}
use Rattle.rules.specs.declared.Code.{Code}
use Rattle.rules.specs.declared.State.{State}
use Rattle.rules.specs.declared.Stm.{Stm}

-- ---- the report

-- "The report gains a last byte with the area in every state": after any accepted command, and whatever is refused or repeated since
abbrev pub AreaIsWritten : Type 0
AreaIsWritten =
    (stm : Stm) (x : Sent) (ys : List Sent)
    → is_accepted (answer_to stm x) ≡ true
    → (area_in (moment_of stm x).area ≡ area_is (state_after stm x))
    × (area_in (state_at_end (state_after stm x) ys).last.report ≡ area_is (state_at_end (state_after stm x) ys))

-- ---- the answer

-- the operands of a 50 are in range: event 0 to 6, speed "10–300 for GMD, otherwise 0"
abbrev pub is_event_given : ℕ → ℕ → Bool
is_event_given event speed = leb event 6 && cond (eqb event 1) (within 10 300 speed) (eqb speed 0)

-- a 50 that has passed 1 to 8 and is no repeat: 9 where an operand is out of range; "It wants HS or DA", else 10; "16, an event that
-- these rules don't take in this area; after 10"; and 0 for every other
abbrev pub EventIsAnswered : Type 0
EventIsAnswered =
    (stm : Stm) (x : Sent)
    → is_of Code.AreaEvent x.command ≡ true → is_judged (answer_number (answer_to stm x)) ≡ true
    → answer_number (answer_to stm x)
    ≡ cond (is_event_given (first_operand x.command) (event_speed_of x.command))
    (cond (is_in State.HS stm || is_in State.DA stm) (cond (takes (area_is stm) (first_operand x.command)) 0 16) 10) 9

-- ---- what an event does

-- an accepted 50 leaves all but the area and, where a GMD enters, the sections: it adds no cause
pub record EventDone (stm after : Stm) (command : List ℕ) : Type 0 where
  -- the row's area; a group without overlap leaves it, and begins to count ground unless another has
  pub area : area_is after ≡ cond (eqb (first_operand command) 3) (area_is stm) (enters (first_operand command))
  pub followed : eqb (first_operand command) 3 ≡ false → after.track.stay.missing ≡ None
  pub group : first_operand command ≡ 3 → stm.track.stay.missing ≡ None → after.track.stay.missing ≡ Some 0
  pub again : first_operand command ≡ 3 → (covered : ℕ) → stm.track.stay.missing ≡ Some covered → after.track.stay ≡ stm.track.stay
  -- "An entering GMD deletes the sections", ending ones too, and no other event does
  pub deletes : enters_by_gmd stm command ≡ true → (place : ℕ) → (section_at place after).held ≡ false
  pub leaves : enters_by_gmd stm command ≡ false → after.track.sections ≡ stm.track.sections
  pub curves : after.track.curves ≡ stm.track.curves
  pub records : after.track.records ≡ stm.track.records
  pub forty : after.track.forty ≡ stm.track.forty
  pub control : after.control ≡ stm.control
  pub train : after.train ≡ stm.train
  pub brakes : after.brakes ≡ stm.brakes
  pub feedback : after.feedback ≡ stm.feedback
  pub test : after.test ≡ stm.test
  pub kept : after.kept ≡ stm.kept

abbrev pub EventIsDone : Type 0
EventIsDone =
    (stm : Stm) (x : Sent)
    → is_accepted (answer_to stm x) ≡ true → is_of Code.AreaEvent x.command ≡ true → EventDone stm (state_after stm x) x.command

-- ---- where the area comes from

-- the ground since a group without overlap reaches 50 m at this report: from 8 to 4
pub record FiftyMetres (stm after : Stm) (command : List ℕ) : Type 0 where
  pub moving : is_moving stm command ≡ true
  pub before : ℕ
  pub pending : stm.track.stay.missing ≡ Some before
  pub reached : 5000 ≤ before + moved_of command
  pub from : area_is stm ≡ 8
  pub to : area_is after ≡ 4

-- an accepted 50 of a row, which is not d
pub record ByEvent (stm after : Stm) (command : List ℕ) : Type 0 where
  pub event : is_of Code.AreaEvent command ≡ true
  pub row : takes (area_is stm) (first_operand command) ≡ true
  pub now : eqb (first_operand command) 3 ≡ false
  pub to : area_is after ≡ enters (first_operand command)

-- the area changes only by a start, by an accepted 50 of a row, or by the 50 m,
abbrev pub AreaChangesBy : Type 0
AreaChangesBy =
    (stm : Stm) (x : Sent)
    → is_accepted (answer_to stm x) ≡ true → (area_is (state_after stm x) ≡ area_is stm → ⊥)
    → (is_of Code.Start x.command ≡ true)
    ⊎ (ByEvent stm (state_after stm x) x.command ⊎ FiftyMetres stm (state_after stm x) x.command)

-- and where nothing pends, the whole stay stands through any list without a start and an accepted 50: no ground and no state changes it
abbrev pub StayStays : Type 0
StayStays =
    (stm : Stm) (xs : List Sent)
    → stm.track.stay.missing ≡ None
    → none_accepted (λ before command. is_of Code.Start command || is_of Code.AreaEvent command) stm xs ≡ true
    → (state_at_end stm xs).track.stay ≡ stm.track.stay

-- ---- 50 m

-- it ends a pending 50 m, or counts them afresh: a start, CS, an event other than a group without overlap
abbrev pub ends_pending : Stm → List ℕ → Bool
ends_pending before command = freshens command || is_of Code.AreaEvent command && not (eqb (first_operand command) 3)

-- "d once 50 m are covered since the first such group": after a group at x, the first, and with none of those over ys, the ground is what
-- the accepted reports in HS and DA have moved since, whatever groups come meanwhile; below 5,000 cm the area is 8, and from the report on
-- that reaches them it is 4, with 130
abbrev pub GroundIsCounted : Type 0
GroundIsCounted =
    (stm : Stm) (x : Sent) (ys : List Sent)
    → is_accepted (answer_to stm x) ≡ true → passes_event 3 x.command ≡ true → stm.track.stay.missing ≡ None
    → none_accepted ends_pending (state_after stm x) ys ≡ true
    → let covered = ground_over (state_after stm x) ys in
    let last = state_at_end (state_after stm x) ys in
    (covered < 5000
    → (last.track.stay ≡ record { area = Area.Full; line = stm.track.stay.line; missing = Some covered })
    × (area_in last.last.report ≡ 8))
    × (5000 ≤ covered
    → (last.track.stay ≡ record { area = Area.Partial; line = None; missing = None })
    × (area_in last.last.report ≡ 4))

-- ---- the speed of the stay

-- the partial area is entered at x, by whatever leads there, or a GMD is passed in it; over ys no start and no 50 is accepted
pub record Entered (stm : Stm) (x : Sent) (ys : List Sent) : Type 0 where
  pub accepted : is_accepted (answer_to stm x) ≡ true
  pub partial : area_is (state_after stm x) ≡ 4
  pub anew : (not (eqb (area_is stm) 4) || passes_event 1 x.command) ≡ true
  pub alone : none_accepted (λ before command. is_of Code.Start command || is_of Code.AreaEvent command) (state_after stm x) ys ≡ true

-- "In the partial area VMAX also takes the last GMD speed of this stay, the entering one included, or 130 if none was passed": what an
-- earlier stay had plays no part, and CS keeps it. (What VMAX makes of it: VmaxIsLeast, ReportInDA)
abbrev pub SpeedIsTheStays : Type 0
SpeedIsTheStays =
    (stm : Stm) (x : Sent) (ys : List Sent)
    → Entered stm x ys
    → (state_at_end (state_after stm x) ys).track.stay
    ≡ record {
      area = Area.Partial;
      line = cond (passes_event 1 x.command) (Some (event_speed_of x.command)) None;
      missing = None;
    }
