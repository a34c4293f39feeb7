-- Members' point 3, two runs compared; 01, "The buyer's note", second paragraph. Proved in proofs/.
use Rattle.std.specs.Prelude.{◌≡◌, ℕ, ◌≤◌, Bool, true, false, ◌||◌, List, [], ◌∷◌, map, length, take, drop}
use Rattle.wire.specs.Numbers.{byte_at}
use Rattle.wire.specs.Form.{operands_of}
use Rattle.wire.specs.Report.{permitted_in, order_in, change_in}
use Rattle.curve.specs.declared.Curve.{Curve}
use Rattle.interval.specs.Intervals.{rank_of}
use Rattle.curve.specs.Claims.{Stricter}
use Rattle.records.specs.declared.EtRecord.{EtRecord}
use Rattle.records.specs.Lives.{is_effective}
use Rattle.rules.specs.Numbers.{answer_number, is_refused}
use Rattle.rules.specs.Operands.{code_byte, number_of, two_at, bit_of}
use Rattle.rules.specs.Places.{holds_curve, holds_record}
use Rattle.rules.specs.Table.{stands}
use Rattle.rules.specs.BrakeTest.{is_running}
use Rattle.rules.specs.Runs.{Sent, Moment, moments, is_of}
use Rattle.rules.specs.History.{Holds, HoldsSection, HoldsRecord, interval_in}
use Rattle.rules.specs.Units.{IsUnit}
use Rattle.rules.specs.declared.Code.{Code}
use Rattle.rules.specs.declared.Cause.{Cause}
use Rattle.rules.specs.declared.Section.{Section}
use Rattle.rules.specs.declared.Train.{Train}
use Rattle.rules.specs.declared.Track.{Track}
use Rattle.rules.specs.declared.Last.{Last}
use Rattle.rules.specs.declared.Stm.{Stm}

-- ---- the two units

-- "either deceleration or both may be lower"; all else is equal
pub record TrainsCompared (train train' : Train) : Type 0 where
  pub softly : train'.softly ≡ train.softly
  pub feed : train'.feed ≡ train.feed
  pub speed : train'.speed ≡ train.speed
  pub length : train'.length ≡ train.length
  pub full : train'.full ≤ train.full
  pub soft : train'.soft ≤ train.soft
  -- T_B and the gaps; 02, F-3: "the extra is equal in both"
  pub times : train'.times ≡ train.times
  pub margin : train'.margin ≡ train.margin
  pub emergency : train'.emergency ≡ train.emergency
  pub sufficient : train'.sufficient ≡ train.sufficient
  pub pressure : train'.pressure ≡ train.pressure
  pub check : train'.check ≡ train.check

-- 02, F-7: "Active and locked ones are curves in all that the members voted": two records of one id are in one condition, and the second's d
-- and target may be lower. That records which are no curves are equal, and anything of category and past in B, is not needed by the proof
pub record RecordsCompared (et et' : EtRecord) : Type 0 where
  pub condition : et'.condition ≡ et.condition
  pub stricter : Stricter et.curve et'.curve

-- "By id, any of the second's curves may have a lower d, target or release speed"; "one section id may be new"; all else is equal.
-- A place does not matter. The second may hold more: the proof does not need that it holds no other curve, or one section more only
pub record TracksCompared (track track' : Track) : Type 0 where
  pub ids : (id : ℕ) → holds_curve id track.curves ≡ true → holds_curve id track'.curves ≡ true
  pub curves :
      (curve curve' : Curve) → Holds track.curves curve → Holds track'.curves curve' → curve'.id ≡ curve.id
      → Stricter curve curve'
  pub past :
      (curve curve' : Curve) → Holds track.curves curve → Holds track'.curves curve' → curve'.id ≡ curve.id
      → curve'.past ≡ curve.past
  pub sections : (section : Section) → HoldsSection track.sections section → HoldsSection track'.sections section
  pub forty : track'.forty ≡ track.forty
  -- 02, F-6: "Two units compared have one area", one pending ground and one GMD speed
  pub stay : track'.stay ≡ track.stay
  -- records by id, as curves
  pub record_ids : (id : ℕ) → holds_record id track.records ≡ true → holds_record id track'.records ≡ true
  pub records :
      (et et' : EtRecord) → HoldsRecord track.records et → HoldsRecord track'.records et' → et'.curve.id ≡ et.curve.id
      → RecordsCompared et et'

-- "save the last command's operands and the kept report, in which the second permits no more and orders no less"
pub record LastsCompared (last last' : Last) : Type 0 where
  pub code : code_byte last'.bytes ≡ code_byte last.bytes
  pub number : number_of last'.bytes ≡ number_of last.bytes
  pub permitted : permitted_in last'.report ≤ permitted_in last.report
  pub order : order_in last.report ≤ order_in last'.report

pub record Compared (u w : Stm) : Type 0 where
  pub control : w.control ≡ u.control
  pub train : TrainsCompared u.train w.train
  pub track : TracksCompared u.track w.track
  -- causes, notes and checks; 02, F-2: bit 9 is held alike
  pub brakes : w.brakes ≡ u.brakes
  pub feedback : w.feedback ≡ u.feedback
  -- 02, F-3
  pub test : w.test ≡ u.test
  pub kept : w.kept ≡ u.kept
  pub last : LastsCompared u.last w.last

-- ---- the two lists

-- a relation holds at each place of two lists of one length
abbrev pub Both : {A : Type 0} → (A → A → Type 0) → List A → List A → Type 0
Both R [] [] = Unit {0}
Both R [] (y ∷ ys) = ⊥
Both R (x ∷ xs) [] = ⊥
Both R (x ∷ xs) (y ∷ ys) = R x y × Both R xs ys

-- odometer reports, of which the second "differs only in that its speeds may be higher": the speed is bytes 5 and 6. What the two
-- lent areas hold, and how long they are, does not matter
pub record Faster (x y : Sent) : Type 0 where
  pub odometer : is_of Code.Odometer x.command ≡ true
  pub before : take 5 y.command ≡ take 5 x.command
  pub after : drop 7 y.command ≡ drop 7 x.command
  pub length : length y.command ≡ length x.command
  pub speed : two_at (operands_of x.command) 0 ≤ two_at (operands_of y.command) 0

-- ---- what is presumed

-- "each report is refused by both units or by neither"
abbrev pub RefusedAlike : Moment → Moment → Type 0
RefusedAlike m n = is_refused n.answer ≡ is_refused m.answer

-- "neither has a brake fault at any time in the list": after each of its reports. "Bit 11 and NÖDBROMSFEL are the brake faults"
abbrev pub NoServiceFault : Moment → Moment → Type 0
NoServiceFault m n =
    (stands m.stm.brakes.causes Cause.ServiceFault ≡ false) × (stands n.stm.brakes.causes Cause.ServiceFault ≡ false)

abbrev pub NoEmergencyFault : Moment → Moment → Type 0
NoEmergencyFault m n = (m.stm.brakes.failed ≡ false) × (n.stm.brakes.failed ≡ false)

-- "no report has the controller in neutral"; the second's buttons are those of the first
abbrev pub InGear : Sent → Sent → Type 0
InGear x y = bit_of 3 (byte_at (operands_of x.command) 8) ≡ false

-- "where decelerations differ, no unexpected-stop braking stands when the list begins": where it stands, they are equal
abbrev pub UnexpectedStopAlike : Stm → Stm → Type 0
UnexpectedStopAlike u w =
    (stands u.brakes.causes Cause.UnexpectedStop || stands u.brakes.causes Cause.UnexpectedSpeed) ≡ true
    → (w.train.full ≡ u.train.full) × (w.train.soft ≡ u.train.soft)

-- 02, F-3: "When two units are compared the extra is equal in both and no test runs": the extra is one of the train's times, and the
-- test of the second is that of the first
abbrev pub NoTestRuns : Stm → Type 0
NoTestRuns u = is_running u.test.stage ≡ false

-- a presumption that is made, or left out
abbrev pub Presumed : Bool → Type 0 → Type 0
Presumed true P = P
Presumed false P = Unit {0}

-- ---- what is claimed

-- "the second's permitted speed is no higher, no curve held by both is in an earlier computed interval, and its brake order is no
-- milder"; "Permitted speed and order are those written"
pub record NotMilder (m n : Moment) : Type 0 where
  pub permitted : permitted_in n.area ≤ permitted_in m.area
  pub interval :
      (curve curve' : Curve) → Holds m.stm.track.curves curve → Holds n.stm.track.curves curve' → curve'.id ≡ curve.id
      → rank_of (interval_in m.stm curve) ≤ rank_of (interval_in n.stm curve')
  -- 02, F-7: nor is a record that is a curve in both
  pub records :
      (et et' : EtRecord) → HoldsRecord m.stm.track.records et → HoldsRecord n.stm.track.records et'
      → et'.curve.id ≡ et.curve.id → is_effective et.condition ≡ true
      → (is_effective et'.condition ≡ true)
      × (rank_of (interval_in m.stm et.curve) ≤ rank_of (interval_in n.stm et'.curve))
  pub order : order_in m.area ≤ order_in n.area

-- "at every report not refused"
abbrev pub Claimed : Moment → Moment → Type 0
Claimed m n = is_refused m.answer ≡ false → is_refused n.answer ≡ false → NotMilder m n

-- the claim, with the presumptions that are made
abbrev pub ClaimGiven : (units refusals service emergency gear stops tests : Bool) → Type 0
ClaimGiven units refusals service emergency gear stops tests =
    (u w : Stm) (xs ys : List Sent)
    → Compared u w → Both Faster xs ys
    → Presumed units (IsUnit u × IsUnit w)
    → Presumed refusals (Both RefusedAlike (moments u xs) (moments w ys))
    → Presumed service (Both NoServiceFault (moments u xs) (moments w ys))
    → Presumed emergency (Both NoEmergencyFault (moments u xs) (moments w ys))
    → Presumed gear (Both InGear xs ys)
    → Presumed stops (UnexpectedStopAlike u w)
    → Presumed tests (NoTestRuns u)
    → Both Claimed (moments u xs) (moments w ys)

-- point 3, whole. It holds of any two states compared, and so of any two units. Not needed by the proof, though presumed in the words:
-- that the two are units; that neither has a brake fault before the first report, nor the second bit 11 at all; where an unexpected
-- stop brakes, equal soft decelerations, and anything of bit 7. Nor is it needed that past in B, the last command's code, the rolled
-- ground, the checks, the messages and T_EBCHK are equal
abbrev pub TwoRuns : Type 0
TwoRuns = ClaimGiven false true true true true true true

-- 02, F-6: no odometer report parts the areas of two units compared: after every report the two have one area, one pending ground and one
-- GMD speed. Of what is presumed this needs only that each report is refused by both or by neither
abbrev pub OneArea : Moment → Moment → Type 0
OneArea m n = n.stm.track.stay ≡ m.stm.track.stay

abbrev pub AreasStayOne : Type 0
AreasStayOne =
    (u w : Stm) (xs ys : List Sent)
    → Compared u w → Both Faster xs ys
    → Both RefusedAlike (moments u xs) (moments w ys)
    → Both OneArea (moments u xs) (moments w ys)

-- ---- each presumption is needed, of units too

abbrev pub RefusalsAreNeeded : Type 0
RefusalsAreNeeded = ClaimGiven true false true true true true true → ⊥

abbrev pub NoServiceFaultIsNeeded : Type 0
NoServiceFaultIsNeeded = ClaimGiven true true false true true true true → ⊥

abbrev pub NoEmergencyFaultIsNeeded : Type 0
NoEmergencyFaultIsNeeded = ClaimGiven true true true false true true true → ⊥

abbrev pub GearIsNeeded : Type 0
GearIsNeeded = ClaimGiven true true true true false true true → ⊥

abbrev pub StopsAreNeeded : Type 0
StopsAreNeeded = ClaimGiven true true true true true false true → ⊥

abbrev pub NoTestIsNeeded : Type 0
NoTestIsNeeded = ClaimGiven true true true true true true false → ⊥

-- ---- the claim is not empty

-- the answers of a run, by 01's numbers, and the orders written at its moments
abbrev pub answers_in : List Moment → List ℕ
answers_in ms = map (λ m. answer_number m.answer) ms

abbrev pub orders_in : List Moment → List ℕ
orders_in ms = map (λ m. order_in m.area) ms

-- two units that meet all that is presumed, and lists of a report, its repeat and a further report, which both answer so, by which
-- the second is ordered to brake and the first is not
pub record BrakesHarder : Type 0 where
  pub u : Stm
  pub w : Stm
  pub xs : List Sent
  pub ys : List Sent
  pub compared : Compared u w
  pub faster : Both Faster xs ys
  pub units : IsUnit u × IsUnit w
  pub refusals : Both RefusedAlike (moments u xs) (moments w ys)
  pub service : Both NoServiceFault (moments u xs) (moments w ys)
  pub emergency : Both NoEmergencyFault (moments u xs) (moments w ys)
  pub gear : Both InGear xs ys
  pub stops : UnexpectedStopAlike u w
  pub tests : NoTestRuns u
  pub answers : answers_in (moments u xs) ≡ (0 ∷ 100 ∷ 0 ∷ [])
  pub answers' : answers_in (moments w ys) ≡ (0 ∷ 100 ∷ 0 ∷ [])
  pub first : orders_in (moments u xs) ≡ (0 ∷ 0 ∷ 0 ∷ [])
  pub second : orders_in (moments w ys) ≡ (0 ∷ 0 ∷ 3 ∷ [])

-- ---- what is not claimed

-- 02, F-1: "Of two units the stricter's figure may be larger": with all that is presumed, units too, it is not so that it never is
abbrev pub FigureMayBeLarger : Type 0
FigureMayBeLarger =
    ((u w : Stm) (xs ys : List Sent)
    → Compared u w → Both Faster xs ys
    → IsUnit u × IsUnit w
    → Both RefusedAlike (moments u xs) (moments w ys)
    → Both NoServiceFault (moments u xs) (moments w ys)
    → Both NoEmergencyFault (moments u xs) (moments w ys)
    → Both InGear xs ys
    → UnexpectedStopAlike u w
    → NoTestRuns u
    → Both (λ m n. change_in n.area ≤ change_in m.area) (moments u xs) (moments w ys))
    → ⊥
