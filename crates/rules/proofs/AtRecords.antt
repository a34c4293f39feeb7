-- What stands at a place of records after a command. Assumes nothing.
use mathlib.Core.Path.{◌≡◌, refl, ◌∙◌, ap}
use Prim.Native.Nat.{ℕ}
use mathlib.Core.Bool.{true, cond}
use mathlib.Core.List.{List, map}
use lib.ListN.{get_or}
use Rattle.wire.specs.Numbers.{byte_at}
use Rattle.wire.specs.Form.{operands_of}
use Rattle.curve.specs.declared.Curve.{Curve}
use Rattle.curve.specs.declared.Judged.{Judged}
use Rattle.places.specs.Places.{judged_here}
use Rattle.records.specs.declared.Condition.{Condition}
use Rattle.records.specs.declared.EtRecord.{EtRecord}
use Rattle.records.specs.Lives.{is_effective, free_record, as_curve, covered_by, moved_record, is_controlled, passed_record}
use Rattle.rules.specs.Numbers.{code_of, state_of, is_accepted}
use Rattle.rules.specs.Operands.{code_byte, reading_of, record_of, signal_in, route_in}
use Rattle.rules.specs.Places.{record_places, empty_track, fresh_track, cleared_track, passed_track, is_record, given_record, ended_record, signalled_records, moved_track}
use Rattle.rules.specs.Speeds.{braking_of, judged_now}
use Rattle.rules.specs.Odometer.{noted_record, noted_track}
use Rattle.rules.specs.Commands.{fresh_with, stopped, entered, carried_out}
use Rattle.rules.specs.Runs.{Sent, answer_to, state_after}
use Rattle.rules.specs.History.{record_at}
use Rattle.rules.specs.declared.Code.{Code}
use Rattle.rules.specs.declared.State.{State}
use Rattle.rules.specs.declared.Reading.{Reading}
use Rattle.rules.specs.declared.Stm.{Stm}
use Rattle.rules.proofs.Tests.{impossible}
use Rattle.rules.proofs.AtPlaces.{changed_any}
use Rattle.rules.proofs.Supervising.{noted_at_places}
use Rattle.rules.proofs.After.{track_in, reported_track, track_after}
use Rattle.rules.proofs.Fresh.{free_everywhere}

-- ---- at a report

-- a record with its past in B noted, at the report's figures
abbrev pub judging : Reading → Stm → Curve → Judged
judging r stm = judged_here (braking_of stm.train r.halka) r.speed

abbrev pub noted_for : Reading → Stm → EtRecord → EtRecord
noted_for r stm et = noted_record et (judging r stm (as_curve et))

abbrev pub record_in : State → Reading → Stm → EtRecord → EtRecord
record_in State.DE r stm et = et
record_in State.CS r stm et = et
record_in State.HS r stm et = moved_record r.moved et
record_in State.DA r stm et = noted_for r stm (moved_record r.moved et)
record_in State.FA r stm et = et

free_moved : (moved : ℕ) → moved_record moved free_record ≡ free_record
unfolding moved_record
free_moved moved = refl

module _ (r : Reading) (stm : Stm) (place : ℕ) where
  moved_there : get_or (map (moved_record r.moved) stm.track.records) place free_record ≡ moved_record r.moved (record_at place stm)
  moved_there = changed_any (λ et. et.curve.held) free_record refl (moved_record r.moved) (free_moved r.moved) stm.track.records place

  reported_record : (state : State) → get_or (track_in r stm state).records place free_record ≡ record_in state r stm (record_at place stm)
  unfolding moved_track noted_track judged_now
  reported_record State.DE = refl
  reported_record State.CS = refl
  reported_record State.HS = moved_there
  reported_record State.DA =
      let ets = map (moved_record r.moved) stm.track.records in
      ap (λ all. get_or all place free_record) (noted_at_places (judging r stm) ets)
      ∙ changed_any (λ et. et.curve.held) free_record refl (noted_for r stm) refl ets place
      ∙ ap (noted_for r stm) moved_there
  reported_record State.FA = refl

-- ---- by the command

abbrev pub entered_record : State → EtRecord → EtRecord
entered_record State.DE et = et
entered_record State.CS et = free_record
entered_record State.HS et = et
entered_record State.DA et = et
entered_record State.FA et = et

entered_record_lem : (state : State) (stm : Stm) (place : ℕ)
    → get_or (entered state stm).track.records place free_record ≡ entered_record state (record_at place stm)
unfolding cleared_track empty_track
entered_record_lem State.DE stm place = refl
entered_record_lem State.CS stm place = free_everywhere record_places place free_record
entered_record_lem State.HS stm place = refl
entered_record_lem State.DA stm place = refl
entered_record_lem State.FA stm place = refl

abbrev pub record_by : Code → List ℕ → Stm → ℕ → EtRecord
record_by Code.Start s stm place = free_record
record_by Code.ChangeState s stm place = entered_record (state_of (byte_at s 0)) (record_at place stm)
record_by Code.Odometer s stm place = record_in stm.control.state (reading_of s) stm (record_at place stm)
record_by Code.NewCurve s stm place = record_at place stm
record_by Code.EndCurve s stm place = record_at place stm
record_by Code.NewSection s stm place = record_at place stm
record_by Code.EndSection s stm place = record_at place stm
record_by Code.StopPassed s stm place = record_at place stm
record_by Code.Proceed s stm place = record_at place stm
record_by Code.BaliseError s stm place = record_at place stm
record_by Code.TestBrakes s stm place = record_at place stm
record_by Code.AreaEvent s stm place = record_at place stm
record_by Code.NewRecord s stm place = get_or (given_record (record_of s) stm.track.records) place free_record
record_by Code.SignalPassed s stm place = passed_record (signal_in s) (route_in s) (record_at place stm)
record_by Code.EndRecord s stm place = cond (is_record (byte_at s 0) (record_at place stm)) free_record (record_at place stm)

record_by_lem : (code : Code) (s : List ℕ) (stm : Stm) (place : ℕ)
    → get_or (carried_out code s stm).track.records place free_record ≡ record_by code s stm place
unfolding fresh_with fresh_track empty_track stopped passed_track ended_record signalled_records passed_record is_controlled
record_by_lem Code.Start s stm place = free_everywhere record_places place free_record
record_by_lem Code.ChangeState s stm place = entered_record_lem (state_of (byte_at s 0)) stm place
record_by_lem Code.Odometer s stm place =
    ap (λ track. get_or track.records place free_record) (reported_track (reading_of s) stm stm.control.state)
    ∙ reported_record (reading_of s) stm place stm.control.state
record_by_lem Code.NewCurve s stm place = refl
record_by_lem Code.EndCurve s stm place = refl
record_by_lem Code.NewSection s stm place = refl
record_by_lem Code.EndSection s stm place = refl
record_by_lem Code.StopPassed s stm place = refl
record_by_lem Code.Proceed s stm place = refl
record_by_lem Code.BaliseError s stm place = refl
record_by_lem Code.TestBrakes s stm place = refl
record_by_lem Code.AreaEvent s stm place = refl
record_by_lem Code.NewRecord s stm place = refl
record_by_lem Code.SignalPassed s stm place =
    changed_any (λ et. et.curve.held) free_record refl (passed_record (signal_in s) (route_in s)) refl stm.track.records place
record_by_lem Code.EndRecord s stm place =
    changed_any (λ et. et.curve.held) free_record refl (λ et. cond (is_record (byte_at s 0) et) free_record et) refl stm.track.records place

pub record_after : (stm : Stm) (x : Sent) (code : Code) → is_accepted (answer_to stm x) ≡ true → code_of (code_byte x.command) ≡ code
    → (place : ℕ) → record_at place (state_after stm x) ≡ record_by code (operands_of x.command) stm place
record_after stm x code e c place =
    ap (λ track. get_or track.records place free_record) (track_after stm x e)
    ∙ ap (λ is. get_or (carried_out is (operands_of x.command) stm).track.records place free_record) c
    ∙ record_by_lem code (operands_of x.command) stm place

-- ---- what ground leaves

-- an active or locked record stays so
pub effective_stays : (moved : ℕ) (condition : Condition) → is_effective condition ≡ true → covered_by moved condition ≡ condition
effective_stays moved (Condition.Undecided covered) e = impossible e
effective_stays moved Condition.Terminated e = impossible e
effective_stays moved Condition.DefinitelyActive e = refl
effective_stays moved Condition.PreliminaryPassive e = impossible e
effective_stays moved Condition.PreliminaryActive e = refl
effective_stays moved Condition.Locked e = refl
