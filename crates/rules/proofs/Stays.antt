-- The stay in an area after one accepted command. Assumes nothing.
use mathlib.Core.Path.{◌≡◌, refl, sym, ◌∙◌, ap}
use Prim.Native.Nat.{ℕ, ◌≤◌}
use mathlib.Core.Bool.{true}
use mathlib.Core.List.{List}
use lib.Dec.{leb}
use borrow.Author.Tests.{leb-true}
use Rattle.std.specs.Prelude.{None}
use Rattle.wire.specs.Numbers.{byte_at}
use Rattle.wire.specs.Form.{operands_of}
use Rattle.areas.specs.declared.Stay.{Stay}
use Rattle.areas.specs.Numbers.{event_number, event_of}
use Rattle.areas.specs.Rows.{is_taken}
use Rattle.areas.specs.Stays.{fresh_stay, with_missing, cleared_stay, passed_stay, covered_by, covered_stay}
use Rattle.areas.proofs.Told.{event_number_lem}
use Rattle.rules.specs.Numbers.{is_accepted, code_of, state_of}
use Rattle.rules.specs.Operands.{code_byte, reading_of, event_in, event_speed, event_speed_in_range, event_in_range, in_range}
use Rattle.rules.specs.Places.{empty_track, fresh_track, cleared_track, passed_track, moved_track}
use Rattle.rules.specs.Odometer.{noted_track}
use Rattle.rules.specs.Commands.{fresh_with, entered, stopped, carried_out}
use Rattle.rules.specs.Refusals.{is_untaken}
use Rattle.rules.specs.Runs.{Sent, answer_to, state_after}
use Rattle.rules.specs.History.{first_operand}
use Rattle.rules.specs.declared.Code.{Code}
use Rattle.rules.specs.declared.State.{State}
use Rattle.rules.specs.declared.Reading.{Reading}
use Rattle.rules.specs.declared.Stm.{Stm}
use Rattle.rules.proofs.Answers.{passed}
use Rattle.rules.proofs.Tests.{and_left}
use Rattle.rules.proofs.After.{track_after, track_in, reported_track}
use Rattle.rules.proofs.Keeps.{taken_there}

-- ---- by the state

-- in HS and DA a report covers ground
abbrev pub covered_in : State → ℕ → Stay → Stay
covered_in State.DE moved stay = stay
covered_in State.CS moved stay = stay
covered_in State.HS moved stay = covered_stay moved stay
covered_in State.DA moved stay = covered_stay moved stay
covered_in State.FA moved stay = stay

covered_in_lem : (r : Reading) (stm : Stm) (state : State) → (track_in r stm state).stay ≡ covered_in state r.moved stm.track.stay
unfolding moved_track noted_track
covered_in_lem r stm State.DE = refl
covered_in_lem r stm State.CS = refl
covered_in_lem r stm State.HS = refl
covered_in_lem r stm State.DA = refl
covered_in_lem r stm State.FA = refl

-- entering CS ends what pends
abbrev pub entered_stay : State → Stay → Stay
entered_stay State.DE stay = stay
entered_stay State.CS stay = cleared_stay stay
entered_stay State.HS stay = stay
entered_stay State.DA stay = stay
entered_stay State.FA stay = stay

entered_stay_lem : (state : State) (stm : Stm) → (entered state stm).track.stay ≡ entered_stay state stm.track.stay
unfolding cleared_track empty_track
entered_stay_lem State.DE stm = refl
entered_stay_lem State.CS stm = refl
entered_stay_lem State.HS stm = refl
entered_stay_lem State.DA stm = refl
entered_stay_lem State.FA stm = refl

-- ---- by the command

abbrev pub stay_by : Code → List ℕ → Stm → Stay
stay_by Code.Start s stm = fresh_stay
stay_by Code.ChangeState s stm = entered_stay (state_of (byte_at s 0)) stm.track.stay
stay_by Code.Odometer s stm = covered_in stm.control.state (reading_of s).moved stm.track.stay
stay_by Code.NewCurve s stm = stm.track.stay
stay_by Code.EndCurve s stm = stm.track.stay
stay_by Code.NewSection s stm = stm.track.stay
stay_by Code.EndSection s stm = stm.track.stay
stay_by Code.StopPassed s stm = stm.track.stay
stay_by Code.Proceed s stm = stm.track.stay
stay_by Code.BaliseError s stm = stm.track.stay
stay_by Code.TestBrakes s stm = stm.track.stay
stay_by Code.AreaEvent s stm = passed_stay (event_in s) (event_speed s) stm.track.stay
stay_by Code.NewRecord s stm = stm.track.stay
stay_by Code.SignalPassed s stm = stm.track.stay
stay_by Code.EndRecord s stm = stm.track.stay

stay_by_lem : (code : Code) (s : List ℕ) (stm : Stm) → (carried_out code s stm).track.stay ≡ stay_by code s stm
unfolding fresh_with fresh_track empty_track stopped passed_track
stay_by_lem Code.Start s stm = refl
stay_by_lem Code.ChangeState s stm = entered_stay_lem (state_of (byte_at s 0)) stm
stay_by_lem Code.Odometer s stm =
    ap (λ track. track.stay) (reported_track (reading_of s) stm stm.control.state) ∙ covered_in_lem (reading_of s) stm stm.control.state
stay_by_lem Code.NewCurve s stm = refl
stay_by_lem Code.EndCurve s stm = refl
stay_by_lem Code.NewSection s stm = refl
stay_by_lem Code.EndSection s stm = refl
stay_by_lem Code.StopPassed s stm = refl
stay_by_lem Code.Proceed s stm = refl
stay_by_lem Code.BaliseError s stm = refl
stay_by_lem Code.TestBrakes s stm = refl
stay_by_lem Code.AreaEvent s stm = refl
stay_by_lem Code.NewRecord s stm = refl
stay_by_lem Code.SignalPassed s stm = refl
stay_by_lem Code.EndRecord s stm = refl

pub stay_after : (stm : Stm) (x : Sent) (code : Code) → is_accepted (answer_to stm x) ≡ true → code_of (code_byte x.command) ≡ code
    → (state_after stm x).track.stay ≡ stay_by code (operands_of x.command) stm
stay_after stm x code e c =
    ap (λ track. track.stay) (track_after stm x e)
    ∙ ap (λ is. (carried_out is (operands_of x.command) stm).track.stay) c
    ∙ stay_by_lem code (operands_of x.command) stm

-- ---- where nothing pends

pub covered_alone : (state : State) (moved : ℕ) (stay : Stay) → stay.missing ≡ None → covered_in state moved stay ≡ stay
unfolding covered_stay
covered_alone State.DE moved stay p = refl
covered_alone State.CS moved stay p = refl
covered_alone State.HS moved stay p = ap (covered_by moved stay) p
covered_alone State.DA moved stay p = ap (covered_by moved stay) p
covered_alone State.FA moved stay p = refl

pub entered_alone : (state : State) (stay : Stay) → stay.missing ≡ None → entered_stay state stay ≡ stay
entered_alone State.DE stay p = refl
entered_alone State.CS stay p = ap (with_missing stay) (sym p)
entered_alone State.HS stay p = refl
entered_alone State.DA stay p = refl
entered_alone State.FA stay p = refl

-- ---- an accepted event

given_six : (s : List ℕ) → event_in_range s ≡ true → byte_at s 0 ≤ 6
unfolding event_in_range
given_six s e = leb-true (byte_at s 0) 6 (and_left (leb (byte_at s 0) 6) (event_speed_in_range (event_in s) (event_speed s)) e)

module _ (stm : Stm) (x : Sent) (e : is_accepted (answer_to stm x) ≡ true) (c : code_of (code_byte x.command) ≡ Code.AreaEvent) where
  -- its number is the byte, and it is taken
  pub event_told : event_number (event_of (first_operand x.command)) ≡ first_operand x.command
  event_told =
      event_number_lem (first_operand x.command)
      (given_six (operands_of x.command) (ap (λ is. in_range is (operands_of x.command)) (sym c) ∙ (passed stm x e).1.range))

  pub event_taken : is_taken stm.track.stay.area (event_of (first_operand x.command)) ≡ true
  event_taken =
      taken_there stm (operands_of x.command) (ap (λ is. is_untaken stm is (operands_of x.command)) (sym c) ∙ (passed stm x e).1.taken)
