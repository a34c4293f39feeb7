-- A curve's past in B: noted at reports in DA, and at nothing else. Assumes nothing.
use mathlib.Core.Path.{◌≡◌, refl, sym, ◌∙◌, ap}
use Prim.Native.Nat.{ℕ}
use mathlib.Core.Bool.{Bool, true, false, ◌&&◌, ◌||◌}
use mathlib.Core.List.{List, [], ◌∷◌}
use lib.Dec.{eqb, leb}
use lib.ListN.{get_or}
use Rattle.wire.specs.Numbers.{byte_at}
use Rattle.wire.specs.Form.{operands_of}
use Rattle.curve.specs.declared.Curve.{Curve}
use Rattle.curve.specs.declared.Interval.{Interval}
use Rattle.curve.specs.Deceleration.{level_of}
use Rattle.curve.specs.Boundary.{target_of, is_above, line_for, is_reached, is_reached_f}
use Rattle.interval.specs.Intervals.{interval_of, rank_of}
use Rattle.curve.specs.Ground.{moved_by}
use Rattle.interval.specs.Judging.{judged_of, noted_at}
use Rattle.rules.specs.Numbers.{is_accepted, is_code, is_state, code_of, state_of}
use Rattle.rules.specs.Operands.{code_byte, reading_of, curve_of}
use Rattle.curve.specs.Free.{free_curve}
use Rattle.rules.specs.Places.{passed_track, moved_track}
use Rattle.rules.specs.Speeds.{braking_of}
use Rattle.rules.specs.Odometer.{kept_of, moves, measures, notes}
use Rattle.rules.specs.Commands.{stopped, carried_out}
use Rattle.rules.specs.Runs.{Sent, answer_to, state_after, state_at_end, none_accepted, freshens}
use Rattle.rules.specs.History.{is_in, is_supervised, curve_at, interval_in}
use Rattle.rules.specs.Ground.{names_curve}
use Rattle.rules.specs.Written.{PastIsNoted, PastStays}
use Rattle.rules.specs.Braking.{reading_in, measured_at}
use Rattle.rules.specs.declared.Code.{Code}
use Rattle.rules.specs.declared.State.{State}
use Rattle.rules.specs.declared.Reading.{Reading}
use Rattle.rules.specs.declared.Stm.{Stm}
use Rattle.rules.proofs.Answers.{after_other}
use Rattle.rules.proofs.Tests.{impossible, neither}
use Rattle.rules.proofs.After.{track_after, track_in, reported_track, track_entered, train_measured, track_measured, kept_measured}
use Rattle.rules.proofs.Ground.{noted_in, noted_at_lem, moved_at, given_same, ended_same, spared_first, leaves_curve, one_lost}

-- ---- at a report in DA

-- the past is not asked for an interval
pub interval_of_rest : (curve : Curve) (past : Interval) (stm : Stm) → interval_in stm (noted_at curve past) ≡ interval_in stm curve
unfolding interval_of is_reached is_reached_f is_above line_for target_of
interval_of_rest curve past stm = refl

module _ (stm : Stm) (x : Sent) (place : ℕ) (e : is_accepted (answer_to stm x) ≡ true)
    (u : is_supervised stm x.command ≡ true) (held : (curve_at place stm).held ≡ true) where
  abbrev after : Stm
  after = state_after stm x

  abbrev moved : Curve
  moved = moved_by (curve_at place stm) (reading_in x.command).moved

  pub curve_after : curve_at place after ≡ noted_in after.train after.kept moved
  unfolding measured_at notes measures moves moved_track
  curve_after =
      let at = moved_at stm place held (reading_in x.command).moved in
      rw (track_measured stm x e u, train_measured stm x e u, kept_measured stm x e u)
      (noted_at_lem stm.train (kept_of (reading_in x.command)) (moved_track stm.train.length (reading_in x.command).moved stm.track)
      place (rw at held) ∙ ap (noted_in stm.train (kept_of (reading_in x.command))) at)

  past_noted : (curve_at place after).past
      ≡ ((curve_at place stm).past || leb (rank_of Interval.B) (rank_of (interval_in after (curve_at place after))))
  unfolding judged_of braking_of level_of
  past_noted =
      ap (λ curve. curve.past) curve_after
      ∙ ap (λ interval. (curve_at place stm).past || leb (rank_of Interval.B) (rank_of interval))
      (sym (ap (interval_in after) curve_after ∙ interval_of_rest moved (interval_in after moved) after))

pub past_is_noted : PastIsNoted
past_is_noted stm x place e u held = past_noted stm x place e u held

-- ---- at any other command

module _ (id place : ℕ) (stm : Stm) (held : (curve_at place stm).held ≡ true) (same : (curve_at place stm).id ≡ id) where
  report_past : (state : State) (r : Reading) → is_state State.DA state ≡ false
      → (get_or (track_in r stm state).curves place free_curve).past ≡ (curve_at place stm).past
  unfolding moved_track
  report_past State.DE r d = refl
  report_past State.CS r d = refl
  report_past State.HS r d = ap (λ curve. curve.past) (moved_at stm place held r.moved)
  report_past State.DA r d = impossible (sym d)
  report_past State.FA r d = refl

  command_past : (code : Code) (s : List ℕ)
      → (is_code Code.Start code || is_code Code.ChangeState code && is_state State.CS (state_of (byte_at s 0))) ≡ false
      → ((is_code Code.NewCurve code || is_code Code.EndCurve code) && eqb (byte_at s 0) id) ≡ false
      → (is_code Code.Odometer code && is_in State.DA stm) ≡ false
      → (curve_at place (carried_out code s stm)).past ≡ (curve_at place stm).past
  unfolding stopped passed_track curve_of
  command_past Code.Start s f n u = impossible (sym f)
  command_past Code.ChangeState s f n u = rw (track_entered (state_of (byte_at s 0)) stm f)
  command_past Code.Odometer s f n u =
      rw (reported_track (reading_of s) stm stm.control.state) (report_past stm.control.state (reading_of s) u)
  command_past Code.NewCurve s f n u = ap (λ curve. curve.past) (given_same id place stm held same (curve_of s) n)
  command_past Code.EndCurve s f n u = ap (λ curve. curve.past) (ended_same id place stm held same (byte_at s 0) n)
  command_past Code.NewSection s f n u = refl
  command_past Code.EndSection s f n u = refl
  command_past Code.StopPassed s f n u = refl
  command_past Code.Proceed s f n u = refl
  command_past Code.BaliseError s f n u = refl
  command_past Code.TestBrakes s f n u = refl
  command_past Code.AreaEvent s f n u = refl
  command_past Code.NewRecord s f n u = refl
  command_past Code.SignalPassed s f n u = refl
  command_past Code.EndRecord s f n u = refl

module _ (id place : ℕ) where
  one_past : (stm : Stm) (x : Sent) (accepted : Bool) → is_accepted (answer_to stm x) ≡ accepted
      → (curve_at place stm).held ≡ true → (curve_at place stm).id ≡ id
      → (accepted ≡ true → leaves_curve id stm x.command ≡ false) → (accepted ≡ true → is_supervised stm x.command ≡ false)
      → (curve_at place (state_after stm x)).past ≡ (curve_at place stm).past
  one_past stm x true e held same n u =
      let t = neither (freshens x.command) (names_curve id x.command) (n refl) in
      rw (track_after stm x e)
      (command_past id place stm held same (code_of (code_byte x.command)) (operands_of x.command) t.0 t.1 (u refl))
  one_past stm x false e held same n u = rw (after_other stm x e)

  over_past : (stm : Stm) (xs : List Sent) → (curve_at place stm).held ≡ true → (curve_at place stm).id ≡ id
      → none_accepted (leaves_curve id) stm xs ≡ true → none_accepted is_supervised stm xs ≡ true
      → (curve_at place (state_at_end stm xs)).past ≡ (curve_at place stm).past
  unfolding state_at_end
  over_past stm [] held same n u = refl
  over_past stm (x ∷ xs) held same n u =
      let accepted = is_accepted (answer_to stm x) in
      let t = spared_first (leaves_curve id) stm x xs n in
      let v = spared_first is_supervised stm x xs u in
      let lost = one_lost id place stm x accepted refl held same t.0 in
      over_past (state_after stm x) xs lost.held (lost.id ∙ same) t.1 v.1
      ∙ one_past stm x accepted refl held same t.0 v.0

pub past_stays : PastStays
past_stays stm xs place held n u = over_past (curve_at place stm).id place stm xs held refl n u
