-- Ground over a list of commands: what a curve loses and an ending section gains. Assumes nothing.
use mathlib.Core.Path.{◌≡◌, refl, sym, ◌∙◌, ap, subst}
use Prim.Native.Nat.{ℕ, ◌+◌}
use native.Mathlib.Omega.{arith}
use native.Mathlib.Nat.{zero-add, sub-zero}
use mathlib.Core.Bool.{Bool, true, false, cond, not, ◌&&◌, ◌||◌}
use mathlib.Core.List.{List, [], ◌∷◌, map}
use lib.Dec.{eqb}
use lib.ListN.{get_or}
use borrow.Author.Tests.{not-true}
use Rattle.curve.specs.declared.Curve.{Curve}
use Rattle.curve.specs.Ground.{moved_by}
use Rattle.interval.specs.Judging.{judged_of, noted_at}
use Rattle.places.specs.Places.{moved_here, moved_all, judged_here}
use Rattle.places.proofs.Held.{held_moved, held_judged}
use Rattle.wire.specs.Numbers.{byte_at}
use Rattle.wire.specs.Form.{operands_of}
use Rattle.rules.specs.Numbers.{is_accepted, is_code, is_state, code_of, state_of}
use Rattle.rules.specs.Operands.{code_byte, two_at, reading_of, curve_of}
use Rattle.curve.specs.Free.{free_curve}
use Rattle.rules.specs.Places.{with_past, given_curve, ended_curve, passed_track, moved_track}
use Rattle.rules.specs.Speeds.{braking_of, judged_now}
use Rattle.rules.specs.Odometer.{kept_of, noted_track}
use Rattle.rules.specs.Commands.{stopped, carried_out}
use Rattle.rules.specs.Runs.{Sent, answer_to, state_after, state_at_end, none_accepted, freshens}
use Rattle.rules.specs.History.{is_moving, moved_of, collected, sum, ground_over, curve_at}
use Rattle.rules.specs.Ground.{names_curve, HasLost, CurveLosesGround}
use Rattle.rules.specs.Held.{holds_at}
use Rattle.rules.specs.declared.Code.{Code}
use Rattle.rules.specs.declared.State.{State}
use Rattle.rules.specs.declared.Train.{Train}
use Rattle.rules.specs.declared.Track.{Track}
use Rattle.rules.specs.declared.Kept.{Kept}
use Rattle.rules.specs.declared.Reading.{Reading}
use Rattle.rules.specs.declared.Stm.{Stm}
use Rattle.rules.proofs.Answers.{after_other}
use Rattle.rules.proofs.Tests.{impossible, both, neither, second_fails, zip_self}
use Rattle.rules.proofs.AtPlaces.{changed_at, elsewhere, others_stay, given_stays}
use Rattle.rules.proofs.After.{track_after, track_in, reported_track, track_entered}

-- ---- the ground of a list

ground_here : (t : Bool) (n : ℕ) (rest : List ℕ) → sum (cond t (n ∷ rest) rest) ≡ cond t n 0 + sum rest
ground_here true n rest = refl
ground_here false n rest = sym (zero-add _)

pub ground_step : (stm : Stm) (x : Sent) (xs : List Sent)
    → ground_over stm (x ∷ xs)
    ≡ cond (is_accepted (answer_to stm x) && is_moving stm x.command) (moved_of x.command) 0 + ground_over (state_after stm x) xs
unfolding collected
ground_step stm x xs =
    ground_here (is_accepted (answer_to stm x) && is_moving stm x.command) (moved_of x.command)
    (collected is_moving (λ before y. moved_of y.command) (state_after stm x) xs)

-- ---- one curve

module _ (curve : Curve) (held : curve.held ≡ true) where
  pub lost_nothing : HasLost 0 curve curve
  lost_nothing =
      record { held = held; id = refl; kind = refl; speed = refl; gradient = refl; distance = sym (sub-zero curve.distance) }

  pub lost_moved : (moved : ℕ) → HasLost moved curve (moved_by curve moved)
  lost_moved moved = record { held = held; id = refl; kind = refl; speed = refl; gradient = refl; distance = refl }

pub lost_both : {a b c : Curve} {m n : ℕ} → HasLost m a b → HasLost n b c → HasLost (m + n) a c
lost_both {a} {b} {c} {m} {n} p q = record {
  held = q.held;
  id = q.id ∙ p.id;
  kind = q.kind ∙ p.kind;
  speed = q.speed ∙ p.speed;
  gradient = q.gradient ∙ p.gradient;
  distance = omega (arith, p.distance, q.distance);
}

-- ---- a curve at its place, after one command

-- a curve with its past noted, at its place
abbrev pub noted_in : Train → Kept → Curve → Curve
noted_in train kept curve = noted_at curve (judged_of (braking_of train kept.halka) kept.speed curve).interval

-- and a place with what it holds
abbrev pub noted_place : Train → Kept → Curve → Curve
noted_place train kept curve = noted_at curve (judged_here (braking_of train kept.halka) kept.speed curve).interval

pub noted_curves : (train : Train) (kept : Kept) (track : Track)
    → (noted_track train kept track).curves ≡ map (noted_place train kept) track.curves
unfolding noted_track judged_now
noted_curves train kept track =
    zip_self (λ curve j. noted_at curve j.interval) (judged_here (braking_of train kept.halka) kept.speed) track.curves

pub noted_at_lem : (train : Train) (kept : Kept) (track : Track) (place : ℕ) → (get_or track.curves place free_curve).held ≡ true
    → get_or (noted_track train kept track).curves place free_curve ≡ noted_in train kept (get_or track.curves place free_curve)
noted_at_lem train kept track place held =
    let at = get_or track.curves place free_curve in
    let said = held_judged (braking_of train kept.halka) kept.speed at held in
    rw (noted_curves train kept track)
    (changed_at (λ curve. curve.held) free_curve refl (noted_place train kept) track.curves place held ∙ ap (λ j. noted_at at j.interval) said)

module _ (stm : Stm) (place : ℕ) (held : (curve_at place stm).held ≡ true) where
  pub moved_at : (moved : ℕ) → get_or (moved_all moved stm.track.curves) place free_curve ≡ moved_by (curve_at place stm) moved
  moved_at moved =
      changed_at (λ curve. curve.held) free_curve refl (moved_here moved) stm.track.curves place held
      ∙ held_moved moved (curve_at place stm) held

  report_lost : (state : State) (r : Reading)
      → HasLost (cond (is_state State.HS state || is_state State.DA state) r.moved 0) (curve_at place stm)
      (get_or (track_in r stm state).curves place free_curve)
  unfolding moved_track
  report_lost State.DE r = lost_nothing (curve_at place stm) held
  report_lost State.CS r = lost_nothing (curve_at place stm) held
  report_lost State.HS r = rw (moved_at r.moved) (lost_moved (curve_at place stm) held r.moved)
  report_lost State.DA r =
      let moved = moved_track stm.train.length r.moved stm.track in
      let at = moved_at r.moved in
      rw (noted_at_lem stm.train (kept_of r) moved place (rw at held), at)
      (record { held = held; id = refl; kind = refl; speed = refl; gradient = refl; distance = refl })
  report_lost State.FA r = lost_nothing (curve_at place stm) held

-- ---- a curve that no command names

-- what its place holds
abbrev is_held : Curve → Bool
is_held curve = curve.held

abbrev id_of : Curve → ℕ
id_of curve = curve.id

module _ (id place : ℕ) (stm : Stm) (held : (curve_at place stm).held ≡ true) (same : (curve_at place stm).id ≡ id) where
  other_id : (n : ℕ) → eqb n id ≡ false → holds_at is_held id_of n (curve_at place stm) ≡ false
  other_id n e = elsewhere is_held id_of free_curve refl n (curve_at place stm) (rw same e)

  lost_same : (curve : Curve) → curve ≡ curve_at place stm → HasLost 0 (curve_at place stm) curve
  lost_same curve e = subst (HasLost 0 (curve_at place stm)) (sym e) (lost_nothing (curve_at place stm) held)

  pub given_same : (new : Curve) → eqb new.id id ≡ false
      → get_or (given_curve new stm.track.curves) place free_curve ≡ curve_at place stm
  unfolding given_curve
  given_same new e =
      given_stays is_held id_of free_curve refl new (λ old. with_past new old.past) stm.track.curves place held (other_id new.id e)

  pub ended_same : (n : ℕ) → eqb n id ≡ false → get_or (ended_curve n stm.track.curves) place free_curve ≡ curve_at place stm
  unfolding ended_curve
  ended_same n e = others_stay is_held id_of free_curve refl n (λ old. free_curve) stm.track.curves place (other_id n e)

  -- the ground that a command takes
  abbrev takes : Code → List ℕ → ℕ
  takes code s =
      cond (is_code Code.Odometer code && (is_state State.HS stm.control.state || is_state State.DA stm.control.state))
      (two_at s 2) 0

  command_lost : (code : Code) (s : List ℕ)
      → (is_code Code.Start code || is_code Code.ChangeState code && is_state State.CS (state_of (byte_at s 0))) ≡ false
      → ((is_code Code.NewCurve code || is_code Code.EndCurve code) && eqb (byte_at s 0) id) ≡ false
      → HasLost (takes code s) (curve_at place stm) (curve_at place (carried_out code s stm))
  unfolding stopped passed_track curve_of reading_of
  command_lost Code.Start s f n = impossible (sym f)
  command_lost Code.ChangeState s f n = rw (track_entered (state_of (byte_at s 0)) stm f) (lost_nothing (curve_at place stm) held)
  command_lost Code.Odometer s f n =
      rw (reported_track (reading_of s) stm stm.control.state) (report_lost stm place held stm.control.state (reading_of s))
  command_lost Code.NewCurve s f n = lost_same _ (given_same (curve_of s) n)
  command_lost Code.EndCurve s f n = lost_same _ (ended_same (byte_at s 0) n)
  command_lost Code.NewSection s f n = lost_nothing (curve_at place stm) held
  command_lost Code.EndSection s f n = lost_nothing (curve_at place stm) held
  command_lost Code.StopPassed s f n = lost_nothing (curve_at place stm) held
  command_lost Code.Proceed s f n = lost_nothing (curve_at place stm) held
  command_lost Code.BaliseError s f n = lost_nothing (curve_at place stm) held
  command_lost Code.TestBrakes s f n = lost_nothing (curve_at place stm) held
  command_lost Code.AreaEvent s f n = lost_nothing (curve_at place stm) held
  command_lost Code.NewRecord s f n = lost_nothing (curve_at place stm) held
  command_lost Code.SignalPassed s f n = lost_nothing (curve_at place stm) held
  command_lost Code.EndRecord s f n = lost_nothing (curve_at place stm) held

-- ---- any list

-- nothing that a list leaves out is accepted, its first command and the rest
pub spared_first : (test : Stm → List ℕ → Bool) (stm : Stm) (x : Sent) (xs : List Sent) → none_accepted test stm (x ∷ xs) ≡ true
    → (is_accepted (answer_to stm x) ≡ true → test stm x.command ≡ false) × (none_accepted test (state_after stm x) xs ≡ true)
unfolding none_accepted
spared_first test stm x xs n =
    let t = both (not (is_accepted (answer_to stm x) && test stm x.command)) (none_accepted test (state_after stm x) xs) n in
    (λ e. second_fails (is_accepted (answer_to stm x)) (test stm x.command) e (not-true _ t.0), t.1)

-- a command that leaves a curve alone
abbrev pub leaves_curve : ℕ → Stm → List ℕ → Bool
leaves_curve id before command = freshens command || names_curve id command

module _ (id place : ℕ) where
  pub one_lost : (stm : Stm) (x : Sent) (accepted : Bool) → is_accepted (answer_to stm x) ≡ accepted
      → (curve_at place stm).held ≡ true → (curve_at place stm).id ≡ id → (accepted ≡ true → leaves_curve id stm x.command ≡ false)
      → HasLost (cond (accepted && is_moving stm x.command) (moved_of x.command) 0) (curve_at place stm)
      (curve_at place (state_after stm x))
  one_lost stm x true e held same n =
      let t = neither (freshens x.command) (names_curve id x.command) (n refl) in
      rw (track_after stm x e)
      (command_lost id place stm held same (code_of (code_byte x.command)) (operands_of x.command) t.0 t.1)
  one_lost stm x false e held same n = rw (after_other stm x e) (lost_nothing (curve_at place stm) held)

  over_lost : (stm : Stm) (xs : List Sent) → (curve_at place stm).held ≡ true → (curve_at place stm).id ≡ id
      → none_accepted (leaves_curve id) stm xs ≡ true
      → HasLost (ground_over stm xs) (curve_at place stm) (curve_at place (state_at_end stm xs))
  unfolding collected state_at_end
  over_lost stm [] held same n = lost_nothing (curve_at place stm) held
  over_lost stm (x ∷ xs) held same n =
      let t = spared_first (leaves_curve id) stm x xs n in
      let first = one_lost stm x (is_accepted (answer_to stm x)) refl held same t.0 in
      let rest = over_lost (state_after stm x) xs first.held (first.id ∙ same) t.1 in
      rw (ground_step stm x xs) (lost_both first rest)

pub curve_loses_ground : CurveLosesGround
curve_loses_ground stm xs place held n = over_lost (curve_at place stm).id place stm xs held refl n
