-- Free places through a list of commands. Assumes nothing.
use mathlib.Core.Path.{◌≡◌, refl, sym, ◌∙◌, ap}
use Prim.Native.Nat.{ℕ}
use mathlib.Core.Bool.{Bool, true, false, not, ◌&&◌, ◌||◌}
use mathlib.Core.List.{List, [], ◌∷◌, map}
use lib.Dec.{eqb}
use lib.ListN.{get_or}
use Rattle.wire.specs.Numbers.{byte_at}
use Rattle.wire.specs.Form.{operands_of}
use Rattle.places.specs.Places.{moved_here, moved_all}
use Rattle.places.proofs.Held.{free_moved, free_noted}
use Rattle.areas.proofs.Claims.{deletes_told}
use Rattle.rules.specs.Numbers.{is_accepted, is_code, is_state, code_of, state_of}
use Rattle.rules.specs.Operands.{code_byte, reading_of}
use Rattle.curve.specs.Free.{free_curve}
use Rattle.rules.specs.Places.{free_section, ended_curve, ending_section, ended_section, moved_section, passed_track, moved_track}
use Rattle.rules.specs.Speeds.{braking_of}
use Rattle.rules.specs.Odometer.{kept_of, noted_track}
use Rattle.rules.specs.Commands.{stopped, carried_out}
use Rattle.rules.specs.Runs.{Sent, answer_to, state_after, state_at_end, none_accepted, is_of, freshens}
use Rattle.rules.specs.History.{area_is, enters_by_gmd, curve_at, section_at}
use Rattle.rules.specs.Ground.{FreePlacesStay}
use Rattle.rules.specs.declared.Code.{Code}
use Rattle.rules.specs.declared.State.{State}
use Rattle.rules.specs.declared.Reading.{Reading}
use Rattle.rules.specs.declared.Stm.{Stm}
use Rattle.rules.proofs.Answers.{after_other}
use Rattle.rules.proofs.Tests.{impossible, neither}
use Rattle.rules.proofs.AtPlaces.{changed_any, others_stay}
use Rattle.rules.proofs.After.{track_after, track_in, reported_track, track_entered}
use Rattle.rules.proofs.Ground.{noted_place, noted_curves, spared_first}

-- ---- a free place of curves, after one command

module _ (stm : Stm) (place : ℕ) (free : (curve_at place stm).held ≡ false) where
  moved_free : (moved : ℕ) → get_or (moved_all moved stm.track.curves) place free_curve ≡ curve_at place stm
  moved_free moved =
      changed_any (λ curve. curve.held) free_curve refl (moved_here moved) refl stm.track.curves place
      ∙ free_moved moved (curve_at place stm) free

  report_free : (state : State) (r : Reading) → get_or (track_in r stm state).curves place free_curve ≡ curve_at place stm
  unfolding moved_track
  report_free State.DE r = refl
  report_free State.CS r = refl
  report_free State.HS r = moved_free r.moved
  report_free State.DA r =
      let moved = moved_all r.moved stm.track.curves in
      let at = moved_free r.moved in
      let noted = noted_place stm.train (kept_of r) in
      rw (noted_curves stm.train (kept_of r) (moved_track stm.train.length r.moved stm.track))
      (changed_any (λ curve. curve.held) free_curve refl noted refl moved place
      ∙ ap noted at ∙ free_noted (braking_of stm.train r.halka) r.speed (curve_at place stm) free)
  report_free State.FA r = refl

  ended_free : (id : ℕ) → get_or (ended_curve id stm.track.curves) place free_curve ≡ curve_at place stm
  unfolding ended_curve
  ended_free id =
      others_stay (λ curve. curve.held) (λ curve. curve.id) free_curve refl id (λ old. free_curve) stm.track.curves place (rw free)

  command_free : (code : Code) (s : List ℕ)
      → (is_code Code.Start code || is_code Code.ChangeState code && is_state State.CS (state_of (byte_at s 0))) ≡ false
      → is_code Code.NewCurve code ≡ false
      → curve_at place (carried_out code s stm) ≡ curve_at place stm
  unfolding stopped passed_track
  command_free Code.Start s f n = impossible (sym f)
  command_free Code.ChangeState s f n = rw (track_entered (state_of (byte_at s 0)) stm f)
  command_free Code.Odometer s f n =
      rw (reported_track (reading_of s) stm stm.control.state) (report_free stm.control.state (reading_of s))
  command_free Code.NewCurve s f n = impossible (sym n)
  command_free Code.EndCurve s f n = ended_free (byte_at s 0)
  command_free Code.NewSection s f n = refl
  command_free Code.EndSection s f n = refl
  command_free Code.StopPassed s f n = refl
  command_free Code.Proceed s f n = refl
  command_free Code.BaliseError s f n = refl
  command_free Code.TestBrakes s f n = refl
  command_free Code.AreaEvent s f n = refl
  command_free Code.NewRecord s f n = refl
  command_free Code.SignalPassed s f n = refl
  command_free Code.EndRecord s f n = refl

-- ---- a free place of sections, after one command

module _ (stm : Stm) (place : ℕ) (free : (section_at place stm).held ≡ false) where
  moved_unheld : (moved : ℕ)
      → get_or (map (moved_section stm.train.length moved) stm.track.sections) place free_section ≡ section_at place stm
  unfolding moved_section
  moved_unheld moved =
      changed_any (λ section. section.held) free_section refl (moved_section stm.train.length moved) refl stm.track.sections place
      ∙ rw free

  report_unheld : (state : State) (r : Reading) → get_or (track_in r stm state).sections place free_section ≡ section_at place stm
  unfolding moved_track noted_track
  report_unheld State.DE r = refl
  report_unheld State.CS r = refl
  report_unheld State.HS r = moved_unheld r.moved
  report_unheld State.DA r = moved_unheld r.moved
  report_unheld State.FA r = refl

  ended_unheld : (id : ℕ) → get_or (ended_section id stm.track.sections) place free_section ≡ section_at place stm
  unfolding ended_section
  ended_unheld id =
      others_stay (λ section. section.held) (λ section. section.id) free_section refl id (λ old. ending_section old 0)
      stm.track.sections place (rw free)

  command_unheld : (code : Code) (s : List ℕ)
      → (is_code Code.Start code || is_code Code.ChangeState code && is_state State.CS (state_of (byte_at s 0))) ≡ false
      → is_code Code.NewSection code ≡ false
      → (is_code Code.AreaEvent code && eqb (byte_at s 0) 1 && not (eqb (area_is stm) 4)) ≡ false
      → section_at place (carried_out code s stm) ≡ section_at place stm
  unfolding stopped passed_track
  command_unheld Code.Start s f n g = impossible (sym f)
  command_unheld Code.ChangeState s f n g = rw (track_entered (state_of (byte_at s 0)) stm f)
  command_unheld Code.Odometer s f n g =
      rw (reported_track (reading_of s) stm stm.control.state) (report_unheld stm.control.state (reading_of s))
  command_unheld Code.NewCurve s f n g = refl
  command_unheld Code.EndCurve s f n g = refl
  command_unheld Code.NewSection s f n g = impossible (sym n)
  command_unheld Code.EndSection s f n g = ended_unheld (byte_at s 0)
  command_unheld Code.StopPassed s f n g = refl
  command_unheld Code.Proceed s f n g = refl
  command_unheld Code.BaliseError s f n g = refl
  command_unheld Code.TestBrakes s f n g = refl
  command_unheld Code.AreaEvent s f n g = rw (deletes_told (byte_at s 0) stm.track.stay ∙ g)
  command_unheld Code.NewRecord s f n g = refl
  command_unheld Code.SignalPassed s f n g = refl
  command_unheld Code.EndRecord s f n g = refl

-- ---- any list

-- a place that one command leaves as it is, through every list without the commands that a test names
module _ {A : Type 0} (at : Stm → A) (held : A → Bool) (test : Stm → List ℕ → Bool)
    (one : (stm : Stm) (x : Sent) → is_accepted (answer_to stm x) ≡ true → test stm x.command ≡ false
    → held (at stm) ≡ false → at (state_after stm x) ≡ at stm) where
  step : (stm : Stm) (x : Sent) (accepted : Bool) → is_accepted (answer_to stm x) ≡ accepted
      → (accepted ≡ true → test stm x.command ≡ false) → held (at stm) ≡ false → at (state_after stm x) ≡ at stm
  step stm x true e n free = one stm x e (n refl) free
  step stm x false e n free = rw (after_other stm x e)

  pub over : (stm : Stm) (xs : List Sent) → held (at stm) ≡ false → none_accepted test stm xs ≡ true → at (state_at_end stm xs) ≡ at stm
  unfolding state_at_end
  over stm [] free n = refl
  over stm (x ∷ xs) free n =
      let t = spared_first test stm x xs n in
      let first = step stm x (is_accepted (answer_to stm x)) refl t.0 free in
      over (state_after stm x) xs (ap held first ∙ free) t.1 ∙ first

pub free_places_stay : FreePlacesStay
free_places_stay stm xs place = (
  over (curve_at place) (λ curve. curve.held) (λ before command. freshens command || is_of Code.NewCurve command) curve_one stm xs,
  over (section_at place) (λ section. section.held)
      (λ before command. freshens command || is_of Code.NewSection command || enters_by_gmd before command) section_one stm xs,
)
  where
    curve_one : (stm : Stm) (x : Sent) → is_accepted (answer_to stm x) ≡ true
        → (freshens x.command || is_of Code.NewCurve x.command) ≡ false
        → (curve_at place stm).held ≡ false → curve_at place (state_after stm x) ≡ curve_at place stm
    curve_one stm x e n free =
        let t = neither (freshens x.command) (is_of Code.NewCurve x.command) n in
        rw (track_after stm x e)
        (command_free stm place free (code_of (code_byte x.command)) (operands_of x.command) t.0 t.1)

    section_one : (stm : Stm) (x : Sent) → is_accepted (answer_to stm x) ≡ true
        → (freshens x.command || is_of Code.NewSection x.command || enters_by_gmd stm x.command) ≡ false
        → (section_at place stm).held ≡ false → section_at place (state_after stm x) ≡ section_at place stm
    section_one stm x e n free =
        let t = neither (freshens x.command || is_of Code.NewSection x.command) (enters_by_gmd stm x.command) n in
        let u = neither (freshens x.command) (is_of Code.NewSection x.command) t.0 in
        rw (track_after stm x e)
        (command_unheld stm place free (code_of (code_byte x.command)) (operands_of x.command) u.0 u.1 t.1)
