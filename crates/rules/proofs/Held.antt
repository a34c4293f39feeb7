-- What commands 20 to 23, 30 and 31 do, place by place, and the 40 over a list. Assumes nothing.
use mathlib.Core.Path.{◌≡◌, refl, sym, ◌∙◌, ap, subst}
use Prim.Native.Nat.{ℕ}
use mathlib.Core.Bool.{Bool, true, false, cond, ◌&&◌, ◌||◌, or-false}
use mathlib.Core.Logic.{inl, inr}
use mathlib.Core.List.{List}
use lib.Dec.{eqb}
use lib.ListN.{get_or}
use Rattle.wire.specs.Numbers.{byte_at}
use Rattle.wire.specs.Form.{operands_of}
use Rattle.rules.specs.Numbers.{is_accepted, is_code, is_state, code_of, state_of}
use Rattle.rules.specs.Operands.{code_byte, reading_of, curve_of, section_of}
use Rattle.curve.specs.Free.{free_curve}
use Rattle.rules.specs.Places.{empty_track, fresh_track, cleared_track, passed_track, free_section, holds_curve, holds_section, all_curves_held, all_sections_held, with_past, ending_section, given_curve, given_section, ended_curve, ended_section, moved_track}
use Rattle.rules.specs.Odometer.{noted_track}
use Rattle.rules.specs.Commands.{fresh_with, entered, forty_by, stopped, carried_out}
use Rattle.rules.specs.Refusals.{finds_no_place}
use Rattle.rules.specs.Runs.{Sent, answer_to, state_after, is_of, freshens}
use Rattle.rules.specs.History.{first_operand, passes_stop, curve_at, section_at}
use Rattle.rules.specs.Held.{holds_at, Given, CurveIsGiven, SectionIsGiven, CurveIsEnded, SectionIsEnded, FortyUntilProceed, NoFortyUntilStop}
use Rattle.rules.specs.declared.Code.{Code}
use Rattle.rules.specs.declared.State.{State}
use Rattle.rules.specs.declared.Reading.{Reading}
use Rattle.rules.specs.declared.Stm.{Stm}
use Rattle.rules.proofs.Answers.{passed}
use Rattle.rules.proofs.Tests.{impossible, both, neither, either}
use Rattle.rules.proofs.Told.{code_is}
use Rattle.rules.proofs.Ordering.{done_by}
use Rattle.rules.proofs.Standing.{kept_to_end}
use Rattle.rules.proofs.AtPlaces.{changed_for_lem, given_to_lem}
use Rattle.rules.proofs.After.{track_after, track_in, reported_track, track_entered}

-- ---- the track after a command of this code

pub track_by_lem : (stm : Stm) (x : Sent) (code : Code) → is_accepted (answer_to stm x) ≡ true → is_of code x.command ≡ true
    → (state_after stm x).track ≡ (carried_out code (operands_of x.command) stm).track
track_by_lem stm x code e c =
    track_after stm x e
    ∙ ap (λ is. (carried_out is (operands_of x.command) stm).track) (code_is code (code_of (code_byte x.command)) c)

-- ---- new ones

-- a new id has found a place
curve_room : (stm : Stm) (s : List ℕ) → finds_no_place stm Code.NewCurve s ≡ false
    → holds_curve (byte_at s 0) stm.track.curves ≡ false → all_curves_held stm.track.curves ≡ false
unfolding finds_no_place
curve_room stm s e h = rw (h, or-false (all_curves_held stm.track.curves)) at e

section_room : (stm : Stm) (s : List ℕ) → finds_no_place stm Code.NewSection s ≡ false
    → holds_section (byte_at s 0) stm.track.sections ≡ false → all_sections_held stm.track.sections ≡ false
unfolding finds_no_place
section_room stm s e h = rw h at e

place_found : (stm : Stm) (x : Sent) (code : Code) → is_accepted (answer_to stm x) ≡ true → is_of code x.command ≡ true
    → finds_no_place stm code (operands_of x.command) ≡ false
place_found stm x code e c =
    ap (λ is. finds_no_place stm is (operands_of x.command)) (sym (code_is code (code_of (code_byte x.command)) c))
    ∙ (passed stm x e).1.place

pub curve_is_given : CurveIsGiven
unfolding given_curve curve_of
curve_is_given stm x e c =
    let s = operands_of x.command in
    let new = curve_of s in
    subst (λ track. Given (λ curve. curve.held) (λ curve. curve.id) new (λ old. with_past new old.past)
    (λ place. curve_at place stm) (λ place. get_or track.curves place free_curve))
    (sym (track_by_lem stm x Code.NewCurve e c))
    (given_to_lem (λ curve. curve.held) (λ curve. curve.id) free_curve refl new (λ old. with_past new old.past) stm.track.curves
    (curve_room stm s (place_found stm x Code.NewCurve e c)))

pub section_is_given : SectionIsGiven
unfolding given_section section_of
section_is_given stm x e c =
    let s = operands_of x.command in
    let new = section_of s in
    subst (λ track. Given (λ section. section.held) (λ section. section.id) new (λ old. new)
    (λ place. section_at place stm) (λ place. get_or track.sections place free_section))
    (sym (track_by_lem stm x Code.NewSection e c))
    (given_to_lem (λ section. section.held) (λ section. section.id) free_section refl new (λ old. new) stm.track.sections
    (section_room stm s (place_found stm x Code.NewSection e c)))

-- ---- ended ones

curve_after_end : (stm : Stm) (x : Sent) (place : ℕ) → is_accepted (answer_to stm x) ≡ true → is_of Code.EndCurve x.command ≡ true
    → curve_at place (state_after stm x)
    ≡ cond (holds_at (λ curve. curve.held) (λ curve. curve.id) (first_operand x.command) (curve_at place stm)) free_curve (curve_at place stm)
unfolding ended_curve
curve_after_end stm x place e c =
    ap (λ track. get_or track.curves place free_curve) (track_by_lem stm x Code.EndCurve e c)
    ∙ changed_for_lem (λ curve. curve.held) (λ curve. curve.id) free_curve refl (first_operand x.command) (λ old. free_curve)
    stm.track.curves place

pub curve_is_ended : CurveIsEnded
curve_is_ended stm x place e c =
    (λ h. rw (curve_after_end stm x place e c, h), λ h. rw (curve_after_end stm x place e c, h))

section_after_end : (stm : Stm) (x : Sent) (place : ℕ) → is_accepted (answer_to stm x) ≡ true → is_of Code.EndSection x.command ≡ true
    → section_at place (state_after stm x)
    ≡ cond (holds_at (λ section. section.held) (λ section. section.id) (first_operand x.command) (section_at place stm))
    (ending_section (section_at place stm) 0) (section_at place stm)
unfolding ended_section
section_after_end stm x place e c =
    ap (λ track. get_or track.sections place free_section) (track_by_lem stm x Code.EndSection e c)
    ∙ changed_for_lem (λ section. section.held) (λ section. section.id) free_section refl (first_operand x.command)
    (λ old. ending_section old 0) stm.track.sections place

pub section_is_ended : SectionIsEnded
section_is_ended stm x place e c = (
  λ h. rw (section_after_end stm x place e c, h)
      (record {
        held = (both (section_at place stm).held (eqb (section_at place stm).id (first_operand x.command)) h).0;
        id = refl;
        speed = refl;
        ending = refl;
        covered = refl;
      }),
  λ h. rw (section_after_end stm x place e c, h),
)

-- ---- the 40

report_forty : (stm : Stm) (r : Reading) (state : State) → (track_in r stm state).forty ≡ stm.track.forty
unfolding moved_track noted_track
report_forty stm r State.DE = refl
report_forty stm r State.CS = refl
report_forty stm r State.HS = refl
report_forty stm r State.DA = refl
report_forty stm r State.FA = refl

-- a start and CS take it away, as a proceed signal does
entered_forty : (state : State) (stm : Stm) → is_state State.CS state ≡ true → (entered state stm).track.forty ≡ false
unfolding cleared_track empty_track
entered_forty State.DE stm e = impossible e
entered_forty State.CS stm e = refl
entered_forty State.HS stm e = impossible e
entered_forty State.DA stm e = impossible e
entered_forty State.FA stm e = impossible e

-- the 40 after a command that is neither a start nor CS
forty_after : Code → List ℕ → Bool → Bool
forty_after Code.Start s forty = forty
forty_after Code.ChangeState s forty = forty
forty_after Code.Odometer s forty = forty
forty_after Code.NewCurve s forty = forty
forty_after Code.EndCurve s forty = forty
forty_after Code.NewSection s forty = forty
forty_after Code.EndSection s forty = forty
forty_after Code.StopPassed s forty = forty_by (byte_at s 0) forty
forty_after Code.Proceed s forty = false
forty_after Code.BaliseError s forty = forty
forty_after Code.TestBrakes s forty = forty
forty_after Code.AreaEvent s forty = forty
forty_after Code.NewRecord s forty = forty
forty_after Code.SignalPassed s forty = forty
forty_after Code.EndRecord s forty = forty

forty_by_lem : (code : Code) (s : List ℕ) (stm : Stm)
    → (is_code Code.Start code || is_code Code.ChangeState code && is_state State.CS (state_of (byte_at s 0))) ≡ false
    → (carried_out code s stm).track.forty ≡ forty_after code s stm.track.forty
unfolding stopped passed_track forty_after
forty_by_lem Code.Start s stm f = impossible (sym f)
forty_by_lem Code.ChangeState s stm f = ap (λ track. track.forty) (track_entered (state_of (byte_at s 0)) stm f)
forty_by_lem Code.Odometer s stm f =
    ap (λ track. track.forty) (reported_track (reading_of s) stm stm.control.state)
    ∙ report_forty stm (reading_of s) stm.control.state
forty_by_lem Code.NewCurve s stm f = refl
forty_by_lem Code.EndCurve s stm f = refl
forty_by_lem Code.NewSection s stm f = refl
forty_by_lem Code.EndSection s stm f = refl
forty_by_lem Code.StopPassed s stm f = refl
forty_by_lem Code.Proceed s stm f = refl
forty_by_lem Code.BaliseError s stm f = refl
forty_by_lem Code.TestBrakes s stm f = refl
forty_by_lem Code.AreaEvent s stm f = refl
forty_by_lem Code.NewRecord s stm f = refl
forty_by_lem Code.SignalPassed s stm f = refl
forty_by_lem Code.EndRecord s stm f = refl

forty_fresh : (code : Code) (s : List ℕ) (stm : Stm)
    → (is_code Code.Start code || is_code Code.ChangeState code && is_state State.CS (state_of (byte_at s 0))) ≡ true
    → (carried_out code s stm).track.forty ≡ false
unfolding fresh_with fresh_track empty_track
forty_fresh Code.Start s stm f = refl
forty_fresh Code.ChangeState s stm f = entered_forty (state_of (byte_at s 0)) stm f
forty_fresh Code.Odometer s stm f = impossible f
forty_fresh Code.NewCurve s stm f = impossible f
forty_fresh Code.EndCurve s stm f = impossible f
forty_fresh Code.NewSection s stm f = impossible f
forty_fresh Code.EndSection s stm f = impossible f
forty_fresh Code.StopPassed s stm f = impossible f
forty_fresh Code.Proceed s stm f = impossible f
forty_fresh Code.BaliseError s stm f = impossible f
forty_fresh Code.TestBrakes s stm f = impossible f
forty_fresh Code.AreaEvent s stm f = impossible f
forty_fresh Code.NewRecord s stm f = impossible f
forty_fresh Code.SignalPassed s stm f = impossible f
forty_fresh Code.EndRecord s stm f = impossible f

forty_after_lem : (stm : Stm) (x : Sent) → is_accepted (answer_to stm x) ≡ true
    → (state_after stm x).track.forty ≡ (done_by x.command stm).track.forty
forty_after_lem stm x e = ap (λ track. track.forty) (track_after stm x e)

-- it stays until a proceed signal
forty_on : (code : Code) (s : List ℕ) → is_code Code.Proceed code ≡ false → forty_after code s true ≡ true
unfolding forty_after
forty_on Code.Start s e = refl
forty_on Code.ChangeState s e = refl
forty_on Code.Odometer s e = refl
forty_on Code.NewCurve s e = refl
forty_on Code.EndCurve s e = refl
forty_on Code.NewSection s e = refl
forty_on Code.EndSection s e = refl
forty_on Code.StopPassed s e = go (eqb (byte_at s 0) 1)
  where
    go : (t : Bool) → cond t true true ≡ true
    go true = refl
    go false = refl
forty_on Code.Proceed s e = impossible (sym e)
forty_on Code.BaliseError s e = refl
forty_on Code.TestBrakes s e = refl
forty_on Code.AreaEvent s e = refl
forty_on Code.NewRecord s e = refl
forty_on Code.SignalPassed s e = refl
forty_on Code.EndRecord s e = refl

abbrev ends_forty : Stm → List ℕ → Bool
ends_forty before command = freshens command || is_of Code.Proceed command

forty_stays : (stm : Stm) (x : Sent) → is_accepted (answer_to stm x) ≡ true → ends_forty stm x.command ≡ false
    → stm.track.forty ≡ true → (state_after stm x).track.forty ≡ true
forty_stays stm x e f stood =
    let code = code_of (code_byte x.command) in
    let s = operands_of x.command in
    let t = neither (freshens x.command) (is_of Code.Proceed x.command) f in
    forty_after_lem stm x e ∙ forty_by_lem code s stm t.0 ∙ ap (forty_after code s) stood ∙ forty_on code s t.1

forty_told : (stm : Stm) (x : Sent) → is_accepted (answer_to stm x) ≡ true → passes_stop 1 x.command ≡ true
    → (state_after stm x).track.forty ≡ true
unfolding stopped
forty_told stm x e p =
    let t = both (is_of Code.StopPassed x.command) (eqb (first_operand x.command) 1) p in
    ap (λ track. track.forty) (track_by_lem stm x Code.StopPassed e t.0) ∙ ap (λ is. cond is true stm.track.forty) t.1

pub forty_until_proceed : FortyUntilProceed
forty_until_proceed stm x ys e p n =
    kept_to_end (λ s. s.track.forty ≡ true) ends_forty ends_forty (λ s y a f g h. forty_stays s y a f h)
    (state_after stm x) ys n n (forty_told stm x e p)

-- and is away until an unexpected stop
forty_off : (code : Code) (s : List ℕ) → (is_code Code.StopPassed code && eqb (byte_at s 0) 1) ≡ false → forty_after code s false ≡ false
unfolding forty_after
forty_off Code.Start s e = refl
forty_off Code.ChangeState s e = refl
forty_off Code.Odometer s e = refl
forty_off Code.NewCurve s e = refl
forty_off Code.EndCurve s e = refl
forty_off Code.NewSection s e = refl
forty_off Code.EndSection s e = refl
forty_off Code.StopPassed s e = rw e
forty_off Code.Proceed s e = refl
forty_off Code.BaliseError s e = refl
forty_off Code.TestBrakes s e = refl
forty_off Code.AreaEvent s e = refl
forty_off Code.NewRecord s e = refl
forty_off Code.SignalPassed s e = refl
forty_off Code.EndRecord s e = refl

forty_away : (stm : Stm) (x : Sent) (fresh : Bool) → is_accepted (answer_to stm x) ≡ true → freshens x.command ≡ fresh
    → passes_stop 1 x.command ≡ false → stm.track.forty ≡ false → (state_after stm x).track.forty ≡ false
forty_away stm x true e f p away =
    forty_after_lem stm x e ∙ forty_fresh (code_of (code_byte x.command)) (operands_of x.command) stm f
forty_away stm x false e f p away =
    let code = code_of (code_byte x.command) in
    let s = operands_of x.command in
    forty_after_lem stm x e ∙ forty_by_lem code s stm f ∙ ap (forty_after code s) away ∙ forty_off code s p

forty_ended : (stm : Stm) (x : Sent) → is_accepted (answer_to stm x) ≡ true → ends_forty stm x.command ≡ true
    → (state_after stm x).track.forty ≡ false
forty_ended stm x e h =
    elim (either (freshens x.command) (is_of Code.Proceed x.command) h) [
      | inl f ↦ forty_after_lem stm x e ∙ forty_fresh (code_of (code_byte x.command)) (operands_of x.command) stm f
      | inr p ↦ ap (λ track. track.forty) (track_by_lem stm x Code.Proceed e p)
    ]

pub no_forty_until_stop : NoFortyUntilStop
no_forty_until_stop stm x ys e h n =
    kept_to_end (λ s. s.track.forty ≡ false) (λ before command. passes_stop 1 command) (λ before command. passes_stop 1 command)
    (λ s y a f g away. forty_away s y (freshens y.command) a refl f away)
    (state_after stm x) ys n n (forty_ended stm x e h)
