-- What a start and entering a state leave. Assumes nothing.
use mathlib.Core.Path.{◌≡◌, refl, sym, ◌∙◌, ap}
use Prim.Native.Nat.{ℕ, zero, suc, ◌≤◌}
use native.Mathlib.Omega.{arith}
use mathlib.Core.Bool.{Bool, true, false, cond, ◌&&◌, ◌||◌}
use mathlib.Core.List.{List}
use lib.Dec.{eqb}
use lib.ListN.{get_or, replicate}
use borrow.Author.Tests.{leb-true, ne_eqb}
use Rattle.std.specs.Prelude.{None}
use Rattle.wire.specs.Form.{operands_of}
use Rattle.pressure.specs.Report.{fresh_feedback}
use Rattle.rules.specs.Numbers.{is_accepted, is_code, is_state, code_of, state_of}
use Rattle.rules.specs.Operands.{code_byte, reading_of, in_range}
use Rattle.places.specs.Places.{places}
use Rattle.curve.specs.Free.{free_curve}
use Rattle.rules.specs.Places.{empty_track, cleared_track, free_section, record_places, fresh_track}
use Rattle.records.specs.Lives.{free_record}
use Rattle.rules.specs.Table.{no_causes}
use Rattle.rules.specs.Releases.{fresh_brakes, released_brakes}
use Rattle.rules.specs.Odometer.{with_state, with_brakes, seen_in, moves, measures, notes, adds, releases, is_fresh, supervised, reported_in}
use Rattle.rules.specs.Commands.{fresh_kept, fresh_with, entered, stopped, carried_out}
use Rattle.rules.specs.BrakeTest.{fresh_test}
use Rattle.areas.specs.declared.Stay.{Stay}
use Rattle.areas.specs.Stays.{fresh_stay, cleared_stay}
use Rattle.rules.specs.Runs.{Sent, answer_to, state_after, is_of}
use Rattle.rules.specs.History.{first_operand, is_in, is_supervised}
use Rattle.rules.specs.Fresh.{HoldsNothing, StartIsFresh, EnteringCS, StateNamed, StateIsEntered, StateStays}
use Rattle.rules.specs.declared.Code.{Code}
use Rattle.rules.specs.declared.State.{State}
use Rattle.rules.specs.declared.Reading.{Reading}
use Rattle.rules.specs.declared.Stm.{Stm}
use Rattle.rules.proofs.Answers.{passed}
use Rattle.rules.proofs.Tests.{impossible}
use Rattle.rules.proofs.Told.{code_is}
use Rattle.rules.proofs.Ordering.{stands_for, brakes_after, done_by, entered_keeps}
use Rattle.rules.proofs.After.{control_after, train_after_lem, track_after, feedback_after_lem, test_after, kept_after, track_entered}

-- ---- nothing held

pub free_everywhere : {A : Type 0} (n i : ℕ) (free : A) → get_or (replicate n free) i free ≡ free
free_everywhere zero i free = refl
free_everywhere (suc n) zero free = refl
free_everywhere (suc n) (suc i) free = free_everywhere n i free

holds_nothing : (stm : Stm) (stay : Stay) → stm.track ≡ empty_track stay → stay.missing ≡ None → stm.brakes ≡ fresh_brakes
    → HoldsNothing stm
unfolding empty_track fresh_brakes no_causes
holds_nothing stm stay t o b = record {
  curves = λ place. rw (t, free_everywhere places place free_curve);
  sections = λ place. rw (t, free_everywhere places place free_section);
  forty = rw t;
  missing = rw t o;
  records = λ place. rw (t, free_everywhere record_places place free_record);
  causes = λ cause. rw b (stands_for (λ each. false) cause);
  aimed = rw b;
  unexpected = rw b;
  landslide = rw b;
  balise = rw b;
  service = rw b;
  emergency = rw b;
  roll = rw b;
  drift = rw b;
  failed = rw b;
}

empty_area : (stay : Stay) → (empty_track stay).stay.area ≡ stay.area
unfolding empty_track
empty_area stay = refl

empty_line : (stay : Stay) → (empty_track stay).stay.line ≡ stay.line
unfolding empty_track
empty_line stay = refl

-- ---- a start

module _ (stm : Stm) (x : Sent) (e : is_accepted (answer_to stm x) ≡ true) where
  -- a part of what a command of this code leaves
  part_by : {A : Type 0} (part : Stm → A) (code : Code) → is_of code x.command ≡ true
      → part (state_after stm x) ≡ part (done_by x.command stm)
      → part (state_after stm x) ≡ part (carried_out code (operands_of x.command) stm)
  part_by part code c after =
      after ∙ ap (λ is. part (carried_out is (operands_of x.command) stm)) (code_is code (code_of (code_byte x.command)) c)

pub start_is_fresh : StartIsFresh
unfolding fresh_with fresh_track empty_track fresh_feedback fresh_test fresh_kept
start_is_fresh stm x e c =
    let track = part_by stm x e (λ s. s.track) Code.Start c (track_after stm x e) in
    let control = part_by stm x e (λ s. s.control) Code.Start c (control_after stm x e) in
    let feedback = part_by stm x e (λ s. s.feedback) Code.Start c (feedback_after_lem stm x e) in
    let test = part_by stm x e (λ s. s.test) Code.Start c (test_after stm x e) in
    let kept = part_by stm x e (λ s. s.kept) Code.Start c (kept_after stm x e) in (
      record {
        state = rw control;
        nothing =
            holds_nothing (state_after stm x) fresh_stay track refl
            (part_by stm x e (λ s. s.brakes) Code.Start c (brakes_after stm x e));
        area = rw track;
        line = rw track;
        phase = rw feedback;
        pressure = rw feedback;
        reference = rw feedback;
        fault = rw feedback;
        stage = rw test;
        result = rw test;
        speed = rw kept;
        loss = rw kept;
        text = rw kept;
        halka = rw kept;
      },
      rw control,
      part_by stm x e (λ s. s.train) Code.Start c (train_after_lem stm x e),
    )

-- ---- another state

-- CS is told by 1
told_cs : (n : ℕ) → (n ≡ 1 → ⊥) → is_state State.CS (state_of n) ≡ false
unfolding state_of
told_cs n other = rw (ne_eqb n 1 other) (go (eqb n 0) (eqb n 2) (eqb n 3))
  where
    go : (a b c : Bool) → is_state State.CS (cond a State.DE (cond b State.HS (cond c State.DA State.FA))) ≡ false
    go true b c = refl
    go false true c = refl
    go false false true = refl
    go false false false = refl

pub entering_cs : EnteringCS
unfolding state_of cleared_track
entering_cs stm x e c =
    let track = part_by stm x e (λ s. s.track) Code.ChangeState c (track_after stm x e) in
    let brakes = part_by stm x e (λ s. s.brakes) Code.ChangeState c (brakes_after stm x e) in
    let n = first_operand x.command in (
      λ is.
          let cleared : (state_after stm x).track ≡ empty_track (cleared_stay stm.track.stay) =
          track ∙ ap (λ k. (entered (state_of k) stm).track) is in (
            holds_nothing (state_after stm x) (cleared_stay stm.track.stay) cleared refl
                (brakes ∙ ap (λ k. (entered (state_of k) stm).brakes) is),
            ap (λ t. t.stay.area) cleared ∙ empty_area (cleared_stay stm.track.stay),
            ap (λ t. t.stay.line) cleared ∙ empty_line (cleared_stay stm.track.stay),
          ),
      λ other. (
        track ∙ track_entered (state_of n) stm (told_cs n other),
        brakes ∙ entered_keeps (state_of n) stm (told_cs n other),
      ),
    )

entered_state : (state : State) (stm : Stm) → (entered state stm).control.state ≡ state
entered_state State.DE stm = refl
entered_state State.CS stm = refl
entered_state State.HS stm = refl
entered_state State.DA stm = refl
entered_state State.FA stm = refl

named : (n : ℕ) → n ≤ 4 → StateNamed n (state_of n)
unfolding state_of
named zero h = refl
named (suc zero) h = refl
named (suc (suc zero)) h = refl
named (suc (suc (suc zero))) h = refl
named (suc (suc (suc (suc zero)))) h = refl
named (suc (suc (suc (suc (suc n))))) h = absurd (omega (arith, h))

pub state_is_entered : StateIsEntered
state_is_entered stm x e c =
    let n = first_operand x.command in
    let code = code_is Code.ChangeState (code_of (code_byte x.command)) c in
    let range = ap (λ is. in_range is (operands_of x.command)) (sym code) ∙ (passed stm x e).1.range in
    let state = ap (λ control. control.state) (part_by stm x e (λ s. s.control) Code.ChangeState c (control_after stm x e)) in
    rw (state ∙ entered_state (state_of n) stm) (named n (leb-true n 4 range))

-- ---- every other command

ended_control : (failed : Bool) (a b : Stm) → a.brakes.failed ≡ failed → (cond failed a b).brakes.failed ≡ false
    → (cond failed a b).control ≡ b.control
ended_control true a b e f = impossible (sym f ∙ e)
ended_control false a b e f = refl

released_control : (loss text : Bool) (stm : Stm) → (releases loss text stm).brakes.failed ≡ false
    → (releases loss text stm).control ≡ stm.control
unfolding releases
released_control loss text stm f =
    ended_control stm.brakes.failed (with_state stm State.FA)
    (with_brakes stm (released_brakes (seen_in stm) loss text stm.brakes)) refl f

supervised_control : (r : Reading) (stm : Stm) → (supervised r stm).brakes.failed ≡ false → (supervised r stm).control ≡ stm.control
unfolding supervised adds notes measures moves
supervised_control r stm f =
    released_control (is_fresh stm.kept.loss r.loss) (is_fresh stm.kept.text r.text)
    (adds (notes r (measures r (moves r stm)))) f

reported_control : (state : State) (r : Reading) (stm : Stm)
    → (is_state State.DA state && (reported_in state r stm).brakes.failed) ≡ false → (reported_in state r stm).control ≡ stm.control
unfolding measures moves
reported_control State.DE r stm f = refl
reported_control State.CS r stm f = refl
reported_control State.HS r stm f = refl
reported_control State.DA r stm f = supervised_control r stm f
reported_control State.FA r stm f = refl

other_control : (code : Code) (s : List ℕ) (stm : Stm) → (is_code Code.Start code || is_code Code.ChangeState code) ≡ false
    → ((is_code Code.Odometer code && is_in State.DA stm) && (carried_out code s stm).brakes.failed) ≡ false
    → (carried_out code s stm).control ≡ stm.control
unfolding stopped
other_control Code.Start s stm e f = impossible (sym e)
other_control Code.ChangeState s stm e f = impossible (sym e)
other_control Code.Odometer s stm e f = reported_control stm.control.state (reading_of s) stm f
other_control Code.NewCurve s stm e f = refl
other_control Code.EndCurve s stm e f = refl
other_control Code.NewSection s stm e f = refl
other_control Code.EndSection s stm e f = refl
other_control Code.StopPassed s stm e f = refl
other_control Code.Proceed s stm e f = refl
other_control Code.BaliseError s stm e f = refl
other_control Code.TestBrakes s stm e f = refl
other_control Code.AreaEvent s stm e f = refl
other_control Code.NewRecord s stm e f = refl
other_control Code.SignalPassed s stm e f = refl
other_control Code.EndRecord s stm e f = refl

pub state_stays : StateStays
state_stays stm x e c f =
    control_after stm x e
    ∙ other_control (code_of (code_byte x.command)) (operands_of x.command) stm c
    (ap (λ b. is_supervised stm x.command && b.failed) (sym (brakes_after stm x e)) ∙ f)
