-- Which causes stand after one accepted command. Assumes nothing.
use mathlib.Core.Path.{◌≡◌, refl, sym, ◌∙◌, ap}
use Prim.Native.Nat.{ℕ}
use mathlib.Core.Bool.{Bool, true, false, cond, not, ◌&&◌, ◌||◌, false≢true, or-false}
use mathlib.Core.Logic.{inl, inr}
use mathlib.Core.List.{List}
use borrow.Author.Tests.{leb-true}
use lib.Dec.{leb}
use Rattle.wire.specs.Numbers.{byte_at}
use Rattle.wire.specs.Form.{operands_of}
use Rattle.rules.specs.Numbers.{code_of, state_of, bit_number, is_code, is_state, is_accepted}
use Rattle.rules.specs.Operands.{code_byte, reading_of, within}
use Rattle.rules.specs.Table.{stands, causes_for, no_causes, ordered_by, is_releasable, added_causes, pressed_for, is_dropped, left_causes}
use Rattle.rules.specs.Releases.{fresh_brakes, since_at, noted_brakes, service_fails, causes_at, added_brakes, left_brakes, released_brakes, since_by, brakes_by}
use Rattle.rules.specs.Odometer.{with_state, with_brakes, seen_with, seen_of, seen_in, moves, measures, notes, adds, releases, is_fresh, supervised, reported_in}
use Rattle.rules.specs.Commands.{fresh_with, entered, stopped, carried_out, remembered, accepted_of}
use Rattle.rules.specs.Runs.{Sent, answer_to, state_after, is_of, orders_cs, freshens}
use Rattle.rules.specs.Braking.{reading_in, measured_at, seen_at, ordered_now, releasable_now, freshly_pressed, OrderedAndReleased, OrderedInFailure, OthersDropNothing, OthersOrderFiveToNine, FreshHasNoCause}
use Rattle.rules.specs.History.{is_supervised}
use Rattle.rules.specs.declared.Code.{Code}
use Rattle.rules.specs.declared.State.{State}
use Rattle.rules.specs.declared.Cause.{Cause}
use Rattle.rules.specs.declared.Causes.{Causes}
use Rattle.rules.specs.declared.Brakes.{Brakes}
use Rattle.rules.specs.declared.Seen.{Seen}
use Rattle.rules.specs.declared.Reading.{Reading}
use Rattle.rules.specs.declared.Stm.{Stm}
use Rattle.rules.proofs.Answers.{after_accepted}
use Rattle.rules.proofs.Tests.{both, either}
use Rattle.rules.proofs.Told.{code_is, state_is_lem}

-- ---- the bits

pub stands_for : (test : Cause → Bool) (cause : Cause) → stands (causes_for test) cause ≡ test cause
stands_for test Cause.Overspeed = refl
stands_for test Cause.EmergencyOverspeed = refl
stands_for test Cause.CurveFull = refl
stands_for test Cause.CurveSoft = refl
stands_for test Cause.CurveEmergency = refl
stands_for test Cause.AimedStop = refl
stands_for test Cause.UnexpectedStop = refl
stands_for test Cause.UnexpectedSpeed = refl
stands_for test Cause.Landslide = refl
stands_for test Cause.BaliseFault = refl
stands_for test Cause.Rolling = refl
stands_for test Cause.ServiceFault = refl

-- two tests that pass for the same causes
pub same_tests : (f g : Cause → Bool) → causes_for f ≡ causes_for g → (cause : Cause) → f cause ≡ g cause
same_tests f g e cause = sym (stands_for f cause) ∙ ap (λ c. stands c cause) e ∙ stands_for g cause

pub stands_added : (ordered : Cause → Bool) (c : Causes) (cause : Cause)
    → stands (added_causes ordered c) cause ≡ (stands c cause || ordered cause)
unfolding added_causes
stands_added ordered c cause = stands_for (λ each. stands c each || ordered each) cause

stands_left : (s : Seen) (loss text : Bool) (c : Causes) (cause : Cause)
    → stands (left_causes s loss text c) cause ≡ (stands c cause && not (pressed_for loss text cause && is_releasable s c cause))
unfolding left_causes is_dropped
stands_left s loss text c cause =
    stands_for (λ each. stands c each && not (pressed_for loss text each && is_releasable s c each)) cause

pressed_freshly : (stm : Stm) (r : Reading) (cause : Cause)
    → pressed_for (is_fresh stm.kept.loss r.loss) (is_fresh stm.kept.text r.text) cause ≡ freshly_pressed stm r cause
pressed_freshly stm r cause =
    let loss = is_fresh stm.kept.loss r.loss in
    let text = is_fresh stm.kept.text r.text in
    same_tests (pressed_for loss text) (freshly_pressed stm r) refl cause

-- ---- what an accepted command leaves

-- what it does, before it is remembered
abbrev pub done_by : List ℕ → Stm → Stm
done_by command stm = carried_out (code_of (code_byte command)) (operands_of command) stm

pub brakes_after : (stm : Stm) (x : Sent) → is_accepted (answer_to stm x) ≡ true
    → (state_after stm x).brakes ≡ (done_by x.command stm).brakes
unfolding accepted_of remembered
brakes_after stm x e = ap (λ after. after.brakes) (after_accepted stm x e)

-- ---- an odometer report in DA

-- the unit once the causes are added
unfoldable pub added_at : Stm → List ℕ → Stm
added_at stm command = adds (measured_at stm command)

-- the added causes are those that stood and those ordered now, and what the table looks at stays
pub causes_added : (stm : Stm) (command : List ℕ)
    → (added_at stm command).brakes.causes ≡ added_causes (ordered_now stm command) stm.brakes.causes
unfolding added_at adds added_brakes causes_at ordered_now seen_at measured_at notes measures moves noted_brakes service_fails
causes_added stm command = refl

pub seen_added : (stm : Stm) (command : List ℕ) → seen_in (added_at stm command) ≡ seen_at stm command
unfolding added_at adds added_brakes seen_at seen_in
seen_added stm command = refl

pub control_added : (stm : Stm) (command : List ℕ) → (added_at stm command).control ≡ stm.control
unfolding added_at adds measured_at notes measures moves
control_added stm command = refl

-- the brakes that a release leaves then
unfoldable pub released_at : Stm → List ℕ → Brakes
released_at stm command =
    let r = reading_in command in
    released_brakes (seen_in (added_at stm command)) (is_fresh stm.kept.loss r.loss) (is_fresh stm.kept.text r.text)
    (added_at stm command).brakes

-- the last step: the unit is led to FA, or its brakes are released
abbrev pub ended : Bool → Stm → Brakes → Stm
ended failed stm released = cond failed (with_state stm State.FA) (with_brakes stm released)

ended_brakes : (failed : Bool) (stm : Stm) (released : Brakes) → is_state State.DA stm.control.state ≡ true
    → (is_state State.DA (ended failed stm released).control.state ≡ true → (ended failed stm released).brakes ≡ released)
    × (is_state State.DA (ended failed stm released).control.state ≡ false → (ended failed stm released).brakes ≡ stm.brakes)
ended_brakes true stm released da = (λ d. absurd (false≢true d), λ d. refl)
ended_brakes false stm released da = (λ d. refl, λ d. absurd (false≢true (sym d ∙ da)))

ended_since : (failed : Bool) (stm : Stm) (released : Brakes) → released.since ≡ stm.brakes.since
    → (ended failed stm released).brakes.since ≡ stm.brakes.since
ended_since true stm released e = refl
ended_since false stm released e = e

-- the whole report
unfoldable pub ended_at : Stm → List ℕ → Stm
ended_at stm command = ended (added_at stm command).brakes.failed (added_at stm command) (released_at stm command)

pub done_supervised : (stm : Stm) (command : List ℕ) → is_supervised stm command ≡ true → done_by command stm ≡ ended_at stm command
unfolding ended_at released_at added_at measured_at supervised releases
done_supervised stm command u =
    let t = both (is_of Code.Odometer command) (is_state State.DA stm.control.state) u in
    ap (λ code. carried_out code (operands_of command) stm) (code_is Code.Odometer (code_of (code_byte command)) t.0)
    ∙ ap (λ state. reported_in state (reading_in command) stm) (state_is_lem State.DA stm.control.state t.1)

pub after_report : (stm : Stm) (x : Sent) → is_accepted (answer_to stm x) ≡ true → is_supervised stm x.command ≡ true
    → state_after stm x ≡ remembered x.command (ended_at stm x.command)
unfolding accepted_of
after_report stm x e u = after_accepted stm x e ∙ ap (remembered x.command) (done_supervised stm x.command u)

pub report_brakes : (stm : Stm) (command : List ℕ) → is_supervised stm command ≡ true
    → (is_state State.DA (ended_at stm command).control.state ≡ true → (ended_at stm command).brakes ≡ released_at stm command)
    × (is_state State.DA (ended_at stm command).control.state ≡ false → (ended_at stm command).brakes ≡ (added_at stm command).brakes)
unfolding ended_at
report_brakes stm command u =
    let da = (both (is_of Code.Odometer command) (is_state State.DA stm.control.state) u).1 in
    ended_brakes (added_at stm command).brakes.failed (added_at stm command) (released_at stm command) (rw control_added da)

pub ordered_and_released : OrderedAndReleased
unfolding remembered released_at released_brakes left_brakes releasable_now
ordered_and_released stm x cause e u d =
    let after = after_report stm x e u in
    let released = (report_brakes stm x.command u).0 (rw after at d) in
    rw (after, released, stands_left, seen_added, causes_added, stands_added, pressed_freshly)

pub ordered_in_failure : OrderedInFailure
unfolding remembered
ordered_in_failure stm x cause e u d =
    let after = after_report stm x e u in
    let added = (report_brakes stm x.command u).1 (rw after at d) in
    rw (after, added, causes_added, stands_added)

-- the notes for bits 5, 6, 8 and 9 are those that the table looks at
pub since_after : (stm : Stm) (x : Sent) → is_accepted (answer_to stm x) ≡ true → is_supervised stm x.command ≡ true
    → (state_after stm x).brakes.since ≡ (seen_at stm x.command).since
unfolding remembered ended_at released_at released_brakes left_brakes added_at adds added_brakes seen_at seen_in seen_of seen_with
since_after stm x e u =
    let added = added_at stm x.command in
    rw (after_report stm x e u) (ended_since added.brakes.failed added (released_at stm x.command) refl)

pub since_seen : (stm : Stm) (command : List ℕ)
    → (seen_at stm command).since ≡ since_at stm.train.full (reading_in command) stm.brakes.since
unfolding seen_at seen_in seen_of seen_with measured_at notes measures moves noted_brakes
since_seen stm command = refl

-- ---- every other command

-- leaves the brakes as they were and orders nothing, or orders
pub data ByOther (code : Code) (which : ℕ) (before after : Brakes) : Type 0 where
  unchanged : causes_for (ordered_by code which) ≡ causes_for (λ each. false) → after ≡ before → ByOther code which before after
  orders : (v : ℕ) → after ≡ brakes_by code which v before → ByOther code which before after

pub entered_keeps : (state : State) (stm : Stm) → is_state State.CS state ≡ false → (entered state stm).brakes ≡ stm.brakes
entered_keeps State.DE stm f = refl
entered_keeps State.CS stm f = absurd (false≢true (sym f))
entered_keeps State.HS stm f = refl
entered_keeps State.DA stm f = refl
entered_keeps State.FA stm f = refl

reported_keeps : (state : State) (r : Reading) (stm : Stm) → is_state State.DA state ≡ false
    → (reported_in state r stm).brakes ≡ stm.brakes
unfolding measures moves
reported_keeps State.DE r stm u = refl
reported_keeps State.CS r stm u = refl
reported_keeps State.HS r stm u = refl
reported_keeps State.DA r stm u = absurd (false≢true (sym u))
reported_keeps State.FA r stm u = refl

by_other : (code : Code) (s : List ℕ) (stm : Stm)
    → (is_code Code.Odometer code && is_state State.DA stm.control.state) ≡ false
    → (is_code Code.Start code || is_code Code.ChangeState code && is_state State.CS (state_of (byte_at s 0))) ≡ false
    → ByOther code (byte_at s 0) stm.brakes (carried_out code s stm).brakes
unfolding stopped brakes_by added_causes since_by
by_other Code.Start s stm u f = absurd (false≢true (sym f))
by_other Code.ChangeState s stm u f = unchanged refl (entered_keeps (state_of (byte_at s 0)) stm f)
by_other Code.Odometer s stm u f = unchanged refl (reported_keeps stm.control.state (reading_of s) stm u)
by_other Code.NewCurve s stm u f = unchanged refl refl
by_other Code.EndCurve s stm u f = unchanged refl refl
by_other Code.NewSection s stm u f = unchanged refl refl
by_other Code.EndSection s stm u f = unchanged refl refl
by_other Code.StopPassed s stm u f = orders stm.kept.speed refl
by_other Code.Proceed s stm u f = unchanged refl refl
by_other Code.BaliseError s stm u f = orders stm.kept.speed refl
by_other Code.TestBrakes s stm u f = unchanged refl refl
by_other Code.AreaEvent s stm u f = unchanged refl refl
by_other Code.NewRecord s stm u f = unchanged refl refl
by_other Code.SignalPassed s stm u f = unchanged refl refl
by_other Code.EndRecord s stm u f = unchanged refl refl

pub brakes_by_other : (stm : Stm) (x : Sent)
    → is_accepted (answer_to stm x) ≡ true → is_supervised stm x.command ≡ false → freshens x.command ≡ false
    → ByOther (code_of (code_byte x.command)) (byte_at (operands_of x.command) 0) stm.brakes (state_after stm x).brakes
brakes_by_other stm x e u f =
    rw (brakes_after stm x e) (by_other (code_of (code_byte x.command)) (operands_of x.command) stm u f)

stands_by_other : (code : Code) (which : ℕ) (before after : Brakes) (cause : Cause) → ByOther code which before after
    → stands after.causes cause ≡ (stands before.causes cause || ordered_by code which cause)
unfolding brakes_by
stands_by_other code which before after cause (unchanged none e) =
    rw (e, same_tests (ordered_by code which) (λ each. false) none cause, or-false)
stands_by_other code which before after cause (orders v e) = rw (e, stands_added)

pub others_drop_nothing : OthersDropNothing
others_drop_nothing stm x cause e u f =
    let code = code_of (code_byte x.command) in
    let which = byte_at (operands_of x.command) 0 in
    stands_by_other code which stm.brakes (state_after stm x).brakes cause (brakes_by_other stm x e u f)

pub others_order_five_to_nine : OthersOrderFiveToNine
others_order_five_to_nine code which cause e =
    let bit = bit_number cause in
    let same = same_tests (ordered_by code which) (λ each. within 5 9 (bit_number each) && ordered_by code which each) refl cause in
    let inside = (both (within 5 9 bit) (ordered_by code which cause) (sym same ∙ e)).0 in
    let t = both (leb 5 bit) (leb bit 9) inside in
    (leb-true 5 bit t.0, leb-true bit 9 t.1)

-- a start and entering CS
pub fresh_brakes_lem : (stm : Stm) (command : List ℕ) → freshens command ≡ true → (done_by command stm).brakes ≡ fresh_brakes
unfolding fresh_with
fresh_brakes_lem stm command f =
    let code = code_of (code_byte command) in
    let state = state_of (byte_at (operands_of command) 0) in
    elim (either (is_of Code.Start command) (orders_cs command) f) [
      | inl start ↦ rw (code_is Code.Start code start)
      | inr cs ↦
          let t = both (is_of Code.ChangeState command) (is_state State.CS state) cs in
          rw (code_is Code.ChangeState code t.0, state_is_lem State.CS state t.1)
    ]

pub fresh_has_no_cause : FreshHasNoCause
unfolding fresh_brakes no_causes
fresh_has_no_cause stm x cause e f =
    rw (brakes_after stm x e, fresh_brakes_lem stm x.command f) (stands_for (λ each. false) cause)
