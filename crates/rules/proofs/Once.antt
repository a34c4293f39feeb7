-- What an answer other than 0 leaves, and that no number is accepted twice (specs/Once.antt). Assumes nothing.
use mathlib.Core.Path.{◌≡◌, refl, sym, ap, subst, ◌∙◌}
use Prim.Native.Nat.{ℕ, ◌+◌, ◌<◌}
use mathlib.Core.Bool.{Bool, true, false, cond, not, ◌&&◌, ◌||◌, or-false, and-false}
use mathlib.Core.List.{List, [], ◌∷◌, ◌++◌}
use native.Mathlib.Omega.{arith}
use lib.Dec.{eqb}
use lib.ListN.{length}
use borrow.Author.Tests.{not-true, not-false}
use Rattle.wire.specs.Codes.{longest}
use Rattle.wire.specs.Numbers.{byte_at, number}
use Rattle.wire.specs.Form.{report_length, form_of, operands_of}
use Rattle.std.specs.Prelude.{Ok}
use Rattle.wire.proofs.Commands.{whole_area}
use Rattle.wire.proofs.Equal.{equal_same}
use Rattle.rules.specs.Numbers.{is_answered, code_of, state_of, is_code, is_state, is_accepted, is_refused}
use Rattle.rules.specs.Operands.{code_byte, number_of, reading_of}
use Rattle.rules.specs.Odometer.{moves, measures, notes, adds, releases, supervised, reported_in}
use Rattle.rules.specs.Commands.{fresh_with, entered, stopped, carried_out, padded, remembered, accepted_of}
use Rattle.rules.specs.Refusals.{is_start, is_repeat, is_next, rules_for, whole_answer, answer_for, answer_of}
use Rattle.rules.specs.Calls.{call_of, area_of}
use Rattle.rules.specs.Runs.{Sent, Moment, answer_to, state_after, moment_of, moments, state_at_end, none_accepted}
use Rattle.rules.specs.Once.{StateChangesAtZeroOnly, RefusalLeavesArea, AnswerWritesReport, SentAgainIsAgain, accepted_numbers, Follow, NumbersFollow, NoneAcceptedTwice, is_left, thinned, moments_left, LeavingOutChangesNothing}
use Rattle.rules.specs.declared.Answer.{Answer}
use Rattle.rules.specs.declared.Code.{Code}
use Rattle.rules.specs.declared.Reading.{Reading}
use Rattle.rules.specs.declared.State.{State}
use Rattle.rules.specs.declared.Stm.{Stm}
use Rattle.laws.proofs.Lists.{never}
use Rattle.rules.proofs.Tests.{both, neither}
use Rattle.rules.proofs.Repeats.{number_kept, next_number_lem}
use Rattle.rules.proofs.Answers.{Passed, passed, after_accepted, after_other}

pub state_changes_at_zero_only : StateChangesAtZeroOnly
state_changes_at_zero_only stm x e = after_other stm x e

-- ---- the area

pub refusal_leaves_area : RefusalLeavesArea
unfolding area_of
refusal_leaves_area stm x e = rw (not-true (is_answered (answer_to stm x)) e)

pub answer_writes_report : AnswerWritesReport
unfolding area_of
answer_writes_report stm x e = rw (not-false (is_answered (answer_to stm x)) e)

-- ---- a command sent again

-- an accepted command leaves the unit started
either_started : (test : Bool) (a b : Stm) {started : Bool} → a.control.started ≡ started → b.control.started ≡ started
    → (cond test a b).control.started ≡ started
either_started true a b e f = e
either_started false a b e f = f

released_started : (loss text : Bool) (stm : Stm) → (releases loss text stm).control.started ≡ stm.control.started
unfolding releases
released_started loss text stm = either_started stm.brakes.failed _ _ refl refl

reported_started : (state : State) (r : Reading) (stm : Stm) → (reported_in state r stm).control.started ≡ stm.control.started
unfolding moves measures notes adds supervised
reported_started State.DE r stm = refl
reported_started State.CS r stm = refl
reported_started State.HS r stm = refl
reported_started State.DA r stm = released_started _ _ _
reported_started State.FA r stm = refl

entered_started : (state : State) (stm : Stm) → (entered state stm).control.started ≡ stm.control.started
entered_started State.DE stm = refl
entered_started State.CS stm = refl
entered_started State.HS stm = refl
entered_started State.DA stm = refl
entered_started State.FA stm = refl

was_started : (stm : Stm) → (stm.control.started || false) ≡ true → stm.control.started ≡ true
was_started stm e = sym (or-false stm.control.started) ∙ e

carried_started : (code : Code) (s : List ℕ) (stm : Stm) → (stm.control.started || is_code Code.Start code) ≡ true
    → (carried_out code s stm).control.started ≡ true
unfolding fresh_with stopped
carried_started Code.Start s stm e = refl
carried_started Code.ChangeState s stm e = entered_started (state_of (byte_at s 0)) stm ∙ was_started stm e
carried_started Code.Odometer s stm e = reported_started stm.control.state (reading_of s) stm ∙ was_started stm e
carried_started Code.NewCurve s stm e = was_started stm e
carried_started Code.EndCurve s stm e = was_started stm e
carried_started Code.NewSection s stm e = was_started stm e
carried_started Code.EndSection s stm e = was_started stm e
carried_started Code.StopPassed s stm e = was_started stm e
carried_started Code.Proceed s stm e = was_started stm e
carried_started Code.BaliseError s stm e = was_started stm e
carried_started Code.TestBrakes s stm e = was_started stm e
carried_started Code.AreaEvent s stm e = was_started stm e
carried_started Code.NewRecord s stm e = was_started stm e
carried_started Code.SignalPassed s stm e = was_started stm e
carried_started Code.EndRecord s stm e = was_started stm e

pub accepted_started : (stm : Stm) (command : List ℕ) → Passed stm command → (accepted_of command stm).control.started ≡ true
unfolding accepted_of remembered
accepted_started stm command p = carried_started (code_of (code_byte command)) (operands_of command) stm p.started

-- what is kept of it are its bytes, so it is a repeat
accepted_repeat : (stm : Stm) (command : List ℕ) → Passed stm command → is_repeat (accepted_of command stm) command ≡ true
unfolding is_repeat accepted_of remembered
accepted_repeat stm command p =
    rw (carried_started (code_of (code_byte command)) (operands_of command) stm p.started)
    (equal_same (padded longest command) (padded longest command) refl)

-- a repeat that has a number, of a unit that is started, is again
again_among : (started start number repeat next failed : Bool) (rest : Answer)
    → started ≡ true → number ≡ false → repeat ≡ true
    → cond (not started && not start) Answer.NotStarted
    (cond number Answer.ZeroNumber
    (cond (not start && not repeat && not next) Answer.WrongNumber
    (cond (failed && not start && not repeat) Answer.Failed (cond repeat Answer.Again rest)))) ≡ Answer.Again
again_among started start number repeat next failed rest e f g =
    rw (e, f, g, and-false (not start), and-false (failed && not start))

again_first : (stm : Stm) (command : List ℕ)
    → stm.control.started ≡ true → eqb (number_of command) 0 ≡ false → is_repeat stm command ≡ true
    → answer_for (Ok tt) (whole_answer stm command) ≡ Answer.Again
unfolding rules_for
again_first stm command e f g =
    again_among stm.control.started (is_start command) (eqb (number_of command) 0) (is_repeat stm command) (is_next stm command)
    (is_state State.FA stm.control.state) _ e f g

-- a command that is whole with one area is whole with every area of 14 bytes
whole_again : (command : List ℕ) (area area' : ℕ) → form_of command area ≡ Ok tt → area' ≡ report_length
    → form_of command area' ≡ Ok tt
whole_again command area area' e f = rw (f, sym (whole_area command area e)) e

answer_again : (stm : Stm) (x : Sent) (area' : ℕ) → is_accepted (answer_to stm x) ≡ true → area' ≡ report_length
    → answer_of (accepted_of x.command stm) x.command area' ≡ Answer.Again
unfolding answer_of
answer_again stm x area' e f =
    let p = passed stm x e in
    rw (whole_again x.command (length x.area) area' p.0 f)
    (again_first (accepted_of x.command stm) x.command (accepted_started stm x.command p.1) p.1.number
    (accepted_repeat stm x.command p.1))

again_moment : (stm : Stm) (command area : List ℕ) → answer_of stm command (length area) ≡ Answer.Again
    → ◌≡◌ {A = Moment} (moment_of stm (record { command = command; area = area }))
    (record { answer = Answer.Again; area = stm.last.report; stm = stm })
unfolding call_of area_of
again_moment stm command area e = rw e

accepted_answered : (answer : Answer) → is_accepted answer ≡ true → is_refused answer ≡ false
accepted_answered answer e = rw e

pub sent_again_is_again : SentAgainIsAgain
sent_again_is_again stm x y e same whole =
    rw (answer_writes_report stm x (accepted_answered (answer_to stm x) e), after_accepted stm x e, same)
    (again_moment (accepted_of x.command stm) x.command y.area (answer_again stm x (length y.area) e whole))

-- ---- the numbers

-- the number of an accepted command is that of its kept bytes
accepted_number : (stm : Stm) (command : List ℕ) → number_of (accepted_of command stm).last.bytes ≡ number_of command
unfolding accepted_of remembered
accepted_number stm command = number_kept command

-- an accepted command that is no start is numbered one more than the last
accepted_next : (stm : Stm) (command : List ℕ) → Passed stm command → is_start command ≡ false
    → number_of command ≡ number_of stm.last.bytes + 1
accepted_next stm command p e = next_number_lem stm command (rw e at p.next)

-- one command before a run
follow_step : (stm : Stm) (x : Sent) (numbers : List ℕ) (accepted : Bool)
    → is_accepted (answer_to stm x) ≡ accepted → not (accepted && is_start x.command) ≡ true
    → Follow (number_of (state_after stm x).last.bytes) numbers
    → Follow (number_of stm.last.bytes) (cond accepted (number_of x.command ∷ numbers) numbers)
follow_step stm x numbers true e f follow =
    let number = ap (λ s. number_of s.last.bytes) (after_accepted stm x e) ∙ accepted_number stm x.command in
    (accepted_next stm x.command (passed stm x e).1 (not-true _ f), subst (λ n. Follow n numbers) number follow)
follow_step stm x numbers false e f follow = subst (λ s. Follow (number_of s.last.bytes) numbers) (after_other stm x e) follow

pub numbers_follow : NumbersFollow
unfolding accepted_numbers none_accepted
numbers_follow stm [] e = tt
numbers_follow stm (x ∷ xs) e =
    let p = both (not (is_accepted (answer_to stm x) && is_start x.command)) _ e in
    follow_step stm x (accepted_numbers (state_after stm x) xs) (is_accepted (answer_to stm x)) refl p.0
    (numbers_follow (state_after stm x) xs p.1)

-- numbers that follow n are above it, and so none of them stands twice
follow_above : (n m : ℕ) (numbers before after : List ℕ) → Follow n numbers → numbers ≡ before ++ (m ∷ after) → n < m
follow_above n m [] [] after f e = absurd (never (cc))
follow_above n m [] (b ∷ before) after f e = absurd (never (cc))
follow_above n m (k ∷ numbers) [] after f e =
    let k_m : k ≡ m = cc e in
    omega (arith, f.0, k_m)
follow_above n m (k ∷ numbers) (b ∷ before) after f e =
    let rest : numbers ≡ before ++ (m ∷ after) = cc e in
    omega (arith, f.0, follow_above k m numbers before after f.1 rest)

follow_once : (n m : ℕ) (numbers before between after : List ℕ) → Follow n numbers
    → numbers ≡ before ++ (m ∷ between ++ (m ∷ after)) → ⊥
follow_once n m [] [] between after f e = never (cc)
follow_once n m [] (b ∷ before) between after f e = never (cc)
follow_once n m (k ∷ numbers) [] between after f e =
    let k_m : k ≡ m = cc e in
    let rest : numbers ≡ between ++ (m ∷ after) = cc e in
    let h : k < m = follow_above k m numbers between after f.1 rest in
    omega (arith, k_m, h)
follow_once n m (k ∷ numbers) (b ∷ before) between after f e =
    let rest : numbers ≡ before ++ (m ∷ between ++ (m ∷ after)) = cc e in
    follow_once k m numbers before between after f.1 rest

pub none_accepted_twice : NoneAcceptedTwice
none_accepted_twice stm xs before between after n starts e =
    follow_once (number_of stm.last.bytes) n (accepted_numbers stm xs) before between after (numbers_follow stm xs starts) e

-- ---- leaving out

-- what is left out finds and leaves the same state
left_out : (mark : Bool) (stm : Stm) (x : Sent) → is_left mark stm x ≡ false → state_after stm x ≡ stm
left_out mark stm x e = after_other stm x (neither (is_accepted (answer_to stm x)) (not mark) e).0

-- one command before a run
left_moments : (left : Bool) (stm : Stm) (x : Sent) (xs : List Sent) (ms : List Moment)
    → (left ≡ false → state_after stm x ≡ stm) → moments (state_after stm x) xs ≡ ms
    → moments stm (cond left (x ∷ xs) xs) ≡ cond left (moment_of stm x ∷ ms) ms
unfolding moments
left_moments true stm x xs ms same e = ap (moment_of stm x ∷◌) e
left_moments false stm x xs ms same e = subst (λ s. moments s xs ≡ ms) (same refl) e

left_state : (left : Bool) (stm end : Stm) (x : Sent) (xs : List Sent)
    → (left ≡ false → state_after stm x ≡ stm) → state_at_end (state_after stm x) xs ≡ end
    → state_at_end stm (cond left (x ∷ xs) xs) ≡ end
unfolding state_at_end
left_state true stm end x xs same e = e
left_state false stm end x xs same e = subst (λ s. state_at_end s xs ≡ end) (same refl) e

thinned_moments : (marks : List Bool) (stm : Stm) (xs : List Sent) → moments stm (thinned marks stm xs) ≡ moments_left marks stm xs
unfolding thinned moments_left moments
thinned_moments [] stm xs = refl
thinned_moments (mark ∷ marks) stm [] = refl
thinned_moments (mark ∷ marks) stm (x ∷ xs) =
    left_moments (is_left mark stm x) stm x (thinned marks (state_after stm x) xs) (moments_left marks (state_after stm x) xs)
    (left_out mark stm x) (thinned_moments marks (state_after stm x) xs)

thinned_state : (marks : List Bool) (stm : Stm) (xs : List Sent) → state_at_end stm (thinned marks stm xs) ≡ state_at_end stm xs
unfolding thinned state_at_end
thinned_state [] stm xs = refl
thinned_state (mark ∷ marks) stm [] = refl
thinned_state (mark ∷ marks) stm (x ∷ xs) =
    left_state (is_left mark stm x) stm (state_at_end (state_after stm x) xs) x (thinned marks (state_after stm x) xs)
    (left_out mark stm x) (thinned_state marks (state_after stm x) xs)

pub leaving_out_changes_nothing : LeavingOutChangesNothing
leaving_out_changes_nothing marks stm xs = (thinned_moments marks stm xs, thinned_state marks stm xs)
