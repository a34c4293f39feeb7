-- Brake test A touches nothing else: two units that differ in it only. Assumes nothing.
use mathlib.Core.Path.{◌≡◌, refl, sym, ap, ◌∙◌, subst}
use Prim.Native.Nat.{ℕ, zero, suc, ◌/◌, ◌%◌}
use mathlib.Core.Bool.{Bool, true, false, cond, not, ◌||◌}
use mathlib.Core.List.{List, [], ◌∷◌}
use lib.Dec.{eqb}
use lib.ListN.{length}
use borrow.Author.Tests.{not-true}
use Rattle.wire.specs.Numbers.{byte_at}
use Rattle.wire.specs.Form.{form_of, operands_of}
use Rattle.rules.specs.Numbers.{is_accepted, is_code, is_state, code_of, state_number, state_of}
use Rattle.rules.specs.Operands.{code_byte, reading_of}
use Rattle.rules.specs.BrakeTest.{is_running, has_passed, has_failed, left_test}
use Rattle.rules.specs.Releases.{released_brakes}
use Rattle.rules.specs.Odometer.{with_state, with_brakes, with_test, with_extra, with_train, seen_in, moves, measures, notes, adds, releases, is_fresh, supervised, reported_in}
use Rattle.rules.specs.Reports.{messages_of, report_in_da, report_outside, test_order, report_for, report_of}
use Rattle.rules.specs.Commands.{fresh_with, entered, stopped, carried_out, with_last, remembered, accepted_of}
use Rattle.rules.specs.Refusals.{is_repeat, is_next, ends_nothing, finds_no_place, tests_outside, tests_twice, is_untaken, finds_no_record_place, repeats_nothing, rules_for, first_of, answer_for, answer_of}
use Rattle.rules.specs.Calls.{call_of}
use Rattle.rules.specs.Runs.{Sent, answer_to, state_after, moment_of, moments, state_at_end, is_of}
use Rattle.rules.specs.History.{is_in}
use Rattle.rules.specs.TestRuns.{LikeButTest, ReportsLike, AskingTouchesNothing, TestTouchesNothing, TestLeavesNothing}
use Rattle.rules.specs.declared.Code.{Code}
use Rattle.rules.specs.declared.State.{State}
use Rattle.pressure.specs.declared.Measured.{Measured}
use Rattle.rules.specs.declared.Control.{Control}
use Rattle.rules.specs.declared.Train.{Train}
use Rattle.rules.specs.declared.Track.{Track}
use Rattle.rules.specs.declared.Brakes.{Brakes}
use Rattle.rules.specs.declared.Kept.{Kept}
use Rattle.rules.specs.declared.BrakeTest.{BrakeTest}
use Rattle.rules.specs.declared.Last.{Last}
use Rattle.rules.specs.declared.Reading.{Reading}
use Rattle.rules.specs.declared.Stm.{Stm}
use Rattle.rules.proofs.Answers.{after_accepted, after_other}
use Rattle.rules.proofs.Tests.{impossible, or_left, or_right, neither, all_head, all_tail}
use Rattle.rules.proofs.Told.{code_is}
use Rattle.rules.proofs.Ordering.{done_by}
use Rattle.rules.proofs.Bits.{seven_bits}
use Rattle.rules.proofs.Written.{written_is, shown, in_da, da_fields}
use Rattle.rules.proofs.After.{control_after, extra_in, extra_by}
use Rattle.rules.proofs.TestRuns.{extra_after_by, zero_after}

-- ---- a unit with another test, another last command and another extra

abbrev aside : BrakeTest → Last → ℕ → Stm → Stm
aside test last extra stm = with_last (with_test (with_train stm (with_extra stm.train extra)) test) last

abbrev unit_of : Control → Train → Track → Brakes → Measured → BrakeTest → Kept → Last → Stm
unit_of control train track brakes feedback test kept last = record {
  control = control;
  train = train;
  track = track;
  brakes = brakes;
  feedback = feedback;
  test = test;
  kept = kept;
  last = last;
}

-- two units that differ in the test only are such
like_is : (u w : Stm) → LikeButTest u w → w ≡ aside w.test w.last w.train.times.extra u
like_is u w like =
    ap (λ c. unit_of c w.train w.track w.brakes w.feedback w.test w.kept w.last) like.control
    ∙ ap (λ t. unit_of u.control t w.track w.brakes w.feedback w.test w.kept w.last) like.train
    ∙ ap (λ t. unit_of u.control (with_extra u.train w.train.times.extra) t w.brakes w.feedback w.test w.kept w.last) like.track
    ∙ ap (λ b. unit_of u.control (with_extra u.train w.train.times.extra) u.track b w.feedback w.test w.kept w.last) like.brakes
    ∙ ap (λ f. unit_of u.control (with_extra u.train w.train.times.extra) u.track u.brakes f w.test w.kept w.last) like.feedback
    ∙ ap (λ k. unit_of u.control (with_extra u.train w.train.times.extra) u.track u.brakes u.feedback w.test k w.last) like.kept

aside_like : (test : BrakeTest) (last : Last) (extra : ℕ) (u : Stm) → LikeButTest u (aside test last extra u)
aside_like test last extra u = record { control = refl; train = refl; track = refl; brakes = refl; feedback = refl; kept = refl }

-- ---- answers

test_apart : (u w : Stm) (command : List ℕ) (code : Code) (s : List ℕ) → LikeButTest u w → w.last.bytes ≡ u.last.bytes
    → is_code Code.TestBrakes code ≡ false → rules_for w command code s ≡ rules_for u command code s
unfolding rules_for is_repeat is_next ends_nothing finds_no_place tests_outside tests_twice is_untaken finds_no_record_place repeats_nothing
test_apart u w command code s like bytes other = rw (other, like.control, like.track, like.feedback, bytes)

same_answer : (u w : Stm) (x : Sent) → LikeButTest u w → w.last.bytes ≡ u.last.bytes → is_of Code.TestBrakes x.command ≡ false
    → answer_to w x ≡ answer_to u x
unfolding call_of answer_of
same_answer u w x like bytes other =
    ap (λ rules. answer_for (form_of x.command (length x.area)) (first_of rules))
    (test_apart u w x.command (code_of (code_byte x.command)) (operands_of x.command) like bytes other)

-- ---- what a command does

-- leading to FA and releasing leave the test, the extra and the last command
ended_aside : (failed : Bool) (stm : Stm) (released : Brakes) (test : BrakeTest) (last : Last)
    → cond failed (with_state (with_last (with_test stm test) last) State.FA) (with_brakes (with_last (with_test stm test) last) released)
    ≡ with_last (with_test (cond failed (with_state stm State.FA) (with_brakes stm released)) test) last
ended_aside true stm released test last = refl
ended_aside false stm released test last = refl

supervised_aside : (r : Reading) (stm : Stm) (test : BrakeTest) (last : Last)
    → supervised r (with_last (with_test stm test) last) ≡ with_last (with_test (supervised r stm) test) last
unfolding supervised releases adds notes measures moves seen_in
supervised_aside r stm test last =
    let noted = adds (notes r (measures r (moves r stm))) in
    ended_aside noted.brakes.failed noted
    (released_brakes (seen_in noted) (is_fresh stm.kept.loss r.loss) (is_fresh stm.kept.text r.text) noted.brakes) test last

reported_like : (state : State) (r : Reading) (u : Stm) (test : BrakeTest) (last : Last) (extra : ℕ)
    → (is_state State.DA state ≡ true → extra ≡ u.train.times.extra)
    → LikeButTest (reported_in state r u) (reported_in state r (aside test last extra u))
unfolding measures moves
reported_like State.DE r u test last extra same =
    record { control = refl; train = refl; track = refl; brakes = refl; feedback = refl; kept = refl }
reported_like State.CS r u test last extra same =
    record { control = refl; train = refl; track = refl; brakes = refl; feedback = refl; kept = refl }
reported_like State.HS r u test last extra same =
    record { control = refl; train = refl; track = refl; brakes = refl; feedback = refl; kept = refl }
reported_like State.DA r u test last extra same =
    subst (λ n. LikeButTest (supervised r u) (supervised r (aside test last n u))) (sym (same refl))
    (subst (LikeButTest (supervised r u)) (sym (supervised_aside r u test last))
    (aside_like test last (supervised r u).train.times.extra (supervised r u)))
reported_like State.FA r u test last extra same = aside_like test last extra u

entered_like : (state : State) (u : Stm) (test test' test'' : BrakeTest) (last : Last) (extra : ℕ)
    → LikeButTest (with_test (entered state u) test) (with_test (entered state (aside test' last extra u)) test'')
entered_like State.DE u test test' test'' last extra =
    record { control = refl; train = refl; track = refl; brakes = refl; feedback = refl; kept = refl }
entered_like State.CS u test test' test'' last extra =
    record { control = refl; train = refl; track = refl; brakes = refl; feedback = refl; kept = refl }
entered_like State.HS u test test' test'' last extra =
    record { control = refl; train = refl; track = refl; brakes = refl; feedback = refl; kept = refl }
entered_like State.DA u test test' test'' last extra =
    record { control = refl; train = refl; track = refl; brakes = refl; feedback = refl; kept = refl }
entered_like State.FA u test test' test'' last extra =
    record { control = refl; train = refl; track = refl; brakes = refl; feedback = refl; kept = refl }

carried_like : (code : Code) (s : List ℕ) (u : Stm) (test : BrakeTest) (last : Last) (extra : ℕ) → is_code Code.TestBrakes code ≡ false
    → (is_in State.DA u ≡ true → extra ≡ u.train.times.extra)
    → LikeButTest (carried_out code s u) (carried_out code s (aside test last extra u))
unfolding fresh_with stopped
carried_like Code.Start s u test last extra other same =
    record { control = refl; train = refl; track = refl; brakes = refl; feedback = refl; kept = refl }
carried_like Code.ChangeState s u test last extra other same =
    entered_like (state_of (byte_at s 0)) u (left_test u.test) test (left_test test) last extra
carried_like Code.Odometer s u test last extra other same = reported_like u.control.state (reading_of s) u test last extra same
carried_like Code.NewCurve s u test last extra other same =
    record { control = refl; train = refl; track = refl; brakes = refl; feedback = refl; kept = refl }
carried_like Code.EndCurve s u test last extra other same =
    record { control = refl; train = refl; track = refl; brakes = refl; feedback = refl; kept = refl }
carried_like Code.NewSection s u test last extra other same =
    record { control = refl; train = refl; track = refl; brakes = refl; feedback = refl; kept = refl }
carried_like Code.EndSection s u test last extra other same =
    record { control = refl; train = refl; track = refl; brakes = refl; feedback = refl; kept = refl }
carried_like Code.StopPassed s u test last extra other same =
    record { control = refl; train = refl; track = refl; brakes = refl; feedback = refl; kept = refl }
carried_like Code.Proceed s u test last extra other same =
    record { control = refl; train = refl; track = refl; brakes = refl; feedback = refl; kept = refl }
carried_like Code.BaliseError s u test last extra other same =
    record { control = refl; train = refl; track = refl; brakes = refl; feedback = refl; kept = refl }
carried_like Code.TestBrakes s u test last extra other same = impossible (sym other)
carried_like Code.AreaEvent s u test last extra other same =
    record { control = refl; train = refl; track = refl; brakes = refl; feedback = refl; kept = refl }
carried_like Code.NewRecord s u test last extra other same =
    record { control = refl; train = refl; track = refl; brakes = refl; feedback = refl; kept = refl }
carried_like Code.SignalPassed s u test last extra other same =
    record { control = refl; train = refl; track = refl; brakes = refl; feedback = refl; kept = refl }
carried_like Code.EndRecord s u test last extra other same =
    record { control = refl; train = refl; track = refl; brakes = refl; feedback = refl; kept = refl }

-- the last command and its report aside
last_aside : (u w : Stm) (last last' : Last) → LikeButTest u w → LikeButTest (with_last u last) (with_last w last')
last_aside u w last last' like = record {
  control = like.control;
  train = like.train;
  track = like.track;
  brakes = like.brakes;
  feedback = like.feedback;
  kept = like.kept;
}

accepted_like : (u w : Stm) (command : List ℕ) → LikeButTest u w → is_of Code.TestBrakes command ≡ false
    → (is_in State.DA u ≡ true → w.train.times.extra ≡ u.train.times.extra)
    → LikeButTest (accepted_of command u) (accepted_of command w)
unfolding accepted_of remembered
accepted_like u w command like other same =
    last_aside (done_by command u) (done_by command w) _ _
    (subst (λ s. LikeButTest (done_by command u) (done_by command s)) (sym (like_is u w like))
    (carried_like (code_of (code_byte command)) (operands_of command) u w.test w.last w.train.times.extra other same))

-- ---- reports

-- two lists that differ in their second and thirteenth byte only
others_same : (a o o' b2 b3 b4 b5 b6 b7 b8 b9 b10 b11 m m' : ℕ) (rest : List ℕ) (n : ℕ) → (eqb n 1 || eqb n 12) ≡ false
    → byte_at (a ∷ o' ∷ b2 ∷ b3 ∷ b4 ∷ b5 ∷ b6 ∷ b7 ∷ b8 ∷ b9 ∷ b10 ∷ b11 ∷ m' ∷ rest) n ≡ byte_at (a ∷ o ∷ b2 ∷ b3 ∷ b4 ∷ b5 ∷ b6 ∷ b7 ∷ b8 ∷ b9 ∷ b10 ∷ b11 ∷ m ∷ rest) n
others_same a o o' b2 b3 b4 b5 b6 b7 b8 b9 b10 b11 m m' rest zero e = refl
others_same a o o' b2 b3 b4 b5 b6 b7 b8 b9 b10 b11 m m' rest (suc zero) e = impossible (sym e)
others_same a o o' b2 b3 b4 b5 b6 b7 b8 b9 b10 b11 m m' rest (suc (suc zero)) e = refl
others_same a o o' b2 b3 b4 b5 b6 b7 b8 b9 b10 b11 m m' rest (suc (suc (suc zero))) e = refl
others_same a o o' b2 b3 b4 b5 b6 b7 b8 b9 b10 b11 m m' rest (suc (suc (suc (suc zero)))) e = refl
others_same a o o' b2 b3 b4 b5 b6 b7 b8 b9 b10 b11 m m' rest (suc (suc (suc (suc (suc zero))))) e = refl
others_same a o o' b2 b3 b4 b5 b6 b7 b8 b9 b10 b11 m m' rest (suc (suc (suc (suc (suc (suc zero)))))) e = refl
others_same a o o' b2 b3 b4 b5 b6 b7 b8 b9 b10 b11 m m' rest (suc (suc (suc (suc (suc (suc (suc zero))))))) e = refl
others_same a o o' b2 b3 b4 b5 b6 b7 b8 b9 b10 b11 m m' rest (suc (suc (suc (suc (suc (suc (suc (suc zero)))))))) e = refl
others_same a o o' b2 b3 b4 b5 b6 b7 b8 b9 b10 b11 m m' rest (suc (suc (suc (suc (suc (suc (suc (suc (suc zero))))))))) e = refl
others_same a o o' b2 b3 b4 b5 b6 b7 b8 b9 b10 b11 m m' rest (suc (suc (suc (suc (suc (suc (suc (suc (suc (suc zero)))))))))) e = refl
others_same a o o' b2 b3 b4 b5 b6 b7 b8 b9 b10 b11 m m' rest (suc (suc (suc (suc (suc (suc (suc (suc (suc (suc (suc zero))))))))))) e = refl
others_same a o o' b2 b3 b4 b5 b6 b7 b8 b9 b10 b11 m m' rest (suc (suc (suc (suc (suc (suc (suc (suc (suc (suc (suc (suc zero)))))))))))) e = impossible (sym e)
others_same a o o' b2 b3 b4 b5 b6 b7 b8 b9 b10 b11 m m' rest (suc (suc (suc (suc (suc (suc (suc (suc (suc (suc (suc (suc (suc n))))))))))))) e = refl

low_same : (b : Brakes) (feedback : Measured) (test test' : BrakeTest) (et : Bool)
    → (messages_of b feedback test' et % 8 ≡ messages_of b feedback test et % 8)
    × (messages_of b feedback test' et / 64 ≡ messages_of b feedback test et / 64)
unfolding messages_of
low_same b feedback test test' et =
    let bits =
    seven_bits b.drift b.failed feedback.fault (is_running test.stage) (has_passed test.result) (has_failed test.result) et in
    let bits' =
    seven_bits b.drift b.failed feedback.fault (is_running test'.stage) (has_passed test'.result) (has_failed test'.result) et in
    (bits'.low ∙ sym bits.low, bits'.high ∙ sym bits.high)

lists_like : {a o o' b2 b3 b4 b5 b6 b7 b8 b9 b10 b11 m m' : ℕ} {rest : List ℕ} → ((a ≡ 0 → ⊥) → o' ≡ o) → (m' % 8 ≡ m % 8) × (m' / 64 ≡ m / 64)
    → ReportsLike (a ∷ o ∷ b2 ∷ b3 ∷ b4 ∷ b5 ∷ b6 ∷ b7 ∷ b8 ∷ b9 ∷ b10 ∷ b11 ∷ m ∷ rest) (a ∷ o' ∷ b2 ∷ b3 ∷ b4 ∷ b5 ∷ b6 ∷ b7 ∷ b8 ∷ b9 ∷ b10 ∷ b11 ∷ m' ∷ rest)
lists_like {a} {o} {o'} {b2} {b3} {b4} {b5} {b6} {b7} {b8} {b9} {b10} {b11} {m} {m'} {rest} same low = record {
  others = λ n e. others_same a o o' b2 b3 b4 b5 b6 b7 b8 b9 b10 b11 m m' rest n e;
  order = same;
  messages = low.0;
  marked = low.1;
}

outside_like : (state : State) (order order' : ℕ) (u : Stm) (test : BrakeTest) (last : Last) (extra : ℕ)
    → ((state_number state ≡ 0 → ⊥) → order' ≡ order)
    → ReportsLike (report_outside state order u) (report_outside state order' (aside test last extra u))
unfolding report_outside
outside_like state order order' u test last extra same = lists_like same (low_same u.brakes u.feedback u.test test false)

da_like : (u : Stm) (test : BrakeTest) (last : Last) → ReportsLike (in_da u) (in_da (with_last (with_test u test) last))
unfolding seen_in
da_like u test last = lists_like (λ _. refl) (low_same u.brakes u.feedback u.test test (shown u).et)

reports_like : (state : State) (u : Stm) (test : BrakeTest) (last : Last) (extra : ℕ)
    → (is_state State.DA state ≡ true → extra ≡ u.train.times.extra)
    → ReportsLike (report_for state u) (report_for state (aside test last extra u))
reports_like State.DE u test last extra same =
    outside_like State.DE (test_order u.test.stage) (test_order test.stage) u test last extra (λ other. absurd (other refl))
reports_like State.CS u test last extra same = outside_like State.CS 0 0 u test last extra (λ _. refl)
reports_like State.HS u test last extra same = outside_like State.HS 0 0 u test last extra (λ _. refl)
reports_like State.DA u test last extra same =
    subst (λ n. ReportsLike (report_in_da u) (report_in_da (aside test last n u))) (sym (same refl))
    (rw (da_fields u, da_fields (with_last (with_test u test) last)) (da_like u test last))
reports_like State.FA u test last extra same = outside_like State.FA 3 3 u test last extra (λ _. refl)

written_like : (u w : Stm) → LikeButTest u w → (is_in State.DA u ≡ true → w.train.times.extra ≡ u.train.times.extra)
    → ReportsLike (report_of u) (report_of w)
unfolding report_of
written_like u w like same =
    subst (λ s. ReportsLike (report_of u) (report_of s)) (sym (like_is u w like))
    (reports_like u.control.state u w.test w.last w.train.times.extra same)

-- ---- the extra of a unit that a command leaves in DA

reported_extras : (state : State) (r : Reading) (u w : Stm) → u.control.state ≡ state → w.train.times.extra ≡ u.train.times.extra
    → is_state State.DA (reported_in state r u).control.state ≡ true → extra_in r w state ≡ extra_in r u state
unfolding measures
reported_extras State.DE r u w is same da = impossible (ap (is_state State.DA) (sym is) ∙ da)
reported_extras State.CS r u w is same da = same
reported_extras State.HS r u w is same da = same
reported_extras State.DA r u w is same da = same
reported_extras State.FA r u w is same da = same

extras_by : (code : Code) (s : List ℕ) (u w : Stm) → w.control ≡ u.control → w.train.times.extra ≡ u.train.times.extra
    → is_state State.DA (carried_out code s u).control.state ≡ true → extra_by code s w ≡ extra_by code s u
extras_by Code.Start s u w control same da = refl
extras_by Code.ChangeState s u w control same da = same
extras_by Code.Odometer s u w control same da =
    ap (λ c. extra_in (reading_of s) w c.state) control ∙ reported_extras u.control.state (reading_of s) u w refl same da
extras_by Code.NewCurve s u w control same da = same
extras_by Code.EndCurve s u w control same da = same
extras_by Code.NewSection s u w control same da = same
extras_by Code.EndSection s u w control same da = same
extras_by Code.StopPassed s u w control same da = same
extras_by Code.Proceed s u w control same da = same
extras_by Code.BaliseError s u w control same da = same
extras_by Code.TestBrakes s u w control same da = same
extras_by Code.AreaEvent s u w control same da = same
extras_by Code.NewRecord s u w control same da = same
extras_by Code.SignalPassed s u w control same da = same
extras_by Code.EndRecord s u w control same da = same

extras_after : (u w : Stm) (x : Sent) → is_accepted (answer_to u x) ≡ true → is_accepted (answer_to w x) ≡ true → w.control ≡ u.control
    → w.train.times.extra ≡ u.train.times.extra → is_in State.DA (state_after u x) ≡ true
    → (state_after w x).train.times.extra ≡ (state_after u x).train.times.extra
extras_after u w x e e' control same da =
    extra_after_by w x e'
    ∙ extras_by (code_of (code_byte x.command)) (operands_of x.command) u w control same
    (ap (λ c. is_state State.DA c.state) (sym (control_after u x e)) ∙ da)
    ∙ sym (extra_after_by u x e)

-- ---- one command at both

module _ (u w : Stm) (x : Sent) (like : LikeButTest u w) (bytes : w.last.bytes ≡ u.last.bytes)
    (other : is_of Code.TestBrakes x.command ≡ false)
    (same : (is_in State.DA u || is_in State.DA (state_after u x)) ≡ true → w.train.times.extra ≡ u.train.times.extra) where
  accepted_too : is_accepted (answer_to u x) ≡ true → is_accepted (answer_to w x) ≡ true
  accepted_too e = ap is_accepted (same_answer u w x like bytes other) ∙ e

  next_like : (accepted : Bool) → is_accepted (answer_to u x) ≡ accepted → LikeButTest (state_after u x) (state_after w x)
  next_like true e =
      rw (after_accepted u x e, after_accepted w x (accepted_too e))
      (accepted_like u w x.command like other (λ d. same (or_left (is_in State.DA u) (is_in State.DA (state_after u x)) d)))
  next_like false e = rw (after_other u x e, after_other w x (ap is_accepted (same_answer u w x like bytes other) ∙ e)) like

  area_like : is_accepted (answer_to u x) ≡ true → ReportsLike (moment_of u x).area (moment_of w x).area
  area_like e =
      rw (written_is u x e, written_is w x (accepted_too e))
      (written_like (state_after u x) (state_after w x) (next_like true e)
      (λ d. extras_after u w x e (accepted_too e) like.control (same (or_right (is_in State.DA u) (is_in State.DA (state_after u x)) d)) d))

pub test_touches_nothing : TestTouchesNothing
test_touches_nothing u w x like bytes other same =
    (same_answer u w x like bytes other, next_like u w x like bytes other same (is_accepted (answer_to u x)) refl, area_like u w x like bytes other same)

pub asking_touches_nothing : AskingTouchesNothing
unfolding accepted_of remembered
asking_touches_nothing stm x e c =
    let after = after_accepted stm x e in
    rw (after, code_is Code.TestBrakes (code_of (code_byte x.command)) c)
    (record { control = refl; train = refl; track = refl; brakes = refl; feedback = refl; kept = refl }, refl)

-- ---- any list

bytes_once : (u w : Stm) (x : Sent) (accepted : Bool) → is_accepted (answer_to u x) ≡ accepted → is_accepted (answer_to w x) ≡ accepted
    → w.last.bytes ≡ u.last.bytes → (state_after w x).last.bytes ≡ (state_after u x).last.bytes
unfolding accepted_of remembered
bytes_once u w x true e e' same = rw (after_accepted u x e, after_accepted w x e')
bytes_once u w x false e e' same = rw (after_other u x e, after_other w x e') same

zero_once : (stm : Stm) (x : Sent) (accepted : Bool) → is_accepted (answer_to stm x) ≡ accepted → is_of Code.Start x.command ≡ false
    → stm.train.times.extra ≡ 0 → (state_after stm x).train.times.extra ≡ 0
zero_once stm x true e n none = zero_after stm x e n none
zero_once stm x false e n none = rw (after_other stm x e) none

abbrev is_other : Sent → Bool
is_other x = not (is_of Code.TestBrakes x.command || is_of Code.Start x.command)

pub test_leaves_nothing : TestLeavesNothing
unfolding moments state_at_end
test_leaves_nothing u w [] like bytes none none' others = (like, tt)
test_leaves_nothing u w (x ∷ xs) like bytes none none' others =
    let t = neither (is_of Code.TestBrakes x.command) (is_of Code.Start x.command) (not-true _ (all_head is_other x xs others)) in
    let same : (is_in State.DA u || is_in State.DA (state_after u x)) ≡ true → w.train.times.extra ≡ u.train.times.extra =
    λ _. none' ∙ sym none in
    let answer = same_answer u w x like bytes t.0 in
    let accepted = is_accepted (answer_to u x) in
    let rest =
    test_leaves_nothing (state_after u x) (state_after w x) xs (next_like u w x like bytes t.0 same accepted refl)
    (bytes_once u w x accepted refl (ap is_accepted answer) bytes) (zero_once u x accepted refl t.1 none)
    (zero_once w x accepted (ap is_accepted answer) t.1 none') (all_tail is_other x xs others) in
    (rest.0, ((answer, area_like u w x like bytes t.0 same), rest.1))
