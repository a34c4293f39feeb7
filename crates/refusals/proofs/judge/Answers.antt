use Prim.Native.Nat.{ℕ, ◌+◌}
use mathlib.Core.Path.{◌≡◌, ap, ◌∙◌}
use mathlib.Core.Bool.{Bool, not, ◌&&◌, ◌||◌}
use mathlib.Core.List.{List, [], ◌∷◌}
use lib.Dec.{eqb}
use Rattle.wire.specs.Codes.{longest}
use Rattle.wire.specs.Numbers.{byte_at}
use Rattle.wire.specs.Bytes.{same_bytes}
use Rattle.pressure.specs.Phases.{is_set}
use Rattle.areas.specs.Rows.{is_taken}
use Rattle.rules.specs.Numbers.{code_of, is_code, is_state}
use Rattle.rules.specs.Operands.{code_byte, number_of, event_in, in_range}
use Rattle.rules.specs.Places.{holds_curve, all_curves_held, holds_section, stands_section, all_sections_held, holds_record, all_records_held, keeps_record}
use Rattle.rules.specs.BrakeTest.{is_running}
use Rattle.rules.specs.Commands.{padded}
use Rattle.rules.specs.Refusals.{is_repeat, is_next, is_allowed, orders_da, ends_nothing, finds_no_place, tests_outside, tests_twice, is_untaken, finds_no_record_place, repeats_nothing, rule, first_of, rules_for}
use Rattle.rules.specs.declared.Answer.{Answer}
use Rattle.rules.specs.declared.Code.{Code}
use Rattle.rules.specs.declared.State.{State}
use Rattle.rules.specs.declared.Stm.{Stm}
use Rattle.rules.proofs.Equality.{same_code, same_state}
use Rattle.refusals.proofs.judge.Goals as goal

-- the first rule that applies, by the values of the tests
judged : (stm : Stm) (command s : List ℕ) {byte : ℕ} {code : Code} {id number : ℕ}
    {start tests last next failed range allowed da set absent full outside running untaken filled kept : Bool} {answer : Answer}
    → byte ≡ byte_at command 0
    → code ≡ code_of byte
    → id ≡ byte_at s 0
    → number ≡ number_of command
    → start ≡ is_code Code.Start code
    → tests ≡ is_code Code.TestBrakes code
    → last ≡ same_bytes stm.last.bytes (padded longest command)
    → next ≡ eqb number (number_of stm.last.bytes + 1)
    → failed ≡ is_state State.FA stm.control.state
    → range ≡ in_range code s
    → allowed ≡ is_allowed stm.control.state code s
    → da ≡ orders_da code s
    → set ≡ is_set stm.feedback.phase
    → absent ≡ (is_code Code.EndCurve code && not (holds_curve id stm.track.curves)
    || is_code Code.EndSection code && not (stands_section id stm.track.sections)
    || is_code Code.EndRecord code && not (holds_record id stm.track.records))
    → full ≡ (is_code Code.NewCurve code && not (holds_curve id stm.track.curves) && all_curves_held stm.track.curves
    || is_code Code.NewSection code && not (holds_section id stm.track.sections) && all_sections_held stm.track.sections)
    → outside ≡ not (is_state State.DE stm.control.state)
    → running ≡ is_running stm.test.stage
    → untaken ≡ (is_code Code.AreaEvent code && not (is_taken stm.track.stay.area (event_in s)))
    → filled ≡ (is_code Code.NewRecord code && not (holds_record id stm.track.records) && all_records_held stm.track.records)
    → kept ≡ (is_code Code.NewRecord code && keeps_record id stm.track.records)
    → answer ≡ first_of
    (rule (not stm.control.started && not start) Answer.NotStarted
    ∷ rule (eqb number 0) Answer.ZeroNumber
    ∷ rule (not start && not (stm.control.started && last) && not next) Answer.WrongNumber
    ∷ rule (failed && not start && not (stm.control.started && last)) Answer.Failed
    ∷ rule (stm.control.started && last) Answer.Again
    ∷ rule (not range) Answer.OutOfRange
    ∷ rule (not allowed) Answer.NotAllowed
    ∷ rule (da && not set) Answer.NoReference
    ∷ rule absent Answer.NotHeld
    ∷ rule full Answer.AllHeld
    ∷ rule (tests && outside) Answer.OutsideDE
    ∷ rule (tests && running) Answer.TestRunning
    ∷ rule untaken Answer.NotTaken
    ∷ rule filled Answer.NoRecordPlace
    ∷ rule kept Answer.NotSuperseded
    ∷ [])
    → answer ≡ first_of (rules_for stm command (code_of (code_byte command)) s)
unfolding is_repeat is_next ends_nothing finds_no_place tests_outside tests_twice is_untaken finds_no_record_place repeats_nothing rules_for
judged stm command s e1 e2 e3 e4 e5 e6 e7 e8 e9 e10 e11 e12 e13 e14 e15 e16 e17 e18 e19 e20 e21 =
    rw (e21, e20, e19, e18, e17, e16, e15, e14, e13, e12, e11, e10, e9, e8, e7, e6, e5, e4, e3, e2, e1)

pub returns : goal.returns
returns c =
    judged c.args.stm
    c.args.command.now
    c.args.s.now
    c.byte_at.ensures
    c.code_of-code.ensures
    c.byte_at-id.ensures
    c.be32-number.ensures
    (c.eq-start.ensures ∙ same_code c.code_of-code.result Code.Start)
    (c.eq-tests.ensures ∙ same_code c.code_of-code.result Code.TestBrakes)
    c.is_last.ensures
    c.is_next.ensures
    (c.eq.ensures ∙ same_state c.args.stm.control.state State.FA)
    c.in_range.ensures
    c.is_allowed.ensures
    c.orders_da.ensures
    c.has_reference.ensures
    c.ends_nothing.ensures
    c.finds_no_place.ensures
    (c.ne.ensures ∙ ap not (same_state c.args.stm.control.state State.DE))
    c.is_running.ensures
    c.is_untaken.ensures
    c.finds_no_record_place.ensures
    c.repeats_nothing.ensures
    c.first_of.ensures
