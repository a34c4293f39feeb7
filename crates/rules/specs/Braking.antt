-- Members' point 2: "A brake is ordered where the rules order it and nowhere else, and released likewise." Proved in proofs/.
use Rattle.std.specs.Prelude.{◌≡◌, ℕ, ◌≤◌, Bool, true, false, cond, not, ◌&&◌, ◌||◌, List, eqb}
use Rattle.wire.specs.Numbers.{byte_at}
use Rattle.wire.specs.Form.{operands_of}
use Rattle.rules.specs.Numbers.{code_of, bit_number, is_state, is_accepted}
use Rattle.rules.specs.Operands.{code_byte, reading_of}
use Rattle.rules.specs.Table.{stands, ordered_at, ordered_by, is_releasable, added_causes}
use Rattle.rules.specs.Checks.{is_drop}
use Rattle.rules.specs.Releases.{service_fails}
use Rattle.rules.specs.Odometer.{seen_in, moves, measures, notes}
use Rattle.rules.specs.Runs.{Sent, answer_to, state_after, state_at_end, none_accepted, is_of, freshens}
use Rattle.rules.specs.History.{is_supervised}
use Rattle.rules.specs.declared.Code.{Code}
use Rattle.rules.specs.declared.State.{State}
use Rattle.rules.specs.declared.Cause.{Cause}
use Rattle.rules.specs.declared.Stm.{Stm}
use Rattle.rules.specs.declared.Reading.{Reading}
use Rattle.rules.specs.declared.Seen.{Seen}

-- the operands of an odometer report
abbrev pub reading_in : List ℕ → Reading
reading_in command = reading_of (operands_of command)

-- ---- the columns of the table, at such a report

-- the unit once the report has moved and measured, and what the table looks at there
unfoldable pub measured_at : Stm → List ℕ → Stm
measured_at stm command = notes (reading_in command) (measures (reading_in command) (moves (reading_in command) stm))

unfoldable pub seen_at : Stm → List ℕ → Seen
seen_at stm command = seen_in (measured_at stm command)

-- "Ordered when"
unfoldable pub ordered_now : Stm → List ℕ → Cause → Bool
ordered_now stm command cause =
    ordered_at (seen_at stm command) (service_fails stm.train (is_drop (measured_at stm command).feedback) stm.brakes) cause

-- "Releasable when", with the causes that stood or are ordered
unfoldable pub releasable_now : Stm → List ℕ → Cause → Bool
releasable_now stm command cause =
    is_releasable (seen_at stm command) (added_causes (ordered_now stm command) stm.brakes.causes) cause

-- "A fresh press": the button of a cause, text for bit 10 and LOSS for every other, is pressed now and was not at the last report
abbrev pub freshly_pressed : Stm → Reading → Cause → Bool
freshly_pressed stm r cause =
    cond (eqb (bit_number cause) 10) (r.text && not stm.kept.text) (r.loss && not stm.kept.loss)

-- ---- one command

-- after an accepted report in DA that leaves the unit in DA a cause stands exactly if it stood or is ordered now, and is not both
-- freshly pressed and releasable now
abbrev pub OrderedAndReleased : Type 0
OrderedAndReleased =
    (stm : Stm) (x : Sent) (cause : Cause)
    → is_accepted (answer_to stm x) ≡ true → is_supervised stm x.command ≡ true
    → is_state State.DA (state_after stm x).control.state ≡ true
    → stands (state_after stm x).brakes.causes cause
    ≡ ((stands stm.brakes.causes cause || ordered_now stm x.command cause)
    && not (freshly_pressed stm (reading_in x.command) cause && releasable_now stm x.command cause))

-- after one that leads to FA nothing is released
abbrev pub OrderedInFailure : Type 0
OrderedInFailure =
    (stm : Stm) (x : Sent) (cause : Cause)
    → is_accepted (answer_to stm x) ≡ true → is_supervised stm x.command ≡ true
    → is_state State.DA (state_after stm x).control.state ≡ false
    → stands (state_after stm x).brakes.causes cause ≡ (stands stm.brakes.causes cause || ordered_now stm x.command cause)

-- every other command adds what it orders and drops none, but for a start and entering CS,
abbrev pub OthersDropNothing : Type 0
OthersDropNothing =
    (stm : Stm) (x : Sent) (cause : Cause)
    → is_accepted (answer_to stm x) ≡ true → is_supervised stm x.command ≡ false → freshens x.command ≡ false
    → stands (state_after stm x).brakes.causes cause
    ≡ (stands stm.brakes.causes cause || ordered_by (code_of (code_byte x.command)) (byte_at (operands_of x.command) 0) cause)

-- which are bits 5 to 9 only,
abbrev pub OthersOrderFiveToNine : Type 0
OthersOrderFiveToNine =
    (code : Code) (which : ℕ) (cause : Cause) → ordered_by code which cause ≡ true → (5 ≤ bit_number cause) × (bit_number cause ≤ 9)

-- and after these two none stands
abbrev pub FreshHasNoCause : Type 0
FreshHasNoCause =
    (stm : Stm) (x : Sent) (cause : Cause)
    → is_accepted (answer_to stm x) ≡ true → freshens x.command ≡ true
    → stands (state_after stm x).brakes.causes cause ≡ false

-- ---- any list of commands

-- no cause is dropped without a fresh press of its button
abbrev pub presses_for : Cause → Stm → List ℕ → Bool
presses_for cause stm command = is_of Code.Odometer command && freshly_pressed stm (reading_in command) cause

abbrev pub NoneDroppedWithoutPress : Type 0
NoneDroppedWithoutPress =
    (cause : Cause) (stm : Stm) (xs : List Sent)
    → stands stm.brakes.causes cause ≡ true
    → none_accepted (λ before command. freshens command) stm xs ≡ true
    → none_accepted (presses_for cause) stm xs ≡ true
    → stands (state_at_end stm xs).brakes.causes cause ≡ true
