-- The report (01, "Report"; 02, F-1, F-3, F-4, F-6 and F-7).
use Rattle.std.specs.Prelude.{ℕ, ◌+◌, ◌^◌, Bool, true, false, cond, not, ◌&&◌}
use mathlib.Core.List.{List, [], ◌∷◌, ◌++◌, map, foldr}
use Rattle.wire.specs.Numbers.{high_byte, low_byte, high_pair, low_pair}
use Rattle.pressure.specs.declared.Measured.{Measured}
use Rattle.curve.specs.declared.Judged.{Judged}
use Rattle.curve.specs.Boundary.{is_reached}
use Rattle.curve.specs.Ground.{never}
use Rattle.interval.specs.Changes.{to_change}
use Rattle.colours.specs.Numbers.{showing_number, bar_number, mode_number}
use Rattle.colours.specs.Rows.{row_of}
use Rattle.areas.specs.Numbers.{area_number}
use Rattle.rules.specs.Numbers.{state_number, order_number, bit_number}
use Rattle.rules.specs.Places.{any_of, all_curves}
use Rattle.rules.specs.Speeds.{braking_of, judged_by, judged_now, vmax_of, permitted_speed}
use Rattle.rules.specs.Table.{causes, stands, order_of, is_dropped}
use Rattle.rules.specs.BrakeTest.{is_running, is_test_braking, has_passed, has_failed}
use Rattle.rules.specs.Shows.{chosen, showing_of}
use Rattle.rules.specs.Odometer.{is_insufficient, seen_in}
use Rattle.rules.specs.declared.State.{State}
use Rattle.rules.specs.declared.Train.{Train}
use Rattle.rules.specs.declared.Causes.{Causes}
use Rattle.rules.specs.declared.Brakes.{Brakes}
use Rattle.rules.specs.declared.Order.{Order}
use Rattle.rules.specs.declared.Stage.{Stage}
use Rattle.rules.specs.declared.BrakeTest.{BrakeTest}
use Rattle.rules.specs.declared.Kept.{Kept}
use Rattle.rules.specs.declared.Seen.{Seen}
use Rattle.rules.specs.declared.Candidate.{Candidate}
use Rattle.rules.specs.declared.Stm.{Stm}

-- a bit of a byte or of two
abbrev pub bit_value : Bool → ℕ → ℕ
bit_value set bit = cond set (2 ^ bit) 0

-- "causes 2"
unfoldable pub causes_number : Causes → ℕ
causes_number c = foldr ◌+◌ 0 (map (λ cause. bit_value (stands c cause) (bit_number cause)) causes)

-- "messages (bit 0 DRIFTBROMSFEL, 1 NÖDBROMSFEL, 2 TRYCKGIVARFEL at the last odometer report)"; 02, F-3: "The messages gain bit 3
-- running, bit 4 last test passed, bit 5 last test failed"; 02, F-7: "messages bit 6 marks a shown ET record"
unfoldable pub messages_of : Brakes → Measured → BrakeTest → Bool → ℕ
messages_of b feedback test et =
    bit_value b.drift 0
    + bit_value b.failed 1
    + bit_value feedback.fault 2
    + bit_value (is_running test.stage) 3
    + bit_value (has_passed test.result) 4
    + bit_value (has_failed test.result) 5
    + bit_value et 6

-- "release offered (1 if a fresh LOSS would drop a cause, plus 2 if a fresh text would)"
abbrev pub would_drop : Seen → Bool → Bool → Causes → Bool
would_drop s loss text c = any_of (λ cause. stands c cause && is_dropped s loss text c cause) causes

unfoldable pub offered_of : Seen → Causes → ℕ
offered_of s c = bit_value (would_drop s true false c) 0 + bit_value (would_drop s false true c) 1

-- "B past permitted": the shown curve's permitted boundary is reached
unfoldable pub is_over : Train → Kept → Candidate → Bool
is_over train kept shown =
    is_reached shown.curve (braking_of train kept.halka).level kept.speed (braking_of train kept.halka).leads.permitted

-- the fields of what is shown: "shown id (255 none); interval (0 none ..); bar; mode"; 02, F-4: bar and mode of the row that holds
unfoldable pub shown_fields : Bool → Bool → Candidate → List ℕ
shown_fields over insufficient shown =
    let row = row_of over (not insufficient) (showing_of shown) in
    cond shown.judged.held shown.curve.id 255
    ∷ showing_number (showing_of shown)
    ∷ bar_number row.bar
    ∷ mode_number row.mode
    ∷ []

-- 02, F-1: "The report gains four bytes at its end with this for the shown curve, FFFFFFFF where none is shown"
unfoldable pub change_of : Train → Kept → Candidate → ℕ
change_of train kept shown =
    cond shown.judged.held (to_change shown.curve (braking_of train kept.halka) kept.speed) never

-- "causes 2; permitted speed 2; VMAX 2", "High byte first"
abbrev pub two : ℕ → List ℕ → List ℕ
two x rest = high_byte x ∷ low_byte x ∷ rest

-- "four bytes"
abbrev pub four : ℕ → List ℕ → List ℕ
four x rest = two (high_pair x) (two (low_pair x) rest)

-- the report's fields in their order; 02, F-6: "a last byte with the area in every state"
abbrev pub fields : ℕ → ℕ → ℕ → ℕ → ℕ → List ℕ → ℕ → ℕ → ℕ → ℕ → List ℕ
fields state order cause permitted vmax shown messages offered change area =
    state ∷ order ∷ two cause (two permitted (two vmax (shown ++ (messages ∷ offered ∷ four change (area ∷ [])))))

-- in DA, by what the curves say and VMAX
unfoldable pub report_with : List Judged → ℕ → Candidate → Seen → Stm → List ℕ
report_with judged vmax shown seen stm =
    fields (state_number State.DA) (order_number (order_of stm.train.softly stm.brakes.causes))
    (causes_number stm.brakes.causes) (permitted_speed vmax judged) vmax
    (shown_fields (is_over stm.train stm.kept shown) (is_insufficient stm.train stm.feedback) shown)
    (messages_of stm.brakes stm.feedback stm.test shown.et)
    (offered_of seen stm.brakes.causes)
    (change_of stm.train stm.kept shown)
    (area_number stm.track.stay.area)

unfoldable pub report_in_da : Stm → List ℕ
report_in_da stm =
    report_with (judged_now stm.train stm.kept (all_curves stm.track)) (vmax_of stm.train stm.track)
    (chosen (judged_by stm.train stm.kept) stm.track) (seen_in stm) stm

-- "Outside DA order is 0 (FA: 3), id 255, messages as standing, the rest 0"; 02, F-1: FFFFFFFF "outside DA too"
unfoldable pub report_outside : State → ℕ → Stm → List ℕ
report_outside state order stm =
    fields (state_number state) order 0 0 0 (255 ∷ 0 ∷ 0 ∷ 0 ∷ []) (messages_of stm.brakes stm.feedback stm.test false) 0 never
    (area_number stm.track.stay.area)

-- 02, F-3: "the report shows order 2 in DE while the test brakes"
abbrev pub test_order : Stage → ℕ
test_order stage = order_number (cond (is_test_braking stage) Order.Full Order.Nothing)

abbrev pub report_for : State → Stm → List ℕ
report_for State.DE stm = report_outside State.DE (test_order stm.test.stage) stm
report_for State.CS stm = report_outside State.CS 0 stm
report_for State.HS stm = report_outside State.HS 0 stm
report_for State.DA stm = report_in_da stm
report_for State.FA stm = report_outside State.FA 3 stm

unfoldable pub report_of : Stm → List ℕ
report_of stm = report_for stm.control.state stm
