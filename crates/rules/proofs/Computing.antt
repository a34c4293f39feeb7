-- `computing` on an `unfolding` line opens every definition that a call goes through, so that a closed run computes.
use mathlib.Core.List.{zip_with}
use lib.Ieee.{of_int, add, sub, mul, div, lt, le}
use Rattle.wire.specs.Codes.{commands, length_in, length_of}
use Rattle.wire.specs.Form.{code_form, form_of}
use Rattle.wire.specs.Numbers.{number, signed}
use Rattle.wire.specs.Bytes.{same_bytes}
use Rattle.pressure.specs.Convert.{halved_of, is_low, is_high, sensor_fault, limited_of}
use Rattle.pressure.specs.Convert.{counted_of, cylinder_of, converted_of, pressure_of}
use Rattle.pressure.specs.Reference.{is_sinking, changed_reference, drop_of}
use Rattle.pressure.specs.Phases.{reference_of, is_normal, waited_of, is_far, settled_of, set_of, next_of}
use Rattle.pressure.specs.Report.{fresh_feedback, pressure_at, phase_after, reported}
use Rattle.curve.specs.Deceleration.{level_of, deceleration_of}
use Rattle.curve.specs.Lead.{leads_of}
use Rattle.curve.specs.Boundary.{target_of, is_above, left_side, right_side, line, line_for, is_reached, is_reached_f, is_reached_at_kmh}
use Rattle.interval.specs.Intervals.{interval_of, shown_of}
use Rattle.curve.specs.Ground.{largest_failing}
use Rattle.interval.specs.Permitted.{permitted_of}
use Rattle.interval.specs.Judging.{is_fast, brakes_at, judged_of}
use Rattle.places.specs.Places.{least_permitted, any_brakes}
use Rattle.colours.specs.Rows.{rows, holds_for, passing, rows_for, row_of}
use Rattle.areas.proofs.Computing.{areas_compute}
use Rattle.records.proofs.Computing.{records_compute}
use Rattle.rules.specs.Numbers.{code_of, state_of}
use Rattle.rules.specs.Operands.{train_of, train_in_range, start_in_range, reading_of, odometer_in_range}
use Rattle.rules.specs.Operands.{curve_of, curve_in_range, new_curve_in_range, section_of, section_in_range, event_in_range}
use Rattle.rules.specs.Operands.{record_of, new_record_in_range, signal_in_range}
use Rattle.rules.specs.Places.{any_of, all_of, empty_track, fresh_track, cleared_track, passed_track, given_curve, ended_curve}
use Rattle.rules.specs.Places.{given_section, ended_section, moved_section, given_record, ended_record, signalled_records, all_curves, moved_track}
use Rattle.rules.specs.Speeds.{braking_of, judged_by, judged_now, vmax_of, permitted_speed}
use Rattle.rules.specs.Table.{no_causes, curve_orders, stands_with, any_stands, order_of, is_slow}
use Rattle.rules.specs.Table.{others_releasable, is_releasable, added_causes, is_dropped, left_causes}
use Rattle.rules.specs.Checks.{is_drop, checked_at, fails_at, checked_by, check_left}
use Rattle.rules.specs.Releases.{fresh_brakes, is_halt, is_braked, since_at, roll_at, noted_brakes, service_fails, emergency_fails}
use Rattle.rules.specs.Releases.{causes_at, added_brakes, roll_left, left_brakes, released_brakes, since_by, brakes_by}
use Rattle.rules.specs.BrakeTest.{fresh_test, phase_on, has_dropped, braked_on, tested_at}
use Rattle.rules.specs.Odometer.{is_insufficient, seen_with, seen_of, seen_in, moves, measures}
use Rattle.rules.specs.Odometer.{noted_track, notes, adds, releases, supervised}
use Rattle.rules.specs.Shows.{goes_before, chosen_of, chosen_from, candidates, chosen, shown_as, showing_of}
use Rattle.rules.specs.Reports.{causes_number, messages_of, offered_of, is_over, shown_fields, change_of}
use Rattle.rules.specs.Reports.{report_with, report_in_da, report_outside, report_of}
use Rattle.rules.specs.Commands.{fresh_kept, fresh_last, no_train, fresh_with}
use Rattle.rules.specs.Commands.{fresh_stm, stopped, padded, remembered, accepted_of}
use Rattle.rules.specs.Refusals.{is_repeat, is_next, ends_nothing, finds_no_place, tests_outside, tests_twice, is_untaken, finds_no_record_place, repeats_nothing, rules_for, answer_of}
use Rattle.rules.specs.Calls.{call_of, area_of}
use Rattle.rules.specs.Runs.{moments, state_at_end}

-- the feedback
unfoldable pub feedback_computes : Unit {0}
unfolding of_int add sub mul div lt le
    halved_of is_low is_high sensor_fault limited_of counted_of cylinder_of converted_of pressure_of
    is_sinking changed_reference drop_of
    reference_of is_normal waited_of is_far settled_of set_of next_of
    fresh_feedback pressure_at phase_after reported
feedback_computes = tt

-- the curves
unfoldable pub curves_compute : Unit {0}
unfolding level_of deceleration_of
    leads_of
    target_of is_above left_side right_side line line_for is_reached is_reached_f is_reached_at_kmh
    interval_of shown_of
    largest_failing permitted_of
    is_fast brakes_at judged_of
    least_permitted any_brakes
curves_compute = tt

-- a call, and a run of calls
unfoldable pub computing : Unit {0}
unfolding feedback_computes curves_compute areas_compute records_compute zip_with
    commands length_in length_of
    code_form form_of
    number signed
    same_bytes
    code_of state_of
    train_of train_in_range start_in_range reading_of odometer_in_range curve_of curve_in_range new_curve_in_range section_of section_in_range event_in_range
    record_of new_record_in_range signal_in_range
    any_of all_of empty_track fresh_track cleared_track passed_track given_curve ended_curve given_section ended_section moved_section moved_track
    given_record ended_record signalled_records all_curves
    braking_of judged_by judged_now vmax_of permitted_speed
    no_causes curve_orders stands_with any_stands order_of is_slow others_releasable is_releasable added_causes is_dropped left_causes
    is_drop checked_at fails_at checked_by check_left
    fresh_brakes is_halt is_braked since_at roll_at noted_brakes service_fails emergency_fails
    causes_at added_brakes roll_left left_brakes released_brakes since_by brakes_by
    fresh_test phase_on has_dropped braked_on tested_at
    is_insufficient seen_with seen_of seen_in moves measures noted_track notes adds releases supervised
    goes_before chosen_of chosen_from candidates chosen shown_as showing_of rows holds_for passing rows_for row_of
    causes_number messages_of offered_of is_over shown_fields change_of report_with report_in_da report_outside report_of
    fresh_kept fresh_last no_train fresh_with fresh_stm stopped padded remembered accepted_of
    is_repeat is_next ends_nothing finds_no_place tests_outside tests_twice is_untaken finds_no_record_place repeats_nothing rules_for answer_of
    call_of area_of
    moments state_at_end
computing = tt
