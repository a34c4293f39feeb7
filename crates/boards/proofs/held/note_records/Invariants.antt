use Rattle.std.proofs.Common.{◌≡◌, ◌≤◌, length, take, drop, ◌++◌}
use Rattle.places.specs.Places.{places, most_curves}
use Rattle.rules.specs.Odometer.{noted_records}
use Rattle.rules.specs.Places.{record_places}
use Rattle.boards.proofs.held.note_records.Given as goal

abbrev pub invariant-loop-i : goal.invariant-loop-i
invariant-loop-i l = (l.i ≤ record_places) × (length l.judged ≡ most_curves) × (l.et-items ≡ take l.i (noted_records l.fn.ets (drop places l.judged)) ++ drop l.i l.fn.ets)
