-- The new condition of an undecided record, row by row: table 4.6-2 of 001, "Classification of indefinite OT-ET".
use Rattle.std.specs.Prelude.{Bool, true, false}
use Rattle.records.specs.declared.Signal.{Signal}
use Rattle.records.specs.declared.Condition.{Condition}

-- rows a to d: by the controlling signal that is passed, main for ETxH and distant for ETxF, and whether it is for route = x
abbrev pub classed_by : Signal → Bool → Condition
-- a) ETxH, "Hsi for route ≠ x"
classed_by Signal.Main false = Condition.Terminated
-- b) ETxH, "Hsi for route = x"
classed_by Signal.Main true = Condition.DefinitelyActive
-- c) ETxF, "Fsi for route ≠ x"
classed_by Signal.Distant false = Condition.PreliminaryPassive
-- d) ETxF, "Fsi for route = x"
classed_by Signal.Distant true = Condition.PreliminaryActive

-- e) "Any ET", "None" within 100 m
abbrev pub classed_by_none : Condition
classed_by_none = Condition.Locked
