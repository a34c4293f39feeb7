-- The two brake checks (01, "Causes and release").
use Rattle.std.specs.Prelude.{ℕ, ◌+◌, Bool, false, cond, not, ◌&&◌, ◌||◌, leb}
use Rattle.std.specs.Float.Ieee.{le}
use Rattle.pressure.specs.declared.Measured.{Measured}
use Rattle.pressure.specs.Convert.{kpa}
use Rattle.pressure.specs.Reference.{drop_of}
use Rattle.rules.specs.declared.Check.{Check}

-- "a drop of 60 kPa or more"
unfoldable pub is_drop : Measured → Bool
is_drop feedback = le (kpa 60) (drop_of feedback.pressures)

-- "Each check counts from 0 when its order begins"
abbrev pub begins : Check
begins = Check.Counting 0

-- "and one more at each later report in DA. It judges once, when the count gets to its limit ..; such a drop at any later report up
-- to then satisfies it"
abbrev pub counted_on : ℕ → Bool → Check → Check
counted_on limit dropped Check.Idle = Check.Idle
counted_on limit dropped (Check.Counting count) =
    cond (dropped || leb limit (count + 1)) Check.Done (Check.Counting (count + 1))
counted_on limit dropped Check.Done = Check.Done

-- the count gets to its limit at this report, and no drop has come
abbrev pub fails_now : ℕ → Bool → Check → Bool
fails_now limit dropped Check.Idle = false
fails_now limit dropped (Check.Counting count) = not dropped && leb limit (count + 1)
fails_now limit dropped Check.Done = false

-- at an odometer report in DA: `before` whether its order stood before the report, `after` whether it stands with the added causes
unfoldable pub checked_at : Bool → Bool → ℕ → Bool → Check → Check
checked_at before after limit dropped check =
    cond before (counted_on limit dropped check) (cond after begins Check.Idle)

unfoldable pub fails_at : Bool → ℕ → Bool → Check → Bool
fails_at before limit dropped check = before && fails_now limit dropped check

-- at a command that adds causes
unfoldable pub checked_by : Bool → Bool → Check → Check
checked_by before after check = cond before check (cond after begins Check.Idle)

-- after the releases: the check of an order that has ended is over
unfoldable pub check_left : Bool → Check → Check
check_left stands check = cond stands check Check.Idle
