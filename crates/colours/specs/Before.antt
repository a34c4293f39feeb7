-- Bar and mode as they were written before F-4, kept for the statement that the rows give the same (Claims).
use Rattle.std.specs.Prelude.{ℕ, Bool, cond, Option, Some, None}
use Rattle.curve.specs.declared.Interval.{Interval}
use Rattle.curve.specs.declared.Shown.{Shown}
use Rattle.colours.specs.Numbers.{bar_number, mode_number}
use Rattle.colours.specs.declared.Bar.{Bar}
use Rattle.colours.specs.declared.Mode.{Mode}

-- "Bars (001, table 4.8-5): A none, Bf light grey 1, others yellow 2"
abbrev pub computed_bar : Interval → Bar
computed_bar Interval.A = Bar.Empty
computed_bar Interval.Bf = Bar.LightGrey
computed_bar Interval.B = Bar.Yellow
computed_bar Interval.C = Bar.Yellow
computed_bar Interval.D = Bar.Yellow
computed_bar Interval.E = Bar.Yellow
computed_bar Interval.F = Bar.Yellow

abbrev pub bar_of : Shown → Bar
bar_of Shown.Ab = Bar.Yellow
bar_of (Shown.Computed interval) = computed_bar interval

-- "Modes: A 0, Bf 1, Ab and B 2, B past permitted 3, C 3, D 3 or 4 if drop is insufficient, E and F 4"
abbrev pub computed_mode : Bool → Bool → Interval → Mode
computed_mode over insufficient Interval.A = Mode.Normal
computed_mode over insufficient Interval.Bf = Mode.PreIndication
computed_mode over insufficient Interval.B = cond over Mode.Warning Mode.Indication
computed_mode over insufficient Interval.C = Mode.Warning
computed_mode over insufficient Interval.D = cond insufficient Mode.Intervention Mode.Warning
computed_mode over insufficient Interval.E = Mode.Intervention
computed_mode over insufficient Interval.F = Mode.Intervention

abbrev pub mode_of : Bool → Bool → Shown → Mode
mode_of over insufficient Shown.Ab = Mode.Indication
mode_of over insufficient (Shown.Computed interval) = computed_mode over insufficient interval

-- the two bytes: "No curve: bar and mode 0"
abbrev pub bar_before : Option Shown → ℕ
bar_before None = 0
bar_before (Some shown) = bar_number (bar_of shown)

abbrev pub mode_before : Bool → Bool → Option Shown → ℕ
mode_before over insufficient None = 0
mode_before over insufficient (Some shown) = mode_number (mode_of over insufficient shown)
