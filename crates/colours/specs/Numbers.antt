-- 01's numbers of what is shown, of bars and of modes (01, "Report").
use Rattle.std.specs.Prelude.{ℕ, Option, Some, None}
use Rattle.interval.specs.Intervals.{shown_number}
use Rattle.colours.specs.declared.Bar.{Bar}
use Rattle.colours.specs.declared.Mode.{Mode}
use Rattle.curve.specs.declared.Shown.{Shown}

-- "interval (0 none, 1 A, 2 Ab, 3 Bf, 4 B, 5 C, 6 D, 7 E, 8 F)"
abbrev pub showing_number : Option Shown → ℕ
showing_number None = 0
showing_number (Some shown) = shown_number shown

-- "Bars (001, table 4.8-5): A none, Bf light grey 1, others yellow 2"
abbrev pub bar_number : Bar → ℕ
bar_number Bar.Empty = 0
bar_number Bar.LightGrey = 1
bar_number Bar.Yellow = 2

-- "Modes", with the names of 001, table 4.8-5
abbrev pub mode_number : Mode → ℕ
mode_number Mode.Normal = 0
mode_number Mode.PreIndication = 1
mode_number Mode.Indication = 2
mode_number Mode.Warning = 3
mode_number Mode.Intervention = 4
