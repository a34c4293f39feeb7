-- The loop's invariant: the digits that are still to come, and what stands behind them, are the same from turn to turn.
use Prim.Native.Nat.{◌+◌, ◌-◌, ◌≤◌}
use mathlib.Core.Path.{◌≡◌}
use mathlib.Core.List.{◌++◌}
use lib.ListN.{length, take, drop}
use Rattle.sheet.specs.Columns.{leading}
use Rattle.paging.proofs.lines.put_number.Given as goal

abbrev pub invariant-loop-at : goal.invariant-loop-at
invariant-loop-at l = (l.first - 1 ≤ l.at)
    × (l.at ≤ l.initial.at)
    × (l.at ≤ length l.line)
    × (take (l.first - 1) l.line ≡ take (l.first - 1) l.initial.line)
    × (leading l.base l.fill (l.at + 1 - l.first) l.rest ++ drop l.at l.line ≡ leading l.base l.fill (l.initial.at + 1 - l.first) l.initial.rest ++ drop l.initial.at l.initial.line)
