use Prim.Native.Nat.{◌≤◌}
use mathlib.Core.Path.{◌≡◌}
use mathlib.Core.List.{◌++◌, map}
use lib.ListN.{take, drop}
use Rattle.records.specs.Lives.{moved_record}
use Rattle.boards.proofs.held.move_records.Given as goal

abbrev pub invariant-loop-et : goal.invariant-loop-et
invariant-loop-et l = (l.et-index ≤ 8) × (l.et-items ≡ take l.et-index (map (moved_record l.moved) l.fn.ets) ++ drop l.et-index l.fn.ets)
