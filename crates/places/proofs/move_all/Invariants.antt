use Prim.Native.Nat.{◌≤◌}
use mathlib.Core.Path.{◌≡◌}
use mathlib.Core.List.{◌++◌}
use lib.ListN.{take, drop}
use Rattle.places.specs.Places.{places, moved_all}
use Rattle.places.proofs.move_all.Given as goal

abbrev pub invariant-loop-curve : goal.invariant-loop-curve
invariant-loop-curve l = (l.curve-index ≤ places) × (l.curve-items ≡ take l.curve-index (moved_all l.moved l.fn.curves) ++ drop l.curve-index l.fn.curves)
