use Prim.Native.Nat.{◌≤◌}
use mathlib.Core.Path.{◌≡◌}
use mathlib.Core.List.{◌++◌}
use lib.ListN.{length, take, drop}
use Rattle.places.specs.Places.{places, most_curves, noted_all}
use Rattle.places.proofs.note_all.Given as goal

abbrev pub invariant-loop-i : goal.invariant-loop-i
invariant-loop-i l = (l.i ≤ places) × (length l.judged ≡ most_curves) × (l.curve-items ≡ take l.i (noted_all l.fn.curves l.judged) ++ drop l.i l.fn.curves)
