use Prim.Native.Nat.{◌≤◌}
use mathlib.Core.Path.{◌≡◌}
use mathlib.Core.List.{◌++◌}
use lib.ListN.{length, take, drop}
use Rattle.places.specs.Places.{most_curves, judged_all}
use Rattle.places.proofs.judge_all.Given as goal

abbrev pub invariant-loop-i : goal.invariant-loop-i
invariant-loop-i l = (l.i ≤ most_curves) × (length l.curve-items ≡ most_curves) × (length l.initial.judged ≡ most_curves) × (l.judged ≡ take l.i (judged_all l.braking l.v l.curve-items) ++ drop l.i l.initial.judged)
