use Prim.Native.Nat.{◌+◌}
use native.Mathlib.Omega.{arith}
use borrow.Author.Tests.{lt-ltb, le-ltb}
use Rattle.pressure.specs.Phases.{settled_of}
use Rattle.pressure.proofs.phases.settled.Goals as goal

pub returns-then-reports-lt29 : goal.returns-then-reports-lt29
unfolding settled_of
returns-then-reports-lt29 c = simp (lt-ltb (c.args.reports + 1) 30 (omega arith))

pub returns-else-reports-lt29 : goal.returns-else-reports-lt29
unfolding settled_of
returns-else-reports-lt29 c = simp (le-ltb (c.args.reports + 1) 30 (omega arith))
