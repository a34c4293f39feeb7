use Prim.Native.Nat.{◌+◌}
use native.Mathlib.Omega.{arith}
use borrow.Author.Tests.{lt-ltb, le-ltb}
use Rattle.pressure.specs.Phases.{set_of}
use Rattle.pressure.specs.Reference.{changed_of}
use Rattle.pressure.proofs.phases.set.Goals as goal

pub returns-then-reports-lt9 : goal.returns-then-reports-lt9
unfolding set_of
returns-then-reports-lt9 c = simp (lt-ltb (c.args.reports + 1) 10 (omega arith))

pub returns : goal.returns
unfolding set_of changed_of
returns c = rw (c.changed-reference.ensures, le-ltb (c.args.reports + 1) 10 (omega arith))
