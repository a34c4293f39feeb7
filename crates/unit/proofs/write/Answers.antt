use native.Mathlib.Omega.{arith}
use Rattle.unit.proofs.Area.{written}
use Rattle.unit.proofs.write.Goals as goal

pub returns : goal.returns
returns c = written _ _ (omega arith) c.copy_whole.ensures
