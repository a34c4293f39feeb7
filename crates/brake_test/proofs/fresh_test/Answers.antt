use mathlib.Core.Path.{refl}
use Rattle.rules.specs.BrakeTest.{fresh_test}
use Rattle.brake_test.proofs.fresh_test.Goals as goal

pub returns : goal.returns
unfolding fresh_test
returns c = refl
