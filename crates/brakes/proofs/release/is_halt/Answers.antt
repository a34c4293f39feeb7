use mathlib.Core.Path.{refl}
use Rattle.rules.specs.Releases.{is_halt}
use Rattle.brakes.proofs.release.is_halt.Goals as goal

pub returns : goal.returns
unfolding is_halt
returns c = refl
