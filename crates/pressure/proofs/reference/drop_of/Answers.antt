use mathlib.Core.Path.{refl}
use Rattle.pressure.specs.Reference.{drop_of}
use Rattle.pressure.proofs.reference.drop_of.Goals as goal

pub returns : goal.returns
unfolding drop_of
returns c = refl
