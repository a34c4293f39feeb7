use mathlib.Core.Bool.{or-false, or_assoc}
use Rattle.rules.specs.Places.{any_of}
use Rattle.rules.specs.Table.{any_stands}
use Rattle.brakes.proofs.causes.any_stands.Goals as goal

pub returns : goal.returns
unfolding any_stands any_of
returns c = simp (or_assoc, or-false)
