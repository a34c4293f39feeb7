use mathlib.Core.Path.{refl}
use Rattle.colours.specs.Rows.{rows}
use Rattle.colours.proofs.rows.table.Goals as goal

pub returns : goal.returns
unfolding rows
returns c = refl
