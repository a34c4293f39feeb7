use mathlib.Core.Path.{refl}
use Rattle.rules.specs.Table.{curve_orders}
use Rattle.brakes.proofs.causes.curve_orders.Goals as goal

pub returns : goal.returns
unfolding curve_orders
returns c = refl
