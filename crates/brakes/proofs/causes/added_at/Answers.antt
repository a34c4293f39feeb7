use Rattle.rules.specs.Table.{no_causes, added_causes}
use Rattle.brakes.proofs.causes.added_at.Goals as goal

pub returns : goal.returns
unfolding no_causes added_causes
returns c = rw (c.together.ensures, c.no_causes.ensures, c.reaches.ensures, c.reaches-2.ensures, c.curve_orders-curves.ensures)
