use Rattle.rules.specs.Table.{is_dropped, is_releasable}
use Rattle.brakes.proofs.causes.dropped.Goals as goal

pub returns : goal.returns
unfolding is_dropped is_releasable
returns c = rw (c.common.ensures, c.pressed.ensures, c.releasable-free.ensures, c.others_releasable.ensures)
