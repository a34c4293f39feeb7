use Rattle.rules.specs.Table.{added_causes}
use Rattle.brakes.proofs.causes.added_by.Goals as goal

pub returns : goal.returns
unfolding added_causes
returns c = λ code which told. rw (c.together.ensures, c.ordered_by.ensures code which told)
