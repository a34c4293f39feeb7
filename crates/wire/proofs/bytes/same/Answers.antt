use mathlib.Core.Path.{◌∙◌}
use Rattle.wire.proofs.Equal.{compared}
use Rattle.wire.proofs.bytes.same.Goals as goal

pub returns : goal.returns
returns c = c.eq.ensures ∙ compared c.args.a.now c.args.b.now
