use Rattle.std.proofs.Common.{◌∙◌}
use Rattle.portions.proofs.Parts.{brought}
use Rattle.portions.proofs.bytes.to_front.Goals as goal

pub returns-clause-brought : goal.returns-clause-brought
returns-clause-brought c =
    c.copy_within.ensures.after ∙ rw (c.min-start.ensures, c.min-end.ensures) (brought c.args.from c.args.to c.args.s.now)
