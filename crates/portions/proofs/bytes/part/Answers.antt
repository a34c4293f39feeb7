use Rattle.portions.proofs.Parts.{part_of}
use Rattle.portions.proofs.bytes.part.Goals as goal

pub returns : goal.returns
returns c = rw (c.min.ensures, c.min-end.ensures) (part_of c.args.from c.args.to c.args.s.now)
