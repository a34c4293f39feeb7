use Rattle.refusals.proofs.is_next.Goals as goal

pub returns : goal.returns
returns c = rw c.be32.ensures
