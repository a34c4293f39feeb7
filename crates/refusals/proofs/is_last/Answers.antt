use Rattle.refusals.proofs.is_last.Goals as goal

pub returns : goal.returns
returns c = rw (c.same.ensures, c.padded.ensures)
