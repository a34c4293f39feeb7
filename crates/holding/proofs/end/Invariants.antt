use Rattle.holding.specs.Holding.{ended_at}
use Rattle.holding.proofs.Loops.{Changed}
use Rattle.holding.proofs.end.Given as goal

abbrev pub invariant-loop-place : goal.invariant-loop-place
invariant-loop-place g l = let p = g.T.Place in Changed (ended_at p.held p.id p.ended l.id) l.fn.places l.places l.place-index
