use Rattle.holding.proofs.Loops.{Passed}
use Rattle.holding.proofs.put.Given as goal

abbrev pub invariant-loop-place : goal.invariant-loop-place
invariant-loop-place g l = Passed g.T.Place.held l.new l.fn.places l.places l.place-index
